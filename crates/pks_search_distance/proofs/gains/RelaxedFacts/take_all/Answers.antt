use Rattle.std.proofs.Common.{◌∙◌, not, List, map, take, refl, sym, ap, subst}
use Rattle.std.proofs.lemmas.Bool.{or_parts}
use Rattle.std.proofs.lemmas.List.{take_all}
use Rattle.pks_terms.specs.Sets.{Each}
use Rattle.pks_terms.proofs.ListLaws.{each_weaker}
use Rattle.pks_world.specs.Contents.{world_of}
use Rattle.pks_search_distance.proofs.Stepping.{grows_itself, grows_on}
use Rattle.pks_search_distance.specs.declared.news.New.{New}
use Rattle.pks_search_distance.specs.Relaxed.{IsNewIn}
use Rattle.pks_search_distance.specs.Gained.{chances_of, has_new, some_new, new_of}
use Rattle.pks_search_distance.proofs.Lists.{each_more, found_more}
use Rattle.pks_search_distance.proofs.Growing.{new_grows}
use Rattle.pks_search_distance.proofs.gains.RelaxedFacts.take_all.Goals as goal

pub loop-x-init : goal.loop-x-init
loop-x-init c = record { grows = grows_itself (chances_of (world_of c.args.w.now) c.args.self.now); has = tt; told = refl; same = λ e. refl }

pub loop-x-preserved : goal.loop-x-preserved
loop-x-preserved c =
    let w = world_of c.args.w.now in
    let old = chances_of w c.loop-x.self in
    let new = chances_of w c.take.new.self in
    let found = c.args.found.now in
    let k = c.loop-x.x-index in
    let later = each_weaker (IsNewIn old) (IsNewIn new) (λ x. new_grows old new x c.in_ok-more.ensures.grows) (map new_of (take k found)) c.loop-x.invariant.has in
    record {
      grows = grows_on (chances_of w c.args.self.now) old new c.loop-x.invariant.grows c.in_ok-more.ensures.grows;
      has = each_more (IsNewIn new) new_of found k _ c.loop-x-test.true later c.in_ok-more.ensures.has;
      told =
          c.either-grew.ensures
          ∙ found_more (λ g x. not (has_new w g x)) new_of found k _ c.args.self.now c.loop-x.self c.loop-x.grew c.in_ok-more.more c.loop-x-test.true c.loop-x.invariant.told c.loop-x.invariant.same c.in_ok-more.ensures.told;
      same = λ e. let q = or_parts c.loop-x.grew c.in_ok-more.more (sym c.either-grew.ensures ∙ e) in c.in_ok-more.ensures.same q.1 ∙ c.loop-x.invariant.same q.0;
    }

pub returns-clause-told : goal.returns-clause-told
returns-clause-told c =
    c.loop-x.invariant.told ∙ ap (λ (xs : List New). some_new (world_of c.args.w.now) c.args.self.now (map new_of xs)) (take_all c.loop-x.x-index c.args.found.now c.loop-x-test.false)

pub returns-clause-has : goal.returns-clause-has
returns-clause-has c =
    let now = chances_of (world_of c.args.w.now) c.loop-x.self in
    subst (λ (xs : List New). Each (IsNewIn now) (map new_of xs)) (take_all c.loop-x.x-index c.args.found.now c.loop-x-test.false) c.loop-x.invariant.has
