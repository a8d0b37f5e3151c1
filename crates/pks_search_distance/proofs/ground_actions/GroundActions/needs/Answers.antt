use Rattle.std.proofs.Common.{◌≡◌, ◌∙◌, false, List, map, flat_map, refl, sym, ap, subst, arith}
use Rattle.std.specs.List.{list_all}
use Rattle.pks_terms.specs.declared.problem.Aim.{Aim}
use Rattle.pks_terms.specs.Sets.{Each}
use Rattle.pks_terms.specs.Views.{aim_of, problem_of}
use Rattle.pks_world.specs.Contents.{world_of}
use Rattle.pks_search_distance.specs.Levels.{Chances}
use Rattle.pks_search_distance.specs.Relaxed.{aim_may, ground_action_news, IsNewIn}
use Rattle.pks_search_distance.specs.declared.gains.RelaxedFacts.{RelaxedFacts}
use Rattle.pks_search_distance.specs.Gained.{chances_of, ground_action_of}
use Rattle.pks_search_distance.proofs.Growing.{allows_first}
use Rattle.pks_search_distance.proofs.Bounded.{AtLeast, covers_none, least_none, covers_more, least_more, bound_some, bound_none}
use Rattle.pks_search_distance.proofs.ground_actions.GroundActions.needs.Goals as goal

pub loop-k-init : goal.loop-k-init
loop-k-init c =
    let p = problem_of c.args.p.now in
    let w = world_of c.args.w.now in
    record { covers = covers_none p c.args.self.now w (chances_of w c.none-gains.result) (allows_first w c.none-gains.result); least = least_none p c.args.self.now w }

pub returns-then-is_too_much : goal.returns-then-is_too_much
returns-then-is_too_much c = bound_some (problem_of c.args.p.now) c.args.self.now (world_of c.args.w.now) c.loop-k.k c.loop-k.invariant.least

pub returns-then-met : goal.returns-then-met
returns-then-met c = bound_some (problem_of c.args.p.now) c.args.self.now (world_of c.args.w.now) c.loop-k.k c.loop-k.invariant.least

pub returns-then-k-most : goal.returns-then-k-most
returns-then-k-most c =
    let p = problem_of c.args.p.now in
    let x = c.args.self.now in
    let w = world_of c.args.w.now in
    let m = chances_of w c.loop-k.gains in
    let far : list_all (aim_may m) p.goal ≡ false = sym (c.in_ok-met.ensures ∙ ap (λ (aims : List Aim). list_all (aim_may m) (map aim_of aims)) c.as_slice.ensures) ∙ c.if-met.false in
    bound_some p x w c.args.most (subst (AtLeast p x w) c.if-k-most.true (least_more p x w m c.loop-k.k c.loop-k.invariant.covers far c.loop-k.invariant.least))

pub returns-then-not-grew : goal.returns-then-not-grew
returns-then-not-grew c =
    let p = problem_of c.args.p.now in
    let x = c.args.self.now in
    let w = world_of c.args.w.now in
    let m = chances_of w c.loop-k.gains in
    let far : list_all (aim_may m) p.goal ≡ false = sym (c.in_ok-met.ensures ∙ ap (λ (aims : List Aim). list_all (aim_may m) (map aim_of aims)) c.as_slice.ensures) ∙ c.if-met.false in
    let same = ap (λ (g : RelaxedFacts). chances_of w g) (c.in_ok-grew.ensures.same c.if-not-grew.true) in
    let has = subst (λ (n : Chances). Each (IsNewIn n) (flat_map (ground_action_news m) (map ground_action_of x.ground_actions.items))) same c.in_ok-grew.ensures.has in
    bound_none p x w m c.requires has (c.loop-k.invariant.covers 0 w (omega arith) refl) far

pub loop-k-preserved : goal.loop-k-preserved
loop-k-preserved c =
    let p = problem_of c.args.p.now in
    let x = c.args.self.now in
    let w = world_of c.args.w.now in
    let m = chances_of w c.loop-k.gains in
    let n = chances_of w c.go_on.new.gains in
    let far : list_all (aim_may m) p.goal ≡ false = sym (c.in_ok-met.ensures ∙ ap (λ (aims : List Aim). list_all (aim_may m) (map aim_of aims)) c.as_slice.ensures) ∙ c.if-met.false in
    record {
      covers = covers_more p x w m n c.loop-k.k c.requires c.in_ok-grew.ensures.grows c.in_ok-grew.ensures.has c.loop-k.invariant.covers;
      least = least_more p x w m c.loop-k.k c.loop-k.invariant.covers far c.loop-k.invariant.least;
    }

pub returns : goal.returns
returns c =
    let p = problem_of c.args.p.now in
    let x = c.args.self.now in
    let w = world_of c.args.w.now in
    let end : c.loop-k.k ≡ c.args.most = omega arith in
    bound_some p x w c.args.most (subst (AtLeast p x w) end c.loop-k.invariant.least)
