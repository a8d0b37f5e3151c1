use Rattle.std.proofs.Common.{subst, map, take, ◌∷◌, []}
use Rattle.pks_terms.specs.Syntax.{Term, place}
use Rattle.pks_terms.specs.Orders.{term_eq}
use Rattle.pks_terms.specs.declared.ids.ObjId.{ObjId}
use Rattle.pks_terms.specs.Views.{object_of}
use Rattle.pks_world.specs.First.{Writes}
use Rattle.pks_world.proofs.Filling.{kept_more, kept_all}
use Rattle.pks_world.proofs.first.keep_row.Goals as goal

pub loop-second-preserved : goal.loop-second-preserved
loop-second-preserved c =
    let p = λ (e : ObjId). term_eq (place c.args.fun.0 (map object_of (take c.args.n (c.args.first ∷ e ∷ [])))) in
    record {
      says = kept_more p c.args.seconds.now c.args.d.0 c.args.values.now.entries c.loop-second.second-index _ c.loop-second.values.entries c.keep.new.values.entries c.loop-second-test.true (subst (λ (t : Term). Writes (term_eq t) c.args.d.0 c.loop-second.values.entries c.keep.new.values.entries) c.at_objects.ensures.says c.in_ok-keep.ensures.says) c.loop-second.invariant.says;
      counts = λ n each. c.in_ok-keep.ensures.counts (c.at_objects.ensures.counts n) (c.loop-second.invariant.counts n each);
    }

pub returns-clause-says : goal.returns-clause-says
returns-clause-says c =
    let p = λ (e : ObjId). term_eq (place c.args.fun.0 (map object_of (take c.args.n (c.args.first ∷ e ∷ [])))) in
    kept_all p c.args.seconds.now c.args.d.0 c.args.values.now.entries c.loop-second.second-index c.loop-second.values.entries c.loop-second-test.false c.loop-second.invariant.says

pub returns-clause-counts : goal.returns-clause-counts
returns-clause-counts c = λ n each. c.loop-second.invariant.counts n each
