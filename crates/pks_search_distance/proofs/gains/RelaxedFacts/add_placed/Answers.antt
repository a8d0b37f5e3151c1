use Rattle.std.proofs.Common.{◌++◌, map, ap, ◌∙◌}
use Rattle.pks_terms.specs.Syntax.{Term}
use Rattle.pks_terms.specs.Views.{object_of}
use Rattle.pks_world.specs.Contents.{world_of}
use Rattle.pks_search_distance.specs.Gained.{pair_of, chances_of, values_at}
use Rattle.pks_search_distance.proofs.Lists.{added_more, added_all}
use Rattle.pks_search_distance.proofs.gains.RelaxedFacts.add_placed.Goals as goal

pub loop-ds-preserved : goal.loop-ds-preserved
loop-ds-preserved c =
    let g = (chances_of (world_of c.args.w.now) c.args.self.now).values c.args.fun.0 in
    added_more pair_of g c.args.pairs.now (map object_of c.args.to.now.items) c.loop-ds.ds-index _ (map object_of c.loop-ds.to.items) (map object_of c.add_values_at.new.to.items) c.loop-ds-test.true
    (c.in_ok-add_values_at.ensures ∙ ap (λ (t : Term). map object_of c.loop-ds.to.items ++ values_at (world_of c.args.w.now) c.args.self.now t) c.place.ensures) c.loop-ds.invariant

pub returns : goal.returns
returns c =
    added_all pair_of ((chances_of (world_of c.args.w.now) c.args.self.now).values c.args.fun.0) c.args.pairs.now (map object_of c.args.to.now.items) c.loop-ds.ds-index (map object_of c.loop-ds.to.items) c.loop-ds-test.false c.loop-ds.invariant
