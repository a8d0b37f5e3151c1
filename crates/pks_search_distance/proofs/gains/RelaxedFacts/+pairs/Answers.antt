use Rattle.std.proofs.Common.{ℕ, List, ◌++◌, ◌∷◌, [], map, ap, ◌∙◌}
use Rattle.pks_terms.specs.Views.{object_of, inner_of}
use Rattle.pks_world.specs.Contents.{world_of}
use Rattle.pks_search_distance.specs.Relaxed.{tuples, inner_values}
use Rattle.pks_search_distance.specs.Gained.{pair_of, chances_of}
use Rattle.pks_search_distance.proofs.Lists.{added_more, added_all}
use Rattle.pks_search_distance.proofs.gains.RelaxedFacts.+pairs.Goals as goal

pub add_each_pair-loop-d-preserved : goal.add_each_pair-loop-d-preserved
add_each_pair-loop-d-preserved t c =
    let after = λ (ds : List ℕ). tuples (inner_values (chances_of (world_of c.args.w.now) c.args.self.now)) ds (map inner_of c.args.ts.now) in
    let g = λ (d : ℕ). after (pair_of c.args.before.now ++ d ∷ []) in
    added_more object_of g c.args.values.now (map pair_of c.args.to.now.items) c.loop-d.d-index _ (map pair_of c.loop-d.to.items) (map pair_of c.add_pairs.new.to.items) c.loop-d-test.true
    (c.in_ok-add_pairs.ensures ∙ ap (λ ds. map pair_of c.loop-d.to.items ++ after ds) c.with.ensures.objects) c.loop-d.invariant

pub add_each_pair-returns : goal.add_each_pair-returns
add_each_pair-returns t c =
    let g = λ (d : ℕ). tuples (inner_values (chances_of (world_of c.args.w.now) c.args.self.now)) (pair_of c.args.before.now ++ d ∷ []) (map inner_of c.args.ts.now) in
    added_all object_of g c.args.values.now (map pair_of c.args.to.now.items) c.loop-d.d-index (map pair_of c.loop-d.to.items) c.loop-d-test.false c.loop-d.invariant
