use Rattle.std.proofs.Common.{ℕ, List, ◌++◌, ◌∷◌, [], map, ap, ◌∙◌}
use Rattle.pks_terms.specs.Views.{object_of, terms_of}
use Rattle.pks_world.specs.Contents.{world_of}
use Rattle.pks_search_distance.specs.Relaxed.{tuples, term_values}
use Rattle.pks_world.specs.Few.{few_of}
use Rattle.pks_search_distance.specs.Gained.{chances_of}
use Rattle.pks_search_distance.proofs.Lists.{added_more, added_all}
use Rattle.pks_search_distance.proofs.gains.RelaxedFacts.+lists.Goals as goal

pub add_each_list-loop-d-preserved : goal.add_each_list-loop-d-preserved
add_each_list-loop-d-preserved t c =
    let after = λ (ds : List ℕ). tuples (term_values (chances_of (world_of c.args.w.now) c.args.self.now)) ds (terms_of c.args.ts.now) in
    let g = λ (d : ℕ). after (few_of c.args.before.now ++ d ∷ []) in
    added_more object_of g c.args.values.now (map few_of c.args.to.now.items) c.loop-d.d-index _ (map few_of c.loop-d.to.items) (map few_of c.add_lists.new.to.items) c.loop-d-test.true
    (c.in_ok-add_lists.ensures ∙ ap (λ ds. map few_of c.loop-d.to.items ++ after ds) c.with.ensures.objects) c.loop-d.invariant

pub add_each_list-returns : goal.add_each_list-returns
add_each_list-returns t c =
    let g = λ (d : ℕ). tuples (term_values (chances_of (world_of c.args.w.now) c.args.self.now)) (few_of c.args.before.now ++ d ∷ []) (terms_of c.args.ts.now) in
    added_all object_of g c.args.values.now (map few_of c.args.to.now.items) c.loop-d.d-index (map few_of c.loop-d.to.items) c.loop-d-test.false c.loop-d.invariant
