use Rattle.std.proofs.Common.{ℕ, List, ◌++◌, map, ap, ◌∙◌}
use Rattle.pks_terms.specs.Syntax.{place}
use Rattle.pks_terms.specs.Views.{object_of}
use Rattle.pks_search_distance.specs.Relaxed.{NewValue}
use Rattle.pks_search_distance.specs.Gained.{pair_of, new_of}
use Rattle.pks_search_distance.proofs.Lists.{added_more, added_all}
use Rattle.pks_search_distance.proofs.news.add_placed.Goals as goal

pub loop-ds-preserved : goal.loop-ds-preserved
loop-ds-preserved c =
    let g = λ (ds : List ℕ). map (NewValue (place c.args.fun.0 ds)) (map object_of c.args.values.now) in
    added_more pair_of g c.args.pairs.now (map new_of c.args.to.now.items) c.loop-ds.ds-index _ (map new_of c.loop-ds.to.items) (map new_of c.add_given.new.to.items) c.loop-ds-test.true
    (c.in_ok-add_given.ensures ∙ ap (λ t. map new_of c.loop-ds.to.items ++ map (NewValue t) (map object_of c.args.values.now)) c.place.ensures) c.loop-ds.invariant

pub returns : goal.returns
returns c =
    let g = λ (ds : List ℕ). map (NewValue (place c.args.fun.0 ds)) (map object_of c.args.values.now) in
    added_all pair_of g c.args.pairs.now (map new_of c.args.to.now.items) c.loop-ds.ds-index (map new_of c.loop-ds.to.items) c.loop-ds-test.false c.loop-ds.invariant
