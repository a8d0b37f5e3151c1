use Rattle.std.proofs.Common.{◌≡◌, ◌∙◌, ◌++◌, ◌+◌, ◌∷◌, [], ◌<◌, ap, map, take, append_assoc, slice_set, slice_index_or, arith}
use Rattle.std.proofs.lemmas.List.{map_push, map-set, take_more}
use Rattle.std.proofs.Math.Seq.{take-set-lt}
use Rattle.pks_terms.specs.declared.term.Inner.TheVariants.{Obj}
use Rattle.pks_terms.specs.Views.{inner_of}
use Rattle.pks_query_lookup.specs.Reading.{first_inners}
use Rattle.pks_query_closing.proofs.steps.put_applied.Goals as goal

pub loop-t-preserved : goal.loop-t-preserved
loop-t-preserved c =
    let new = c.in_ok-push.ensures.items in
    let t = slice_index_or c.args.steps.now c.loop-t.t-index (Obj (record { 0 = 0 })) in
    let within : c.args.i < c.args.n = omega arith in
    let put : map inner_of (take c.args.n (slice_set c.args.args.now c.args.i t)) ≡ slice_set (first_inners c.args.n c.args.args.now) c.args.i (inner_of t) =
    ap (map inner_of) (take-set-lt _ c.args.args.now c.args.i t within) ∙ map-set inner_of (take c.args.n c.args.args.now) c.args.i t in
    let more : take (c.loop-t.t-index + 1) c.args.steps.now ≡ take c.loop-t.t-index c.args.steps.now ++ t ∷ [] = take_more _ _ _ c.loop-t-test.true in
    rw (new, map_push, more, map_push, map_push, map_push, put, c.loop-t.invariant, append_assoc)
