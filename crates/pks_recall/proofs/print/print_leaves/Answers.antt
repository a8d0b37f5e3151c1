use Rattle.std.proofs.Common.{◌≡◌, ◌+◌, ◌<◌, ◌∙◌, map, length, Some, option_map, refl, ap, arith}
use Rattle.std.specs.List.{flat_map, slice_get}
use Rattle.std.proofs.lemmas.Option.{slice_get-map, slice_get_read}
use Rattle.pks_terms.specs.Branching.{numbered}
use Rattle.pks_terms.specs.Recalled.{leaf_text}
use Rattle.pks_terms.specs.Views.{names_of}
use Rattle.pks_history_replay.specs.Walking.{state_of}
use Rattle.pks_recall.proofs.Telling.{one_told}
use Rattle.pks_recall.proofs.print.print_leaves.Goals as goal

pub loop-i-preserved : goal.loop-i-preserved
loop-i-preserved c =
    let text = leaf_text (names_of c.args.p.now) in
    let all = map state_of c.args.leaves.now in
    let same : 1 + c.loop-i.i ≡ c.loop-i.i + 1 = omega arith in
    let within : c.loop-i.i < length c.args.leaves.now = omega (arith, c.loop-i-test.true) in
    let there : slice_get all c.loop-i.i ≡ Some (state_of c.index-leaves-i.result) =
    slice_get-map state_of c.args.leaves.now c.loop-i.i ∙ ap (option_map state_of) (slice_get_read c.args.leaves.now (length c.args.leaves.now) c.loop-i.i c.index-leaves-i.result refl within c.index-leaves-i.is) in
    one_told text 1 all c.loop-i.i (c.loop-i.i + 1) (state_of c.index-leaves-i.result) c.loop-i.text.items c.print_leaf.new.out.items (flat_map text (numbered 1 all)) same there c.in_ok-print_leaf.ensures c.loop-i.invariant
