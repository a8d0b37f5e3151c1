use Rattle.std.proofs.Common.{◌≡◌, ◌++◌, map}
use Rattle.std.specs.List.{flat_map}
use Rattle.pks_terms.specs.Branching.{numbered}
use Rattle.pks_terms.specs.Recalled.{leaf_text}
use Rattle.pks_terms.specs.Views.{names_of}
use Rattle.pks_history_replay.specs.Walking.{state_of}
use Rattle.pks_recall.proofs.Telling.{left_text}
use Rattle.pks_recall.proofs.print.print_leaves.Given as goal

abbrev pub invariant-loop-i : goal.invariant-loop-i
invariant-loop-i l =
    l.text.items ++ left_text (leaf_text (names_of l.p)) 1 (map state_of l.leaves) l.i
    ≡ flat_map (leaf_text (names_of l.p)) (numbered 1 (map state_of l.leaves))
