use Rattle.std.proofs.Common.{◌≡◌, ◌++◌}
use Rattle.std.specs.List.{flat_map}
use Rattle.pks_terms.specs.Aims.{moments}
use Rattle.pks_terms.specs.Branching.{numbered}
use Rattle.pks_terms.specs.Recalled.{moment_text}
use Rattle.pks_terms.specs.Views.{names_of}
use Rattle.pks_recall.proofs.Telling.{left_text}
use Rattle.pks_recall.proofs.print.print_moments.Given as goal

abbrev pub invariant-loop-moment : goal.invariant-loop-moment
invariant-loop-moment l =
    l.out.items ++ left_text (moment_text (names_of l.p)) 0 (moments l.h) l.moment
    ≡ l.fn.out.items ++ flat_map (moment_text (names_of l.p)) (numbered 0 (moments l.h))
