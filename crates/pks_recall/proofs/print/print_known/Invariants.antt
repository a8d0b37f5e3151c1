use Rattle.std.proofs.Common.{◌≡◌, ◌++◌}
use Rattle.std.specs.List.{flat_map}
use Rattle.pks_terms.specs.Printed.{line, literal_text}
use Rattle.pks_terms.specs.Views.{names_of}
use Rattle.pks_kf.specs.Known.{literals_of}
use Rattle.pks_recall.proofs.print.print_known.Given as goal

abbrev pub invariant-loop-l : goal.invariant-loop-l
invariant-loop-l l =
    l.out.items ++ flat_map (λ x. line (literal_text (names_of l.p) x)) (literals_of l.l-iterator)
    ≡ l.fn.out.items ++ flat_map (λ x. line (literal_text (names_of l.p) x)) (literals_of l.kf)
