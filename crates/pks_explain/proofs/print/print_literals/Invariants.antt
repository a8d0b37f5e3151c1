use Rattle.std.proofs.Common.{◌≡◌, ◌++◌, ◌∷◌, map, drop}
use Rattle.std.specs.List.{flat_map}
use Rattle.pks_terms.specs.Printed.{literal_text}
use Rattle.pks_terms.specs.Views.{names_of, literals_in}
use Rattle.pks_explain.proofs.print.print_literals.Given as goal

abbrev pub invariant-loop-l : goal.invariant-loop-l
invariant-loop-l l =
    l.out.items ++ flat_map (λ part. 32 ∷ part) (map (literal_text (names_of l.p)) (literals_in (drop l.l-index l.ls)))
    ≡ l.fn.out.items ++ flat_map (λ part. 32 ∷ part) (map (literal_text (names_of l.p)) (literals_in l.ls))
