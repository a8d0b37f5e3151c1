use Rattle.std.proofs.Common.{◌≡◌, ◌++◌, ◌∷◌, map, drop}
use Rattle.std.specs.List.{flat_map}
use Rattle.pks_terms.specs.Views.{names_of}
use Rattle.pks_terms.specs.Printed.{inner_text}
use Rattle.pks_exec.specs.Runs.{argument_of}
use Rattle.pks_exec.proofs.print.print_objects.Given as goal

abbrev pub invariant-loop-object : goal.invariant-loop-object
invariant-loop-object l =
    l.out.items ++ flat_map (λ part. 32 ∷ part) (map (inner_text (names_of l.p)) (map argument_of (drop l.object-index l.objects)))
    ≡ l.fn.out.items ++ flat_map (λ part. 32 ∷ part) (map (inner_text (names_of l.p)) (map argument_of l.objects))
