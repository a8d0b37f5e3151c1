use Rattle.std.proofs.Common.{◌∷◌, map, drop}
use Rattle.std.specs.List.{flat_map}
use Rattle.pks_plan.proofs.Appended.{Reached}
use Rattle.pks_plan.proofs.parts.print_parts.Given as goal

abbrev pub invariant-loop-part : goal.invariant-loop-part
invariant-loop-part g l =
    Reached l.fn.out.items l.out.items (flat_map (λ part. 32 ∷ part) (map (g.T.PrintedPart.text l.w) l.parts))
    (flat_map (λ part. 32 ∷ part) (map (g.T.PrintedPart.text l.w) (drop l.part-index l.parts)))
