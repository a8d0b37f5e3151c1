use Rattle.std.proofs.Common.{◌≡◌, drop}
use Rattle.std.specs.List.{list_all}
use Rattle.pks_terms.specs.Spoiling.{are_stable}
use Rattle.pks_terms.specs.Views.{literals_in}
use Rattle.pks_progress_adds.specs.Deeds.{signature_in, five_in, effects_in}
use Rattle.pks_progress_adds.proofs.deed.Deed.literals_are_stable.Given as goal

abbrev pub invariant-loop-l : goal.invariant-loop-l
invariant-loop-l l = list_all (λ m. are_stable (signature_in l.self) (five_in l.self) (effects_in l.self) m.arguments) (literals_in (drop l.l-index l.ls)) ≡ list_all (λ m. are_stable (signature_in l.self) (five_in l.self) (effects_in l.self) m.arguments) (literals_in l.ls)
