use Rattle.std.proofs.Common.{◌≡◌, drop, map}
use Rattle.std.specs.Option.{option_map}
use Rattle.pks_terms.specs.Spoiling.{are_stable}
use Rattle.pks_terms.specs.Progress.{fixed_terms}
use Rattle.pks_terms.specs.Views.{term_of}
use Rattle.pks_progress_adds.specs.Deeds.{signature_in, five_in, effects_in}
use Rattle.pks_progress_adds.proofs.deed.Deed.fixed_are_stable.Given as goal

abbrev pub invariant-loop-slot : goal.invariant-loop-slot
invariant-loop-slot l = are_stable (signature_in l.self) (five_in l.self) (effects_in l.self) (fixed_terms (map (option_map term_of) (drop l.slot-index l.slots))) ≡ are_stable (signature_in l.self) (five_in l.self) (effects_in l.self) (fixed_terms (map (option_map term_of) l.slots))
