use Rattle.std.proofs.Common.{◌≡◌, drop, map}
use Rattle.std.specs.Option.{option_map}
use Rattle.pks_terms.specs.Progress.{fixed_terms}
use Rattle.pks_terms.specs.Views.{term_of}
use Rattle.pks_terms.specs.Reasons.{are_steady}
use Rattle.pks_proof.specs.Doings.{effects_by, before_in, moment_in}
use Rattle.pks_proof.proofs.acting.are_slots_steady.Given as goal

abbrev pub invariant-loop-slot : goal.invariant-loop-slot
invariant-loop-slot l = are_steady (before_in l.d) (moment_in l.d) (effects_by l.d) (fixed_terms (map (option_map term_of) (drop l.slot-index l.slots))) ≡ are_steady (before_in l.d) (moment_in l.d) (effects_by l.d) (fixed_terms (map (option_map term_of) l.slots))
