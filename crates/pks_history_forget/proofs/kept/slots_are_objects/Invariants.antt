use Rattle.std.proofs.Common.{◌≡◌, drop, map}
use Rattle.std.specs.Option.{option_map}
use Rattle.pks_terms.specs.Progress.{fixed_terms}
use Rattle.pks_terms.specs.Views.{term_of}
use Rattle.pks_terms.specs.Objects.{are_objects}
use Rattle.pks_history_forget.proofs.kept.slots_are_objects.Given as goal

abbrev pub invariant-loop-slot : goal.invariant-loop-slot
invariant-loop-slot l = are_objects (fixed_terms (map (option_map term_of) (drop l.slot-index l.slots))) ≡ are_objects (fixed_terms (map (option_map term_of) l.slots))
