use Rattle.std.proofs.Common.{◌≡◌, ◌++◌, map, flat_map, take}
use Rattle.std.specs.Option.{option_map}
use Rattle.pks_terms.specs.Views.{term_of, terms_of}
use Rattle.pks_query_uses.specs.Occurring.{in_slot}
use Rattle.pks_query_uses.proofs.items.put_slots.Given as goal

abbrev pub invariant-loop-slot : goal.invariant-loop-slot
invariant-loop-slot l = terms_of l.to.items ≡ terms_of l.fn.to.items ++ flat_map in_slot (map (option_map term_of) (take l.slot-index l.slots))
