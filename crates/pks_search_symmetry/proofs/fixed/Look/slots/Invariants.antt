use Rattle.std.proofs.Common.{drop, map, option_map}
use Rattle.pks_terms.specs.Sets.{Each}
use Rattle.pks_terms.specs.Views.{term_of}
use Rattle.pks_laws_symmetry.specs.Fixed.{IsFixedSlot}
use Rattle.pks_search_symmetry.specs.Renaming.{image_by}
use Rattle.pks_search_symmetry.proofs.fixed.Look.slots.Given as goal

abbrev pub invariant-loop-slot : goal.invariant-loop-slot
invariant-loop-slot l = Each (IsFixedSlot (image_by l.self.to.now) l.self.parameters) (map (option_map term_of) (drop l.slot-index l.slots)) → Each (IsFixedSlot (image_by l.self.to.now) l.self.parameters) (map (option_map term_of) l.slots)
