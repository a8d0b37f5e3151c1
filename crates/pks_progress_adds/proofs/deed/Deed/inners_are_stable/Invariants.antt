use Rattle.std.proofs.Common.{◌≡◌, drop, map}
use Rattle.pks_terms.specs.Spoiling.{are_stable}
use Rattle.pks_terms.specs.Syntax.{term_of as lifted}
use Rattle.pks_terms.specs.Views.{inner_of}
use Rattle.pks_progress_adds.specs.Deeds.{signature_in, five_in, effects_in}
use Rattle.pks_progress_adds.proofs.deed.Deed.inners_are_stable.Given as goal

abbrev pub invariant-loop-t : goal.invariant-loop-t
invariant-loop-t l = are_stable (signature_in l.self) (five_in l.self) (effects_in l.self) (map lifted (map inner_of (drop l.t-index l.ts))) ≡ are_stable (signature_in l.self) (five_in l.self) (effects_in l.self) (map lifted (map inner_of l.ts))
