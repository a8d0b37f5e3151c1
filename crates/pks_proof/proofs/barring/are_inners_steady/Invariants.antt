use Rattle.std.proofs.Common.{◌≡◌, drop, map}
use Rattle.pks_terms.specs.Syntax.{term_of as lifted}
use Rattle.pks_terms.specs.Views.{inner_of}
use Rattle.pks_terms.specs.Reasons.{are_steady}
use Rattle.pks_proof.specs.Doings.{effects_by, before_in, moment_in}
use Rattle.pks_proof.proofs.barring.are_inners_steady.Given as goal

abbrev pub invariant-loop-t : goal.invariant-loop-t
invariant-loop-t l = are_steady (before_in l.d) (moment_in l.d) (effects_by l.d) (map lifted (map inner_of (drop l.t-index l.ts))) ≡ are_steady (before_in l.d) (moment_in l.d) (effects_by l.d) (map lifted (map inner_of l.ts))
