use Rattle.std.proofs.Common.{◌≡◌, drop}
use Rattle.pks_terms.specs.Views.{terms_of}
use Rattle.pks_terms.specs.Reasons.{are_steady}
use Rattle.pks_proof.specs.Doings.{effects_by, before_in, moment_in}
use Rattle.pks_proof.proofs.barring.are_steady.Given as goal

abbrev pub invariant-loop-t : goal.invariant-loop-t
invariant-loop-t l = are_steady (before_in l.d) (moment_in l.d) (effects_by l.d) (terms_of (drop l.t-index l.ts)) ≡ are_steady (before_in l.d) (moment_in l.d) (effects_by l.d) (terms_of l.ts)
