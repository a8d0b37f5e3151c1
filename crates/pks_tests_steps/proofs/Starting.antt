-- Databases that close don't clash.
use Rattle.std.proofs.Common.{◌≡◌}
use Rattle.pks_terms.specs.Signatures.{Signature}
use Rattle.pks_terms.specs.Syntax.{Literal}
use Rattle.pks_terms.specs.Databases.{Five}
use Rattle.pks_terms.specs.Closure.{Outcome, Next, Clash, Closes}
use Rattle.pks_laws.proofs.Unique.{closes_one}

-- closing has one outcome, so what closes doesn't clash
pub closes_without_clash : (s : Signature) (d e : Five) → Closes s d (Next e) → (l : Literal) → Closes s d (Clash l) → ⊥
closes_without_clash s d e closes l clashes =
    let same : Next e ≡ Clash l = closes_one s d (Next e) (Clash l) closes clashes in
    cc
