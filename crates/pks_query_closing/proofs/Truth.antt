-- What the laws say of the end of closing.
use Rattle.std.proofs.Common.{sym, ap, subst, true≢false}
use Rattle.pks_terms.specs.Syntax.{Literal}
use Rattle.pks_terms.specs.Signatures.{Signature}
use Rattle.pks_terms.specs.Worlds.{World}
use Rattle.pks_terms.specs.Meaning.{IsTrueOf}
use Rattle.pks_terms.specs.Databases.{Five}
use Rattle.pks_terms.specs.Closure.{Next, Clash, Closes}
use Rattle.pks_laws.proofs.Sorted.{next_or, is_next}
use Rattle.pks_laws.proofs.Tidying.{closed_true}

pub closed_keeps_truth : (s : Signature) (d e : Five) → Closes s d (Next e) → (w w' : World) → IsTrueOf s w w' d → IsTrueOf s w w' e
closed_keeps_truth s d e c w w' m =
    let r = closed_true s w w' d m (Next e) c in
    subst (IsTrueOf s w w') (sym (ap (next_or e) r.1)) r.2

pub clash_true_of_none : (s : Signature) (d : Five) (l : Literal) → Closes s d (Clash l) → (w w' : World) → IsTrueOf s w w' d → ⊥
clash_true_of_none s d l c w w' m =
    let r = closed_true s w w' d m (Clash l) c in
    true≢false (sym (ap is_next r.1))
