-- Closing keeps what is true of two worlds, and doesn't clash there.
use Rattle.std.proofs.Common.{sym, ap, subst}
use Rattle.pks_terms.specs.Signatures.{Signature}
use Rattle.pks_terms.specs.Syntax.{Literal}
use Rattle.pks_terms.specs.Worlds.{World}
use Rattle.pks_terms.specs.Databases.{Five}
use Rattle.pks_terms.specs.Meaning.{IsTrueOf}
use Rattle.pks_terms.specs.Closure.{Outcome, Next, Clash, Closes}
use Rattle.pks_terms.specs.Views.{literal_of}
use Rattle.pks_laws.proofs.Tidying.{closed_true}
use Rattle.pks_query_closing.specs.Closing.{IfClash}
use Rattle.pks_query_closing.specs.declared.closing.CloseEnd.{CloseEnd}
use Rattle.pks_query_closing.specs.declared.closing.CloseEnd.TheVariants as end_is

abbrev next_or : Five → Outcome → Five
next_or d (Next e) = e
next_or d (Clash l) = d

abbrev IsAClash : Outcome → Type 0
IsAClash (Next e) = ⊥
IsAClash (Clash l) = Unit {0}

pub stays_true : (s : Signature) (w w' : World) (d e : Five) → IsTrueOf s w w' d → Closes s d (Next e) → IsTrueOf s w w' e
stays_true s w w' d e m c =
    let r = closed_true s w w' d m (Next e) c in
    subst (IsTrueOf s w w') (sym (ap (next_or d) r.1)) r.2

pub does_not_clash : (s : Signature) (w w' : World) (d : Five) (l : Literal) → IsTrueOf s w w' d → Closes s d (Clash l) → ⊥
does_not_clash s w w' d l m c =
    let r = closed_true s w w' d m (Clash l) c in
    subst IsAClash r.1 tt

-- so the end is want of memory
pub ends_without : (s : Signature) (w w' : World) (d : Five) (e : CloseEnd) → IsTrueOf s w w' d → IfClash (λ l. Closes s d (Clash (literal_of l))) e → IfClash (λ l. ⊥) e
ends_without s w w' d (end_is.Clash l) m c = does_not_clash s w w' d (literal_of l) m c
ends_without s w w' d end_is.Memory m c = tt
