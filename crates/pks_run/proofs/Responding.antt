-- Texts that are responded, and the statuses with which they are sent.
use Rattle.std.proofs.Common.{◌≡◌, ◌⊎◌, ◌∙◌, ℕ, Vec, inl, inr, sym, subst}
use Rattle.std.specs.declared.alloc.Global.{Global}
use Rattle.pks_terms.specs.Printed.{Text}
use Rattle.pks_run.specs.Answer.{IsAnswered, IfText}
use Rattle.pks_run.specs.declared.top.Response.{Response}
use Rattle.pks_run.specs.declared.top.Response.TheVariants as response_is
use Rattle.pks_run.specs.declared.status.Status.{Status}
use Rattle.pks_run.specs.declared.status.Status.TheVariants.{ReadFault, WriteFault, Memory}

-- what is so where a text is responded
pub responded : (r : Response) (status : Status) (text : Vec ℕ Global) (P : Status → Text → Type 0) → r ≡ response_is.Text status text → IfText r P → P status text.items
responded r status text P e h = subst (λ (x : Response). IfText x P) e h

-- whoever sends an answer met no fault of the source
pub sent_unread : (status result : Status) → IsAnswered status → (result ≡ status) ⊎ (result ≡ WriteFault) → result ≡ ReadFault → ⊥
sent_unread status result is_answered (inl same) e = subst IsAnswered (sym same ∙ e) is_answered
sent_unread status result is_answered (inr fault) e = let bad : WriteFault ≡ ReadFault = sym fault ∙ e in cc

-- and no want of memory
pub sent_whole : (status result : Status) → IsAnswered status → (result ≡ status) ⊎ (result ≡ WriteFault) → result ≡ Memory → ⊥
sent_whole status result is_answered (inl same) e = subst IsAnswered (sym same ∙ e) is_answered
sent_whole status result is_answered (inr fault) e = let bad : WriteFault ≡ Memory = sym fault ∙ e in cc
