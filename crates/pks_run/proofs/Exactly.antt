-- Where each status comes.
use Rattle.std.proofs.Common.{◌≡◌, ◌⊎◌, inl, inr, List, refl, sym, ◌∙◌, subst}
use Rattle.pks_terms.specs.Printed.{Text, none_text, refusal_text}
use Rattle.pks_run.specs.Answer.{IsAnswer, IsAnswered, IsCutShort, IsExactly, HasNoPlan, IsRefused}
use Rattle.pks_run.specs.declared.status.Status.{Status}
use Rattle.pks_run.specs.declared.status.Status.TheVariants.{NoPlan, Refused, WriteFault}

has_no_plan : (words : List Text) (input text : Text) → IsAnswer words input NoPlan text → HasNoPlan words input
has_no_plan words input text (j, asks, (f, accepted, (n, depth, best, e))) = (j, asks, (f, accepted, (n, depth, best)))

is_refused : (words : List Text) (input text : Text) → IsAnswer words input Refused text → IsRefused words input
is_refused words input text (j, asks, inl (r, refuses, e)) = (j, asks, inl (r, refuses))
is_refused words input text (j, asks, inr (f, accepted, refused)) = (j, asks, inr (f, accepted, (text, refused)))

none_answers : (words : List Text) (input : Text) → HasNoPlan words input → (text : Text) × IsAnswer words input NoPlan text
none_answers words input (j, asks, (f, accepted, (n, depth, best))) = (none_text n, (j, asks, (f, accepted, (n, depth, best, refl))))

refusal_answers : (words : List Text) (input : Text) → IsRefused words input → (text : Text) × IsAnswer words input Refused text
refusal_answers words input (j, asks, inl (r, refuses)) = (refusal_text r, (j, asks, inl (r, refuses, refl)))
refusal_answers words input (j, asks, inr (f, accepted, (text, refused))) = (text, (j, asks, inr (f, accepted, refused)))

-- a status is this one exactly where P, if an answer with it is
module _ (words : List Text) (input : Text) (this : Status) (P : Type 0) (cut_isnt : (s : Status) → s ≡ this → IsAnswered s) (comes : (text : Text) → IsAnswer words input this text → P) (answers : P → (text : Text) × IsAnswer words input this text) where
  -- the answer is one alone, and what ended the call is its status or a fault of writing
  exactly_sent : (status : Status) (text : Text) → IsAnswer words input status text → ((s : Status) (t : Text) → IsAnswer words input s t → s ≡ status)
      → (result : Status) → (result ≡ status) ⊎ (result ≡ WriteFault) → IsExactly result this P
  exactly_sent status text answer only result (inl e) =
      (λ is. comes text (subst (λ s. IsAnswer words input s text) (sym e ∙ is) answer), λ p. let a = answers p in inl (e ∙ sym (only this a.0 a.1)))
  exactly_sent status text answer only result (inr e) =
      (λ is. absurd (subst IsAnswered e (cut_isnt result is)), λ p. inr (λ whole. subst IsAnswered e whole))

  exactly_cut : (result : Status) → IsCutShort result → IsExactly result this P
  exactly_cut result cut = (λ is. absurd (cut (cut_isnt result is)), λ p. inr cut)

module _ (words : List Text) (input : Text) where
  pub no_plan_sent : (status : Status) (text : Text) → IsAnswer words input status text → ((s : Status) (t : Text) → IsAnswer words input s t → s ≡ status)
      → (result : Status) → (result ≡ status) ⊎ (result ≡ WriteFault) → IsExactly result NoPlan (HasNoPlan words input)
  no_plan_sent = exactly_sent words input NoPlan (HasNoPlan words input) (λ s e. subst IsAnswered (sym e) tt) (has_no_plan words input) (none_answers words input)

  pub refused_sent : (status : Status) (text : Text) → IsAnswer words input status text → ((s : Status) (t : Text) → IsAnswer words input s t → s ≡ status)
      → (result : Status) → (result ≡ status) ⊎ (result ≡ WriteFault) → IsExactly result Refused (IsRefused words input)
  refused_sent = exactly_sent words input Refused (IsRefused words input) (λ s e. subst IsAnswered (sym e) tt) (is_refused words input) (refusal_answers words input)

  pub no_plan_cut : (result : Status) → IsCutShort result → IsExactly result NoPlan (HasNoPlan words input)
  no_plan_cut = exactly_cut words input NoPlan (HasNoPlan words input) (λ s e. subst IsAnswered (sym e) tt) (has_no_plan words input) (none_answers words input)

  pub refused_cut : (result : Status) → IsCutShort result → IsExactly result Refused (IsRefused words input)
  refused_cut = exactly_cut words input Refused (IsRefused words input) (λ s e. subst IsAnswered (sym e) tt) (is_refused words input) (refusal_answers words input)
