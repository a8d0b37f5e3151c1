-- What a dialogue that the words ask for answers to them.
use Rattle.std.proofs.Common.{◌≡◌, ◌⊎◌, ℕ, List, Option, inl, inr, refl, sym, subst}
use Rattle.std.specs.Io.KnownBytes.{Appends}
use Rattle.pks_io.specs.Causes.{Rose}
use Rattle.pks_terms.specs.Jobs.{Agent, Explain}
use Rattle.pks_terms.specs.Printed.{Text}
use Rattle.pks_run_words.specs.JobViews.{AskForOne}
use Rattle.pks_run.specs.Answer.{IsAnswered, IsAnswer, AskNoExplanation, IsExactly, HasNoPlan, IsRefused, PrintsGood, LeadsFront, WritesFront}
use Rattle.pks_run.specs.Leads.{HasCauses, Leads}
use Rattle.pks_run.specs.declared.status.Status.{Status}
use Rattle.pks_run.specs.declared.status.Status.TheVariants.{Done, NoPlan, Words, Refused, ReadFault, WriteFault, Memory}
use Rattle.pks_run.proofs.Exactly.{no_plan_sent, refused_sent, no_plan_cut, refused_cut}
use Rattle.pks_run.proofs.Replying.{job_answered, answered_job}

-- a dialogue has one depth
pub same_depth : (m n : ℕ) → Agent m ≡ Agent n → m ≡ n
same_depth m n e = cc

-- and is no explanation
pub dialogue_or_explanation : (n m : ℕ) → Explain m ≡ Agent n → ⊥
dialogue_or_explanation n m e = cc

-- a front of what answers the dialogue is one of what answers the words
pub front_written : (words : List Text) (n : ℕ) → AskForOne words (Agent n) → (input : Text) (old new : Option Text) → LeadsFront n input old new → WritesFront words input old new
front_written words n asks input old new (status, text, answers, front) = (status, text, job_answered words (Agent n) input status text asks.0 answers, front)

module _ (words : List Text) (n : ℕ) (asks : AskForOne words (Agent n)) (input : Text) (old new left : Option Text) (s : Status) (leads : Leads n input old new left s) where
  pub dialogue_answers : IsAnswered s → (text : Text) × IsAnswer words input s text × Appends old new text
  dialogue_answers whole = let r = leads.answered whole in (r.0, job_answered words (Agent n) input s r.0 asks.0 r.1.answers, r.2)

  only_answer : (whole : IsAnswered s) (status : Status) (text : Text) → IsAnswer words input status text → (status ≡ s) × (text ≡ (leads.answered whole).0)
  only_answer whole status text other = (leads.answered whole).1.only status text (answered_job words (Agent n) input status text asks other)

  pub dialogue_only : IsAnswered s → (status : Status) (text : Text) → IsAnswer words input status text → (s ≡ status) × ((s ≡ Done → AskNoExplanation words) → Appends old new text)
  dialogue_only whole status text other =
      let one = only_answer whole status text other in
      (sym one.0, λ unexplained. subst (λ (t : Text). Appends old new t) (sym one.1) (leads.answered whole).2)

  pub dialogue_good : s ≡ Done → PrintsGood words input old new
  dialogue_good done = let r = leads.answered (subst IsAnswered (sym done) tt) in (r.0, (Agent n, asks.0, r.1.good done), r.2)

  whole_or_cut : (t : Status) → IsAnswered t ⊎ (IsAnswered t → ⊥)
  whole_or_cut Done = inl tt
  whole_or_cut NoPlan = inl tt
  whole_or_cut Words = inl tt
  whole_or_cut Refused = inl tt
  whole_or_cut ReadFault = inr (λ h. h)
  whole_or_cut WriteFault = inr (λ h. h)
  whole_or_cut Memory = inr (λ h. h)

  pub dialogue_no_plan : IsExactly s NoPlan (HasNoPlan words input)
  unfolding dialogue_answers
  dialogue_no_plan = elim (whole_or_cut s) [
    | inl whole ↦ (let a = dialogue_answers whole in no_plan_sent words input s a.0 a.1 (λ t y other. (only_answer whole t y other).0) s (inl refl))
    | inr cut ↦ no_plan_cut words input s cut
  ]

  pub dialogue_refused : IsExactly s Refused (IsRefused words input)
  unfolding dialogue_answers
  dialogue_refused = elim (whole_or_cut s) [
    | inl whole ↦ (let a = dialogue_answers whole in refused_sent words input s a.0 a.1 (λ t y other. (only_answer whole t y other).0) s (inl refl))
    | inr cut ↦ refused_cut words input s cut
  ]

  pub dialogue_complete : (reads reads' writes writes' : ℕ) → HasCauses reads reads' writes writes' s → (Rose reads reads' → ⊥) → (Rose writes writes' → ⊥) → (s ≡ Memory) ⊎ ((text : Text) × IsAnswer words input s text)
  dialogue_complete reads reads' writes writes' causes no_read no_write = by_status s refl
    where
      answered : (t : Status) → s ≡ t → IsAnswered t → (s ≡ Memory) ⊎ ((text : Text) × IsAnswer words input s text)
      answered t e whole = let a = dialogue_answers (subst IsAnswered (sym e) whole) in inr (a.0, a.1)

      by_status : (t : Status) → s ≡ t → (s ≡ Memory) ⊎ ((text : Text) × IsAnswer words input s text)
      by_status Done e = answered Done e tt
      by_status NoPlan e = answered NoPlan e tt
      by_status Words e = answered Words e tt
      by_status Refused e = answered Refused e tt
      by_status ReadFault e = absurd (no_read (causes.read e))
      by_status WriteFault e = absurd (no_write (causes.write e))
      by_status Memory e = inl e
