-- What a dialogue comes to before it begins, and where its full stop stands.
use Rattle.std.proofs.Common.{◌≡◌, ◌⊎◌, ◌+◌, ◌∙◌, ℕ, Bool, true, false, cond, [], ◌∷◌, length, filter, nat_eq, Option, Some, None, IfSome, inl, inr, refl, sym, ap, subst, arith}
use Rattle.std.specs.Io.KnownBytes.{Appends}
use Rattle.pks_io.specs.Writing.{AppendsFront}
use Rattle.pks_terms.specs.Jobs.{Agent}
use Rattle.pks_terms.specs.Trees.{Tree, IsBest}
use Rattle.pks_terms.specs.Answers.{File, Reading, ReadAs, Faulty, Place, IsAccepted}
use Rattle.pks_terms.specs.Printed.{Text}
use Rattle.pks_terms.specs.Talk.{file_text, stop_line, line_feeds, answers_in}
use Rattle.pks_text.specs.Lines.{line_feeds as feeds, line_column_behind}
use Rattle.pks_agent.specs.Streams.{HasFile, answers_coming}
use Rattle.pks_agent.proofs.Lines.{stop_is}
use Rattle.pks_reader.specs.Inputs.{Reads}
use Rattle.pks_run.specs.Answer.{IsAnswered, IsReplyTo}
use Rattle.pks_run.proofs.Telling.{memory_told, unread_told}
use Rattle.pks_run.specs.Leads.{Converses, Leads}
use Rattle.pks_run.specs.declared.status.Status.{Status}
use Rattle.pks_run.specs.declared.status.Status.TheVariants.{Done, NoPlan, Refused, ReadFault, WriteFault, Memory}

-- ---- a reply without a dialogue

write_fault_done : {A : Type 0} → WriteFault ≡ Done → A
write_fault_done e = absurd cc

pub no_plan_done : NoPlan ≡ Done → ⊥
no_plan_done e = cc

pub refused_done : Refused ≡ Done → ⊥
refused_done e = cc

cut_fault : {A : Type 0} (s : Status) → IsAnswered s → (s ≡ WriteFault) ⊎ (s ≡ ReadFault) → A
cut_fault s a (inl e) = absurd (subst IsAnswered e a)
cut_fault s a (inr e) = absurd (subst IsAnswered e a)

-- an input with a fault isn't accepted, so no dialogue is begun
pub faulty_unled : (n : ℕ) (input : Text) (at : Place) (code : ℕ) → ((x : Reading) → Reads (file_text input) x → x ≡ Faulty at code) → (f : File) (t : Tree) → IsAccepted Reads (Agent n) input f → IsBest f.problem n (Some t) → ⊥
faulty_unled n input at code one f t accepted best = let same : ReadAs f ≡ Faulty at code = one (ReadAs f) accepted.reads in cc

-- it was written, or a front of it
pub reply_sent : (n : ℕ) (input : Text) (old new left : Option Text) (status : Status) (text : Text) → IsReplyTo (Agent n) input status text → IsAnswered status → (status ≡ Done → ⊥)
    → ((f : File) (t : Tree) → IsAccepted Reads (Agent n) input f → IsBest f.problem n (Some t) → ⊥) → (result : Status)
    → (IsAnswered result → (result ≡ status) × Appends old new text) → (result ≡ WriteFault → AppendsFront old new text) → (result ≡ status) ⊎ (result ≡ WriteFault) → Converses n input old new left result
reply_sent n input old new left status text reply is_answered not_done unled result whole fault (inl e) = subst (λ (s : Status). Converses n input old new left s) (sym e) (record {
  answered = λ h. (text, reply, (whole (subst IsAnswered (sym e) h)).1);
  front = λ cut. cut_fault status is_answered cut;
  taken = λ done. absurd (not_done done);
  led = λ done. absurd (not_done done);
  told = λ f t accepted best. absurd (unled f t accepted best);
})
reply_sent n input old new left status text reply is_answered not_done unled result whole fault (inr e) = subst (λ (s : Status). Converses n input old new left s) (sym e) (record {
  answered = λ h. absurd h;
  front = λ cut. (status, text, reply.answers, fault e);
  taken = λ done. write_fault_done done;
  led = λ done. write_fault_done done;
  told = λ f t accepted best. absurd (unled f t accepted best);
})

-- what is so of an input whose file was read is so of any
pub so_of_any : (n : ℕ) (input : Text) (old new left : Option Text) (s : Status) → Converses n input old new left s → Leads n input old new left s
so_of_any n input old new left s c = record { answered = c.answered; front = λ e. c.front (inl e); taken = c.taken; led = c.led; told = c.told }

-- ---- nothing was told

-- where memory was wanting
pub memory_conversed : (n : ℕ) (input : Text) (old left : Option Text) → Converses n input old old left Memory
memory_conversed n input old left = record {
  answered = λ h. absurd h;
  front = λ cut. memory_or_fault cut;
  taken = λ done. memory_done done;
  led = λ done. memory_done done;
  told = memory_told n input old left;
}
  where
    memory_done : {A : Type 0} → Memory ≡ Done → A
    memory_done e = absurd cc

    memory_or_fault : {A : Type 0} → (Memory ≡ WriteFault) ⊎ (Memory ≡ ReadFault) → A
    memory_or_fault (inl e) = absurd cc
    memory_or_fault (inr e) = absurd cc

memory_led : (n : ℕ) (input : Text) (old left : Option Text) → Leads n input old old left Memory
memory_led n input old left = so_of_any n input old old left Memory (memory_conversed n input old left)

-- where the file wasn't read
unread_led : (n : ℕ) (input : Text) (old left : Option Text) → Leads n input old old left ReadFault
unread_led n input old left = record {
  answered = λ h. absurd h;
  front = λ cut. read_or_write cut;
  taken = λ done. read_done done;
  led = λ done. read_done done;
  told = unread_told n input old left;
}
  where
    read_done : {A : Type 0} → ReadFault ≡ Done → A
    read_done e = absurd cc

    read_or_write : {A : Type 0} → ReadFault ≡ WriteFault → A
    read_or_write e = absurd cc

-- so of whatever the source has left, where that is told
pub memory_led_any : (n : ℕ) (o : Option Text) (old left : Option Text) → IfSome o (λ input. Leads n input old old left Memory)
memory_led_any n None old left = tt
memory_led_any n (Some input) old left = memory_led n input old left

pub unread_led_any : (n : ℕ) (o : Option Text) (old left : Option Text) → IfSome o (λ input. Leads n input old old left ReadFault)
unread_led_any n None old left = tt
unread_led_any n (Some input) old left = unread_led n input old left

-- ---- the full stop

feeds_same : (text : Text) → feeds text ≡ line_feeds text
feeds_same [] = refl
feeds_same (b ∷ text) = by_feed (nat_eq b 10) (feeds_same text)
  where
    by_feed : (u : Bool) → feeds text ≡ line_feeds text → cond u 1 0 + feeds text ≡ length (cond u (b ∷ filter (λ c. nat_eq c 10) text) (filter (λ c. nat_eq c 10) text))
    by_feed true later = omega (arith, later)
    by_feed false later = omega (arith, later)

-- its line is counted in the file before it
pub stop_counted : (text input : Text) → text ≡ file_text input → (line_column_behind text).0 ≡ stop_line input
stop_counted text input e = ap (λ n. n + 1) (feeds_same text ∙ ap line_feeds e) ∙ sym (stop_is input)

-- the answers that come
pub answers_to_come : (input : Text) (now : Option Text) (text : Text) → HasFile input now text → answers_coming now ≡ Some (answers_in input)
answers_to_come input now text has = ap answers_coming has.left ∙ ap (λ l. Some l) (sym has.answers)
