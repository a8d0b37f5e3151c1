-- Answers and replies: to a text that was read as a file the answers are the replies to the job, and to a first fault its refusal.
use Rattle.std.proofs.Common.{◌≡◌, ℕ, List, [], ◌∷◌, Some, None, Option, IfSome, inl, inr, refl, sym, ap, ◌∙◌, subst}
use Rattle.pks_terms.specs.Jobs.{Job, Check, Plan, Exec, Bench, Recall, Agent, Explain, Derive, Shared, IsInBounds, usage_text}
use Rattle.pks_terms.specs.Printed.{Text, refusal_text}
use Rattle.pks_terms.specs.Answers as answers
use Rattle.pks_terms.specs.Answers.{Place, Reading, ReadAs, Faulty, File, IsAccepted, IsDone, IsTalkRefused, IsUnplanned, refusal, text_for}
use Rattle.pks_run_words.specs.JobViews.{modes, AskFor, AskForOne, AskNoJob}
use Rattle.pks_reader.specs.Inputs.{Reads, IsRead}
use Rattle.pks_run_answer.specs.Replies.{IsReply, IsAbout, AreAlike as AlikeReplies, RepliesTo}
use Rattle.pks_run_answer.specs.declared.reply.Verdict.{Verdict}
use Rattle.pks_run_answer.specs.declared.reply.Verdict.TheVariants as verdict_is
use Rattle.pks_run.specs.Answer.{IsBench, IsDialogue, AnswersJob, AreAlike, IsReplied, IsReplyTo, Replies, IsAnswered, IsAnswer, AskNoExplanation, IsAnswerTo, Responds}
use Rattle.pks_run.specs.Replied.{status_for}
use Rattle.pks_run.specs.declared.status.Status.{Status}
use Rattle.pks_run.specs.declared.status.Status.TheVariants.{Done, NoPlan, Words, Refused, ReadFault, WriteFault, Memory}

-- ---- the text that a job is about

-- a job that isn't about the generated file, and is no dialogue, is about the input
pub text_is : (j : Job) (input : Text) → (IsBench j → ⊥) → (IsDialogue j → ⊥) → text_for j input ≡ input
text_is Check input b single = refl
text_is (Plan n) input b single = refl
text_is (Exec n) input b single = refl
text_is (Bench n) input b single = absurd (b tt)
text_is (Recall n) input b single = refl
text_is (Agent n) input b single = absurd (single tt)
text_is (Explain n) input b single = refl
text_is Derive input b single = refl
text_is (Shared n) input b single = refl

-- a job about this text alone is no dialogue
pub about_single : (j : Job) (text : Text) → IsAbout j text → IsDialogue j → ⊥
about_single Check text about d = d
about_single (Plan n) text about d = d
about_single (Exec n) text about d = d
about_single (Bench n) text about d = d
about_single (Recall n) text about d = d
about_single (Agent n) text about d = about
about_single (Explain n) text about d = d
about_single Derive text about d = d
about_single (Shared n) text about d = d

-- only a dialogue talks
no_talk : (j : Job) (input : Text) (f : File) (t : Text) → (IsDialogue j → ⊥) → IsTalkRefused j input f t → ⊥
no_talk Check input f t single a = a
no_talk (Plan n) input f t single a = a
no_talk (Exec n) input f t single a = a
no_talk (Bench n) input f t single a = a
no_talk (Recall n) input f t single a = a
no_talk (Agent n) input f t single a = absurd (single tt)
no_talk (Explain n) input f t single a = a
no_talk Derive input f t single a = a
no_talk (Shared n) input f t single a = a

-- so what it prints hangs on the file alone
done_alike : (j : Job) (f : File) (x y t : Text) → (IsDialogue j → ⊥) → IsDone j x f t → IsDone j y f t
done_alike Check f x y t single a = a
done_alike (Plan n) f x y t single a = a
done_alike (Exec n) f x y t single a = a
done_alike (Bench n) f x y t single a = a
done_alike (Recall n) f x y t single a = a
done_alike (Agent n) f x y t single a = absurd (single tt)
done_alike (Explain n) f x y t single a = a
done_alike Derive f x y t single a = a
done_alike (Shared n) f x y t single a = a

-- ---- texts that are alike

-- two replies about a file that is accepted where they are done
alike_there : (j : Job) (input : Text) (f : File) (v : Verdict) (t u : Text) → (v ≡ verdict_is.Done → IsAccepted Reads j input f) → AlikeReplies j f v t u → AreAlike j input (status_for v) t u
alike_there Check input f v t u accepted e = e
alike_there (Plan n) input f v t u accepted e = e
alike_there (Exec n) input f v t u accepted e = e
alike_there (Bench n) input f v t u accepted e = e
alike_there (Recall n) input f v t u accepted e = e
alike_there (Agent n) input f v t u accepted e = e
alike_there (Explain n) input f verdict_is.Done t u accepted e = (f, accepted refl, e)
alike_there (Explain n) input f verdict_is.NoPlan t u accepted e = e
alike_there (Explain n) input f verdict_is.Refused t u accepted e = e
alike_there Derive input f v t u accepted e = e
alike_there (Shared n) input f v t u accepted e = e

-- two refusals
refused_alike : (j : Job) (input t u : Text) → t ≡ u → AreAlike j input Refused t u
refused_alike Check input t u e = e
refused_alike (Plan n) input t u e = e
refused_alike (Exec n) input t u e = e
refused_alike (Bench n) input t u e = e
refused_alike (Recall n) input t u e = e
refused_alike (Agent n) input t u e = e
refused_alike (Explain n) input t u e = e
refused_alike Derive input t u e = e
refused_alike (Shared n) input t u e = e

-- they are the same, but where the words ask for an explanation and it is done
alike_same : (words : List Text) (j : Job) (input : Text) (s : Status) (t u : Text) → AskFor words j → (s ≡ Done → AskNoExplanation words) → AreAlike j input s t u → t ≡ u
alike_same words Check input s t u asks unexplained e = e
alike_same words (Plan n) input s t u asks unexplained e = e
alike_same words (Exec n) input s t u asks unexplained e = e
alike_same words (Bench n) input s t u asks unexplained e = e
alike_same words (Recall n) input s t u asks unexplained e = e
alike_same words (Agent n) input s t u asks unexplained e = e
alike_same words (Explain n) input Done t u asks unexplained e = absurd (unexplained refl n asks)
alike_same words (Explain n) input NoPlan t u asks unexplained e = e
alike_same words (Explain n) input Words t u asks unexplained e = e
alike_same words (Explain n) input Refused t u asks unexplained e = e
alike_same words (Explain n) input ReadFault t u asks unexplained e = e
alike_same words (Explain n) input WriteFault t u asks unexplained e = e
alike_same words (Explain n) input Memory t u asks unexplained e = e
alike_same words Derive input s t u asks unexplained e = e
alike_same words (Shared n) input s t u asks unexplained e = e

-- what words ask for is within its bounds
pub asked_in_bounds : (words : List Text) (j : Job) → AskFor words j → IsInBounds j
asked_in_bounds [] j asks = absurd asks
asked_in_bounds (name ∷ words) j (rest, found, are) = are.bounds

-- ---- answers to a job

abbrev file_or : File → Reading → File
file_or f (ReadAs g) = g
file_or f (Faulty at code) = f

abbrev IsFile : Reading → Type 0
IsFile (ReadAs f) = Unit {0}
IsFile (Faulty at code) = ⊥

module _ (j : Job) (input text : Text) (about : text_for j input ≡ text) where
  read_here : (x : Reading) → Reads (text_for j input) x → Reads text x
  read_here x r = subst (λ t. Reads t x) about r

  read_there : (x : Reading) → Reads text x → Reads (text_for j input) x
  read_there x r = subst (λ t. Reads t x) (sym about) r

  -- about a text that reads as this file alone
  module _ (f : File) (is_read : Reads text (ReadAs f)) (one : (x : Reading) → Reads text x → x ≡ ReadAs f) (single : IsDialogue j → ⊥) where
    this_file : (g : File) → Reads (text_for j input) (ReadAs g) → g ≡ f
    this_file g r = ap (file_or f) (one (ReadAs g) (read_here (ReadAs g) r))

    reply_answers : (v : Verdict) (t : Text) → IsReply j f v t → AnswersJob j input (status_for v) t
    reply_answers verdict_is.Refused t (r, refuses, e) = inl (r, (ReadAs f, read_there (ReadAs f) is_read, refuses), e)
    reply_answers verdict_is.NoPlan t (fine, none) = (f, record { reads = read_there (ReadAs f) is_read; fine = fine }, none)
    reply_answers verdict_is.Done t (fine, done) = (f, record { reads = read_there (ReadAs f) is_read; fine = fine }, done input)

    answer_replies : (status : Status) (t : Text) → AnswersJob j input status t → (v : Verdict) × (status ≡ status_for v) × IsReply j f v t
    answer_replies Refused t (inl (r, refuses, e)) =
        (verdict_is.Refused, refl, (r, subst (λ y. answers.RefusesReading Reads j y r) (one refuses.0 (read_here refuses.0 refuses.1)) refuses.2, e))
    answer_replies Refused t (inr (g, accepted, refused)) = absurd (no_talk j input g t single refused)
    answer_replies NoPlan t (g, accepted, none) =
        let here : IsAccepted Reads j input f × IsUnplanned j f t = subst (λ (h : File). IsAccepted Reads j input h × IsUnplanned j h t) (this_file g accepted.reads) (accepted, none) in
        (verdict_is.NoPlan, refl, (here.0.fine, here.1))
    answer_replies Done t (g, accepted, done) =
        let here : IsAccepted Reads j input f × IsDone j input f t = subst (λ (h : File). IsAccepted Reads j input h × IsDone j input h t) (this_file g accepted.reads) (accepted, done) in
        (verdict_is.Done, refl, (here.0.fine, λ other. done_alike j f input other t single here.1))
    answer_replies Words t a = absurd a
    answer_replies ReadFault t a = absurd a
    answer_replies WriteFault t a = absurd a
    answer_replies Memory t a = absurd a

    done_only : (v : Verdict) → status_for v ≡ Done → v ≡ verdict_is.Done
    done_only verdict_is.Done e = refl
    done_only verdict_is.NoPlan e = absurd cc
    done_only verdict_is.Refused e = absurd cc

    accepted_done : (v : Verdict) (t : Text) → IsReply j f v t → v ≡ verdict_is.Done → IsAccepted Reads j input f
    accepted_done verdict_is.Done t (fine, done) e = record { reads = read_there (ReadAs f) is_read; fine = fine }
    accepted_done verdict_is.NoPlan t reply e = absurd cc
    accepted_done verdict_is.Refused t reply e = absurd cc

    -- the one reply is the one answer
    pub file_replied : (v : Verdict) (t : Text) → RepliesTo j f v t → IsReplyTo j input (status_for v) t
    file_replied v t replies = record {
      answers = reply_answers v t replies.reply;
      only = λ status other a.
          let r = answer_replies status other a in
          let same = replies.only r.0 other r.2 in
          (r.1 ∙ ap status_for same.0, alike_there j input f v other t (accepted_done v t replies.reply) same.1);
      good = λ done.
          let is : v ≡ verdict_is.Done = done_only v done in
          let reply : IsReply j f verdict_is.Done t = subst (λ u. IsReply j f u t) is replies.reply in
          (f, subst (λ (i : Text). IsRead i f) (sym about) is_read, record { done = reply.1 input; good = replies.good is; told = replies.told is });
    }

  -- about a text that reads as this fault alone
  module _ (at : Place) (code : ℕ) (is_faulty : Reads text (Faulty at code)) (one : (x : Reading) → Reads text x → x ≡ Faulty at code) where
    no_file : (g : File) → Reads (text_for j input) (ReadAs g) → ⊥
    no_file g r = subst IsFile (one (ReadAs g) (read_here (ReadAs g) r)) tt

    one_fault : (status : Status) (t : Text) → AnswersJob j input status t → (status ≡ Refused) × (t ≡ refusal_text (refusal at code []))
    one_fault Refused t (inl (r, refuses, e)) =
        let r_is : r ≡ refusal at code [] = subst (λ y. answers.RefusesReading Reads j y r) (one refuses.0 (read_here refuses.0 refuses.1)) refuses.2 in
        (refl, e ∙ ap refusal_text r_is)
    one_fault Refused t (inr (g, accepted, refused)) = absurd (no_file g accepted.reads)
    one_fault NoPlan t (g, accepted, none) = absurd (no_file g accepted.reads)
    one_fault Done t (g, accepted, done) = absurd (no_file g accepted.reads)
    one_fault Words t a = absurd a
    one_fault ReadFault t a = absurd a
    one_fault WriteFault t a = absurd a
    one_fault Memory t a = absurd a

    isnt_done : Refused ≡ Done → ⊥
    isnt_done e = cc

    -- its refusal is the one answer
    pub fault_replied : (t : Text) → t ≡ refusal_text (refusal at code []) → IsReplyTo j input Refused t
    fault_replied t is = record {
      answers = inl (refusal at code [], (Faulty at code, read_there (Faulty at code) is_faulty, refl), is);
      only = λ status other a. let one = one_fault status other a in (one.0, refused_alike j input other t (one.1 ∙ sym is));
      good = λ done. absurd (isnt_done done);
    }

-- the status of an answer to a job
pub answer_kind : (j : Job) (input : Text) (status : Status) (t : Text) → AnswersJob j input status t → IsReplied status
answer_kind j input Done t a = tt
answer_kind j input NoPlan t a = tt
answer_kind j input Refused t a = tt
answer_kind j input Words t a = absurd a
answer_kind j input ReadFault t a = absurd a
answer_kind j input WriteFault t a = absurd a
answer_kind j input Memory t a = absurd a

-- ---- answers to words

-- the answer to the job that the words ask for answers the words
pub job_answered : (words : List Text) (j : Job) (input : Text) (status : Status) (t : Text) → AskFor words j → AnswersJob j input status t → IsAnswer words input status t
job_answered words j input Done t asks a = (j, asks, a)
job_answered words j input NoPlan t asks a = (j, asks, a)
job_answered words j input Refused t asks a = (j, asks, a)
job_answered words j input Words t asks a = absurd a
job_answered words j input ReadFault t asks a = absurd a
job_answered words j input WriteFault t asks a = absurd a
job_answered words j input Memory t asks a = absurd a

-- and where they ask for no other, what answers them answers it
pub answered_job : (words : List Text) (j : Job) (input : Text) (status : Status) (t : Text) → AskForOne words j → IsAnswer words input status t → AnswersJob j input status t
answered_job words j input Done t asks (k, asked, a) = subst (λ i. AnswersJob i input Done t) (asks.1 k asked) a
answered_job words j input NoPlan t asks (k, asked, a) = subst (λ i. AnswersJob i input NoPlan t) (asks.1 k asked) a
answered_job words j input Refused t asks (k, asked, a) = subst (λ i. AnswersJob i input Refused t) (asks.1 k asked) a
answered_job words j input Words t asks (none, e) = absurd (none j asks.0)
answered_job words j input ReadFault t asks (k, asked, a) = absurd a
answered_job words j input WriteFault t asks (k, asked, a) = absurd a
answered_job words j input Memory t asks (k, asked, a) = absurd a

reply_answered : (words : List Text) (j : Job) (input : Text) (status : Status) (t : Text) → AskForOne words j → IsReplyTo j input status t → IsAnswerTo words input status t
reply_answered words j input status t asks reply = record {
  answers = job_answered words j input status t asks.0 reply.answers;
  only = λ other u a.
      let one = reply.only other u (answered_job words j input other u asks a) in
      (one.0, λ unexplained. alike_same words j input status u t asks.0 unexplained one.1);
  explained = λ n asked done u a.
      let one = reply.only Done u (answered_job words j input Done u asks a) in
      subst (λ (k : Job). AreAlike k input Done u t) (sym (asks.1 (Explain n) asked)) (subst (λ s. AreAlike j input s u t) done one.1);
  good = λ done. (j, asks.0, reply.good done);
}

told_answered : (words : List Text) (j : Job) (left : Option Text) (status : Status) (t : Text) → AskForOne words j → IfSome left (λ input. IsReplyTo j input status t) → IfSome left (λ input. IsAnswerTo words input status t)
told_answered words j None status t asks told = tt
told_answered words j (Some input) status t asks told = reply_answered words j input status t asks told

-- a reply is a whole answer, and isn't the usage line
replied_whole : (s : Status) → IsReplied s → IsAnswered s
replied_whole Done h = tt
replied_whole NoPlan h = tt
replied_whole Refused h = tt
replied_whole Words h = absurd h
replied_whole ReadFault h = absurd h
replied_whole WriteFault h = absurd h
replied_whole Memory h = absurd h

-- the reply to the job that the words ask for responds to them
pub replies_respond : (words : List Text) (j : Job) (left : Option Text) (status : Status) (t : Text) → AskForOne words j → Replies j left status t → Responds words left status t
replies_respond words j left status t asks replies = record {
  whole = replied_whole status replies.kind;
  unasked = λ is. absurd (subst IsReplied is replies.kind);
  told = told_answered words j left status t asks replies.told;
}

-- words that ask for no job
module _ (words : List Text) (nothing : AskNoJob words) where
  one_usage : (input : Text) (status : Status) (t : Text) → IsAnswer words input status t → (status ≡ Words) × (t ≡ usage_text modes)
  one_usage input Words t (none, e) = (refl, e)
  one_usage input Refused t (k, asked, a) = absurd (nothing k asked)
  one_usage input NoPlan t (k, asked, a) = absurd (nothing k asked)
  one_usage input Done t (k, asked, a) = absurd (nothing k asked)
  one_usage input ReadFault t (k, asked, a) = absurd a
  one_usage input WriteFault t (k, asked, a) = absurd a
  one_usage input Memory t (k, asked, a) = absurd a

  isnt_words : Words ≡ Done → ⊥
  isnt_words e = cc

  usage_answers : (t : Text) → t ≡ usage_text modes → (input : Text) → IsAnswerTo words input Words t
  usage_answers t is input = record {
    answers = (nothing, is);
    only = λ status other a. let one = one_usage input status other a in (one.0, λ unexplained. one.1 ∙ sym is);
    explained = λ n asked done. absurd (isnt_words done);
    good = λ done. absurd (isnt_words done);
  }

  told_usage : (t : Text) → t ≡ usage_text modes → (left : Option Text) → IfSome left (λ input. IsAnswerTo words input Words t)
  told_usage t is None = tt
  told_usage t is (Some input) = usage_answers t is input

  pub usage_responds : (t : Text) → t ≡ usage_text modes → (left : Option Text) → Responds words left Words t
  usage_responds t is left = record { whole = tt; unasked = λ e. (nothing, is); told = told_usage t is left }
