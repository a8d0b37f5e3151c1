-- Dialogues: what answers them, and that nothing else does.
use Rattle.std.proofs.Common.{◌≡◌, ◌⊎◌, ◌≤◌, ◌+◌, ℕ, List, [], ◌∷◌, ◌++◌, take, length, Option, Some, None, option_map, inl, inr, Result, Ok, Err, refl, sym, ap, ◌∙◌, subst, arith}
use Rattle.std.specs.Io.KnownBytes.{Appends}
use Rattle.pks_io.specs.Causes.{Rose}
use Rattle.pks_io.specs.Writing.{AppendsFront}
use Rattle.pks_terms.specs.Jobs.{Agent}
use Rattle.pks_terms.specs.Valid.{IsValid}
use Rattle.pks_terms.specs.Trees.{Tree, IsBest}
use Rattle.pks_terms.specs.Printed.{Text, Refusal, refusal_text}
use Rattle.pks_terms.specs.Talk.{Talked, TalkEnd as Talk, Over, Unfit, Missing, lines_of, talked_text, answers_in, file_text, stop_line, IsOver, RefusesAnswer, answer_refusal}
use Rattle.pks_terms.specs.Answers as answers
use Rattle.pks_terms.specs.Answers.{Reading, ReadAs, Faulty, File, IsAccepted, IsDone, IsTalkRefused, IsUnplanned, RefusesFile, NoneApplies, talk_in, PrintsTalk, PrintsTalkRefused}
use Rattle.pks_exec.specs.declared.runs.End.{End}
use Rattle.pks_agent.specs.declared.ahead.ReadAhead.{ReadAhead}
use Rattle.pks_agent.specs.declared.ends.TalkEnd.{TalkEnd}
use Rattle.pks_agent.specs.declared.ends.TalkEnd.TheVariants.{Misfit, Silent, Failed}
use Rattle.pks_agent.specs.declared.peers.PeerFault.TheVariants.{Send, Receive}
use Rattle.pks_agent.specs.Fitting.{ComesOfFit, LeavesRefused, LeavesBehind, TakesFit}
use Rattle.pks_agent.specs.Leading.{BreaksOff, Led, HasTalkCause}
use Rattle.pks_agent.specs.Streams.{ahead_of, coming, answers_coming}
use Rattle.pks_agent.proofs.Fitting.{takes_fit}
use Rattle.pks_agent.proofs.Joining.{appends_more, front_behind, front_first, front_broken}
use Rattle.pks_agent.proofs.AlongRuns.{plan_led}
use Rattle.pks_plan.specs.Naming.{AreNamesOf}
use Rattle.pks_reader.specs.Inputs.{Reads, IsRead}
use Rattle.pks_run_answer.proofs.Lasting.{best_is_good}
use Rattle.pks_run_answer.proofs.OneReply.{all_justified, one_refusal, one_tree, none_or_tree, one_unplanned}
use Rattle.pks_run.proofs.ShortNames.{read_short}
use Rattle.pks_run.specs.Answer.{AnswersJob, IsAnswered, IsReplyTo, LeadsFront, OfAnswersLeft, LeavesAnswers}
use Rattle.pks_run.proofs.Telling.{told_well}
use Rattle.pks_run.specs.Leads.{HasCauses, line_refused, WritesRefusal, Concludes, IsWellLed, WritesTold, TellsWell, TellsBest, Converses}
use Rattle.pks_run.specs.declared.status.Status.{Status}
use Rattle.pks_run.specs.declared.status.Status.TheVariants.{Done, NoPlan, Words, Refused, ReadFault, WriteFault, Memory}

-- ---- statuses

refused_is : {A : Type 0} → Refused ≡ Done → A
refused_is e = absurd cc

no_plan_is : {A : Type 0} → NoPlan ≡ Done → A
no_plan_is e = absurd cc

answered_fault : {A : Type 0} (s : Status) → IsAnswered s → (s ≡ WriteFault) ⊎ (s ≡ ReadFault) → A
answered_fault s a (inl e) = absurd (subst IsAnswered e a)
answered_fault s a (inr e) = absurd (subst IsAnswered e a)

-- ---- the text of a dialogue

-- status and text are those of what was talked
abbrev TalkAnswers : Text → Talked → Status → Text → Type 0
TalkAnswers input talked Done text = PrintsTalk input text talked
TalkAnswers input talked Refused text = PrintsTalkRefused input text talked
TalkAnswers input talked NoPlan text = ⊥
TalkAnswers input talked Words text = ⊥
TalkAnswers input talked ReadFault text = ⊥
TalkAnswers input talked WriteFault text = ⊥
TalkAnswers input talked Memory text = ⊥

one_answer_refused : (input : Text) (end : Talk) (r q : Refusal) → RefusesAnswer input end r → RefusesAnswer input end q → r ≡ q
one_answer_refused input (Over end) r q a b = absurd a
one_answer_refused input (Unfit k) r q a b = a ∙ sym b
one_answer_refused input (Missing k) r q a b = a ∙ sym b

over_or_refused : (input : Text) (end : Talk) (r : Refusal) → IsOver end → RefusesAnswer input end r → ⊥
over_or_refused input (Over end) r a b = b
over_or_refused input (Unfit k) r a b = a
over_or_refused input (Missing k) r a b = a

talk_one : (input : Text) (talked : Talked) (s r : Status) (x y : Text) → TalkAnswers input talked s x → TalkAnswers input talked r y → (s ≡ r) × (x ≡ y)
talk_one input talked Done Done x y a b = (refl, a.1 ∙ sym b.1)
talk_one input talked Done Refused x y a b = absurd (over_or_refused input talked.end b.0 a.0 b.1)
talk_one input talked Done NoPlan x y a b = absurd b
talk_one input talked Done Words x y a b = absurd b
talk_one input talked Done ReadFault x y a b = absurd b
talk_one input talked Done WriteFault x y a b = absurd b
talk_one input talked Done Memory x y a b = absurd b
talk_one input talked Refused Done x y a b = absurd (over_or_refused input talked.end a.0 b.0 a.1)
talk_one input talked Refused Refused x y a b = (refl, a.2 ∙ ap (λ r. talked_text talked ++ refusal_text r) (one_answer_refused input talked.end a.0 b.0 a.1 b.1) ∙ sym b.2)
talk_one input talked Refused NoPlan x y a b = absurd b
talk_one input talked Refused Words x y a b = absurd b
talk_one input talked Refused ReadFault x y a b = absurd b
talk_one input talked Refused WriteFault x y a b = absurd b
talk_one input talked Refused Memory x y a b = absurd b
talk_one input talked NoPlan r x y a b = absurd a
talk_one input talked Words r x y a b = absurd a
talk_one input talked ReadFault r x y a b = absurd a
talk_one input talked WriteFault r x y a b = absurd a
talk_one input talked Memory r x y a b = absurd a

-- there is such a text, which begins with what was said
talk_text : (input : Text) (talked : Talked) (end : Talk) → talked.end ≡ end → (s : Status) × (x : Text) × TalkAnswers input talked s x × ((more : Text) × (x ≡ talked_text talked ++ more))
talk_text input talked (Over end) e = (Done, talked_text talked, (subst IsOver (sym e) tt, refl), ([], nothing (talked_text talked)))
  where
    nothing : (x : Text) → x ≡ x ++ []
    nothing [] = refl
    nothing (b ∷ x) = ap (λ l. b ∷ l) (nothing x)
talk_text input talked (Unfit k) e =
    let r = answer_refusal input k 320 in
    (Refused, talked_text talked ++ refusal_text r, (r, subst (λ end. RefusesAnswer input end r) (sym e) refl, refl), (refusal_text r, refl))
talk_text input talked (Missing k) e =
    let r = answer_refusal input k 321 in
    (Refused, talked_text talked ++ refusal_text r, (r, subst (λ end. RefusesAnswer input end r) (sym e) refl, refl), (refusal_text r, refl))

-- ---- answers to a dialogue about a file

abbrev file_or : File → Reading → File
file_or f (ReadAs g) = g
file_or f (Faulty at code) = f

module _ (n : ℕ) (input : Text) (f : File) (read : IsRead (file_text input) f) (one : (x : Reading) → Reads (file_text input) x → x ≡ ReadAs f) where
  this_file : (g : File) → IsRead (file_text input) g → g ≡ f
  this_file g r = ap (file_or f) (one (ReadAs g) r)

  -- what is so of an accepted file is so of this one
  here : (P : File → Type 0) (g : File) → IsAccepted Reads (Agent n) input g → P g → P f
  here P g accepted p = subst P (this_file g accepted.reads) p

  fine_here : (g : File) → IsAccepted Reads (Agent n) input g → NoneApplies (RefusesFile (Agent n) f)
  fine_here g accepted = subst (λ h. NoneApplies (RefusesFile (Agent n) h)) (this_file g accepted.reads) accepted.fine

  refuses_here : (r : Refusal) (x : Reading) → Reads (file_text input) x → answers.RefusesReading Reads (Agent n) x r → RefusesFile (Agent n) f r
  refuses_here r x reads refuses = subst (λ y. answers.RefusesReading Reads (Agent n) y r) (one x reads) refuses

  -- it is refused
  pub file_refused : (r : Refusal) (x : Text) → RefusesFile (Agent n) f r → x ≡ refusal_text r → IsReplyTo (Agent n) input Refused x
  file_refused r x refuses e = record {
    answers = inl (r, (ReadAs f, read, refuses), e);
    only = only;
    good = λ done. refused_is done;
  }
    where
      not_fine : {A : Type 0} (g : File) → IsAccepted Reads (Agent n) input g → A
      not_fine g accepted = absurd (fine_here g accepted r refuses)

      only : (s : Status) (y : Text) → AnswersJob (Agent n) input s y → (s ≡ Refused) × (y ≡ x)
      only Refused y (inl (q, (reading, reads, other), is)) = (refl, is ∙ ap refusal_text (one_refusal (Agent n) f q r (refuses_here q reading reads other) refuses) ∙ sym e)
      only Refused y (inr (g, accepted, a)) = not_fine g accepted
      only NoPlan y (g, accepted, a) = not_fine g accepted
      only Done y (g, accepted, a) = not_fine g accepted
      only Words y a = absurd a
      only ReadFault y a = absurd a
      only WriteFault y a = absurd a
      only Memory y a = absurd a

  -- where it is refused no dialogue is begun
  pub refused_unled : (r : Refusal) → RefusesFile (Agent n) f r → (g : File) (t : Tree) → IsAccepted Reads (Agent n) input g → IsBest g.problem n (Some t) → ⊥
  refused_unled r refuses g t accepted best = fine_here g accepted r refuses

  -- nor where it has no plan
  pub unplanned_unled : (x : Text) → IsUnplanned (Agent n) f x → (g : File) (t : Tree) → IsAccepted Reads (Agent n) input g → IsBest g.problem n (Some t) → ⊥
  unplanned_unled x none g t accepted best =
      let best_here : IsBest f.problem n (Some t) = subst (λ (h : File). IsBest h.problem n (Some t)) (this_file g accepted.reads) best in
      none_or_tree f.problem none.0 n t none.1 none.2 best_here

  module _ (fine : NoneApplies (RefusesFile (Agent n) f)) where
    accepts : IsAccepted Reads (Agent n) input f
    accepts = record { reads = read; fine = fine }

    -- there is no plan
    pub file_unplanned : (x : Text) → IsUnplanned (Agent n) f x → IsReplyTo (Agent n) input NoPlan x
    file_unplanned x none = record {
      answers = (f, accepts, none);
      only = only;
      good = λ done. no_plan_is done;
    }
      where
        planned : {A : Type 0} (t : Tree) → IsBest f.problem n (Some t) → A
        planned t best = absurd (none_or_tree f.problem none.0 n t none.1 none.2 best)

        only : (s : Status) (y : Text) → AnswersJob (Agent n) input s y → (s ≡ NoPlan) × (y ≡ x)
        only Refused y (inl (q, (reading, reads, other), is)) = absurd (fine q (refuses_here q reading reads other))
        only Refused y (inr (g, accepted, a)) = let b = here (λ h. IsTalkRefused (Agent n) input h y) g accepted a in planned b.0 b.1
        only NoPlan y (g, accepted, a) = (refl, one_unplanned (Agent n) f y x (here (λ h. IsUnplanned (Agent n) h y) g accepted a) none)
        only Done y (g, accepted, a) = let b = here (λ h. IsDone (Agent n) input h y) g accepted a in planned b.0 b.1
        only Words y a = absurd a
        only ReadFault y a = absurd a
        only WriteFault y a = absurd a
        only Memory y a = absurd a

    -- there is one
    module _ (t : Tree) (best : IsBest f.problem n (Some t)) where
      abbrev talked : Talked
      talked = talk_in f input t

      talk_answers : (s : Status) (x : Text) → TalkAnswers input talked s x → AnswersJob (Agent n) input s x
      talk_answers Done x a = (f, accepts, (t, best, a))
      talk_answers Refused x a = inr (f, accepts, (t, best, a))
      talk_answers NoPlan x a = absurd a
      talk_answers Words x a = absurd a
      talk_answers ReadFault x a = absurd a
      talk_answers WriteFault x a = absurd a
      talk_answers Memory x a = absurd a

      answers_talk : (s : Status) (x : Text) → AnswersJob (Agent n) input s x → TalkAnswers input talked s x
      answers_talk Done x (g, accepted, a) =
          let b = here (λ h. IsDone (Agent n) input h x) g accepted a in
          subst (λ u. PrintsTalk input x (talk_in f input u)) (one_tree f.problem n b.0 t b.1 best) b.2
      answers_talk Refused x (inl (q, (reading, reads, other), is)) = absurd (fine q (refuses_here q reading reads other))
      answers_talk Refused x (inr (g, accepted, a)) =
          let b = here (λ h. IsTalkRefused (Agent n) input h x) g accepted a in
          subst (λ u. PrintsTalkRefused input x (talk_in f input u)) (one_tree f.problem n b.0 t b.1 best) b.2
      answers_talk NoPlan x (g, accepted, a) = let none = here (λ h. IsUnplanned (Agent n) h x) g accepted a in absurd (none_or_tree f.problem none.0 n t none.1 none.2 best)
      answers_talk Words x a = absurd a
      answers_talk ReadFault x a = absurd a
      answers_talk WriteFault x a = absurd a
      answers_talk Memory x a = absurd a

      -- a front of its text
      some_front : (old new : Option Text) → AppendsFront old new (talked_text talked) → LeadsFront n input old new
      some_front old new front =
          let a = talk_text input talked talked.end refl in
          (a.0, a.1, talk_answers a.0 a.1 a.2, subst (AppendsFront old new) (sym a.3.1) (front_first old new (talked_text talked) a.3.0 front))

      -- it leads to its goal
      pub well_led : IsValid f.problem → AreNamesOf f.problem f.names → IsWellLed n input
      well_led valid own = record {
        file = f;
        accepted = accepts;
        plan = t;
        best = best;
        leads = λ w fits.
            let led = plan_led f.problem f.names valid own (read_short (file_text input) f read) t w (all_justified (Agent n) f fine) best.0.0 fits in
            record { along = led.0; good = led.1; goal = led.2 };
      }

      module _ (valid : IsValid f.problem) (well : IsWellLed n input) where
        talked_reply : (s : Status) (x : Text) → TalkAnswers input talked s x → IsReplyTo (Agent n) input s x
        talked_reply s x a = record {
          answers = talk_answers s x a;
          only = λ r y b. let same = talk_one input talked r s y x (answers_talk r y b) a in same;
          good = λ done. (
            f,
            read,
            record {
              done = (t, best, subst (λ r. TalkAnswers input talked r x) done a);
              good = λ m u depth best_u. best_is_good f.problem m u (all_justified (Agent n) f fine) valid best_u;
              told = tt;
            },
          );
        }

        -- what comes of its end
        module _ (old mid new left : Option Text) (writes writes' stop : ℕ) (stop_is : stop ≡ stop_line input) where
          -- what was told of it was told of the best plan of the accepted input
          told_here : (s : Status) (fit : List Text) (x : Text) (comes : ComesOfFit f.problem.signature f.names t (answers_in input) fit x) → WritesTold input talked x comes.first.0 old new left s → TellsBest n input old new left s
          told_here s fit x comes written = λ g u accepted best_u.
              let same : g ≡ f = this_file g accepted.reads in
              let best_here : IsBest f.problem n (Some u) = subst (λ (h : File). IsBest h.problem n (Some u)) same best_u in
              subst (λ (h : File). TellsWell h u input old new left s) (sym same) (subst (λ (v : Tree). TellsWell f v input old new left s) (one_tree f.problem n t u best best_here) (told_well n input f t accepts best old new left s fit x comes written))

          left_out : (P : Option (List Text) → Type 0) (kept : ReadAhead) → length (ahead_of kept) ≤ 512 → P (answers_coming (coming kept left)) → OfAnswersLeft P left
          left_out P kept few so = (ahead_of kept, few, by_left left so)
            where
              by_left : (l : Option Text) → P (answers_coming (coming kept l)) → P (option_map (λ bytes. lines_of (ahead_of kept ++ bytes)) l)
              by_left None so = so
              by_left (Some bytes) so = so

          whole : (s : Status) (x : Text) → TalkAnswers input talked s x → Appends old new x → (s ≡ Done → LeavesAnswers n input left) → TellsBest n input old new left s → Converses n input old new left s
          whole s x a appends taken told = record {
            answered = λ h. (x, talked_reply s x a, appends);
            front = λ e. answered_fault s (is_answered s a) e;
            taken = taken;
            led = λ e. well;
            told = told;
          }
            where
              is_answered : (s : Status) → TalkAnswers input talked s x → IsAnswered s
              is_answered Done a = tt
              is_answered Refused a = tt
              is_answered NoPlan a = absurd a
              is_answered Words a = absurd a
              is_answered ReadFault a = absurd a
              is_answered WriteFault a = absurd a
              is_answered Memory a = absurd a

          broken : (s : Status) → (IsAnswered s → ⊥) → LeadsFront n input old new → TellsBest n input old new left s → Converses n input old new left s
          broken s cut front told = record {
            answered = λ h. absurd (cut h);
            front = λ e. front;
            taken = λ e. absurd (cut (subst IsAnswered (sym e) tt));
            led = λ e. absurd (cut (subst IsAnswered (sym e) tt));
            told = told;
          }

          -- a fault cut it short
          cut_short : (s : Status) → (IsAnswered s → ⊥) → AppendsFront old new (talked_text talked) → TellsBest n input old new left s → Converses n input old new left s
          cut_short s cut front told = broken s cut (some_front old new front) told

          -- an answer was refused
          refusing : (k code : ℕ) (s : Status) (fit : List Text) (x : Text) (comes : ComesOfFit f.problem.signature f.names t (answers_in input) fit x) → x ≡ talked_text talked → RefusesAnswer input talked.end (answer_refusal input k code) → Appends old mid (talked_text talked)
              → OfAnswersLeft (LeavesRefused comes.first.0) left → WritesRefusal (line_refused (stop + k) code) mid new writes writes' s → Converses n input old new left s
          refusing k code s fit x comes all refuses said leaves written = by_status s (subst (λ i. WritesRefusal (line_refused (i + k) code) mid new writes writes' s) stop_is written)
            where
              r : Refusal
              r = answer_refusal input k code

              by_status : (s : Status) → WritesRefusal (refusal_text r) mid new writes writes' s → Converses n input old new left s
              by_status Refused w =
                  let appends = appends_more old mid new (talked_text talked) (refusal_text r) said w.0 in
                  whole Refused (talked_text talked ++ refusal_text r) (r, refuses, refl) appends (λ e. refused_is e)
                  (told_here Refused fit x comes (all, (r, refuses, subst (λ (y : Text). Appends old new (y ++ refusal_text r)) (sym all) appends), leaves))
              by_status WriteFault w =
                  let front = front_behind old mid new (talked_text talked) (refusal_text r) said w.0 in
                  broken WriteFault (λ h. h) (Refused, talked_text talked ++ refusal_text r, talk_answers Refused (talked_text talked ++ refusal_text r) (r, refuses, refl), front)
                  (told_here WriteFault fit x comes (inr ((all, (mid, subst (Appends old mid) (sym all) said, (r, refuses, w.0))), leaves)))
              by_status Done w = absurd w
              by_status NoPlan w = absurd w
              by_status Words w = absurd w
              by_status ReadFault w = absurd w
              by_status Memory w = absurd w

          module _ (kept : ReadAhead) (few : length (ahead_of kept) ≤ 512) where
            abbrev LedHere : Result End TalkEnd → Type 0
            LedHere ended = Led old mid (answers_in input) (answers_coming (coming kept left)) ended talked

            takes : (ended : Result End TalkEnd) → LedHere ended → TakesFit f.problem.signature f.names t (answers_in input) old mid (answers_coming (coming kept left)) ended
            takes ended led = takes_fit f.problem.signature f.names t (answers_in input) old mid (answers_coming (coming kept left)) ended led

            pub comes_to : (ended : Result End TalkEnd) (s : Status) → LedHere ended → Concludes ended stop mid new writes writes' s → Converses n input old new left s
            comes_to (Ok end) s led ends =
                let is_over = subst IsOver (sym led.0) tt in
                let appends = subst (λ m. Appends old m (talked_text talked)) (sym ends.1) led.1 in
                let taken = takes (Ok end) led in
                subst (λ t. Converses n input old new left t) (sym ends.0)
                (whole Done (talked_text talked) (is_over, refl) appends (λ e. (f, accepts, (t, best, left_out (λ answers. answers ≡ Some talked.left) kept few led.2)))
                (told_here Done taken.fit taken.text taken.comes (taken.whole, is_over, subst (λ m. Appends old m taken.text) (sym ends.1) taken.appends, left_out (λ answers. answers ≡ Some taken.comes.first.0) kept few taken.left_is)))
            comes_to (Err (Misfit k)) s led ends =
                let taken = takes (Err (Misfit k)) led in
                refusing k 320 s taken.fit taken.text taken.comes taken.whole (subst (λ end. RefusesAnswer input end (answer_refusal input k 320)) (sym led.0) refl) led.1 (left_out (LeavesRefused taken.comes.first.0) kept few taken.left_is) ends
            comes_to (Err (Silent k)) s led ends =
                let taken = takes (Err (Silent k)) led in
                refusing k 321 s taken.fit taken.text taken.comes taken.whole (subst (λ end. RefusesAnswer input end (answer_refusal input k 321)) (sym led.0) refl) led.1 (left_out (LeavesRefused taken.comes.first.0) kept few taken.left_is) ends
            comes_to (Err (Failed Send)) s led ends =
                let taken = takes (Err (Failed Send)) led in
                let front = front_broken old mid (answers_in input) (answers_coming (coming kept left)) talked led in
                subst (λ t. Converses n input old new left t) (sym ends.0) (cut_short WriteFault (λ h. h) (subst (λ m. AppendsFront old m (talked_text talked)) (sym ends.1) front)
                (told_here WriteFault taken.fit taken.text taken.comes (inl (subst (λ m. Appends old m taken.text) (sym ends.1) taken.appends, left_out (λ answers. answers ≡ Some taken.comes.first.0) kept few taken.left_is))))
            comes_to (Err (Failed Receive)) s led ends =
                let taken = takes (Err (Failed Receive)) led in
                subst (λ t. Converses n input old new left t) (sym ends.0) (cut_short ReadFault (λ h. h) (subst (λ m. AppendsFront old m (talked_text talked)) (sym ends.1) led)
                (told_here ReadFault taken.fit taken.text taken.comes (subst (λ m. Appends old m taken.text) (sym ends.1) taken.appends)))

-- ---- causes

module _ (reads reads' writes writes' writes'' : ℕ) where
  abbrev Causes : Status → Type 0
  Causes s = HasCauses reads reads' writes writes'' s

  refused_causes : (end : TalkEnd) (text : Text) (old new : Option Text) (s : Status) → (reads' ≡ reads) × (writes' ≡ writes) → WritesRefusal text old new writes' writes'' s → Causes s
  refused_causes end text old new Refused still w = record {
    later_reads = omega (arith, still.0);
    later_writes = omega (arith, still.1, w.1);
    read = λ e. absurd cc;
    write = λ e. absurd cc;
    still_reads = λ h. still.0;
    still_writes = λ h. w.1 ∙ still.1;
  }
  refused_causes end text old new WriteFault still w = record {
    later_reads = omega (arith, still.0);
    later_writes = omega (arith, still.1, w.2);
    read = λ e. absurd cc;
    write = λ e. subst (λ n. Rose n writes'') still.1 w.1;
    still_reads = λ h. still.0;
    still_writes = λ h. absurd (h refl);
  }
  refused_causes end text old new Done still w = absurd w
  refused_causes end text old new NoPlan still w = absurd w
  refused_causes end text old new Words still w = absurd w
  refused_causes end text old new ReadFault still w = absurd w
  refused_causes end text old new Memory still w = absurd w

  pub ended_causes : (ended : Result End TalkEnd) (stop : ℕ) (old new : Option Text) (s : Status) → HasTalkCause writes writes' reads reads' ended → Concludes ended stop old new writes' writes'' s → Causes s
  ended_causes (Ok end) stop old new s cause ends = subst Causes (sym ends.0) (record {
    later_reads = cause.later_receipts;
    later_writes = omega (arith, cause.later_sends, ends.2);
    read = λ e. absurd cc;
    write = λ e. absurd cc;
    still_reads = λ h. cause.still.1;
    still_writes = λ h. ends.2 ∙ cause.still.0;
  })
  ended_causes (Err (Misfit k)) stop old new s cause ends = refused_causes (Misfit k) (line_refused (stop + k) 320) old new s (cause.other.1, cause.other.0) ends
  ended_causes (Err (Silent k)) stop old new s cause ends = refused_causes (Silent k) (line_refused (stop + k) 321) old new s (cause.other.1, cause.other.0) ends
  ended_causes (Err (Failed Send)) stop old new s cause ends = subst Causes (sym ends.0) (record {
    later_reads = cause.later_receipts;
    later_writes = omega (arith, cause.later_sends, ends.2);
    read = λ e. absurd cc;
    write = λ e. subst (λ n. Rose writes n) (sym ends.2) cause.risen;
    still_reads = λ h. cause.other;
    still_writes = λ h. absurd (h refl);
  })
  ended_causes (Err (Failed Receive)) stop old new s cause ends = subst Causes (sym ends.0) (record {
    later_reads = cause.later_receipts;
    later_writes = omega (arith, cause.later_sends, ends.2);
    read = λ e. cause.risen;
    write = λ e. absurd cc;
    still_reads = λ h. absurd (h refl);
    still_writes = λ h. ends.2 ∙ cause.other;
  })
