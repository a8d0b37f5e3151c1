-- Words and an input have an answer.
use Rattle.std.proofs.Common.{◌≡◌, inl, inr, ⊎_elim, ℕ, List, [], ◌++◌, Option, Some, None, refl, sym, subst}
use Rattle.pks_terms.specs.Valid.{IsValid}
use Rattle.pks_terms.specs.Knowledge.{run_of}
use Rattle.pks_terms.specs.Trees.{Tree, IsPlan, IsBest}
use Rattle.pks_terms.specs.Printed.{Text, accepted_text, none_text, refusal_text, tree_text, run_text, bench_text}
use Rattle.pks_terms.specs.Jobs.{all_modes, Job, Check, Plan, Exec, Bench, Recall, Agent, Explain, Derive, Shared, Asks, usage_text, depth_for}
use Rattle.pks_terms.specs.Recalled.{recall_text}
use Rattle.pks_terms.specs.Explained.{explained_text}
use Rattle.pks_terms.specs.Shapes.{derive_text}
use Rattle.pks_terms.specs.Nodes.{Node, IsShared, shared_text}
use Rattle.pks_terms.specs.Talk.{TalkEnd, Over, Unfit, Missing, talked_text, IsOver, answer_refusal, RefusesAnswer}
use Rattle.pks_terms.specs.Answers.{File, Reading, ReadAs, Faulty, refusal, Status, Done, NoPlan, Words, Refused, ReadFault, WriteFault, Memory, text_for, talk_in, IsOfBest, PrintsRun, PrintsRecalled, PrintsExplained, PrintsShared, IsAccepted, AnswersJob, IsAnswer}
use Rattle.pks_laws.proofs.Accepting.{all_justified}
use Rattle.pks_laws_explain.proofs.Owed.{plan_explained}
use Rattle.pks_dag.specs.Sharing.{shared_in}
use Rattle.pks_dag.proofs.SharedOnce.{shared_is}
use Rattle.pks_reader.specs.Inputs.{Reads}
use Rattle.pks_laws_explain.proofs.Asked.{asked}
use Rattle.pks_laws_explain.proofs.Leaves.{recalled}
use Rattle.pks_laws_explain.proofs.Readings.{reads, read_valid, read_world}
use Rattle.pks_laws_explain.proofs.Refusing.{decides_file, none_unjustified, run_world}
use Rattle.pks_laws_explain.proofs.Searched.{best}

-- a tree has a list of nodes
shared : (t : Tree) → (nodes : List Node) × IsShared t nodes
shared t = ((shared_in [] t).0, shared_is t)

-- some status and text answer the job and the input
abbrev HasAnswer : Job → Text → Type 0
HasAnswer j input = (status : Status) × (text : Text) × AnswersJob Reads j input status text

module _ (input : Text) (f : File) (valid : IsValid f.problem) where
  -- there is no plan, or the best one has a text of which P holds
  planned : (j : Job) (n : ℕ) → depth_for j ≡ Some n → IsAccepted Reads j input f → (P : Text → Tree → Type 0) → ((t : Tree) → IsPlan f.problem t → (text : Text) × P text t) → ((text : Text) → IsOfBest n f (P text) → HasAnswer j input) → HasAnswer j input
  planned j n deep accepted P tells done = by_best (best f.problem valid n).0 (best f.problem valid n).1
    where
      by_best : (o : Option Tree) → IsBest f.problem n o → HasAnswer j input
      by_best None is = (NoPlan, none_text n, (f, accepted, (n, deep, is, refl)))
      by_best (Some t) is = let told = tells t is.0.0 in done told.0 (t, is, told.1)

  leads_on : (n : ℕ) → IsAccepted Reads (Agent n) input f → (t : Tree) → IsBest f.problem n (Some t) → (end : TalkEnd) → (talk_in f input t).end ≡ end → HasAnswer (Agent n) input
  leads_on n accepted t is (Over end) e = (Done, talked_text (talk_in f input t), (f, accepted, (t, is, (subst IsOver (sym e) tt, refl))))
  leads_on n accepted t is (Unfit k) e =
      let r = answer_refusal input k 320 in
      (Refused, talked_text (talk_in f input t) ++ refusal_text r, inr (f, accepted, (t, is, (r, subst (λ end. RefusesAnswer input end r) (sym e) refl, refl))))
  leads_on n accepted t is (Missing k) e =
      let r = answer_refusal input k 321 in
      (Refused, talked_text (talk_in f input t) ++ refusal_text r, inr (f, accepted, (t, is, (r, subst (λ end. RefusesAnswer input end r) (sym e) refl, refl))))

  leads : (n : ℕ) → IsAccepted Reads (Agent n) input f → (o : Option Tree) → IsBest f.problem n o → HasAnswer (Agent n) input
  leads n accepted None is = (NoPlan, none_text n, (f, accepted, (n, refl, is, refl)))
  leads n accepted (Some t) is = leads_on n accepted t is (talk_in f input t).end refl

  -- a file that is accepted has an answer
  done : (j : Job) → IsAccepted Reads j input f → HasAnswer j input
  done Check accepted = (Done, accepted_text, (f, accepted, refl))
  done Derive accepted = (Done, derive_text f.names f.parameters f.problem, (f, accepted, refl))
  done (Plan n) accepted = planned (Plan n) n refl accepted (λ text t. text ≡ tree_text f.names t) (λ t plan. (tree_text f.names t, refl)) (λ text is. (Done, text, (f, accepted, is)))
  done (Bench n) accepted = planned (Bench n) 2 refl accepted (λ text t. text ≡ bench_text n t) (λ t plan. (bench_text n t, refl)) (λ text is. (Done, text, (f, accepted, is)))
  done (Exec n) accepted =
      let world = run_world n f accepted.fine in
      planned (Exec n) n refl accepted (PrintsRun f) (λ t plan. (run_text f.names (run_of f.problem t world.0), (world.0, world.1, refl))) (λ text is. (Done, text, (f, accepted, is)))
  done (Recall n) accepted =
      planned (Recall n) n refl accepted (PrintsRecalled f)
      (λ t plan. let xs = recalled f.problem t plan in (tree_text f.names t ++ recall_text f.names xs.0, (xs.0, xs.1, refl)))
      (λ text is. (Done, text, (f, accepted, is)))
  done (Explain n) accepted =
      let justified = all_justified f.problem (none_unjustified (Explain n) f accepted.fine) in
      planned (Explain n) n refl accepted (PrintsExplained f)
      (λ t plan. let es = plan_explained f.problem t valid justified plan in (tree_text f.names t ++ explained_text f.names es.0, (es.0, es.1, refl)))
      (λ text is. (Done, text, (f, accepted, is)))
  done (Shared n) accepted =
      planned (Shared n) n refl accepted (PrintsShared f)
      (λ t plan. let nodes = shared t in (shared_text f.names nodes.0, (nodes.0, nodes.1, refl)))
      (λ text is. (Done, text, (f, accepted, is)))
  done (Agent n) accepted = let b = best f.problem valid n in leads n accepted b.0 b.1

-- each job has an answer, whatever the input
pub has_answer : (j : Job) (input : Text) → HasAnswer j input
has_answer j input = let x = reads (text_for j input) in by_reading x.0 x.1
  where
    by_reading : (x : Reading) → Reads (text_for j input) x → HasAnswer j input
    by_reading (Faulty at code) read = (Refused, refusal_text (refusal at code []), inl (refusal at code [], (Faulty at code, read, refl), refl))
    by_reading (ReadAs f) read =
        ⊎_elim
        (λ refused. (Refused, refusal_text refused.0, inl (refused.0, (ReadAs f, read, refused.1), refl)))
        (λ none. done input f (read_valid (text_for j input) f read) j (record { reads = read; fine = none }))
        (decides_file f (λ w e. read_world (text_for j input) f read w e) j)

-- ---- words

of_job : (words : List Text) (input : Text) (j : Job) → Asks all_modes words j → (status : Status) (text : Text) → AnswersJob Reads j input status text → IsAnswer Reads all_modes words input status text
of_job words input j asks Done text is = (j, asks, is)
of_job words input j asks NoPlan text is = (j, asks, is)
of_job words input j asks Refused text is = (j, asks, is)
of_job words input j asks Words text is = absurd is
of_job words input j asks ReadFault text is = absurd is
of_job words input j asks WriteFault text is = absurd is
of_job words input j asks Memory text is = absurd is

pub answered : (words : List Text) (input : Text) → (status : Status) × (text : Text) × IsAnswer Reads all_modes words input status text
answered words input =
    ⊎_elim
    (λ job. let a = has_answer job.0 input in (a.0, a.1, of_job words input job.0 job.1 a.0 a.1 a.2))
    (λ none. (Words, usage_text all_modes, (none, refl)))
    (asked words)
