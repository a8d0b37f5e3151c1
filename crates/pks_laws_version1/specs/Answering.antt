-- Answers about files by the rules of the first version. What a proof in an explanation may have isn't a rule of a version.
use Rattle.std.specs.Prelude.{ℕ, ◌≡◌, ◌⊎◌, List, [], ◌∷◌, ◌++◌, Some, None}
use Rattle.pks_terms.specs.declared.codes.TheConstants.{INITIAL_CLASH}
use Rattle.pks_terms.specs.Syntax.{Term, Literal}
use Rattle.pks_terms.specs.Closure.{Outcome, Clash}
use Rattle.pks_terms.specs.Problems.{Problem, initial}
use Rattle.pks_terms.specs.Branching.{BranchOn, CasesOn, AsTrue, AsFalse, Is}
use Rattle.pks_terms.specs.Settling.{History, State}
use Rattle.pks_terms.specs.Trees.{Tree, Goal, Impossible, Do, Branch, Cases, Chain, End, More, IsAt, start_state}
use Rattle.pks_terms.specs.Printed.{Text, Refusal, accepted_text, none_text, refusal_text, tree_text, bench_text}
use Rattle.pks_terms.specs.Jobs.{Job, Check, Plan, Exec, Bench, Recall, Agent, Explain, Derive, Shared, depth_for}
use Rattle.pks_terms.specs.Recalled.{recall_text}
use Rattle.pks_terms.specs.Shapes.{derive_text}
use Rattle.pks_terms.specs.Answers.{File, Reading, ReadAs, Faulty, refusal, RefusesAdd, RefusesFor, NoneApplies, Status, Done, NoPlan, Words, Refused, ReadFault, WriteFault, Memory, text_for, PrintsRun, PrintsExplained, PrintsShared, talk_in, PrintsTalk, PrintsTalkRefused}
use Rattle.pks_laws_version1.specs.Closing.{Closes}
use Rattle.pks_laws_version1.specs.Trees.{Acts, Takes, IsBest}

-- ---- what each end of a plan knows

-- from a state on, the tree's leaves are come to at these states, from left to right
abbrev mutual
  pub AreLeaves : Problem → State → Tree → List State → Type 0
  AreLeaves p x Goal xs = xs ≡ x ∷ []
  AreLeaves p x Impossible xs = xs ≡ x ∷ []
  AreLeaves p x (Do i t) xs = IsAt x (λ h. (y : State) × Acts p h i y × AreLeaves p y t xs)
  AreLeaves p x (Branch c t u) xs =
      IsAt x (λ h. (ys zs : List State) × ((y : State) × Takes p h (BranchOn c) AsTrue y × AreLeaves p y t ys)
      × ((z : State) × Takes p h (BranchOn c) AsFalse z × AreLeaves p z u zs) × (xs ≡ ys ++ zs))
  AreLeaves p x (Cases t k) xs = IsAt x (λ h. AreLeavesOfEach p h t k xs)

  -- so it is of the cases of a term, in order
  pub AreLeavesOfEach : Problem → History → Term → Chain → List State → Type 0
  AreLeavesOfEach p h t End xs = xs ≡ []
  AreLeavesOfEach p h t (More e u k) xs =
      (ys zs : List State) × ((y : State) × Takes p h (CasesOn t) (Is e) y × AreLeaves p y u ys) × AreLeavesOfEach p h t k zs × (xs ≡ ys ++ zs)

-- the states at the leaves of a plan
pub record IsRecalled (p : Problem) (t : Tree) (xs : List State) : Type 0 where
  pub outcome : Outcome
  pub closes : Closes p.signature (initial p) outcome
  pub leaves : AreLeaves p (start_state outcome) t xs

-- ---- refusals and answers

-- the initial databases clash
abbrev pub RefusesStart : File → Refusal → Type 0
RefusesStart f r = (l : Literal) × Closes f.problem.signature (initial f.problem) (Clash l) × (r ≡ refusal f.init_at INITIAL_CLASH [])

-- the first that applies
abbrev pub RefusesFile : Job → File → Refusal → Type 0
RefusesFile j f r = RefusesAdd f r ⊎ (NoneApplies (RefusesAdd f) × (RefusesStart f r ⊎ (NoneApplies (RefusesStart f) × RefusesFor j f r)))

-- the text is made of the best plan to this depth
abbrev pub IsOfBest : ℕ → File → (Tree → Type 0) → Type 0
IsOfBest n f P = (t : Tree) × IsBest f.problem n (Some t) × P t

-- the plan, and what each of its ends knows
abbrev pub PrintsRecalled : File → Text → Tree → Type 0
PrintsRecalled f text t = (xs : List State) × IsRecalled f.problem t xs × (text ≡ tree_text f.names t ++ recall_text f.names xs)

-- the text of a job that is done
abbrev pub IsDone : Job → Text → File → Text → Type 0
IsDone Check input f text = text ≡ accepted_text
IsDone (Plan n) input f text = IsOfBest n f (λ t. text ≡ tree_text f.names t)
IsDone (Exec n) input f text = IsOfBest n f (PrintsRun f text)
IsDone (Bench n) input f text = IsOfBest 2 f (λ t. text ≡ bench_text n t)
IsDone (Recall n) input f text = IsOfBest n f (PrintsRecalled f text)
IsDone (Agent n) input f text = IsOfBest n f (λ t. PrintsTalk input text (talk_in f input t))
IsDone (Explain n) input f text = IsOfBest n f (PrintsExplained f text)
IsDone Derive input f text = text ≡ derive_text f.names f.parameters f.problem
IsDone (Shared n) input f text = IsOfBest n f (PrintsShared f text)

-- the text of a dialogue that is refused for an answer
abbrev pub IsTalkRefused : Job → Text → File → Text → Type 0
IsTalkRefused (Agent n) input f text = IsOfBest n f (λ t. PrintsTalkRefused input text (talk_in f input t))
IsTalkRefused j input f text = ⊥

-- there is no plan to the depth of the job
abbrev pub IsUnplanned : Job → File → Text → Type 0
IsUnplanned j f text = (n : ℕ) × (depth_for j ≡ Some n) × IsBest f.problem n None × (text ≡ none_text n)

-- over any way to read a text
module _ (Reads : Text → Reading → Type 0) where
  -- the fault that was read, or the first code that applies to the file
  abbrev pub RefusesReading : Job → Reading → Refusal → Type 0
  RefusesReading j (ReadAs f) r = RefusesFile j f r
  RefusesReading j (Faulty at code) r = r ≡ refusal at code []

  -- the input is refused so for this job
  abbrev pub Refuses : Job → Text → Refusal → Type 0
  Refuses j input r = (x : Reading) × Reads (text_for j input) x × RefusesReading j x r

  -- the input reads as this file, and no code applies to it
  pub record IsAccepted (j : Job) (input : Text) (f : File) : Type 0 where
    pub reads : Reads (text_for j input) (ReadAs f)
    pub fine : NoneApplies (RefusesFile j f)

  -- the input is accepted for the job, and of its file this is so
  abbrev pub AcceptedAs : Job → Text → (File → Type 0) → Type 0
  AcceptedAs j input P = (f : File) × IsAccepted j input f × P f

  -- the line of the first code that applies to the input, or the dialogue up to an answer that is refused
  abbrev pub PrintsRefused : Job → Text → Text → Type 0
  PrintsRefused j input text = ((r : Refusal) × Refuses j input r × (text ≡ refusal_text r)) ⊎ AcceptedAs j input (λ f. IsTalkRefused j input f text)

  -- status and text answer a job and the input
  abbrev pub AnswersJob : Job → Text → Status → Text → Type 0
  AnswersJob j input Refused text = PrintsRefused j input text
  AnswersJob j input NoPlan text = AcceptedAs j input (λ f. IsUnplanned j f text)
  AnswersJob j input Done text = AcceptedAs j input (λ f. IsDone j input f text)
  AnswersJob j input Words text = ⊥
  AnswersJob j input ReadFault text = ⊥
  AnswersJob j input WriteFault text = ⊥
  AnswersJob j input Memory text = ⊥
