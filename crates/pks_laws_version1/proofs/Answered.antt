-- Answers about a file of the first version are those by the rules of that version.
use Rattle.std.proofs.Common.{◌≡◌, ◌⊎◌, ◌↔◌, ◌++◌, ℕ, List, [], ◌∷◌, Option, Some, None, refl, sym, ap, ◌∙◌, subst, inl, inr, ⊎_elim}
use Rattle.pks_terms.specs.Sets.{Each, IsIn}
use Rattle.pks_terms.specs.Syntax.{Term, Literal}
use Rattle.pks_terms.specs.Closure.{Outcome, Clash, Closes}
use Rattle.pks_terms.specs.Problems.{Problem, initial}
use Rattle.pks_terms.specs.Branching.{Choice, BranchOn, CasesOn, Side, AsTrue, AsFalse, Is}
use Rattle.pks_terms.specs.Settling.{History, last_moment, State, At, Stopped}
use Rattle.pks_terms.specs.Trees.{Tree, Goal, Impossible, Do, Branch, Cases, Chain, End, More, objects_in, Acts, Takes, Derives, DerivesEach, start_state, IsPlan}
use Rattle.pks_terms.specs.Printed.{Text, Refusal}
use Rattle.pks_terms.specs.Jobs.{Job, Check, Plan, Exec, Bench, Recall, Agent, Explain, Derive, Shared}
use Rattle.pks_terms.specs.Recalled.{AreLeaves, AreLeavesOfEach, IsRecalled}
use Rattle.pks_terms.specs.Answers as answers
use Rattle.pks_terms.specs.Answers.{File, Reading, ReadAs, Faulty, Status, Done, NoPlan, Words, Refused, ReadFault, WriteFault, Memory, text_for}
use Rattle.pks_terms.specs.Valid.{IsValid}
use Rattle.pks_terms.specs.Versions.{IsFirstVersion}
use Rattle.pks_laws.specs.OfSignature.{IsSideOf}
use Rattle.pks_laws.proofs.Unique.{closes_one, acts_one, takes_one}
use Rattle.pks_laws_version1.specs.Closing as closing
use Rattle.pks_laws_version1.specs.Trees as trees
use Rattle.pks_laws_version1.specs.Answering as first
use Rattle.pks_laws_version1.specs.OfFirst.{IsOfFirstAlong}
use Rattle.pks_laws_version1.proofs.Rounds.{closes_first, closes_from_first}
use Rattle.pks_laws_version1.proofs.Plans.{initial_first, IsFirstState, acts_to, acts_back, acts_state, takes_to, takes_back, takes_state, sides_left, start_first, best_first, best_from_first}

module _ (p : Problem) (v : IsValid p) (f : IsFirstVersion p) where
  abbrev S : Rattle.pks_terms.specs.Signatures.Signature
  S = p.signature

  abbrev G : State → Type 0
  G = IsFirstState p v f

  -- ---- the leaves of a derived tree

  -- what is derived after a side is derived at any state after it
  after_side : (h : History) (c : Choice) (side : Side) (y z : State) (t : Tree) → Takes p h c side y → Takes p h c side z → Derives p y t → Derives p z t
  after_side h c side y z t a b d = subst (λ x. Derives p x t) (takes_one p h c side y z a b) d

  mutual
    leaves_to : (t : Tree) (x : State) → G x → Derives p x t → (xs : List State) → AreLeaves p x t xs → first.AreLeaves p x t xs
    leaves_to Goal x m d xs l = l
    leaves_to Impossible x m d xs l = l
    leaves_to (Do i t) (At h) m d xs l =
        let n = m h refl in
        let below = subst (λ y. Derives p y t) (acts_one p h i d.1.0 l.0 d.1.1 l.1) d.1.2 in
        (l.0, acts_to p v f h n i d.0 l.0 l.1, leaves_to t l.0 (acts_state p v f h n i d.0 l.0 l.1) below xs l.2)
    leaves_to (Branch c t u) (At h) m d xs l =
        let n = m h refl in (
          l.0,
          l.1,
          (l.2.0, takes_to p v f h n (BranchOn c) AsTrue d.0 tt l.2.0 l.2.1, leaves_to t l.2.0 (takes_state p v f h n (BranchOn c) AsTrue d.0 tt l.2.0 l.2.1) (after_side h (BranchOn c) AsTrue d.2.0 l.2.0 t d.2.1 l.2.1 d.2.2) l.0 l.2.2),
          (l.3.0, takes_to p v f h n (BranchOn c) AsFalse d.0 tt l.3.0 l.3.1, leaves_to u l.3.0 (takes_state p v f h n (BranchOn c) AsFalse d.0 tt l.3.0 l.3.1) (after_side h (BranchOn c) AsFalse d.3.0 l.3.0 u d.3.1 l.3.1 d.3.2) l.1 l.3.2),
          l.4,
        )
    leaves_to (Cases t k) (At h) m d xs l = let n = m h refl in each_to k h n t d.0 (sides_left p v f h n t (objects_in k) d.2) d.3 xs l
    leaves_to (Do i t) Stopped m d xs l = absurd l
    leaves_to (Branch c t u) Stopped m d xs l = absurd l
    leaves_to (Cases t k) Stopped m d xs l = absurd l

    each_to : (k : Chain) (h : History) (n : IsOfFirstAlong p h) (t : Term) → IsIn t (last_moment h).kv → Each (λ e. IsSideOf S (CasesOn t) (Is e)) (objects_in k) → DerivesEach p h t k → (xs : List State) → AreLeavesOfEach p h t k xs → first.AreLeavesOfEach p h t k xs
    each_to End h n t i a d xs l = l
    each_to (More e u k) h n t i a d xs l = (
      l.0,
      l.1,
      (l.2.0, takes_to p v f h n (CasesOn t) (Is e) i a.0 l.2.0 l.2.1, leaves_to u l.2.0 (takes_state p v f h n (CasesOn t) (Is e) i a.0 l.2.0 l.2.1) (after_side h (CasesOn t) (Is e) d.0.0 l.2.0 u d.0.1 l.2.1 d.0.2) l.0 l.2.2),
      each_to k h n t i a.1 d.1 l.1 l.3,
      l.4,
    )

  mutual
    leaves_back : (t : Tree) (x : State) → G x → Derives p x t → (xs : List State) → first.AreLeaves p x t xs → AreLeaves p x t xs
    leaves_back Goal x m d xs l = l
    leaves_back Impossible x m d xs l = l
    leaves_back (Do i t) (At h) m d xs l =
        let n = m h refl in
        let a = acts_back p v f h n i d.0 l.0 l.1 in
        let below = subst (λ y. Derives p y t) (acts_one p h i d.1.0 l.0 d.1.1 a) d.1.2 in
        (l.0, a, leaves_back t l.0 (acts_state p v f h n i d.0 l.0 a) below xs l.2)
    leaves_back (Branch c t u) (At h) m d xs l =
        let n = m h refl in
        let a = takes_back p v f h n (BranchOn c) AsTrue d.0 tt l.2.0 l.2.1 in
        let b = takes_back p v f h n (BranchOn c) AsFalse d.0 tt l.3.0 l.3.1 in (
          l.0,
          l.1,
          (l.2.0, a, leaves_back t l.2.0 (takes_state p v f h n (BranchOn c) AsTrue d.0 tt l.2.0 a) (after_side h (BranchOn c) AsTrue d.2.0 l.2.0 t d.2.1 a d.2.2) l.0 l.2.2),
          (l.3.0, b, leaves_back u l.3.0 (takes_state p v f h n (BranchOn c) AsFalse d.0 tt l.3.0 b) (after_side h (BranchOn c) AsFalse d.3.0 l.3.0 u d.3.1 b d.3.2) l.1 l.3.2),
          l.4,
        )
    leaves_back (Cases t k) (At h) m d xs l = let n = m h refl in each_back k h n t d.0 (sides_left p v f h n t (objects_in k) d.2) d.3 xs l
    leaves_back (Do i t) Stopped m d xs l = absurd l
    leaves_back (Branch c t u) Stopped m d xs l = absurd l
    leaves_back (Cases t k) Stopped m d xs l = absurd l

    each_back : (k : Chain) (h : History) (n : IsOfFirstAlong p h) (t : Term) → IsIn t (last_moment h).kv → Each (λ e. IsSideOf S (CasesOn t) (Is e)) (objects_in k) → DerivesEach p h t k → (xs : List State) → first.AreLeavesOfEach p h t k xs → AreLeavesOfEach p h t k xs
    each_back End h n t i a d xs l = l
    each_back (More e u k) h n t i a d xs l =
        let b = takes_back p v f h n (CasesOn t) (Is e) i a.0 l.2.0 l.2.1 in (
          l.0,
          l.1,
          (l.2.0, b, leaves_back u l.2.0 (takes_state p v f h n (CasesOn t) (Is e) i a.0 l.2.0 b) (after_side h (CasesOn t) (Is e) d.0.0 l.2.0 u d.0.1 b d.0.2) l.0 l.2.2),
          each_back k h n t i a.1 d.1 l.1 l.3,
          l.4,
        )

  derived_there : (t : Tree) → IsPlan p t → (o : Outcome) → Closes S (initial p) o → Derives p (start_state o) t
  derived_there t k o c = subst (λ o. Derives p (start_state o) t) (closes_one S (initial p) k.outcome o k.closes c) k.derives

  pub recalled_to : (t : Tree) (xs : List State) → IsPlan p t → IsRecalled p t xs → first.IsRecalled p t xs
  recalled_to t xs k r = record {
    outcome = r.outcome;
    closes = closes_first S f.parents (initial p) r.outcome (initial_first p v f) r.closes;
    leaves = leaves_to t (start_state r.outcome) (start_first p v f r.outcome r.closes) (derived_there t k r.outcome r.closes) xs r.leaves;
  }

  pub recalled_back : (t : Tree) (xs : List State) → IsPlan p t → first.IsRecalled p t xs → IsRecalled p t xs
  recalled_back t xs k r =
      let c = closes_from_first S f.parents (initial p) r.outcome (initial_first p v f) r.closes in
      record { outcome = r.outcome; closes = c; leaves = leaves_back t (start_state r.outcome) (start_first p v f r.outcome c) (derived_there t k r.outcome c) xs r.leaves }

-- ---- one file

module _ (file : File) (v : IsValid file.problem) (f : IsFirstVersion file.problem) where
  start_to : (r : Refusal) → answers.RefusesStart file r → first.RefusesStart file r
  start_to r k = (k.0, closes_first file.problem.signature f.parents (initial file.problem) (Clash k.0) (initial_first file.problem v f) k.1, k.2)

  start_back : (r : Refusal) → first.RefusesStart file r → answers.RefusesStart file r
  start_back r k = (k.0, closes_from_first file.problem.signature f.parents (initial file.problem) (Clash k.0) (initial_first file.problem v f) k.1, k.2)

  pub refuses_to : (j : Job) (r : Refusal) → answers.RefusesFile j file r → first.RefusesFile j file r
  refuses_to j r (inl a) = inl a
  refuses_to j r (inr k) = inr (k.0, ⊎_elim (λ s. inl (start_to r s)) (λ q. inr ((λ x s. q.0 x (start_back x s)), q.1)) k.1)

  pub refuses_back : (j : Job) (r : Refusal) → first.RefusesFile j file r → answers.RefusesFile j file r
  refuses_back j r (inl a) = inl a
  refuses_back j r (inr k) = inr (k.0, ⊎_elim (λ s. inl (start_back r s)) (λ q. inr ((λ x s. q.0 x (start_to x s)), q.1)) k.1)

  best_to : (n : ℕ) (P Q : Tree → Type 0) → ((t : Tree) → IsPlan file.problem t → P t → Q t) → answers.IsOfBest n file P → first.IsOfBest n file Q
  best_to n P Q g b = (b.0, best_first file.problem v f n (Some b.0) b.1, g b.0 b.1.0.0 b.2)

  best_back : (n : ℕ) (P Q : Tree → Type 0) → ((t : Tree) → IsPlan file.problem t → Q t → P t) → first.IsOfBest n file Q → answers.IsOfBest n file P
  best_back n P Q g b = let best = best_from_first file.problem v f n (Some b.0) b.1 in (b.0, best, g b.0 best.0.0 b.2)

  same_to : (n : ℕ) (P : Tree → Type 0) → answers.IsOfBest n file P → first.IsOfBest n file P
  same_to n P = best_to n P P (λ t k q. q)

  same_back : (n : ℕ) (P : Tree → Type 0) → first.IsOfBest n file P → answers.IsOfBest n file P
  same_back n P = best_back n P P (λ t k q. q)

  pub done_to : (j : Job) (input text : Text) → answers.IsDone j input file text → first.IsDone j input file text
  done_to Check input text d = d
  done_to (Plan n) input text d = same_to n _ d
  done_to (Exec n) input text d = same_to n _ d
  done_to (Bench n) input text d = same_to 2 _ d
  done_to (Recall n) input text d = best_to n (answers.PrintsRecalled file text) (first.PrintsRecalled file text) (λ t k q. (q.0, recalled_to file.problem v f t q.0 k q.1, q.2)) d
  done_to (Agent n) input text d = same_to n _ d
  done_to (Explain n) input text d = same_to n _ d
  done_to Derive input text d = d
  done_to (Shared n) input text d = same_to n _ d

  pub done_back : (j : Job) (input text : Text) → first.IsDone j input file text → answers.IsDone j input file text
  done_back Check input text d = d
  done_back (Plan n) input text d = same_back n _ d
  done_back (Exec n) input text d = same_back n _ d
  done_back (Bench n) input text d = same_back 2 _ d
  done_back (Recall n) input text d = best_back n (answers.PrintsRecalled file text) (first.PrintsRecalled file text) (λ t k q. (q.0, recalled_back file.problem v f t q.0 k q.1, q.2)) d
  done_back (Agent n) input text d = same_back n _ d
  done_back (Explain n) input text d = same_back n _ d
  done_back Derive input text d = d
  done_back (Shared n) input text d = same_back n _ d

  pub talk_to : (j : Job) (input text : Text) → answers.IsTalkRefused j input file text → first.IsTalkRefused j input file text
  talk_to (Agent n) input text d = same_to n _ d
  talk_to Check input text d = absurd d
  talk_to (Plan n) input text d = absurd d
  talk_to (Exec n) input text d = absurd d
  talk_to (Bench n) input text d = absurd d
  talk_to (Recall n) input text d = absurd d
  talk_to (Explain n) input text d = absurd d
  talk_to Derive input text d = absurd d
  talk_to (Shared n) input text d = absurd d

  pub talk_back : (j : Job) (input text : Text) → first.IsTalkRefused j input file text → answers.IsTalkRefused j input file text
  talk_back (Agent n) input text d = same_back n _ d
  talk_back Check input text d = absurd d
  talk_back (Plan n) input text d = absurd d
  talk_back (Exec n) input text d = absurd d
  talk_back (Bench n) input text d = absurd d
  talk_back (Recall n) input text d = absurd d
  talk_back (Explain n) input text d = absurd d
  talk_back Derive input text d = absurd d
  talk_back (Shared n) input text d = absurd d

  pub unplanned_to : (j : Job) (text : Text) → answers.IsUnplanned j file text → first.IsUnplanned j file text
  unplanned_to j text d = (d.0, d.1, best_first file.problem v f d.0 None d.2, d.3)

  pub unplanned_back : (j : Job) (text : Text) → first.IsUnplanned j file text → answers.IsUnplanned j file text
  unplanned_back j text d = (d.0, d.1, best_from_first file.problem v f d.0 None d.2, d.3)

-- ---- all that may be read

module _ (Reads : Text → Reading → Type 0) (j : Job) (input : Text) (good : (file : File) → Reads (text_for j input) (ReadAs file) → IsValid file.problem × IsFirstVersion file.problem) where
  reading_to : (x : Reading) → Reads (text_for j input) x → (r : Refusal) → answers.RefusesReading Reads j x r → first.RefusesReading Reads j x r
  reading_to (ReadAs file) q r k = let g = good file q in refuses_to file g.0 g.1 j r k
  reading_to (Faulty at code) q r k = k

  reading_back : (x : Reading) → Reads (text_for j input) x → (r : Refusal) → first.RefusesReading Reads j x r → answers.RefusesReading Reads j x r
  reading_back (ReadAs file) q r k = let g = good file q in refuses_back file g.0 g.1 j r k
  reading_back (Faulty at code) q r k = k

  accepted_to : (P Q : File → Type 0) → ((file : File) → IsValid file.problem → IsFirstVersion file.problem → P file → Q file) → answers.AcceptedAs Reads j input P → first.AcceptedAs Reads j input Q
  accepted_to P Q k a =
      let g = good a.0 a.1.reads in
      (a.0, record { reads = a.1.reads; fine = λ r q. a.1.fine r (refuses_back a.0 g.0 g.1 j r q) }, k a.0 g.0 g.1 a.2)

  accepted_back : (P Q : File → Type 0) → ((file : File) → IsValid file.problem → IsFirstVersion file.problem → Q file → P file) → first.AcceptedAs Reads j input Q → answers.AcceptedAs Reads j input P
  accepted_back P Q k a =
      let g = good a.0 a.1.reads in
      (a.0, record { reads = a.1.reads; fine = λ r q. a.1.fine r (refuses_to a.0 g.0 g.1 j r q) }, k a.0 g.0 g.1 a.2)

  pub answer_to : (status : Status) (text : Text) → answers.AnswersJob Reads j input status text → first.AnswersJob Reads j input status text
  answer_to Done text a = accepted_to (λ file. answers.IsDone j input file text) (λ file. first.IsDone j input file text) (λ file v f d. done_to file v f j input text d) a
  answer_to NoPlan text a = accepted_to (λ file. answers.IsUnplanned j file text) (λ file. first.IsUnplanned j file text) (λ file v f d. unplanned_to file v f j text d) a
  answer_to Refused text (inl a) = inl (a.0, (a.1.0, a.1.1, reading_to a.1.0 a.1.1 a.0 a.1.2), a.2)
  answer_to Refused text (inr a) = inr (accepted_to (λ file. answers.IsTalkRefused j input file text) (λ file. first.IsTalkRefused j input file text) (λ file v f d. talk_to file v f j input text d) a)
  answer_to Words text a = absurd a
  answer_to ReadFault text a = absurd a
  answer_to WriteFault text a = absurd a
  answer_to Memory text a = absurd a

  pub answer_back : (status : Status) (text : Text) → first.AnswersJob Reads j input status text → answers.AnswersJob Reads j input status text
  answer_back Done text a = accepted_back (λ file. answers.IsDone j input file text) (λ file. first.IsDone j input file text) (λ file v f d. done_back file v f j input text d) a
  answer_back NoPlan text a = accepted_back (λ file. answers.IsUnplanned j file text) (λ file. first.IsUnplanned j file text) (λ file v f d. unplanned_back file v f j text d) a
  answer_back Refused text (inl a) = inl (a.0, (a.1.0, a.1.1, reading_back a.1.0 a.1.1 a.0 a.1.2), a.2)
  answer_back Refused text (inr a) = inr (accepted_back (λ file. answers.IsTalkRefused j input file text) (λ file. first.IsTalkRefused j input file text) (λ file v f d. talk_back file v f j input text d) a)
  answer_back Words text a = absurd a
  answer_back ReadFault text a = absurd a
  answer_back WriteFault text a = absurd a
  answer_back Memory text a = absurd a
