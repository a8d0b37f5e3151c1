-- Plans of a problem of the first version are those by the rules of that version.
use Rattle.std.proofs.Common.{◌≡◌, ◌==◌, ◌&&◌, cond, ℕ, Bool, List, [], ◌∷◌, filter_map, map, Option, Some, None, refl, sym, ap, ◌∙◌, subst, inl, inr, true≢false}
use Rattle.std.proofs.lemmas.Option.{none-some, cond_some}
use Rattle.std.proofs.lemmas.Bool.{and_parts, eqb-true}
use Rattle.pks_terms.specs.Sets.{Each, IsIn, set_of}
use Rattle.pks_terms.specs.Syntax.{Term, Relation, Named, Equality, Literal, Atom, Pattern}
use Rattle.pks_terms.specs.Orders.{literal_cmp, atom_cmp}
use Rattle.pks_terms.specs.Signatures.{Signature}
use Rattle.pks_terms.specs.Databases.{entry_cmp, Five}
use Rattle.pks_terms.specs.Closure.{Outcome, Next, Clash, Closes}
use Rattle.pks_terms.specs.Queries.{Plain, Know, KnowWhether, KnowValue, answers}
use Rattle.pks_terms.specs.Actions.{Instance}
use Rattle.pks_terms.specs.Progress.{progressed, Progress}
use Rattle.pks_terms.specs.Problems.{Problem, schema_of, known_start, region_start, atom_on, initial_entry, initial}
use Rattle.pks_terms.specs.Branching.{instances, left, Choice, BranchOn, CasesOn, Side, AsTrue, AsFalse, Is, IsMember, assumed, Assumes}
use Rattle.pks_terms.specs.Settling.{History, last_of, last_moment, with_last, steps_with_last, State, At, Stopped}
use Rattle.pks_terms.specs.Aims.{met}
use Rattle.pks_terms.specs.Trees.{Tree, Goal, Impossible, Do, Branch, Cases, Chain, End, More, objects_in, after_step, Acts, SettlesAfter, Takes, Derives, DerivesEach, start_state, IsPlan, IsBefore, IsBest}
use Rattle.pks_terms.specs.Valid.{IsLiteralText, IsPlainText, IsValid}
use Rattle.pks_terms.specs.Handed.{IsStepOf}
use Rattle.pks_terms.specs.Versions.{query_in, IsFirstVersion}
use Rattle.pks_terms.proofs.ListLaws.{each_append, each_in, each_of, each_map, each_set_of, each_filter_map, each_weaker, all_same}
use Rattle.pks_laws.specs.OfSignature.{IsSideOf}
use Rattle.pks_laws.proofs.Versions.{first_met, first_order}
use Rattle.pks_laws.proofs.Belonging.{T}
use Rattle.pks_laws.proofs.BelongingSteps.{schema_text, choice_of}
use Rattle.pks_laws.proofs.BelongingHistories.{is_clash, history_or}
use Rattle.pks_laws.proofs.OneTypeAlong.{text_one_typed, initial_one_typed}
use Rattle.pks_laws.proofs.TreesOf.{left_is_side}
use Rattle.pks_laws_version1.specs.LookingUp.{without_functions}
use Rattle.pks_laws_version1.specs.Trees as first
use Rattle.pks_laws_version1.specs.OfFirst.{ListsItsOwn, IsOfFirst, IsOfFirstAlong}
use Rattle.pks_laws_version1.proofs.Looking.{V}
use Rattle.pks_laws_version1.proofs.Rounds.{formula_first, closes_first, closes_from_first, closed_first, IsFirstPlain, answers_same}
use Rattle.pks_laws_version1.proofs.Onward.{progressed_first}
use Rattle.pks_laws_version1.proofs.Choices.{left_same, split_same, undecided_same, assumed_first, assumes_first, assumes_from_first, progress_first, progress_from_first, instances_same}
use Rattle.pks_laws_version1.proofs.Past.{settles_first, settles_from_first, settled_first}

-- ---- the start

-- the list of an initial region is of its predicate
atom_is_on : (q : ℕ) (l : Literal) (a : Atom) → atom_on q l ≡ Some a → a.predicate ≡ q
atom_is_on q l a e = go l.relation l.arguments l.positive e
  where
    go : (r : Relation) (ts : List Term) (b : Bool) → ◌≡◌ {A = Option Atom} (elim r [ Named n ↦ cond ((n == q) && b) (Some (record { predicate = n; arguments = ts })) None | Equality ↦ None ]) (Some a) → a.predicate ≡ q
    go (Named n) ts b k =
        let c = cond_some ((n == q) && b) (record { predicate = n; arguments = ts }) a k in
        sym (ap (λ (x : Atom). x.predicate) c.1) ∙ eqb-true n q (and_parts (n == q) b c.0).0
    go Equality ts b k = absurd (none-some a k)

entry_is_own : (kf : List Literal) (x : Pattern) → ListsItsOwn (initial_entry kf x)
entry_is_own kf x = each_set_of (λ (a : Atom). a.predicate ≡ x.predicate) atom_cmp (filter_map (atom_on x.predicate) kf) (each_filter_map (λ (a : Atom). a.predicate ≡ x.predicate) (atom_on x.predicate) kf (λ l a i e. atom_is_on x.predicate l a e))

module _ (p : Problem) (v : IsValid p) (f : IsFirstVersion p) where
  abbrev S : Signature
  S = p.signature

  abbrev N : Signature
  N = without_functions p.signature

  none : Each (λ o. o ≡ None) p.signature.parents
  none = f.parents

  pub initial_first : IsOfFirst S (initial p)
  unfolding initial
  initial_first =
      let kf = set_of literal_cmp (filter_map known_start p.init) in
      record {
        typed = initial_one_typed p v f;
        regions = each_set_of ListsItsOwn entry_cmp (map (initial_entry kf) (filter_map region_start p.init)) (each_map ListsItsOwn (initial_entry kf) (filter_map region_start p.init) (each_of (λ x. ListsItsOwn (initial_entry kf x)) (filter_map region_start p.init) (λ x i. entry_is_own kf x)));
      }

  -- ---- the goal

  last_first : (d : Five) (steps : List (Instance × Five)) → IsOfFirst S d → Each (λ step. IsStepOf p step.0 × IsOfFirst S step.1) steps → IsOfFirst S (last_of d steps)
  last_first d [] m a = m
  last_first d (step ∷ steps) m a = last_first step.1 steps a.0.1 a.1

  pub present_first : (h : History) → IsOfFirstAlong p h → IsOfFirst S (last_moment h)
  present_first h m = last_first h.start h.steps m.start m.steps

  goal_plain : (x : Plain) → IsPlainText S [] x → IsFirstPlain S none x
  goal_plain (Know l) t = (t.typed, text_one_typed S none l t)
  goal_plain (KnowWhether c) t = each_weaker (IsLiteralText S []) (V S none) (λ l k. (k.typed, text_one_typed S none l k)) c t.0
  goal_plain (KnowValue u) t = tt

  pub met_same : (h : History) → IsOfFirstAlong p h → met p h ≡ first.met p h
  met_same h m =
      first_met p f h
      ∙ all_same (λ x. answers S (last_moment h) (query_in x)) (λ x. answers N (last_moment h) (query_in x)) p.goal
      (each_weaker (λ x. IsPlainText S [] (query_in x).asks) (λ x. answers S (last_moment h) (query_in x) ≡ answers N (last_moment h) (query_in x)) (λ x t. answers_same S none (last_moment h) (present_first h m) (query_in x) (goal_plain (query_in x).asks t)) p.goal v.goal)

  -- ---- the state after an action, and after a side

  abbrev pub IsFirstState : State → Type 0
  IsFirstState x = (g : History) → x ≡ At g → IsOfFirstAlong p g

  module _ (h : History) (m : IsOfFirstAlong p h) where
    abbrev now : Five
    now = last_moment h

    now_first : IsOfFirst S now
    now_first = present_first h m

    module _ (i : Instance) (chosen : IsIn i (instances p now)) (x : State) where
      step : IsStepOf p i
      step = choice_of p now i now_first.typed.of chosen

      pub acts_to : Acts p h i x → first.Acts p h i x
      acts_to a = record { outcome = a.outcome; progress = progress_first S none now now_first (schema_of p i.action) (schema_text p v i.action) i step.arguments a.outcome a.progress; gives = a.gives }

      pub acts_back : first.Acts p h i x → Acts p h i x
      acts_back a = record { outcome = a.outcome; progress = progress_from_first S none now now_first (schema_of p i.action) (schema_text p v i.action) i step.arguments a.outcome a.progress; gives = a.gives }

      pub acts_state : Acts p h i x → IsFirstState x
      acts_state a g e = go a.outcome a.progress (sym e ∙ a.gives)
        where
          go : (o : Outcome) → Progress S now (schema_of p i.action) i o → At g ≡ after_step h i o → IsOfFirstAlong p g
          go (Next d) c q =
              let done = closed_first S none v.signature.values (progressed S now (schema_of p i.action) i.arguments) d (progressed_first S none (schema_of p i.action) (schema_text p v i.action) i.arguments step.arguments now now_first) c in
              subst (IsOfFirstAlong p) (sym (ap (history_or g) q)) (record { start = m.start; steps = each_append (λ step. IsStepOf p step.0 × IsOfFirst S step.1) h.steps ((i, d) ∷ []) m.steps ((step, done), tt) })
          go (Clash l) c q = absurd (true≢false (sym (ap is_clash q)))

    steps_last : (steps : List (Instance × Five)) (d : Five) → Each (λ step. IsStepOf p step.0 × IsOfFirst S step.1) steps → IsOfFirst S d → Each (λ step. IsStepOf p step.0 × IsOfFirst S step.1) (steps_with_last steps d)
    steps_last [] d a n = tt
    steps_last (deed ∷ []) d a n = ((a.0.0, n), tt)
    steps_last (deed ∷ next ∷ rest) d a n = (a.0, steps_last (next ∷ rest) d a.1 n)

    with_last_first : (d : Five) → IsOfFirst S d → IsOfFirstAlong p (with_last h d)
    with_last_first d n =
        elim h.steps as (λ steps. Each (λ step. IsStepOf p step.0 × IsOfFirst S step.1) steps → IsOfFirstAlong p (elim steps [ [] ↦ record { start = d; steps = [] } | deed ∷ rest ↦ record h { steps = steps_with_last h.steps d } ])) [
          | [] ↦ λ a. record { start = n; steps = tt }
          | deed ∷ rest ↦ λ a. record { start = m.start; steps = steps_last h.steps d m.steps n }
        ] m.steps

    module _ (c : Choice) (side : Side) (i : IsMember now c) (k : IsSideOf S c side) (x : State) where
      side_first : (d : Five) → Assumes S now c side (Next d) → IsOfFirst S d
      side_first d a = closed_first S none v.signature.values (assumed S now c side) d (assumed_first S none now now_first c side i k) a

      pub takes_to : Takes p h c side x → first.Takes p h c side x
      takes_to t = record { outcome = t.outcome; assumed = assumes_first S none now now_first c side t.outcome i k t.assumed; settled = go t.outcome t.assumed t.settled }
        where
          go : (o : Outcome) → Assumes S now c side o → SettlesAfter p h o x → first.SettlesAfter p h o x
          go (Next d) a s = settles_first p v none (with_last h d) x (with_last_first d (side_first d a)) s
          go (Clash l) a s = s

      pub takes_back : first.Takes p h c side x → Takes p h c side x
      takes_back t = let a = assumes_from_first S none now now_first c side t.outcome i k t.assumed in record { outcome = t.outcome; assumed = a; settled = go t.outcome a t.settled }
        where
          go : (o : Outcome) → Assumes S now c side o → first.SettlesAfter p h o x → SettlesAfter p h o x
          go (Next d) a s = settles_from_first p v none (with_last h d) x (with_last_first d (side_first d a)) s
          go (Clash l) a s = s

      pub takes_state : Takes p h c side x → IsFirstState x
      takes_state t g e = go t.outcome t.assumed (subst (SettlesAfter p h t.outcome) e t.settled)
        where
          go : (o : Outcome) → Assumes S now c side o → SettlesAfter p h o (At g) → IsOfFirstAlong p g
          go (Next d) a s = settled_first p v f (with_last h d) g (with_last_first d (side_first d a)) s
          go (Clash l) a s = absurd (true≢false (sym (ap is_clash s)))

    value_is : (t : Term) → IsIn t now.kv → T S t
    value_is t i = each_in (T S) now.kv t now_first.typed.of.values i

    pub sides_left : (t : Term) (es : List ℕ) → es ≡ left S now t → Each (λ e. IsSideOf S (CasesOn t) (Is e)) es
    sides_left t es q = subst (Each (λ e. IsSideOf S (CasesOn t) (Is e))) (sym q) (each_of (λ e. IsSideOf S (CasesOn t) (Is e)) (left S now t) (λ e i. left_is_side S now t e i))

  -- ---- derived trees

  mutual
    tree_to : (t : Tree) (x : State) → IsFirstState x → Derives p x t → first.Derives p x t
    tree_to Goal (At h) m d = sym (met_same h (m h refl)) ∙ d
    tree_to Goal Stopped m d = d
    tree_to Impossible x m d = d
    tree_to (Do i t) (At h) m d =
        let n = m h refl in (
          subst (IsIn i) (instances_same p v none (last_moment h) (present_first h n)) d.0,
          (d.1.0, acts_to h n i d.0 d.1.0 d.1.1, tree_to t d.1.0 (acts_state h n i d.0 d.1.0 d.1.1) d.1.2),
        )
    tree_to (Branch c t u) (At h) m d =
        let n = m h refl in (
          d.0,
          sym (undecided_same S none (last_moment h) (present_first h n) c (formula_first S none (last_moment h) (present_first h n) c d.0)) ∙ d.1,
          (d.2.0, takes_to h n (BranchOn c) AsTrue d.0 tt d.2.0 d.2.1, tree_to t d.2.0 (takes_state h n (BranchOn c) AsTrue d.0 tt d.2.0 d.2.1) d.2.2),
          (d.3.0, takes_to h n (BranchOn c) AsFalse d.0 tt d.3.0 d.3.1, tree_to u d.3.0 (takes_state h n (BranchOn c) AsFalse d.0 tt d.3.0 d.3.1) d.3.2),
        )
    tree_to (Cases t k) (At h) m d =
        let n = m h refl in
        let of = value_is h n t d.0 in (
          d.0,
          sym (split_same S none (last_moment h) (present_first h n) t of) ∙ d.1,
          d.2 ∙ left_same S none (last_moment h) (present_first h n) t of,
          chain_to k h n t d.0 (sides_left h n t (objects_in k) d.2) d.3,
        )
    tree_to (Do i t) Stopped m d = absurd d
    tree_to (Branch c t u) Stopped m d = absurd d
    tree_to (Cases t k) Stopped m d = absurd d

    chain_to : (k : Chain) (h : History) (n : IsOfFirstAlong p h) (t : Term) → IsIn t (last_moment h).kv → Each (λ e. IsSideOf S (CasesOn t) (Is e)) (objects_in k) → DerivesEach p h t k → first.DerivesEach p h t k
    chain_to End h n t i a d = tt
    chain_to (More e u k) h n t i a d = (
      (d.0.0, takes_to h n (CasesOn t) (Is e) i a.0 d.0.0 d.0.1, tree_to u d.0.0 (takes_state h n (CasesOn t) (Is e) i a.0 d.0.0 d.0.1) d.0.2),
      chain_to k h n t i a.1 d.1,
    )

  mutual
    tree_back : (t : Tree) (x : State) → IsFirstState x → first.Derives p x t → Derives p x t
    tree_back Goal (At h) m d = met_same h (m h refl) ∙ d
    tree_back Goal Stopped m d = d
    tree_back Impossible x m d = d
    tree_back (Do i t) (At h) m d =
        let n = m h refl in
        let chosen : IsIn i (instances p (last_moment h)) = subst (IsIn i) (sym (instances_same p v none (last_moment h) (present_first h n))) d.0 in
        let a = acts_back h n i chosen d.1.0 d.1.1 in
        (chosen, (d.1.0, a, tree_back t d.1.0 (acts_state h n i chosen d.1.0 a) d.1.2))
    tree_back (Branch c t u) (At h) m d =
        let n = m h refl in
        let a = takes_back h n (BranchOn c) AsTrue d.0 tt d.2.0 d.2.1 in
        let b = takes_back h n (BranchOn c) AsFalse d.0 tt d.3.0 d.3.1 in (
          d.0,
          undecided_same S none (last_moment h) (present_first h n) c (formula_first S none (last_moment h) (present_first h n) c d.0) ∙ d.1,
          (d.2.0, a, tree_back t d.2.0 (takes_state h n (BranchOn c) AsTrue d.0 tt d.2.0 a) d.2.2),
          (d.3.0, b, tree_back u d.3.0 (takes_state h n (BranchOn c) AsFalse d.0 tt d.3.0 b) d.3.2),
        )
    tree_back (Cases t k) (At h) m d =
        let n = m h refl in
        let of = value_is h n t d.0 in
        let objects = d.2 ∙ sym (left_same S none (last_moment h) (present_first h n) t of) in
        (d.0, split_same S none (last_moment h) (present_first h n) t of ∙ d.1, objects, chain_back k h n t d.0 (sides_left h n t (objects_in k) objects) d.3)
    tree_back (Do i t) Stopped m d = absurd d
    tree_back (Branch c t u) Stopped m d = absurd d
    tree_back (Cases t k) Stopped m d = absurd d

    chain_back : (k : Chain) (h : History) (n : IsOfFirstAlong p h) (t : Term) → IsIn t (last_moment h).kv → Each (λ e. IsSideOf S (CasesOn t) (Is e)) (objects_in k) → first.DerivesEach p h t k → DerivesEach p h t k
    chain_back End h n t i a d = tt
    chain_back (More e u k) h n t i a d =
        let b = takes_back h n (CasesOn t) (Is e) i a.0 d.0.0 d.0.1 in
        ((d.0.0, b, tree_back u d.0.0 (takes_state h n (CasesOn t) (Is e) i a.0 d.0.0 b) d.0.2), chain_back k h n t i a.1 d.1)

  pub derives_first : (h : History) → IsOfFirstAlong p h → (t : Tree) → (Derives p (At h) t → first.Derives p (At h) t) × (first.Derives p (At h) t → Derives p (At h) t)
  derives_first h m t =
      let k : IsFirstState (At h) = λ g e. subst (IsOfFirstAlong p) (ap (history_or g) e) m in
      (tree_to t (At h) k, tree_back t (At h) k)

  pub start_first : (o : Outcome) → Closes S (initial p) o → IsFirstState (start_state o)
  start_first (Next d) c g e = subst (IsOfFirstAlong p) (ap (history_or g) e) (record { start = closed_first S none v.signature.values (initial p) d initial_first c; steps = tt })
  start_first (Clash l) c g e = absurd (true≢false (ap is_clash e))

  pub plan_first : (t : Tree) → IsPlan p t → first.IsPlan p t
  plan_first t k = record { outcome = k.outcome; closes = closes_first S none (initial p) k.outcome initial_first k.closes; derives = tree_to t (start_state k.outcome) (start_first k.outcome k.closes) k.derives }

  pub plan_from_first : (t : Tree) → first.IsPlan p t → IsPlan p t
  plan_from_first t k = let c = closes_from_first S none (initial p) k.outcome initial_first k.closes in record { outcome = k.outcome; closes = c; derives = tree_back t (start_state k.outcome) (start_first k.outcome c) k.derives }

  -- ---- the best

  before_to : (t u : Tree) → IsBefore p t u → first.IsBefore t u
  before_to t u (inl e) = inl e
  before_to t u (inr l) = inr (sym (first_order p f t u) ∙ l)

  before_back : (t u : Tree) → first.IsBefore t u → IsBefore p t u
  before_back t u (inl e) = inl e
  before_back t u (inr l) = inr (first_order p f t u ∙ l)

  pub best_first : (n : ℕ) (o : Option Tree) → IsBest p n o → first.IsBest p n o
  best_first n None b = λ t k d. b t (plan_from_first t k, d)
  best_first n (Some t) b = (plan_first t b.0.0, b.0.1, λ u k d. before_to t u (b.1 u (plan_from_first u k, d)))

  pub best_from_first : (n : ℕ) (o : Option Tree) → first.IsBest p n o → IsBest p n o
  best_from_first n None b = λ t k. b t (plan_first t k.0) k.1
  best_from_first n (Some t) b = ((plan_from_first t b.0, b.1), λ u k. before_back t u (b.2 u (plan_first u k.0) k.1))
