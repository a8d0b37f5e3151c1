-- The best tree from the best of its children: what a search does at each history.
use Rattle.std.proofs.Common.{◌≡◌, ◌≤◌, ◌<◌, ◌+◌, ◌⊎◌, inl, inr, ℕ, zero, suc, true, false, cond, List, [], ◌∷◌, ◌++◌, map, filter, Option, Some, None, option_map, Less, Equal, Greater, Ordering, is_lt, nat_cmp, refl, sym, ap, ◌∙◌, subst, ⊎_elim, arith, true≢false}
use Rattle.std.specs.Ordering.{ordering_then, ordering_reverse}
use Rattle.std.specs.Cmp.{nat_cmp_is}
use Rattle.std.proofs.lemmas.Option.{none-some, same_Some}
use Rattle.pks_terms.specs.Sets.{IsIn}
use Rattle.pks_terms.specs.Syntax.{Term, Literal}
use Rattle.pks_terms.specs.Closure.{Outcome, Closes}
use Rattle.pks_terms.specs.Actions.{Instance}
use Rattle.pks_terms.specs.Problems.{Problem, initial}
use Rattle.pks_terms.specs.Branching.{instances, is_undecided, left, may_split, Choice, Act, BranchOn, CasesOn, AsTrue, AsFalse, Is, choices}
use Rattle.pks_terms.specs.Settling.{History, last_moment, State, At, Stopped}
use Rattle.pks_terms.specs.Aims.{met}
use Rattle.pks_terms.specs.Trees.{Tree, Goal, Impossible, Do, Branch, Cases, Chain, End, More, depth, cost, objects_in, root_kind, same_kind_cmp, root_cmp, tree_cmp, Acts, Takes, Derives, start_state, IsPlan, IsBefore, IsBestOf, IsDerivedWithin, IsBestAt, IsBest}
use Rattle.pks_terms.specs.Searching.{root_choice, IsAmong, IsDerivedBy, IsDerivedAmong, better_of, both_sides, one_more, AreCases, ChainBefore, AreBestCases}
use Rattle.pks_terms.proofs.ListLaws.{in_map, in_filter, in_appended}
use Rattle.pks_laws.proofs.Least.{in_left, in_right}
use Rattle.pks_laws.proofs.Unique.{closes_one, acts_one, takes_one}
use Rattle.pks_laws.proofs.TreeOrder.{tree_tells}
use Rattle.pks_laws.proofs.TreeTotal.{tree_cmp_total}
use Rattle.pks_laws.proofs.BestTree.{before_through, before_do, before_branch, before_end, before_more, before_cases}

-- ---- a tree has one choice at its root

pub act_not_branch : (c : List Literal) (i : Instance) → Some (BranchOn c) ≡ Some (Act i) → ⊥
act_not_branch c i e = cc

pub act_not_cases : (x : Term) (i : Instance) → Some (CasesOn x) ≡ Some (Act i) → ⊥
act_not_cases x i e = cc

pub branch_not_act : (i : Instance) (c : List Literal) → Some (Act i) ≡ Some (BranchOn c) → ⊥
branch_not_act i c e = cc

pub branch_not_cases : (x : Term) (c : List Literal) → Some (CasesOn x) ≡ Some (BranchOn c) → ⊥
branch_not_cases x c e = cc

pub cases_not_act : (i : Instance) (x : Term) → Some (Act i) ≡ Some (CasesOn x) → ⊥
cases_not_act i x e = cc

pub cases_not_branch : (c : List Literal) (x : Term) → Some (BranchOn c) ≡ Some (CasesOn x) → ⊥
cases_not_branch c x e = cc

module _ (p : Problem) where
  -- ---- best of two, best of the same

  pub best_same : (P Q : Tree → Type 0) (o : Option Tree) → ((t : Tree) → P t → Q t) → ((t : Tree) → Q t → P t) → IsBestOf p P o → IsBestOf p Q o
  best_same P Q None f g b = λ t q. b t (g t q)
  best_same P Q (Some t) f g b = (f t b.0, λ u q. b.1 u (g u q))

  after_or_same : (t u : Tree) → is_lt (tree_cmp (cost p) t u) ≡ false → IsBefore p u t
  after_or_same t u h =
      elim (tree_cmp (cost p) t u) as (λ o. tree_cmp (cost p) t u ≡ o → is_lt o ≡ false → IsBefore p u t) [
        | Less ↦ λ e k. absurd (true≢false k)
        | Equal ↦ λ e k. inl (sym (tree_tells (cost p) t u e))
        | Greater ↦ λ e k. inr ((tree_cmp_total (cost p)).antisymm u t ∙ ap ordering_reverse e)
      ] refl h

  before_if_less : (t u : Tree) → is_lt (tree_cmp (cost p) t u) ≡ true → IsBefore p t u
  before_if_less t u h =
      elim (tree_cmp (cost p) t u) as (λ o. tree_cmp (cost p) t u ≡ o → is_lt o ≡ true → IsBefore p t u) [
        | Less ↦ λ e k. inr e
        | Equal ↦ λ e k. absurd (true≢false (sym k))
        | Greater ↦ λ e k. absurd (true≢false (sym k))
      ] refl h

  pub best_either : (P Q : Tree → Type 0) (a b : Option Tree) → IsBestOf p P a → IsBestOf p Q b → IsBestOf p (λ t. P t ⊎ Q t) (better_of p a b)
  best_either P Q None None f g = λ t e. ⊎_elim (f t) (g t) e
  best_either P Q None (Some u) f g = (inr g.0, λ t e. ⊎_elim (λ x. absurd (f t x)) (g.1 t) e)
  best_either P Q (Some t) None f g = (inl f.0, λ u e. ⊎_elim (f.1 u) (λ x. absurd (g u x)) e)
  best_either P Q (Some t) (Some u) f g =
      elim (is_lt (tree_cmp (cost p) t u)) as (λ b. is_lt (tree_cmp (cost p) t u) ≡ b → IsBestOf p (λ t. P t ⊎ Q t) (cond b (Some t) (Some u))) [
        | true ↦ λ k. (inl f.0, λ v e. ⊎_elim (f.1 v) (λ x. before_through p t u v (before_if_less t u k) (g.1 v x)) e)
        | false ↦ λ k. (inr g.0, λ v e. ⊎_elim (λ x. before_through p u t v (after_or_same t u k) (f.1 v x)) (g.1 v) e)
      ] refl

  -- ---- leaves

  not_stopped : (h : History) → At h ≡ Stopped → ⊥
  not_stopped h e = cc

  pub best_stopped : (n : ℕ) → IsBestAt p Stopped n (Some Impossible)
  best_stopped n = ((refl, omega arith), others)
    where
      others : (u : Tree) → IsDerivedWithin p Stopped n u → IsBefore p Impossible u
      others Goal k = absurd k.0
      others Impossible k = inl refl
      others (Do i t) k = absurd k.0
      others (Branch c t u) k = absurd k.0
      others (Cases x m) k = absurd k.0

  -- no other tree is better than the goal
  goal_later : (u : Tree) → 0 < root_kind u → root_cmp (cost p) Goal u ≡ Less
  unfolding root_cmp
  goal_later u h = by_size (cost p u) (nat_cmp 0 (root_kind u)) (same_kind_cmp Goal u) (sym (nat_cmp_is 0 (root_kind u) Less h))
    where
      by_size : (n : ℕ) (kinds rest : Ordering) → kinds ≡ Less → ordering_then (nat_cmp 0 n) (ordering_then kinds rest) ≡ Less
      by_size zero kinds rest e = ap (λ r. ordering_then r rest) e
      by_size (suc n) kinds rest e = ap (λ r. ordering_then r (ordering_then kinds rest)) (sym (nat_cmp_is 0 (suc n) Less (omega arith)))

  goal_first : (u : Tree) → IsBefore p Goal u
  goal_first Goal = inl refl
  goal_first Impossible = inr (goal_later Impossible (omega arith))
  goal_first (Do i t) = inr (goal_later (Do i t) (omega arith))
  goal_first (Branch c t u) = inr (goal_later (Branch c t u) (omega arith))
  goal_first (Cases x k) = inr (goal_later (Cases x k) (omega arith))

  pub best_goal : (h : History) (n : ℕ) → met p h ≡ true → IsBestAt p (At h) n (Some Goal)
  best_goal h n k = ((k, omega arith), λ u d. goal_first u)

  pub best_without : (h : History) (n : ℕ) → met p h ≡ false → IsBestOf p (IsDerivedAmong p h n []) None
  best_without h n k = others
    where
      others : (t : Tree) → IsDerivedAmong p h n [] t → ⊥
      others Goal d = true≢false (sym d.0.0 ∙ k)
      others Impossible d = not_stopped h d.0.0
      others (Do i t) d = d.1
      others (Branch c t u) d = d.1
      others (Cases x m) d = d.1

  -- ---- the best child makes the best whole

  module _ (h : History) (n : ℕ) where
    abbrev now : Rattle.pks_terms.specs.Databases.Five
    now = last_moment h

    act_child : (i : Instance) (y : State) → Acts p h i y → (t : Tree) → IsDerivedBy p h (n + 1) (Act i) t → (u : Tree) × (t ≡ Do i u) × Derives p y u × (depth u ≤ n)
    act_child i y acts Goal d = absurd (none-some (Act i) d.1)
    act_child i y acts Impossible d = absurd (none-some (Act i) d.1)
    act_child i y acts (Branch c t u) d = absurd (act_not_branch c i d.1)
    act_child i y acts (Cases x k) d = absurd (act_not_cases x i d.1)
    act_child i y acts (Do j u) d =
        let e : j ≡ i = cc d.1 in
        let deep = d.0.1 in
        (u, ap (λ x. Do x u) e, subst (λ z. Derives p z u) (acts_one p h i d.0.0.1.0 y (subst (λ x. Acts p h x d.0.0.1.0) e d.0.0.1.1) acts) d.0.0.1.2, omega arith)

    pub best_act : (i : Instance) (y : State) (o : Option Tree) → IsIn i (instances p now) → Acts p h i y → IsBestAt p y n o → IsBestOf p (IsDerivedBy p h (n + 1) (Act i)) (option_map (Do i) o)
    best_act i y None member acts b = λ t d. let r = act_child i y acts t d in b r.0 (r.2, r.3)
    best_act i y (Some t) member acts b =
        let deep = b.0.1 in
        ((((member, (y, acts, b.0.0)), omega arith), refl), λ u d. let r = act_child i y acts u d in subst (λ x. IsBefore p (Do i t) x) (sym r.1) (before_do p i t r.0 (b.1 r.0 (r.2, r.3))))

    branch_children : (c : List Literal) (y y' : State) → Takes p h (BranchOn c) AsTrue y → Takes p h (BranchOn c) AsFalse y' → (t : Tree) → IsDerivedBy p h (n + 1) (BranchOn c) t
        → (u : Tree) × (v : Tree) × (t ≡ Branch c u v) × Derives p y u × Derives p y' v × (depth u ≤ n) × (depth v ≤ n)
    branch_children c y y' on_true on_false Goal d = absurd (none-some (BranchOn c) d.1)
    branch_children c y y' on_true on_false Impossible d = absurd (none-some (BranchOn c) d.1)
    branch_children c y y' on_true on_false (Do i t) d = absurd (branch_not_act i c d.1)
    branch_children c y y' on_true on_false (Cases x k) d = absurd (branch_not_cases x c d.1)
    branch_children c y y' on_true on_false (Branch b u v) d =
        let e : b ≡ c = cc d.1 in
        let k = d.0.0 in
        let deep = d.0.1 in (
          u,
          v,
          ap (λ x. Branch x u v) e,
          subst (λ z. Derives p z u) (takes_one p h (BranchOn c) AsTrue k.2.0 y (subst (λ x. Takes p h (BranchOn x) AsTrue k.2.0) e k.2.1) on_true) k.2.2,
          subst (λ z. Derives p z v) (takes_one p h (BranchOn c) AsFalse k.3.0 y' (subst (λ x. Takes p h (BranchOn x) AsFalse k.3.0) e k.3.1) on_false) k.3.2,
          omega arith,
          omega arith,
        )

    pub best_branch : (c : List Literal) (y y' : State) (a b : Option Tree) → IsIn c now.kw → is_undecided p.signature now c ≡ true → Takes p h (BranchOn c) AsTrue y → Takes p h (BranchOn c) AsFalse y' → IsBestAt p y n a → IsBestAt p y' n b
        → IsBestOf p (IsDerivedBy p h (n + 1) (BranchOn c)) (both_sides c a b)
    best_branch c y y' None b member open' on_true on_false f g = λ t d. let r = branch_children c y y' on_true on_false t d in f r.0 (r.3, r.5)
    best_branch c y y' (Some t) None member open' on_true on_false f g = λ u d. let r = branch_children c y y' on_true on_false u d in g r.1 (r.4, r.6)
    best_branch c y y' (Some t) (Some u) member open' on_true on_false f g =
        let deep = f.0.1 in
        let deep' = g.0.1 in (
          (((member, open', (y, on_true, f.0.0), (y', on_false, g.0.0)), omega arith), refl),
          λ v d.
              let r = branch_children c y y' on_true on_false v d in
              subst (λ x. IsBefore p (Branch c t u) x) (sym r.2) (before_branch p c t r.0 u r.1 (f.1 r.0 (r.3, r.5)) (g.1 r.1 (r.4, r.6))),
        )

    -- ---- cases

    pub best_end : (x : Term) → AreBestCases p h x n [] (Some End)
    best_end x = (record { on = refl; derived = tt; within = omega arith }, others)
      where
        others : (m : Chain) → AreCases p h x n [] m → ChainBefore p End m
        others End a = before_end p
        others (More e t k) a = let q = a.on in absurd (more_objects e (objects_in k) q)
          where
            more_objects : (e : ℕ) (es : List ℕ) → e ∷ es ≡ [] → ⊥
            more_objects e es q = cc

    first_case : (x : Term) (e : ℕ) (os : List ℕ) (y : State) → Takes p h (CasesOn x) (Is e) y → (m : Chain) → AreCases p h x n (e ∷ os) m → (u : Tree) × (k : Chain) × (m ≡ More e u k) × Derives p y u × (depth u ≤ n) × AreCases p h x n os k
    first_case x e os y takes End a = let q = a.on in absurd (no_objects e os q)
      where
        no_objects : (e : ℕ) (es : List ℕ) → [] ≡ e ∷ es → ⊥
        no_objects e es q = cc
    first_case x e os y takes (More o u k) a =
        let q = a.on in
        let same : o ≡ e = cc q in
        let rest : objects_in k ≡ os = cc q in
        let deep = a.within in
        let one = a.derived.0 in (
          u,
          k,
          ap (λ z. More z u k) same,
          subst (λ z. Derives p z u) (takes_one p h (CasesOn x) (Is e) one.0 y (subst (λ z. Takes p h (CasesOn x) (Is z) one.0) same one.1) takes) one.2,
          omega arith,
          record { on = rest; derived = a.derived.1; within = omega arith },
        )

    pub best_more : (x : Term) (e : ℕ) (os : List ℕ) (y : State) (o : Option Tree) (c : Option Chain) → Takes p h (CasesOn x) (Is e) y → IsBestAt p y n o → AreBestCases p h x n os c → AreBestCases p h x n (e ∷ os) (one_more e o c)
    best_more x e os y None c takes b f = λ m a. let r = first_case x e os y takes m a in b r.0 (r.3, r.4)
    best_more x e os y (Some t) None takes b f = λ m a. let r = first_case x e os y takes m a in f r.1 r.5
    best_more x e os y (Some t) (Some k) takes b f =
        let deep = b.0.1 in
        let deep' = f.0.within in (
          record { on = ap (λ ds. e ∷ ds) f.0.on; derived = ((y, takes, b.0.0), f.0.derived); within = omega arith },
          λ m a. let r = first_case x e os y takes m a in subst (λ z. ChainBefore p (More e t k) z) (sym r.2) (before_more p e t r.0 k r.1 (b.1 r.0 (r.3, r.4)) (f.1 r.1 r.5)),
        )

    cases_child : (x : Term) (t : Tree) → IsDerivedBy p h (n + 1) (CasesOn x) t → (k : Chain) × (t ≡ Cases x k) × AreCases p h x n (left p.signature now x) k
    cases_child x Goal d = absurd (none-some (CasesOn x) d.1)
    cases_child x Impossible d = absurd (none-some (CasesOn x) d.1)
    cases_child x (Do i t) d = absurd (cases_not_act i x d.1)
    cases_child x (Branch c t u) d = absurd (cases_not_branch c x d.1)
    cases_child x (Cases z k) d =
        let e : z ≡ x = cc d.1 in
        let deep = d.0.1 in
        let a : AreCases p h z n (left p.signature now z) k = record { on = d.0.0.2; derived = d.0.0.3; within = omega arith } in
        (k, ap (λ y. Cases y k) e, subst (λ y. AreCases p h y n (left p.signature now y) k) e a)

    pub best_cases : (x : Term) (c : Option Chain) → IsIn x now.kv → may_split p.signature now x ≡ true → AreBestCases p h x n (left p.signature now x) c → IsBestOf p (IsDerivedBy p h (n + 1) (CasesOn x)) (option_map (Cases x) c)
    best_cases x None member split f = λ t d. let r = cases_child x t d in f r.0 r.2
    best_cases x (Some k) member split f =
        let deep = f.0.within in
        ((((member, split, f.0.on, f.0.derived), omega arith), refl), λ u d. let r = cases_child x u d in subst (λ z. IsBefore p (Cases x k) z) (sym r.1) (before_cases p x k r.0 (f.1 r.0 r.2)))

  -- ---- all choices, one after another

  module _ (h : History) (n : ℕ) where
    pub best_next : (cs : List Choice) (c : Choice) (a b : Option Tree) → IsBestOf p (IsDerivedAmong p h n cs) a → IsBestOf p (IsDerivedBy p h n c) b → IsBestOf p (IsDerivedAmong p h n (cs ++ c ∷ [])) (better_of p a b)
    best_next cs c a b f g =
        best_same (λ t. IsDerivedAmong p h n cs t ⊎ IsDerivedBy p h n c t) (IsDerivedAmong p h n (cs ++ c ∷ [])) (better_of p a b)
        (λ t. ⊎_elim (λ d. (d.0, more (root_choice t) d.1)) (λ d. (d.0, this (root_choice t) d.1)))
        (λ t d. ⊎_elim (λ k. inl (d.0, k)) (λ k. inr (d.0, k)) (which (root_choice t) d.1))
        (best_either (IsDerivedAmong p h n cs) (IsDerivedBy p h n c) a b f g)
      where
        more : (o : Option Choice) → IsAmong cs o → IsAmong (cs ++ c ∷ []) o
        more None i = tt
        more (Some x) i = in_left cs (c ∷ []) x i

        this : (o : Option Choice) → o ≡ Some c → IsAmong (cs ++ c ∷ []) o
        this None e = tt
        this (Some x) e = in_right cs (c ∷ []) x (inl (sym (same_Some x c e)))

        which : (o : Option Choice) → IsAmong (cs ++ c ∷ []) o → IsAmong cs o ⊎ (o ≡ Some c)
        which None i = inl tt
        which (Some x) i = ⊎_elim (λ j. inl j) (λ j. ⊎_elim (λ e. inr (ap Some (sym e))) (λ k. absurd k) j) (in_appended cs (c ∷ []) x i)

    pub best_all : (o : Option Tree) → IsBestOf p (IsDerivedAmong p h n (choices p (last_moment h))) o → IsBestAt p (At h) n o
    unfolding choices
    best_all o b = best_same (IsDerivedAmong p h n (choices p (last_moment h))) (IsDerivedWithin p (At h) n) o (λ t d. d.0) (λ t d. (d, chosen t d.0)) b
      where
        chosen : (t : Tree) → Derives p (At h) t → IsAmong (choices p (last_moment h)) (root_choice t)
        chosen Goal d = tt
        chosen Impossible d = tt
        chosen (Do i t) d = in_left (map Act (instances p (last_moment h))) _ (Act i) (in_map Act (instances p (last_moment h)) i d.0)
        chosen (Branch c t u) d =
            in_right (map Act (instances p (last_moment h))) _ (BranchOn c) (in_left (map BranchOn (filter (is_undecided p.signature (last_moment h)) (last_moment h).kw)) _ (BranchOn c)
            (in_map BranchOn (filter (is_undecided p.signature (last_moment h)) (last_moment h).kw) c (in_filter (is_undecided p.signature (last_moment h)) (last_moment h).kw c d.0 d.1)))
        chosen (Cases x k) d =
            in_right (map Act (instances p (last_moment h))) _ (CasesOn x) (in_right (map BranchOn (filter (is_undecided p.signature (last_moment h)) (last_moment h).kw)) _ (CasesOn x)
            (in_map CasesOn (filter (may_split p.signature (last_moment h)) (last_moment h).kv) x (in_filter (may_split p.signature (last_moment h)) (last_moment h).kv x d.0 d.1)))

  -- no choice without depth
  pub best_shallow : (h : History) (o : Option Tree) → IsBestOf p (IsDerivedAmong p h 0 []) o → IsBestAt p (At h) 0 o
  best_shallow h o b = best_same (IsDerivedAmong p h 0 []) (IsDerivedWithin p (At h) 0) o (λ t d. d.0) (λ t d. (d, leaf t d.1)) b
    where
      leaf : (t : Tree) → depth t ≤ 0 → IsAmong [] (root_choice t)
      leaf Goal l = tt
      leaf Impossible l = tt
      leaf (Do i t) l = absurd (omega arith)
      leaf (Branch c t u) l = absurd (omega arith)
      leaf (Cases x k) l = absurd (omega arith)

  -- the best tree at the start is the best plan
  pub best_plan : (q : Outcome) (n : ℕ) (o : Option Tree) → Closes p.signature (initial p) q → IsBestAt p (start_state q) n o → IsBest p n o
  best_plan q n o c b =
      best_same (IsDerivedWithin p (start_state q) n) (λ t. IsPlan p t × (depth t ≤ n)) o
      (λ t d. (record { outcome = q; closes = c; derives = d.0 }, d.1))
      (λ t d. (subst (λ x. Derives p (start_state x) t) (closes_one p.signature (initial p) d.0.outcome q d.0.closes c) d.0.derives, d.1)) b
