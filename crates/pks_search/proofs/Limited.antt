-- The best tree below a limit on cost, from the best of its children below what the root leaves of it.
use Rattle.std.proofs.Common.{◌≡◌, ◌≤◌, ◌<◌, ◌+◌, ℕ, true, false, List, [], ◌∷◌, Option, Some, None, option_map, refl, sym, ap, ◌∙◌, subst, arith, true≢false}
use Rattle.std.proofs.lemmas.Option.{none-some}
use Rattle.pks_terms.specs.Sets.{IsIn}
use Rattle.pks_terms.specs.Syntax.{Term, Literal}
use Rattle.pks_terms.specs.Actions.{Instance}
use Rattle.pks_terms.specs.Problems.{Problem, schema_of}
use Rattle.pks_terms.specs.Branching.{instances, is_undecided, left, may_split, Act, BranchOn, CasesOn, AsTrue, AsFalse, Is}
use Rattle.pks_terms.specs.Settling.{History, last_moment, State, At, Stopped}
use Rattle.pks_terms.specs.Aims.{met}
use Rattle.pks_terms.specs.Trees.{Tree, Goal, Impossible, Do, Branch, Cases, Chain, End, More, depth, cost, objects_in, Acts, Takes, Derives, IsBefore, IsBestOf}
use Rattle.pks_terms.specs.Searching.{both_sides, one_more, ChainBefore}
use Rattle.pks_laws.proofs.Unique.{acts_one, takes_one}
use Rattle.pks_laws.proofs.BestTree.{before_do, before_branch, before_end, before_more, before_cases}
use Rattle.pks_laws.proofs.Choosing.{act_not_branch, act_not_cases, branch_not_act, branch_not_cases, cases_not_act, cases_not_branch, best_stopped, best_goal}
use Rattle.pks_search.specs.Limits.{IsCheapWithin, IsBestWithin, IsCheapBy, IsBestAfter, IsBestTaking, AreCheapCases, AreBestCheapCases}

module _ (p : Problem) where
  abbrev pub price : Instance → ℕ
  price i = (schema_of p i.action).cost

  -- ---- leaves

  -- the best of all is the best of the cheap, where it is cheap itself
  pub cheap_enough : (P : Tree → Type 0) (limit : ℕ) (t : Tree) → cost p t ≤ limit → IsBestOf p P (Some t) → IsBestOf p (λ u. P u × (cost p u ≤ limit)) (Some t)
  cheap_enough P limit t k b = ((b.0, k), λ u d. b.1 u d.0)

  pub cheap_stopped : (n limit : ℕ) → IsBestWithin p Stopped n limit (Some Impossible)
  cheap_stopped n limit = let b = best_stopped p n in ((b.0, omega arith), λ u d. b.1 u d.0)

  pub cheap_goal : (h : History) (n limit : ℕ) → met p h ≡ true → IsBestWithin p (At h) n limit (Some Goal)
  cheap_goal h n limit k = let b = best_goal p h n k in ((b.0, omega arith), λ u d. b.1 u d.0)

  not_stopped : (h : History) → At h ≡ Stopped → ⊥
  not_stopped h e = cc

  -- where the goal isn't met, a tree has some depth
  pub needs_depth : (h : History) → met p h ≡ false → (t : Tree) → Derives p (At h) t → 0 < depth t
  needs_depth h k Goal d = absurd (true≢false (sym d ∙ k))
  needs_depth h k Impossible d = absurd (not_stopped h d)
  needs_depth h k (Do i t) d = omega arith
  needs_depth h k (Branch c t u) d = omega arith
  needs_depth h k (Cases x m) d = omega arith

  module _ (h : History) (n : ℕ) where
    -- ---- actions

    -- an action that costs more than the limit has no cheap tree
    pub dear_act : (i : Instance) (limit : ℕ) → limit < price i → IsBestOf p (IsCheapBy p h n limit (Act i)) None
    dear_act i limit dear = others
      where
        others : (t : Tree) → IsCheapBy p h n limit (Act i) t → ⊥
        others Goal d = none-some (Act i) d.0.1
        others Impossible d = none-some (Act i) d.0.1
        others (Branch c t u) d = act_not_branch c i d.0.1
        others (Cases x k) d = act_not_cases x i d.0.1
        others (Do j u) d =
            let e : j ≡ i = cc d.0.1 in
            let costs : price i + cost p u ≤ limit = subst (λ x. price x + cost p u ≤ limit) e d.1 in
            omega arith

    act_child : (i : Instance) (y : State) (limit rest : ℕ) → price i + rest ≡ limit → Acts p h i y → (t : Tree) → IsCheapBy p h (n + 1) limit (Act i) t → (u : Tree) × (t ≡ Do i u) × IsCheapWithin p y n rest u
    act_child i y limit rest sum acts Goal d = absurd (none-some (Act i) d.0.1)
    act_child i y limit rest sum acts Impossible d = absurd (none-some (Act i) d.0.1)
    act_child i y limit rest sum acts (Branch c t u) d = absurd (act_not_branch c i d.0.1)
    act_child i y limit rest sum acts (Cases x k) d = absurd (act_not_cases x i d.0.1)
    act_child i y limit rest sum acts (Do j u) d =
        let e : j ≡ i = cc d.0.1 in
        let k = d.0.0.0 in
        let deep = d.0.0.1 in
        let costs : price i + cost p u ≤ limit = subst (λ x. price x + cost p u ≤ limit) e d.1 in
        (u, ap (λ x. Do x u) e, ((subst (λ z. Derives p z u) (acts_one p h i k.1.0 y (subst (λ x. Acts p h x k.1.0) e k.1.1) acts) k.1.2, omega arith), omega arith))

    pub cheap_act : (i : Instance) (limit rest : ℕ) (o : Option Tree) → IsIn i (instances p (last_moment h)) → price i + rest ≡ limit → IsBestAfter p h i n rest o → IsBestOf p (IsCheapBy p h (n + 1) limit (Act i)) (option_map (Do i) o)
    cheap_act i limit rest None member sum b = λ t d. let r = act_child i b.0 limit rest sum b.1 t d in b.2 r.0 r.2
    cheap_act i limit rest (Some t) member sum b =
        let deep = b.2.0.0.1 in
        let costs = b.2.0.1 in (
          ((((member, (b.0, b.1, b.2.0.0.0)), omega arith), refl), omega arith),
          λ u d. let r = act_child i b.0 limit rest sum b.1 u d in subst (λ x. IsBefore p (Do i t) x) (sym r.1) (before_do p i t r.0 (b.2.1 r.0 r.2)),
        )

    -- ---- branches

    -- a branch costs something
    pub dear_branch : (c : List Literal) → IsBestOf p (IsCheapBy p h n 0 (BranchOn c)) None
    dear_branch c = others
      where
        others : (t : Tree) → IsCheapBy p h n 0 (BranchOn c) t → ⊥
        others Goal d = none-some (BranchOn c) d.0.1
        others Impossible d = none-some (BranchOn c) d.0.1
        others (Do i t) d = branch_not_act i c d.0.1
        others (Cases x k) d = branch_not_cases x c d.0.1
        others (Branch b u v) d = let costs = d.1 in omega arith

    branch_children : (c : List Literal) (rest : ℕ) (t : Tree) → IsCheapBy p h (n + 1) (rest + 1) (BranchOn c) t
        → (u : Tree) × (v : Tree) × (t ≡ Branch c u v) × ((y : State) → Takes p h (BranchOn c) AsTrue y → IsCheapWithin p y n rest u) × ((y : State) → Takes p h (BranchOn c) AsFalse y → IsCheapWithin p y n rest v)
    branch_children c rest Goal d = absurd (none-some (BranchOn c) d.0.1)
    branch_children c rest Impossible d = absurd (none-some (BranchOn c) d.0.1)
    branch_children c rest (Do i t) d = absurd (branch_not_act i c d.0.1)
    branch_children c rest (Cases x k) d = absurd (branch_not_cases x c d.0.1)
    branch_children c rest (Branch b u v) d =
        let e : b ≡ c = cc d.0.1 in
        let k = d.0.0.0 in
        let deep = d.0.0.1 in
        let costs = d.1 in (
          u,
          v,
          ap (λ x. Branch x u v) e,
          λ y on_true. ((subst (λ z. Derives p z u) (takes_one p h (BranchOn c) AsTrue k.2.0 y (subst (λ x. Takes p h (BranchOn x) AsTrue k.2.0) e k.2.1) on_true) k.2.2, omega arith), omega arith),
          λ y on_false. ((subst (λ z. Derives p z v) (takes_one p h (BranchOn c) AsFalse k.3.0 y (subst (λ x. Takes p h (BranchOn x) AsFalse k.3.0) e k.3.1) on_false) k.3.2, omega arith), omega arith),
        )

    -- without a tree for the true side there is none
    pub cheap_branch-no_first : (c : List Literal) (rest : ℕ) → IsBestTaking p h (BranchOn c) AsTrue n rest None → IsBestOf p (IsCheapBy p h (n + 1) (rest + 1) (BranchOn c)) None
    cheap_branch-no_first c rest f = λ t d. let r = branch_children c rest t d in f.2 r.0 (r.3 f.0 f.1)

    -- nor without one for the false side
    pub cheap_branch-no_second : (c : List Literal) (rest : ℕ) → IsBestTaking p h (BranchOn c) AsFalse n rest None → IsBestOf p (IsCheapBy p h (n + 1) (rest + 1) (BranchOn c)) None
    cheap_branch-no_second c rest f = λ t d. let r = branch_children c rest t d in f.2 r.1 (r.4 f.0 f.1)

    pub cheap_branch : (c : List Literal) (rest : ℕ) (a b : Option Tree) → IsIn c (last_moment h).kw → is_undecided p.signature (last_moment h) c ≡ true
        → IsBestTaking p h (BranchOn c) AsTrue n rest a → IsBestTaking p h (BranchOn c) AsFalse n rest b → IsBestOf p (IsCheapBy p h (n + 1) (rest + 1) (BranchOn c)) (both_sides c a b)
    cheap_branch c rest None b member open' f g = cheap_branch-no_first c rest f
    cheap_branch c rest (Some t) None member open' f g = λ u d. let r = branch_children c rest u d in g.2 r.1 (r.4 g.0 g.1)
    cheap_branch c rest (Some t) (Some u) member open' f g =
        let deep = f.2.0.0.1 in
        let deep' = g.2.0.0.1 in
        let costs = f.2.0.1 in
        let costs' = g.2.0.1 in (
          ((((member, open', (f.0, f.1, f.2.0.0.0), (g.0, g.1, g.2.0.0.0)), omega arith), refl), omega arith),
          λ v d.
              let r = branch_children c rest v d in
              subst (λ x. IsBefore p (Branch c t u) x) (sym r.2) (before_branch p c t r.0 u r.1 (f.2.1 r.0 (r.3 f.0 f.1)) (g.2.1 r.1 (r.4 g.0 g.1))),
        )

    -- ---- cases

    -- cases cost something
    pub dear_cases : (x : Term) → IsBestOf p (IsCheapBy p h n 0 (CasesOn x)) None
    dear_cases x = others
      where
        others : (t : Tree) → IsCheapBy p h n 0 (CasesOn x) t → ⊥
        others Goal d = none-some (CasesOn x) d.0.1
        others Impossible d = none-some (CasesOn x) d.0.1
        others (Do i t) d = cases_not_act i x d.0.1
        others (Branch c t u) d = cases_not_branch c x d.0.1
        others (Cases z k) d = let costs = d.1 in omega arith

    pub cheap_end : (x : Term) (limit : ℕ) → AreBestCheapCases p h x n limit [] (Some End)
    cheap_end x limit = (record { cases = record { on = refl; derived = tt; within = omega arith }; costs = omega arith }, others)
      where
        more_objects : (e : ℕ) (es : List ℕ) → e ∷ es ≡ [] → ⊥
        more_objects e es q = cc

        others : (m : Chain) → AreCheapCases p h x n limit [] m → ChainBefore p End m
        others End a = before_end p
        others (More e t k) a = let q = a.cases.on in absurd (more_objects e (objects_in k) q)

    first_case : (x : Term) (limit e : ℕ) (os : List ℕ) (m : Chain) → AreCheapCases p h x n limit (e ∷ os) m
        → (u : Tree) × (k : Chain) × (m ≡ More e u k) × ((y : State) → Takes p h (CasesOn x) (Is e) y → IsCheapWithin p y n limit u) × AreCheapCases p h x n limit os k
    first_case x limit e os End a = let q = a.cases.on in absurd (no_objects e os q)
      where
        no_objects : (e : ℕ) (es : List ℕ) → [] ≡ e ∷ es → ⊥
        no_objects e es q = cc
    first_case x limit e os (More o u k) a =
        let q = a.cases.on in
        let same : o ≡ e = cc q in
        let rest : objects_in k ≡ os = cc q in
        let deep = a.cases.within in
        let costs = a.costs in
        let one = a.cases.derived.0 in (
          u,
          k,
          ap (λ z. More z u k) same,
          λ y takes. ((subst (λ z. Derives p z u) (takes_one p h (CasesOn x) (Is e) one.0 y (subst (λ z. Takes p h (CasesOn x) (Is z) one.0) same one.1) takes) one.2, omega arith), omega arith),
          record { cases = record { on = rest; derived = a.cases.derived.1; within = omega arith }; costs = omega arith },
        )

    -- without a tree for the first object there are no cases
    pub cheap_more-no_first : (x : Term) (limit e : ℕ) (os : List ℕ) → IsBestTaking p h (CasesOn x) (Is e) n limit None → AreBestCheapCases p h x n limit (e ∷ os) None
    cheap_more-no_first x limit e os b = λ m a. let r = first_case x limit e os m a in b.2 r.0 (r.3 b.0 b.1)

    pub cheap_more : (x : Term) (limit e : ℕ) (os : List ℕ) (o : Option Tree) (c : Option Chain) → IsBestTaking p h (CasesOn x) (Is e) n limit o → AreBestCheapCases p h x n limit os c → AreBestCheapCases p h x n limit (e ∷ os) (one_more e o c)
    cheap_more x limit e os None c b f = cheap_more-no_first x limit e os b
    cheap_more x limit e os (Some t) None b f = λ m a. let r = first_case x limit e os m a in f r.1 r.4
    cheap_more x limit e os (Some t) (Some k) b f =
        let deep = b.2.0.0.1 in
        let deep' = f.0.cases.within in
        let costs = b.2.0.1 in
        let costs' = f.0.costs in (
          record {
            cases = record { on = ap (λ ds. e ∷ ds) f.0.cases.on; derived = ((b.0, b.1, b.2.0.0.0), f.0.cases.derived); within = omega arith };
            costs = omega arith;
          },
          λ m a.
              let r = first_case x limit e os m a in
              subst (λ z. ChainBefore p (More e t k) z) (sym r.2) (before_more p e t r.0 k r.1 (b.2.1 r.0 (r.3 b.0 b.1)) (f.1 r.1 r.4)),
        )

    cases_child : (x : Term) (rest : ℕ) (t : Tree) → IsCheapBy p h (n + 1) (rest + 1) (CasesOn x) t → (k : Chain) × (t ≡ Cases x k) × AreCheapCases p h x n rest (left p.signature (last_moment h) x) k
    cases_child x rest Goal d = absurd (none-some (CasesOn x) d.0.1)
    cases_child x rest Impossible d = absurd (none-some (CasesOn x) d.0.1)
    cases_child x rest (Do i t) d = absurd (cases_not_act i x d.0.1)
    cases_child x rest (Branch c t u) d = absurd (cases_not_branch c x d.0.1)
    cases_child x rest (Cases z k) d =
        let e : z ≡ x = cc d.0.1 in
        let deep = d.0.0.1 in
        let costs = d.1 in
        let a : AreCheapCases p h z n rest (left p.signature (last_moment h) z) k = record { cases = record { on = d.0.0.0.2; derived = d.0.0.0.3; within = omega arith }; costs = omega arith } in
        (k, ap (λ y. Cases y k) e, subst (λ y. AreCheapCases p h y n rest (left p.signature (last_moment h) y) k) e a)

    pub cheap_cases : (x : Term) (rest : ℕ) (c : Option Chain) → IsIn x (last_moment h).kv → may_split p.signature (last_moment h) x ≡ true → AreBestCheapCases p h x n rest (left p.signature (last_moment h) x) c
        → IsBestOf p (IsCheapBy p h (n + 1) (rest + 1) (CasesOn x)) (option_map (Cases x) c)
    cheap_cases x rest None member split f = λ t d. let r = cases_child x rest t d in f r.0 r.2
    cheap_cases x rest (Some k) member split f =
        let deep = f.0.cases.within in
        let costs = f.0.costs in (
          ((((member, split, f.0.cases.on, f.0.cases.derived), omega arith), refl), omega arith),
          λ u d. let r = cases_child x rest u d in subst (λ z. IsBefore p (Cases x k) z) (sym r.1) (before_cases p x k r.0 (f.1 r.0 r.2)),
        )
