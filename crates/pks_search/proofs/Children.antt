-- The best tree after an action or where a side is taken, by how progression, assuming and settling end.
use Rattle.std.proofs.Common.{◌≡◌, ◌+◌, ◌≤◌, ◌-◌, ℕ, Bool, true, false, not, List, [], ◌∷◌, Option, Some, None, option_map, refl, sym, subst, arith}
use Rattle.pks_terms.specs.Sets.{IsIn}
use Rattle.pks_terms.specs.Syntax.{Term, Literal}
use Rattle.pks_terms.specs.Databases.{Five}
use Rattle.pks_terms.specs.Closure.{Outcome, Next, Clash}
use Rattle.pks_terms.specs.Actions.{Instance}
use Rattle.pks_terms.specs.Progress.{Progress}
use Rattle.pks_terms.specs.Problems.{Problem, schema_of}
use Rattle.pks_terms.specs.Branching.{instances, is_undecided, left, may_split, Choice, Act, BranchOn, CasesOn, Side, AsTrue, AsFalse, Is, Assumes}
use Rattle.pks_terms.specs.Settling.{History, last_moment, pushed, with_last, State, At, Stopped, Settles}
use Rattle.pks_terms.specs.Trees.{Tree, Takes, Impossible, Do, Branch, Cases, Chain, End, More, IsBestOf}
use Rattle.pks_terms.specs.Signatures.{Signature}
use Rattle.pks_laws.specs.OfSignature.{IsSideOf}
use Rattle.pks_search.specs.Sides.{side_on, branch_of}
use Rattle.pks_search.specs.Limits.{IsBestWithin, IsCheapBy, IsBestAfter, IsBestTaking, AreBestCheapCases}
use Rattle.pks_search.proofs.Limited.{price, cheap_stopped, cheap_act, cheap_end, cheap_branch, cheap_branch-no_first, cheap_branch-no_second, cheap_more, cheap_more-no_first, cheap_cases}

pub sided : (s : Signature) (c : List Literal) (b : Bool) (side : Side) → side ≡ side_on b → IsSideOf s (BranchOn c) side
sided s c true side e = subst (IsSideOf s (BranchOn c)) (sym e) tt
sided s c false side e = subst (IsSideOf s (BranchOn c)) (sym e) tt

module _ (p : Problem) (h : History) where
  -- ---- after an action

  acts : (i : Instance) (d : Five) (o : Outcome) → d ≡ last_moment h → Progress p.signature d (schema_of p i.action) i o → Progress p.signature (last_moment h) (schema_of p i.action) i o
  acts i d o e k = subst (λ x. Progress p.signature x (schema_of p i.action) i o) e k

  pub after_clash : (n limit : ℕ) (i : Instance) (d : Five) (o : Outcome) (l : Literal) → d ≡ last_moment h → o ≡ Clash l → Progress p.signature d (schema_of p i.action) i o → IsBestAfter p h i n limit (Some Impossible)
  after_clash n limit i d o l e q k = (Stopped, record { outcome = Clash l; progress = subst (Progress p.signature (last_moment h) (schema_of p i.action) i) q (acts i d o e k); gives = refl }, cheap_stopped p n limit)

  pub after_next : (n limit : ℕ) (i : Instance) (d next : Five) (o : Outcome) (b : Option Tree) → d ≡ last_moment h → o ≡ Next next → Progress p.signature d (schema_of p i.action) i o → IsBestWithin p (At (pushed h i next)) n limit b → IsBestAfter p h i n limit b
  after_next n limit i d next o b e q k best = (At (pushed h i next), record { outcome = Next next; progress = subst (Progress p.signature (last_moment h) (schema_of p i.action) i) q (acts i d o e k); gives = refl }, best)

  -- ---- where a side is taken

  assumes : (c : Choice) (side : Side) (d : Five) (o q : Outcome) → d ≡ last_moment h → o ≡ q → Assumes p.signature d c side o → Assumes p.signature (last_moment h) c side q
  assumes c side d o q e f k = subst (Assumes p.signature (last_moment h) c side) f (subst (λ x. Assumes p.signature x c side o) e k)

  pub taking_clash : (n limit : ℕ) (c : Choice) (side : Side) (d : Five) (o : Outcome) (l : Literal) → d ≡ last_moment h → o ≡ Clash l → Assumes p.signature d c side o → IsBestTaking p h c side n limit (Some Impossible)
  taking_clash n limit c side d o l e q k = (Stopped, record { outcome = Clash l; assumed = assumes c side d o (Clash l) e q k; settled = refl }, cheap_stopped p n limit)

  pub taking_next : (n limit : ℕ) (c : Choice) (side : Side) (d next : Five) (o : Outcome) (x y : State) (b : Option Tree) → d ≡ last_moment h → o ≡ Next next → Assumes p.signature d c side o
      → Settles p (with_last h next) x → x ≡ y → IsBestWithin p y n limit b → IsBestTaking p h c side n limit b
  taking_next n limit c side d next o x y b e q k s f best = (y, record { outcome = Next next; assumed = assumes c side d o (Next next) e q k; settled = subst (Settles p (with_last h next)) f s }, best)

  -- the history where a side is taken
  pub takes : (c : Choice) (side : Side) (d next : Five) (o : Outcome) (y : State) → d ≡ last_moment h → o ≡ Next next → Assumes p.signature d c side o → Settles p (with_last h next) y → Takes p h c side y
  takes c side d next o y e q k s = record { outcome = Next next; assumed = assumes c side d o (Next next) e q k; settled = s }

  -- ---- whole trees

  pub found_act : (n limit own : ℕ) (i : Instance) (o whole : Option Tree) → IsIn i (instances p (last_moment h)) → own ≡ price p i → own ≤ limit → IsBestAfter p h i n (limit - own) o → whole ≡ option_map (Do i) o → IsBestOf p (IsCheapBy p h (n + 1) limit (Act i)) whole
  found_act n limit own i o whole member e k b f = subst (IsBestOf p (IsCheapBy p h (n + 1) limit (Act i))) (sym f) (cheap_act p h n i limit (limit - own) o member (omega arith) b)

  by_sum : (n limit : ℕ) (c : Choice) (o : Option Tree) → limit - 1 + 1 ≡ limit → IsBestOf p (IsCheapBy p h (n + 1) (limit - 1 + 1) c) o → IsBestOf p (IsCheapBy p h (n + 1) limit c) o
  by_sum n limit c o e b = subst (λ l. IsBestOf p (IsCheapBy p h (n + 1) l c) o) e b

  found_branch : (n limit : ℕ) (c : List Literal) (t u whole : Tree) → (limit ≡ 0 → ⊥) → IsIn c (last_moment h).kw → is_undecided p.signature (last_moment h) c ≡ true
      → IsBestTaking p h (BranchOn c) AsTrue n (limit - 1) (Some t) → IsBestTaking p h (BranchOn c) AsFalse n (limit - 1) (Some u) → whole ≡ Branch c t u → IsBestOf p (IsCheapBy p h (n + 1) limit (BranchOn c)) (Some whole)
  found_branch n limit c t u whole some member open' f g e =
      by_sum n limit (BranchOn c) (Some whole) (omega arith)
      (subst (λ x. IsBestOf p (IsCheapBy p h (n + 1) (limit - 1 + 1) (BranchOn c)) (Some x)) (sym e) (cheap_branch p h n c (limit - 1) (Some t) (Some u) member open' f g))

  no_true_side : (n limit : ℕ) (c : List Literal) (o : Option Tree) → (limit ≡ 0 → ⊥) → o ≡ None → IsBestTaking p h (BranchOn c) AsTrue n (limit - 1) o → IsBestOf p (IsCheapBy p h (n + 1) limit (BranchOn c)) None
  no_true_side n limit c o some e f = by_sum n limit (BranchOn c) None (omega arith) (cheap_branch-no_first p h n c (limit - 1) (subst (IsBestTaking p h (BranchOn c) AsTrue n (limit - 1)) e f))

  no_false_side : (n limit : ℕ) (c : List Literal) (o : Option Tree) → (limit ≡ 0 → ⊥) → o ≡ None → IsBestTaking p h (BranchOn c) AsFalse n (limit - 1) o → IsBestOf p (IsCheapBy p h (n + 1) limit (BranchOn c)) None
  no_false_side n limit c o some e f = by_sum n limit (BranchOn c) None (omega arith) (cheap_branch-no_second p h n c (limit - 1) (subst (IsBestTaking p h (BranchOn c) AsFalse n (limit - 1)) e f))

  pub found_sides : (n limit : ℕ) (c : List Literal) (b : Bool) (side other : Side) (t u whole : Tree) → (limit ≡ 0 → ⊥) → IsIn c (last_moment h).kw → is_undecided p.signature (last_moment h) c ≡ true
      → side ≡ side_on b → other ≡ side_on (not b) → IsBestTaking p h (BranchOn c) side n (limit - 1) (Some t) → IsBestTaking p h (BranchOn c) other n (limit - 1) (Some u) → whole ≡ branch_of b c t u → IsBestOf p (IsCheapBy p h (n + 1) limit (BranchOn c)) (Some whole)
  found_sides n limit c true side other t u whole some member open' e f g k q =
      found_branch n limit c t u whole some member open' (subst (λ x. IsBestTaking p h (BranchOn c) x n (limit - 1) (Some t)) e g) (subst (λ x. IsBestTaking p h (BranchOn c) x n (limit - 1) (Some u)) f k) q
  found_sides n limit c false side other t u whole some member open' e f g k q =
      found_branch n limit c u t whole some member open' (subst (λ x. IsBestTaking p h (BranchOn c) x n (limit - 1) (Some u)) f k) (subst (λ x. IsBestTaking p h (BranchOn c) x n (limit - 1) (Some t)) e g) q

  pub no_side : (n limit : ℕ) (c : List Literal) (b : Bool) (side : Side) (o : Option Tree) → (limit ≡ 0 → ⊥) → side ≡ side_on b → o ≡ None → IsBestTaking p h (BranchOn c) side n (limit - 1) o → IsBestOf p (IsCheapBy p h (n + 1) limit (BranchOn c)) None
  no_side n limit c true side o some e q f = no_true_side n limit c o some q (subst (λ x. IsBestTaking p h (BranchOn c) x n (limit - 1) o) e f)
  no_side n limit c false side o some e q f = no_false_side n limit c o some q (subst (λ x. IsBestTaking p h (BranchOn c) x n (limit - 1) o) e f)

  pub found_cases : (n limit : ℕ) (x : Term) (o : Option Chain) (whole : Option Tree) → (limit ≡ 0 → ⊥) → IsIn x (last_moment h).kv → may_split p.signature (last_moment h) x ≡ true
      → AreBestCheapCases p h x n (limit - 1) (left p.signature (last_moment h) x) o → whole ≡ option_map (Cases x) o → IsBestOf p (IsCheapBy p h (n + 1) limit (CasesOn x)) whole
  found_cases n limit x o whole some member split f e =
      by_sum n limit (CasesOn x) whole (omega arith)
      (subst (IsBestOf p (IsCheapBy p h (n + 1) (limit - 1 + 1) (CasesOn x))) (sym e) (cheap_cases p h n x (limit - 1) o member split f))

  -- ---- chains

  pub chain_found : (n limit : ℕ) (x : Term) (e : ℕ) (os all : List ℕ) (t : Tree) (k : Chain) → all ≡ e ∷ os → IsBestTaking p h (CasesOn x) (Is e) n limit (Some t) → AreBestCheapCases p h x n limit os (Some k) → AreBestCheapCases p h x n limit all (Some (More e t k))
  chain_found n limit x e os all t k q b f = subst (λ ds. AreBestCheapCases p h x n limit ds (Some (More e t k))) (sym q) (cheap_more p h n x limit e os (Some t) (Some k) b f)

  pub chain_no_first : (n limit : ℕ) (x : Term) (e : ℕ) (os all : List ℕ) (o : Option Tree) → all ≡ e ∷ os → o ≡ None → IsBestTaking p h (CasesOn x) (Is e) n limit o → AreBestCheapCases p h x n limit all None
  chain_no_first n limit x e os all o q r b = subst (λ ds. AreBestCheapCases p h x n limit ds None) (sym q) (cheap_more-no_first p h n x limit e os (subst (IsBestTaking p h (CasesOn x) (Is e) n limit) r b))

  pub chain_no_rest : (n limit : ℕ) (x : Term) (e : ℕ) (os all : List ℕ) (t : Tree) (o : Option Chain) → all ≡ e ∷ os → IsBestTaking p h (CasesOn x) (Is e) n limit (Some t) → o ≡ None → AreBestCheapCases p h x n limit os o → AreBestCheapCases p h x n limit all None
  chain_no_rest n limit x e os all t o q b r f =
      subst (λ ds. AreBestCheapCases p h x n limit ds None) (sym q) (cheap_more p h n x limit e os (Some t) None b (subst (AreBestCheapCases p h x n limit os) r f))

  pub chain_empty : (n limit : ℕ) (x : Term) (all : List ℕ) → all ≡ [] → AreBestCheapCases p h x n limit all (Some End)
  chain_empty n limit x all q = subst (λ ds. AreBestCheapCases p h x n limit ds (Some End)) (sym q) (cheap_end p h n x limit)

  -- the databases that follow are those at the last moment's next
  pub acted : (i : Instance) (d next : Five) (o : Outcome) → d ≡ last_moment h → o ≡ Next next → Progress p.signature d (schema_of p i.action) i o → Progress p.signature (last_moment h) (schema_of p i.action) i (Next next)
  acted i d next o e q k = subst (Progress p.signature (last_moment h) (schema_of p i.action) i) q (acts i d o e k)
