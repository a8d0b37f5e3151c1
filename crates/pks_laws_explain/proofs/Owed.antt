-- Each literal that a plan rests on has an accepted proof, so each plan has an explanation.
use Rattle.std.proofs.Common.{◌≡◌, ◌++◌, ℕ, Bool, true, false, cond, not, List, [], ◌∷◌, map, filter, filter_map, Some, None, refl, sym, ap, ◌∙◌, subst, true≢false}
use Rattle.std.proofs.lemmas.Option.{none-some, same_Some}
use Rattle.pks_terms.specs.Sets.{Each, IsIn}
use Rattle.pks_terms.specs.Syntax.{Inner, Term, object, Literal}
use Rattle.pks_terms.specs.Orders.{inequation}
use Rattle.pks_terms.specs.Signatures.{range_of}
use Rattle.pks_terms.specs.Databases.{Five, holds}
use Rattle.pks_terms.specs.Closure.{Outcome, Next, Clash, Closes}
use Rattle.pks_terms.specs.Queries.{Plain, Know, KnowWhether, KnowValue, Query, answers_plain, answers}
use Rattle.pks_terms.specs.Actions.{Instance, term_at, literal_at, plain_at, query_at}
use Rattle.pks_terms.specs.Problems.{Aim, Now, AtStart, Always, Once, Problem, schema_of, initial}
use Rattle.pks_terms.specs.Versions.{query_in}
use Rattle.pks_terms.specs.Branching.{instances, left, Choice, BranchOn, CasesOn, Side, AsTrue, AsFalse, Is, IsMember}
use Rattle.pks_terms.specs.Settling.{History, last_moment, State, At, Stopped}
use Rattle.pks_terms.specs.Aims.{is_met, met}
use Rattle.pks_terms.specs.Trees.{Tree, Goal, Impossible, Do, Branch, Cases, Chain, End, More, objects_in, Acts, Takes, Derives, DerivesEach, start_state, IsPlan}
use Rattle.pks_terms.specs.Typed.{AllJustified}
use Rattle.pks_terms.specs.Valid.{IsPlainText, IsValid}
use Rattle.pks_terms.specs.Moments.{IsInOrder}
use Rattle.pks_terms.specs.Proofs.{Went, Took, Path, Proof}
use Rattle.pks_terms.specs.Accepting.{accepts}
use Rattle.pks_terms.specs.Explained.{literal_asked, literal_needed, needed_before, literal_aimed, at_end, owed, owed_in, Entry, IsExplained}
use Rattle.pks_terms.proofs.ListLaws.{each_append, each_in, each_of, each_filter_map, each_from_all, in_filtered}
use Rattle.pks_laws.specs.OfSignature.{IsSideOf}
use Rattle.pks_laws.proofs.Instances.{allowed_instance}
use Rattle.pks_laws_explain.specs.Shown.{Leads}
use Rattle.pks_laws_explain.proofs.Equal.{literal_ordered}
use Rattle.pks_laws_explain.proofs.Led.{proof_of}

-- ---- a path that is longer by one piece

went_further : (p : Problem) (path : Path) (h k g : History) (i : Instance) → Leads p h path k → IsIn i (instances p (last_moment k)) → Acts p k i (At g) → Leads p h (path ++ Went i ∷ []) g
went_further p [] h k g i l chosen a = (subst (λ (x : History). IsIn i (instances p (last_moment x))) (sym l) chosen, (g, subst (λ (x : History). Acts p x i (At g)) (sym l) a, refl))
went_further p (Went e ∷ path) h k g i l chosen a = (l.0, (l.1.0, l.1.1, went_further p path l.1.0 k g i l.1.2 chosen a))
went_further p (Took c side ∷ path) h k g i l chosen a = (l.0, l.1, (l.2.0, l.2.1, went_further p path l.2.0 k g i l.2.2 chosen a))

took_further : (p : Problem) (path : Path) (h k g : History) (c : Choice) (side : Side) → Leads p h path k → IsMember (last_moment k) c → IsSideOf p.signature c side → Takes p k c side (At g) → Leads p h (path ++ Took c side ∷ []) g
took_further p [] h k g c side l member of t = (subst (λ (x : History). IsMember (last_moment x) c) (sym l) member, of, (g, subst (λ (x : History). Takes p x c side (At g)) (sym l) t, refl))
took_further p (Went e ∷ path) h k g c side l member of t = (l.0, (l.1.0, l.1.1, took_further p path l.1.0 k g c side l.1.2 member of t))
took_further p (Took b other ∷ path) h k g c side l member of t = (l.0, l.1, (l.2.0, l.2.1, took_further p path l.2.0 k g c side l.2.2 member of t))

-- ---- what queries ask

module _ (p : Problem) (d : Five) where
  asked_holds : (q : Query) (l : Literal) → literal_needed q ≡ Some l → answers p.signature d q ≡ true → (q.asks ≡ Know l) × (holds p.signature d l ≡ true)
  asked_holds q l e h =
      elim q.denied as (λ b. q.denied ≡ b → cond b None (literal_asked q.asks) ≡ Some l → cond b (not (answers_plain p.signature d q.asks)) (answers_plain p.signature d q.asks) ≡ true → (q.asks ≡ Know l) × (holds p.signature d l ≡ true)) [
        | true ↦ λ k n a. absurd (none-some l n)
        | false ↦ λ k n a. plain q.asks refl n a
      ] refl e h
    where
      plain : (x : Plain) → q.asks ≡ x → literal_asked x ≡ Some l → answers_plain p.signature d x ≡ true → (q.asks ≡ Know l) × (holds p.signature d l ≡ true)
      plain (Know m) w n a = (w ∙ ap Know (same_Some m l n), ap (holds p.signature d) (sym (same_Some m l n)) ∙ a)
      plain (KnowWhether c) w n a = absurd (none-some l n)
      plain (KnowValue t) w n a = absurd (none-some l n)

-- the literal of which k is asked, or this one
abbrev known_or : Literal → Plain → Literal
known_or l (Know m) = m
known_or l (KnowWhether c) = l
known_or l (KnowValue t) = l

-- k of a literal is asked
abbrev is_know : Plain → Bool
is_know (Know m) = true
is_know (KnowWhether c) = false
is_know (KnowValue t) = false

-- a literal that a query with the arguments put in asks for has its sides in order
asked_ordered : (given : List Inner) (x : Plain) (l : Literal) → plain_at given x ≡ Know l → IsInOrder l
asked_ordered given (Know m) l e = subst IsInOrder (ap (known_or l) e) (put m)
  where
    put : (m : Literal) → IsInOrder (literal_at given m)
    put m = unfold literal_at in literal_ordered m.relation (map (term_at given) m.arguments) m.positive
asked_ordered given (KnowWhether c) l e = absurd (true≢false (sym (ap is_know e)))
asked_ordered given (KnowValue t) l e = absurd (true≢false (sym (ap is_know e)))

module _ (p : Problem) (v : IsValid p) (all : AllJustified p) (first : Five) (closes : Closes p.signature (initial p) (Next first)) where
  abbrev begin : History
  begin = record { start = first; steps = [] }

  abbrev HasProof : Path × Literal → Type 0
  HasProof q = (proof : Proof) × (accepts p q.0 proof q.1 ≡ true)

  -- the path leads from the start to the history, where the state is one
  abbrev IsLedTo : Path → State → Type 0
  IsLedTo path (At h) = Leads p begin path h
  IsLedTo path Stopped = Unit {0}

  literals_proved : (path : Path) (h : History) → Leads p begin path h → (ls : List Literal) → Each (λ l. IsInOrder l × (holds p.signature (last_moment h) l ≡ true)) ls → Each HasProof (at_end path ls)
  literals_proved path h l [] a = tt
  literals_proved path h l (x ∷ ls) a = (proof_of p path v all first h x closes l a.0.0 a.0.1, literals_proved path h l ls a.1)

  -- the preconditions of a choice
  needed_hold : (d : Five) (i : Instance) → IsIn i (instances p d) → Each (λ l. IsInOrder l × (holds p.signature d l ≡ true)) (needed_before p i)
  needed_hold d i chosen =
      let allowed = (allowed_instance p d i chosen).0 in
      let pre = (schema_of p i.action).pre in
      let each : Each (λ q. answers p.signature d (query_at i.arguments q) ≡ true) pre = each_from_all (λ q. answers p.signature d (query_at i.arguments q) ≡ true) (λ q. answers p.signature d (query_at i.arguments q)) (λ q h. h) pre allowed in
      each_filter_map (λ l. IsInOrder l × (holds p.signature d l ≡ true)) (λ q. literal_needed (query_at i.arguments q)) pre (λ q l k e.
      let r = asked_holds p d (query_at i.arguments q) l e (each_in (λ q. answers p.signature d (query_at i.arguments q) ≡ true) pre q each k) in
      (asked_ordered i.arguments q.asks l r.0, r.1))

  -- the plain goals
  aimed_hold : (h : History) → met p h ≡ true → Each (λ l. IsInOrder l × (holds p.signature (last_moment h) l ≡ true)) (filter_map literal_aimed p.goal)
  unfolding met
  aimed_hold h m =
      let each : Each (λ x. is_met p.signature h x ≡ true) p.goal = each_from_all (λ x. is_met p.signature h x ≡ true) (is_met p.signature h) (λ x k. k) p.goal m in
      each_filter_map (λ l. IsInOrder l × (holds p.signature (last_moment h) l ≡ true)) literal_aimed p.goal (λ x l k e. aim x l e (each_in (λ x. is_met p.signature h x ≡ true) p.goal x each k) (each_in (λ x. IsPlainText p.signature [] (query_in x).asks) p.goal x v.goal k))
    where
      aim : (x : Aim) (l : Literal) → literal_aimed x ≡ Some l → is_met p.signature h x ≡ true → IsPlainText p.signature [] (query_in x).asks → IsInOrder l × (holds p.signature (last_moment h) l ≡ true)
      aim (Now q) l e a t = let r = asked_holds p (last_moment h) q l e a in ((subst (IsPlainText p.signature []) r.0 t).ordered, r.1)
      aim (AtStart q) l e a t = absurd (none-some l e)
      aim (Always q) l e a t = absurd (none-some l e)
      aim (Once q) l e a t = absurd (none-some l e)

  sides_of : (h : History) (t : Term) (es : List ℕ) → es ≡ left p.signature (last_moment h) t → Each (λ e. IsIn e (range_of p.signature t)) es
  unfolding left
  sides_of h t es q =
      subst (Each (λ e. IsIn e (range_of p.signature t))) (sym q)
      (each_of (λ e. IsIn e (range_of p.signature t)) (filter (λ e. not (holds p.signature (last_moment h) (inequation t (object e)))) (range_of p.signature t)) (λ e i. (in_filtered (λ e. not (holds p.signature (last_moment h) (inequation t (object e)))) (range_of p.signature t) e i).0))

  after_went : (path : Path) (h : History) (i : Instance) (y : State) → Leads p begin path h → IsIn i (instances p (last_moment h)) → Acts p h i y → IsLedTo (path ++ Went i ∷ []) y
  after_went path h i (At g) l chosen a = went_further p path begin h g i l chosen a
  after_went path h i Stopped l chosen a = tt

  after_took : (path : Path) (h : History) (c : Choice) (side : Side) (y : State) → Leads p begin path h → IsMember (last_moment h) c → IsSideOf p.signature c side → Takes p h c side y → IsLedTo (path ++ Took c side ∷ []) y
  after_took path h c side (At g) l member of t = took_further p path begin h g c side l member of t
  after_took path h c side Stopped l member of t = tt

  mutual
    owed_proved : (t : Tree) (path : Path) (x : State) → IsLedTo path x → Derives p x t → Each HasProof (owed p path t)
    owed_proved Goal path (At h) l d = literals_proved path h l (filter_map literal_aimed p.goal) (aimed_hold h d)
    owed_proved Goal path Stopped l d = absurd d
    owed_proved Impossible path x l d = tt
    owed_proved (Do i t) path (At h) l d =
        each_append HasProof (at_end path (needed_before p i)) (owed p (path ++ Went i ∷ []) t) (literals_proved path h l (needed_before p i) (needed_hold (last_moment h) i d.0))
        (owed_proved t (path ++ Went i ∷ []) d.1.0 (after_went path h i d.1.0 l d.0 d.1.1) d.1.2)
    owed_proved (Do i t) path Stopped l d = absurd d
    owed_proved (Branch c t u) path (At h) l d =
        each_append HasProof (owed p (path ++ Took (BranchOn c) AsTrue ∷ []) t) (owed p (path ++ Took (BranchOn c) AsFalse ∷ []) u)
        (owed_proved t (path ++ Took (BranchOn c) AsTrue ∷ []) d.2.0 (after_took path h (BranchOn c) AsTrue d.2.0 l d.0 tt d.2.1) d.2.2)
        (owed_proved u (path ++ Took (BranchOn c) AsFalse ∷ []) d.3.0 (after_took path h (BranchOn c) AsFalse d.3.0 l d.0 tt d.3.1) d.3.2)
    owed_proved (Branch c t u) path Stopped l d = absurd d
    owed_proved (Cases x k) path (At h) l d = owed_in_proved k path h x l d.0 (sides_of h x (objects_in k) d.2) d.3
    owed_proved (Cases x k) path Stopped l d = absurd d

    owed_in_proved : (k : Chain) (path : Path) (h : History) (x : Term) → Leads p begin path h → IsIn x (last_moment h).kv → Each (λ e. IsIn e (range_of p.signature x)) (objects_in k) → DerivesEach p h x k → Each HasProof (owed_in p path x k)
    owed_in_proved End path h x l member of d = tt
    owed_in_proved (More e t k) path h x l member of d =
        each_append HasProof (owed p (path ++ Took (CasesOn x) (Is e) ∷ []) t) (owed_in p path x k)
        (owed_proved t (path ++ Took (CasesOn x) (Is e) ∷ []) d.0.0 (after_took path h (CasesOn x) (Is e) d.0.0 l member of.0 d.0.1) d.0.2)
        (owed_in_proved k path h x l member of.1 d.1)

-- ---- the entries

module _ (p : Problem) where
  abbrev Proved : Path × Literal → Type 0
  Proved q = (proof : Proof) × (accepts p q.0 proof q.1 ≡ true)

  record Entries (qs : List (Path × Literal)) : Type 0 where
    entries : List Entry
    whole : map (λ (e : Entry). let q : Path × Literal = (e.path, e.literal) in q) entries ≡ qs
    accepted : Each (λ (e : Entry). accepts p e.path e.proof e.literal ≡ true) entries

  entries_of : (qs : List (Path × Literal)) → Each Proved qs → Entries qs
  entries_of [] a = record { entries = []; whole = refl; accepted = tt }
  entries_of (q ∷ qs) a =
      let r = entries_of qs a.1 in
      record { entries = record { path = q.0; literal = q.1; proof = a.0.0 } ∷ r.entries; whole = ap (λ zs. q ∷ zs) r.whole; accepted = (a.0.1, r.accepted) }

  -- a plan has an explanation
  pub plan_explained : (t : Tree) → IsValid p → AllJustified p → IsPlan p t → (entries : List Entry) × IsExplained p t entries
  plan_explained t v all plan =
      let proved = from plan.outcome plan.closes plan.derives in
      let r = entries_of (owed p [] t) proved in
      (r.entries, record { whole = r.whole; accepted = r.accepted })
    where
      none_owed : (t : Tree) → Derives p Stopped t → Each Proved (owed p [] t)
      none_owed Goal d = absurd d
      none_owed Impossible d = tt
      none_owed (Do i t) d = absurd d
      none_owed (Branch c t u) d = absurd d
      none_owed (Cases x k) d = absurd d

      from : (o : Outcome) → Closes p.signature (initial p) o → Derives p (start_state o) t → Each Proved (owed p [] t)
      from (Next d) c derives = owed_proved p v all d c t [] (At (record { start = d; steps = [] })) refl derives
      from (Clash l) c derives = none_owed t derives
