-- What aims over time ask is told alike before and after a step that leaves it as it is.
use Rattle.std.proofs.Common.{◌≡◌, ◌⊎◌, ◌&&◌, ◌||◌, ◌==◌, ℕ, zero, suc, Bool, true, false, not, cond, List, [], ◌∷◌, map, filter, None, refl, sym, ap, ◌∙◌, subst, inl, inr, ⊎_elim, true≢false}
use Rattle.std.specs.List.{list_any, list_all}
use Rattle.std.specs.Ordering.{is_eq}
use Rattle.std.proofs.lemmas.Bool.{and_parts, or_cases, or_left, or_right, not_from_false, false_from_ne_true, not-true}
use Rattle.pks_terms.specs.Sets.{Each, IsIn, set_of}
use Rattle.pks_terms.specs.Syntax.{Object, Parameter, Apply, Term, Relation, Named, Equality, Literal, negated}
use Rattle.pks_terms.specs.Orders.{literal_eq, conj_cmp, in_order}
use Rattle.pks_terms.specs.Totality.{literal_cmp_total}
use Rattle.pks_terms.specs.Signatures.{Signature, HasValues}
use Rattle.pks_terms.specs.Databases.{entry_cmp, Five, normal_literal, is_closed_off, holds}
use Rattle.pks_terms.specs.Queries.{Plain, Know, KnowWhether, KnowValue, is_member, has_known_sides, is_decided, known_whether, answers_plain, answers, Query}
use Rattle.pks_terms.specs.Closure.{first_clash, normal_conj, normal_entry, round, rounds, tidied, Next}
use Rattle.pks_terms.specs.Actions.{Target, Set, Unset, Clear, Assign, Effect, Instance}
use Rattle.pks_terms.specs.Aims.{is_met, met}
use Rattle.pks_terms.specs.Branching.{Choice, Act, BranchOn, CasesOn, Side, AsTrue, AsFalse, Is, assumed, Assumes}
use Rattle.pks_terms.specs.Spoiling.{some_fixed_differ, may_fire, may_make_true, may_make_false, is_stable, are_stable, may_be_denied, some_may, spoils}
use Rattle.pks_terms.specs.Problems.{Aim, Now, AtStart, Always, Once, Problem}
use Rattle.pks_terms.specs.Moments.{AreMomentsOf}
use Rattle.pks_terms.specs.Valid.{IsValid}
use Rattle.pks_terms.specs.Trees.{Tree, Derives}
use Rattle.pks_terms.specs.Saturated.{IsSaturated, ClosedAlong}
use Rattle.pks_terms.specs.Settling.{History, At, effects_of, lasting, lasted}
use Rattle.pks_terms.proofs.ListLaws.{or_false, each_in, each_of, each_map, each_weaker, each_from_all, found_in, any_in, in_filtered, in_filter, in_mapped, in_map, each_set_of}
use Rattle.pks_terms.proofs.OrderLaws.{literal_cmp_tells, conj_cmp_tells}
use Rattle.pks_terms.proofs.SetLaws.{in_set_of, set_of_in}
use Rattle.pks_terms.specs.Objects.{is_named, is_of_objects}
use Rattle.pks_laws.proofs.Belonging.{end_of}
use Rattle.pks_laws.proofs.ClosedAgain.{holds-tidied}
use Rattle.pks_laws.proofs.Least.{in_left, literal_eq_itself, one_value, addition_in}
use Rattle.pks_laws.proofs.NormalMembers.{normal_in}
use Rattle.pks_laws_forget.specs.Transparent.{AreObjects, IsOfObjects, is_about, at_other_objects, IsTransparent, AreSetsAlong, with_first}
use Rattle.pks_laws_forget.specs.Fewer.{is_held}
use Rattle.pks_laws_forget.specs.Staying.{is_at_others, leaves, literal_stays, is_said_in, says_more, query_stays, aim_stays, aims_stay}
use Rattle.pks_laws_forget.specs.Looks.{are_alike, is_empty}
use Rattle.pks_laws_forget.proofs.Alike.{found_known, holds_cases, known_holds, normal_relation, evident_equation}
use Rattle.pks_laws_forget.proofs.Lists.{both_ways, alike_same}
use Rattle.pks_laws_forget.proofs.Cut.{KeepsGoal, cut_kept, assumed_more, rounds_leave}
use Rattle.pks_laws_forget.proofs.Ends.{forget, first_closed}
use Rattle.pks_laws_forget.proofs.Held.{Upholds, still_held, answered}
use Rattle.pks_laws_forget.proofs.Tested.{equal_of}
use Rattle.pks_laws_forget.proofs.Objects.{of_objects, literal_normal, others_differ}

-- ---- literals that the effects leave

-- the literal is of a predicate at objects, and no effect is of it
pub record IsLeft (es : List Effect) (l : Literal) : Type 0 where
  pub objects : IsOfObjects l
  pub left : Each (λ (e : Effect). leaves l e.target ≡ true) es

left_negated : (es : List Effect) (l : Literal) → IsLeft es l → IsLeft es (negated l)
left_negated es l k = record { objects = k.objects; left = k.left }

-- the target doesn't make a literal false that it leaves
not_both : (a b c : Bool) → (not a || b) ≡ true → (b ≡ true → c ≡ true) → (a && not c) ≡ false
not_both true b c h f = ap not (f h)
not_both false b c h f = refl

module _ (s : Signature) (d : Five) where
  not_true : (p : ℕ) (ts : List Term) (x : Target) → (not (is_about (Named p) x) || is_at_others x ts) ≡ true → may_make_true s d.kf p ts x ≡ false
  not_true p ts (Set a) h = not_both (a.predicate == p) (at_other_objects a.arguments ts) _ h (others_differ s d.kf a.arguments ts)
  not_true p ts (Unset a) h = refl
  not_true p ts (Clear x) h = refl
  not_true p ts (Assign f us v) h = refl

  not_false : (p : ℕ) (ts : List Term) (x : Target) → (not (is_about (Named p) x) || is_at_others x ts) ≡ true → may_make_false s d.kf p ts x ≡ false
  not_false p ts (Unset a) h = not_both (a.predicate == p) (at_other_objects a.arguments ts) _ h (others_differ s d.kf a.arguments ts)
  not_false p ts (Clear x) h = ⊎_elim (λ n. ap (λ b. b && not (some_fixed_differ s d.kf x.slots ts)) (not-true (x.predicate == p) n)) (λ n. absurd (true≢false (sym n))) (or_cases (not (x.predicate == p)) false h)
  not_false p ts (Set a) h = refl
  not_false p ts (Assign f us v) h = refl

  none_may : (does : Target → Bool) (es : List Effect) → Each (λ (e : Effect). does e.target ≡ false) es → some_may s d does es ≡ false
  none_may does [] k = refl
  none_may does (e ∷ es) k = ap (λ b. (may_fire s d e && b) || some_may s d does es) k.0 ∙ and_false (may_fire s d e) (some_may s d does es) ∙ none_may does es k.1
    where
      and_false : (a b : Bool) → ((a && false) || b) ≡ b
      and_false true b = refl
      and_false false b = refl

  objects_stable : (es : List Effect) (ts : List Term) → AreObjects ts → are_stable s d es ts ≡ true
  unfolding is_stable
  objects_stable es [] a = refl
  objects_stable es (Object e ∷ ts) a = objects_stable es ts a.1
  objects_stable es (Parameter e ∷ ts) a = absurd (true≢false (sym a.0))
  objects_stable es (Apply f us ∷ ts) a = absurd (true≢false (sym a.0))

  undenied : (es : List Effect) (r : Relation) (ts : List Term) (b : Bool) → is_named r ≡ true → Each (λ (e : Effect). (not (is_about r e.target) || is_at_others e.target ts) ≡ true) es → may_be_denied s d es r ts b ≡ false
  undenied es (Named p) ts true n k = none_may (may_make_false s d.kf p ts) es (each_weaker (λ (e : Effect). (not (is_about (Named p) e.target) || is_at_others e.target ts) ≡ true) (λ (e : Effect). may_make_false s d.kf p ts e.target ≡ false) (λ e h. not_false p ts e.target h) es k)
  undenied es (Named p) ts false n k = none_may (may_make_true s d.kf p ts) es (each_weaker (λ (e : Effect). (not (is_about (Named p) e.target) || is_at_others e.target ts) ≡ true) (λ (e : Effect). may_make_true s d.kf p ts e.target ≡ false) (λ e h. not_true p ts e.target h) es k)
  undenied es Equality ts b n k = absurd (true≢false (sym n))

  pub unspoiled : (es : List Effect) (l : Literal) → IsLeft es l → spoils s d es l ≡ false
  unfolding spoils
  unspoiled es l k = ap (λ b. not b || may_be_denied s d es l.relation l.arguments l.positive) (objects_stable es l.arguments k.objects.1) ∙ undenied es l.relation l.arguments l.positive k.objects.0 k.left

-- ---- what holds where there are no regions is known

named_in_order : (l : Literal) → is_named l.relation ≡ true → in_order l.relation l.arguments ≡ l.arguments
named_in_order l n = go l.relation l.arguments n
  where
    go : (r : Relation) (ts : List Term) → is_named r ≡ true → in_order r ts ≡ ts
    go (Named p) ts n = refl
    go Equality ts n = absurd (true≢false (sym n))

module _ (s : Signature) (inhabited : HasValues s) (d : Five) (bare : d.lcw ≡ []) (saturated : IsSaturated s d) (fine : first_clash s d ≡ None) where
  not_off : (r : Relation) (ts : List Term) (b : Bool) → is_closed_off s d r ts b ≡ true → ⊥
  not_off (Named p) ts false h = true≢false (sym h ∙ ap (list_any _) bare)
  not_off (Named p) ts true h = true≢false (sym h)
  not_off Equality ts b h = true≢false (sym h)

  pub held_in : (l : Literal) → IsOfObjects l → holds s d l ≡ true → IsIn l d.kf
  held_in l o h =
      ⊎_elim
      (λ k.
      let f = found_known d.kf l k in
      let same : normal_literal d.kf f.0 ≡ l = f.2 ∙ literal_normal d.kf l o in
      let kind : f.0.relation ≡ l.relation = sym (normal_relation d.kf f.0) ∙ ap (λ (m : Literal). m.relation) same in
      subst (λ m. IsIn m d.kf) same (normal_in d.kf (addition_in s d inhabited saturated fine) f.0 (named_in_order f.0 (ap is_named kind ∙ o.0)) f.1))
      (λ k. ⊎_elim (λ e. absurd (true≢false (sym o.0 ∙ evident_equation s l.relation _ l.positive e))) (λ e. absurd (not_off l.relation l.arguments l.positive e)) k)
      (holds_cases s d l h)

-- ---- what is told alike

-- the literal and its negation hold in both or in neither
abbrev pub IsSame : Signature → Five → Five → Literal → Type 0
IsSame s d e l = (holds s d l ≡ holds s e l) × (holds s d (negated l) ≡ holds s e (negated l))

module _ (p : Problem) (inhabited : HasValues p.signature) (i : Instance) where
  abbrev S : Signature
  S = p.signature

  abbrev Es : List Effect
  Es = effects_of p i

  -- over a step of a closed family a literal that is left lasts, and comes back
  module _ (d e : Five) (steps : List (Instance × Five)) (closed : ClosedAlong p d ((i, e) ∷ steps)) (bare : d.lcw ≡ []) (bare' : e.lcw ≡ []) where
    own : IsSaturated S e × (first_clash S e ≡ None)
    own = first_closed p inhabited e steps closed.3

    goes_on : (l : Literal) → IsLeft Es l → holds S d l ≡ true → holds S e l ≡ true
    goes_on l k h =
        let known = held_in S inhabited d bare closed.0.0 closed.0.1 l k.objects h in
        let on = closed.1 l (in_left (lasting S Es d) _ l (in_filter (λ l. not (spoils S d Es l)) d.kf l known (not_from_false _ (unspoiled S d Es l k)))) in
        known_holds S e l l on refl

    comes_back : (l : Literal) → IsLeft Es l → holds S e l ≡ true → holds S d l ≡ true
    comes_back l k h =
        let known = held_in S inhabited e bare' own.0 own.1 l k.objects h in
        let back = closed.2 l (in_left (lasted S Es d e) _ l (in_filter (λ l. not (spoils S d Es (negated l))) e.kf l known (not_from_false _ (unspoiled S d Es (negated l) (left_negated Es l k))))) in
        known_holds S d l l back refl

    same_in : (l : Literal) → IsLeft Es l → holds S (tidied d) l ≡ holds S (tidied e) l
    same_in l k =
        holds-tidied S d (one_value S d inhabited closed.0.0 closed.0.1) l ∙ both_ways _ _ (goes_on l k) (comes_back l k) ∙ sym (holds-tidied S e (one_value S e inhabited own.0 own.1) l)

    pub same_settled : (l : Literal) → IsLeft Es l → IsSame S (tidied d) (tidied e) l
    same_settled l k = (same_in l k, same_in (negated l) (left_negated Es l k))

-- ---- formulas that say more

module _ (c : List Literal) (objects : Each IsOfObjects c) where
  -- one of them, or the negation of one
  abbrev IsSaid : Literal → Type 0
  IsSaid m = (l : Literal) × IsIn l c × ((m ≡ l) ⊎ (m ≡ negated l))

  said_objects : (m : Literal) → IsSaid m → IsOfObjects m
  said_objects m k = let o = each_in IsOfObjects c k.0 objects k.1 in ⊎_elim (λ e. subst IsOfObjects (sym e) o) (λ e. subst IsOfObjects (sym e) (o.0, o.1)) k.2

  said_so : (m : Literal) → IsSaid m → is_said_in c m ≡ true
  said_so m k =
      any_in (λ l. literal_eq m l || literal_eq m (negated l)) c k.0 k.1
      (⊎_elim (λ e. or_left _ _ (literal_eq_itself m k.0 e)) (λ e. or_right _ _ (literal_eq_itself m (negated k.0) e)) k.2)

  -- a formula that says more is none of these literals alone
  not_same : (kf : List Literal) (k b : List Literal) → says_more c k ≡ true → ((m : Literal) → IsIn m b → IsSaid m) → normal_conj kf k ≡ normal_conj kf b → ⊥
  not_same kf k b h f e =
      let r = found_in (λ m. is_of_objects m && not (is_said_in c m)) k h in
      let q = and_parts (is_of_objects r.0) _ r.2 in
      let there : IsIn r.0 (normal_conj kf k) = set_of_in literal_cmp_total literal_cmp_tells (map (normal_literal kf) k) r.0 (subst (λ x. IsIn x (map (normal_literal kf) k)) (literal_normal kf r.0 (of_objects r.0 q.0)) (in_map (normal_literal kf) k r.0 r.1)) in
      let z = in_mapped (normal_literal kf) b r.0 (in_set_of literal_cmp_total literal_cmp_tells (map (normal_literal kf) b) r.0 (subst (IsIn r.0) e there)) in
      let w = f z.0 z.1 in
      let same : z.0 ≡ r.0 = sym (literal_normal kf z.0 (said_objects z.0 w)) ∙ z.2 in
      true≢false (sym (said_so r.0 (subst IsSaid same w)) ∙ not-true _ q.1)

  module _ (s : Signature) (d : Five) (more : Each (λ k. says_more c k ≡ true) d.kw) where
    no_member : (b : List Literal) → ((m : Literal) → IsIn m b → IsSaid m) → is_member d b ≡ false
    unfolding is_member
    no_member b f =
        false_from_ne_true _ (λ t.
        let r = found_in (λ k. is_eq (conj_cmp (normal_conj d.kf k) (normal_conj d.kf b))) d.kw t in
        not_same d.kf r.0 b (each_in (λ k. says_more c k ≡ true) d.kw r.0 more r.1) f (conj_cmp_tells (normal_conj d.kf r.0) (normal_conj d.kf b) (equal_of _ r.2)))

    no_sides : (r : Relation) (ts : List Term) → is_named r ≡ true → has_known_sides d r ts ≡ false
    no_sides (Named p) ts n = refl
    no_sides Equality ts n = absurd (true≢false (sym n))

    decided_is : (l : Literal) → IsIn l c → is_decided s d l ≡ (holds s d l || holds s d (negated l))
    unfolding is_decided
    decided_is l i =
        (λ j. (holds s d l || holds s d (negated l))
        || ((no_member (l ∷ []) (λ m k. ⊎_elim (λ e. (l, i, inl (sym e))) (λ n. absurd n) k) j || no_member (negated l ∷ []) (λ m k. ⊎_elim (λ e. (l, i, inr (sym e))) (λ n. absurd n) k) j) || no_sides l.relation l.arguments (each_in IsOfObjects c l objects i).0 j))
        ∙ or_false (holds s d l || holds s d (negated l))

    all_decided : (ls : List Literal) → ((l : Literal) → IsIn l ls → IsIn l c) → list_all (is_decided s d) ls ≡ list_all (λ l. holds s d l || holds s d (negated l)) ls
    all_decided [] f = refl
    all_decided (l ∷ ls) f = λ j. decided_is l (f l (inl refl)) j && all_decided ls (λ m k. f m (inr k)) j

    -- what literals alone tell of the formula
    pub told_by_literals : known_whether s d c ≡ (list_any (λ l. holds s d (negated l)) c || list_all (λ l. holds s d l || holds s d (negated l)) c)
    unfolding known_whether
    told_by_literals = λ j. no_member c (λ m k. (m, k, inl refl)) j || (list_any (λ l. holds s d (negated l)) c || all_decided c (λ l k. k) j)

literals_same : (s : Signature) (d e : Five) (c : List Literal) → Each (IsSame s d e) c
    → (list_any (λ l. holds s d (negated l)) c ≡ list_any (λ l. holds s e (negated l)) c) × (list_all (λ l. holds s d l || holds s d (negated l)) c ≡ list_all (λ l. holds s e l || holds s e (negated l)) c)
literals_same s d e [] k = (refl, refl)
literals_same s d e (l ∷ ls) k =
    let r = literals_same s d e ls k.1 in
    (λ j. k.0.1 j || r.0 j, λ j. (k.0.0 j || k.0.1 j) && r.1 j)

-- ---- what the aims ask

module _ (p : Problem) (inhabited : HasValues p.signature) (i : Instance) where
  -- it is asked of literals, which the step leaves
  abbrev Asks : Plain → Type 0
  Asks (Know l) = IsLeft (effects_of p i) l
  Asks (KnowWhether c) = Each (IsLeft (effects_of p i)) c
  Asks (KnowValue t) = ⊥

  -- none of Kw tells it
  abbrev SayMore : Five → Plain → Type 0
  SayMore d (Know l) = Unit {0}
  SayMore d (KnowWhether c) = Each (λ k. says_more c k ≡ true) d.kw
  SayMore d (KnowValue t) = Unit {0}

  -- its literals are told alike
  abbrev TellAlike : Five → Five → Plain → Type 0
  TellAlike d e (Know l) = IsSame p.signature d e l
  TellAlike d e (KnowWhether c) = Each (IsSame p.signature d e) c
  TellAlike d e (KnowValue t) = Unit {0}

  -- of what each aim but those of the last moment asks, or one of each moment is met by these databases for good
  abbrev OfAim : Five → (Plain → Type 0) → Aim → Type 0
  OfAim d P (Now q) = Unit {0}
  OfAim d P (AtStart q) = P q.asks
  OfAim d P (Always q) = P q.asks ⊎ (is_held p.signature d q ≡ true)
  OfAim d P (Once q) = P q.asks

  aim_weaker : (d d' : Five) → Upholds p.signature d d' → (P Q : Plain → Type 0) → ((q : Plain) → P q → Q q) → (a : Aim) → OfAim d P a → OfAim d' Q a
  aim_weaker d d' up P Q f (Now q) k = tt
  aim_weaker d d' up P Q f (AtStart q) k = f q.asks k
  aim_weaker d d' up P Q f (Always q) k = ⊎_elim (λ a. inl (f q.asks a)) (λ h. inr (still_held p.signature d d' up q h)) k
  aim_weaker d d' up P Q f (Once q) k = f q.asks k

  aims_weaker : (d d' : Five) → Upholds p.signature d d' → (P Q : Plain → Type 0) → ((q : Plain) → P q → Q q) → (xs : List Aim) → Each (OfAim d P) xs → Each (OfAim d' Q) xs
  aims_weaker d d' up P Q f xs k = each_weaker (OfAim d P) (OfAim d' Q) (aim_weaker d d' up P Q f) xs k

  -- it is asked so, and none of Kw tells it
  abbrev FitsPlain : Five → Five → Plain → Type 0
  FitsPlain d e q = Asks q × SayMore d q × SayMore e q

  pub record Fit (d e : Five) : Type 0 where
    pub bare : d.lcw ≡ []
    pub bare_after : e.lcw ≡ []
    pub aims : Each (OfAim d (FitsPlain d e)) p.goal

  abbrev Told : Five → Five → Type 0
  Told d e = Each (OfAim d (TellAlike d e)) p.goal

  plain_same : (d e : Five) (q : Plain) → Asks q → SayMore d q → SayMore e q → TellAlike d e q → answers_plain p.signature d q ≡ answers_plain p.signature e q
  plain_same d e (Know l) a m n k = k.0
  plain_same d e (KnowWhether c) a m n k =
      let o : Each IsOfObjects c = each_weaker (IsLeft (effects_of p i)) IsOfObjects (λ l (z : IsLeft (effects_of p i) l). z.objects) c a in
      let r = literals_same p.signature d e c k in
      told_by_literals c o p.signature d m ∙ (λ j. r.0 j || r.1 j) ∙ sym (told_by_literals c o p.signature e n)
  plain_same d e (KnowValue t) a m n k = absurd a

  answers_same : (d e : Five) (q : Query) → Asks q.asks → SayMore d q.asks → SayMore e q.asks → TellAlike d e q.asks → answers p.signature d q ≡ answers p.signature e q
  answers_same d e q a m n k = λ j. cond q.denied (not (plain_same d e q.asks a m n k j)) (plain_same d e q.asks a m n k j)

  once_more : (a b r : Bool) → a ≡ b → (a && (b && r)) ≡ (b && r)
  once_more a true r e = ap (λ x. x && r) e
  once_more a false r e = ap (λ x. x && false) e

  or_once_more : (a b r : Bool) → a ≡ b → (a || (b || r)) ≡ (b || r)
  or_once_more a true r e = ap (λ x. x || true) e
  or_once_more a false r e = ap (λ x. x || r) e

  aim_same : (d e : Five) (steps : List (Instance × Five)) (a : Aim) → OfAim d (FitsPlain d e) a → OfAim d (TellAlike d e) a
      → is_met p.signature (record { start = d; steps = (i, e) ∷ steps }) a ≡ is_met p.signature (record { start = e; steps = steps }) a
  aim_same d e steps (Now q) f k = refl
  aim_same d e steps (AtStart q) f k = answers_same d e q f.0 f.1 f.2 k
  aim_same d e steps (Always q) f k =
      let met : is_held p.signature d q ≡ true → list_all (λ d. answers p.signature d q) (d ∷ e ∷ map (λ (x : Instance × Five). x.1) steps) ≡ list_all (λ d. answers p.signature d q) (e ∷ map (λ (x : Instance × Five). x.1) steps) =
      λ h. ap (λ b. b && list_all (λ d. answers p.signature d q) (e ∷ map (λ (x : Instance × Five). x.1) steps)) (answered p.signature d q h) in
      ⊎_elim (λ f. ⊎_elim (λ k. once_more _ _ _ (answers_same d e q f.0 f.1 f.2 k)) met k) met f
  aim_same d e steps (Once q) f k = or_once_more _ _ _ (answers_same d e q f.0 f.1 f.2 k)

  all_same : (d e : Five) (steps : List (Instance × Five)) (xs : List Aim) → Each (OfAim d (FitsPlain d e)) xs → Each (OfAim d (TellAlike d e)) xs
      → list_all (is_met p.signature (record { start = d; steps = (i, e) ∷ steps })) xs ≡ list_all (is_met p.signature (record { start = e; steps = steps })) xs
  all_same d e steps [] f k = refl
  all_same d e steps (x ∷ xs) f k = λ j. aim_same d e steps x f.0 k.0 j && all_same d e steps xs f.1 k.1 j

  -- ---- what fits stays so

  abbrev Mores : List Literal → Five → Type 0
  Mores c d = Each (λ k. says_more c k ≡ true) d.kw

  -- with fewer formulas, or with these in normal form
  say_fewer : (d e : Five) → ((c : List Literal) → Mores c d → Mores c e) → (q : Plain) → SayMore d q → SayMore e q
  say_fewer d e f (Know l) m = tt
  say_fewer d e f (KnowWhether c) m = f c m
  say_fewer d e f (KnowValue t) m = tt

  fit_fewer : (d e d' e' : Five) → Upholds p.signature d d' → ((c : List Literal) → Mores c d → Mores c d') → ((c : List Literal) → Mores c e → Mores c e') → (xs : List Aim) → Each (OfAim d (FitsPlain d e)) xs → Each (OfAim d' (FitsPlain d' e')) xs
  fit_fewer d e d' e' up f g xs k = aims_weaker d d' up (FitsPlain d e) (FitsPlain d' e') (λ q z. (z.0, say_fewer d d' f q z.1, say_fewer e e' g q z.2)) xs k

  same_more : (d e : Five) → forget e ≡ forget d → (c : List Literal) → Mores c d → Mores c e
  same_more d e g c m = subst (λ (x : Five). Each (λ k. says_more c k ≡ true) x.kw) (sym g) m

  -- a literal at objects is its own normal form
  normal_more : (kf : List Literal) (c k : List Literal) → says_more c k ≡ true → says_more c (normal_conj kf k) ≡ true
  normal_more kf c k h =
      let r = found_in (λ m. is_of_objects m && not (is_said_in c m)) k h in
      let q = and_parts (is_of_objects r.0) _ r.2 in
      any_in (λ m. is_of_objects m && not (is_said_in c m)) (normal_conj kf k) r.0
      (set_of_in literal_cmp_total literal_cmp_tells (map (normal_literal kf) k) r.0 (subst (λ x. IsIn x (map (normal_literal kf) k)) (literal_normal kf r.0 (of_objects r.0 q.0)) (in_map (normal_literal kf) k r.0 r.1))) r.2

  tidied_more : (d : Five) (c : List Literal) → Mores c d → Mores c (tidied d)
  unfolding tidied
  tidied_more d c m =
      each_set_of (λ k. says_more c k ≡ true) conj_cmp (map (normal_conj d.kf) d.kw)
      (each_map (λ k. says_more c k ≡ true) (normal_conj d.kf) d.kw (each_weaker (λ k. says_more c k ≡ true) (λ k. says_more c (normal_conj d.kf k) ≡ true) (λ k h. normal_more d.kf c k h) d.kw m))

  tidied_bare : (d : Five) → d.lcw ≡ [] → (tidied d).lcw ≡ []
  unfolding tidied
  tidied_bare d b = ap (λ rs. set_of entry_cmp (map (normal_entry d.kf) rs)) b

  rounds_whether : (n : ℕ) (d : Five) → (rounds p.signature n d).kw ≡ d.kw
  unfolding round
  rounds_whether zero d = refl
  rounds_whether (suc n) d = rounds_whether n d

  filtered_more : (c : List Literal) (keep : List Literal → Bool) (ks : List (List Literal)) → Each (λ k. says_more c k ≡ true) ks → Each (λ k. says_more c k ≡ true) (filter keep ks)
  filtered_more c keep ks m = each_of (λ k. says_more c k ≡ true) (filter keep ks) (λ k j. each_in (λ k. says_more c k ≡ true) ks k m (in_filtered keep ks k j).0)

  assumed_says : (d : Five) (c : List Literal) (x : Choice) (side : Side) → Mores c d → Mores c (assumed p.signature d x side)
  unfolding assumed
  assumed_says d c (BranchOn b) AsTrue m = filtered_more c _ d.kw m
  assumed_says d c (BranchOn b) AsFalse m = filtered_more c _ d.kw m
  assumed_says d c (BranchOn b) (Is e) m = m
  assumed_says d c (CasesOn t) AsTrue m = m
  assumed_says d c (CasesOn t) AsFalse m = m
  assumed_says d c (CasesOn t) (Is e) m = m
  assumed_says d c (Act x) AsTrue m = m
  assumed_says d c (Act x) AsFalse m = m
  assumed_says d c (Act x) (Is e) m = m

  closed_says : (e e' : Five) (x : Choice) (side : Side) → Assumes p.signature e x side (Next e') → (c : List Literal) → Mores c e → Mores c e'
  closed_says e e' x side a c m =
      let q = end_of p.signature (assumed p.signature e x side) e' a in
      let r : Five = rounds p.signature a.count (assumed p.signature e x side) in
      subst (Mores c) (sym q.1) (tidied_more r c (subst (λ ks. Each (λ k. says_more c k ≡ true) ks) (sym (rounds_whether a.count (assumed p.signature e x side))) (assumed_says e c x side m)))

  closed_bare : (e e' : Five) (x : Choice) (side : Side) → Assumes p.signature e x side (Next e') → e.lcw ≡ [] → e'.lcw ≡ []
  closed_bare e e' x side a b =
      let q = end_of p.signature (assumed p.signature e x side) e' a in
      let r : Five = rounds p.signature a.count (assumed p.signature e x side) in
      ap (λ (d : Five). d.lcw) q.1 ∙ tidied_bare r (sym (rounds_leave p.signature a.count (assumed p.signature e x side)).1 ∙ sym (assumed_more p.signature e x side).2 ∙ b)

  -- ---- the law

  pub asked_keeps : KeepsGoal p i Fit Told
  unfolding met
  asked_keeps = record {
    goal = λ d e steps f k. all_same d e steps p.goal f.aims k;
    grown = λ d e d' e' f up g h. record {
      bare = ap (λ (x : Five). x.lcw) g ∙ f.bare;
      bare_after = ap (λ (x : Five). x.lcw) h ∙ f.bare_after;
      aims = fit_fewer d e d' e' up (same_more d d' g) (same_more e e' h) p.goal f.aims;
    };
    tidy = λ d e f up. record {
      bare = tidied_bare d f.bare;
      bare_after = tidied_bare e f.bare_after;
      aims = fit_fewer d e (tidied d) (tidied e) up (tidied_more d) (tidied_more e) p.goal f.aims;
    };
    alike = λ d e steps f c.
        let up : Upholds p.signature d (tidied d) = λ l h. holds-tidied p.signature d (one_value p.signature d inhabited c.0.0 c.0.1) l ∙ h in
        aims_weaker d (tidied d) up (FitsPlain d e) (TellAlike (tidied d) (tidied e)) (λ q z. told_settled d e steps c f.bare f.bare_after q z.0) p.goal f.aims;
    assumed = λ d e e' c side f a. record {
      bare = f.bare;
      bare_after = closed_bare e e' c side a f.bare_after;
      aims = fit_fewer d e d e' (λ l h. h) (λ c m. m) (closed_says e e' c side a) p.goal f.aims;
    };
  }
    where
      told_settled : (d e : Five) (steps : List (Instance × Five)) → ClosedAlong p d ((i, e) ∷ steps) → d.lcw ≡ [] → e.lcw ≡ [] → (q : Plain) → Asks q → TellAlike (tidied d) (tidied e) q
      told_settled d e steps c b b' (Know l) a = same_settled p inhabited i d e steps c b b' l a
      told_settled d e steps c b b' (KnowWhether ls) a = each_weaker (IsLeft (effects_of p i)) (IsSame p.signature (tidied d) (tidied e)) (λ l k. same_settled p inhabited i d e steps c b b' l k) ls a
      told_settled d e steps c b b' (KnowValue t) a = tt

  -- ---- what the test asks

  module _ (d e : Five) where
    literal_asked : (l : Literal) → literal_stays p.signature (effects_of p i) d e l ≡ true → IsLeft (effects_of p i) l × IsSame p.signature d e l
    literal_asked l h =
        let a = and_parts (is_of_objects l && list_all (λ x. leaves l x.target) (effects_of p i)) _ h in
        let b = and_parts (is_of_objects l) _ a.0 in
        let c = and_parts (are_alike (holds p.signature d l) (holds p.signature e l)) _ a.1 in
        (record { objects = of_objects l b.0; left = each_from_all (λ (x : Effect). leaves l x.target ≡ true) (λ (x : Effect). leaves l x.target) (λ x k. k) (effects_of p i) b.1 }, (alike_same _ _ c.0, alike_same _ _ c.1))

    abbrev Stays : Plain → Type 0
    Stays q = FitsPlain d e q × TellAlike d e q

    query_asked : (q : Plain) → query_stays p.signature (effects_of p i) d e q ≡ true → Stays q
    query_asked (Know l) h = let k = literal_asked l h in ((k.0, tt, tt), k.1)
    query_asked (KnowWhether c) h =
        let a = and_parts (list_all (literal_stays p.signature (effects_of p i) d e) c) _ h in
        let b = and_parts (list_all (says_more c) d.kw) _ a.1 in
        let k = each_from_all (λ l. IsLeft (effects_of p i) l × IsSame p.signature d e l) (literal_stays p.signature (effects_of p i) d e) literal_asked c a.0 in (
          (
            each_weaker (λ l. IsLeft (effects_of p i) l × IsSame p.signature d e l) (IsLeft (effects_of p i)) (λ l z. z.0) c k,
            each_from_all (λ k. says_more c k ≡ true) (says_more c) (λ k z. z) d.kw b.0,
            each_from_all (λ k. says_more c k ≡ true) (says_more c) (λ k z. z) e.kw b.1,
          ),
          each_weaker (λ l. IsLeft (effects_of p i) l × IsSame p.signature d e l) (IsSame p.signature d e) (λ l z. z.1) c k,
        )
    query_asked (KnowValue t) h = absurd (true≢false (sym h))

    aim_asked : (a : Aim) → aim_stays p.signature (effects_of p i) d e a ≡ true → OfAim d Stays a
    aim_asked (Now q) h = tt
    aim_asked (AtStart q) h = query_asked q.asks h
    aim_asked (Always q) h = ⊎_elim (λ k. inl (query_asked q.asks k)) (λ k. inr k) (or_cases (query_stays p.signature (effects_of p i) d e q.asks) _ h)
    aim_asked (Once q) h = query_asked q.asks h

nothing_in : {X : Type 0} (xs : List X) → is_empty xs ≡ true → xs ≡ []
nothing_in [] h = refl
nothing_in (x ∷ xs) h = absurd (true≢false (sym h))

-- a transparent step that leaves what the aims over time ask goes with the moment before it
pub cut_told : (p : Problem) (before : Five) (i : Instance) (h : History) (t : Tree) → IsValid p → AreMomentsOf p (with_first before i h) → AreSetsAlong (with_first before i h) → IsTransparent p before i h.start → aims_stay p before i h.start ≡ true
    → (Derives p (At (with_first before i h)) t → Derives p (At h) t) × (Derives p (At h) t → Derives p (At (with_first before i h)) t)
cut_told p before i h t v m sets k stay =
    let n = v.signature.values in
    let a = and_parts (is_empty before.lcw && is_empty h.start.lcw) _ stay in
    let b = and_parts (is_empty before.lcw) _ a.0 in
    let all = each_from_all (OfAim p n i before (Stays p n i before h.start)) (aim_stays p.signature (effects_of p i) before h.start) (aim_asked p n i before h.start) p.goal a.1 in
    let fit : Fit p n i before h.start = record {
      bare = nothing_in before.lcw b.0;
      bare_after = nothing_in h.start.lcw b.1;
      aims = aims_weaker p n i before before (λ l h. h) (Stays p n i before h.start) (FitsPlain p n i before h.start) (λ q z. z.0) p.goal all;
    } in
    cut_kept p before i h t (Fit p n i) (Told p n i) (asked_keeps p n i) fit (aims_weaker p n i before before (λ l h. h) (Stays p n i before h.start) (TellAlike p n i before h.start) (λ q z. z.1) p.goal all) v m sets k
