-- What must be cited for a test of effects to pass: it is shown, where databases tell that the test passes.
use Rattle.std.proofs.Common.{◌≡◌, ◌&&◌, ◌==◌, ◌≤◌, ℕ, Bool, true, false, not, List, [], ◌∷◌, ◌++◌, map, Option, Some, None, refl, sym, ap, subst, inl, inr, ⊎_elim, true≢false}
use Rattle.std.specs.List.{list_any, list_all}
use Rattle.std.proofs.lemmas.Bool.{or_cases, or_left, or_right, or_parts, and_cases, and_parts, and_from, not-true, not-false}
use Rattle.pks_terms.specs.Sets.{Each, IsIn}
use Rattle.pks_terms.specs.Syntax.{Inner, Term, term_of, Relation, Named, Equality, Literal, Atom, Pattern, negated}
use Rattle.pks_terms.specs.Signatures.{Signature}
use Rattle.pks_terms.specs.Orders.{number_of, arguments_of, inequation}
use Rattle.pks_terms.specs.Databases.{Five, differ, some_differ, holds}
use Rattle.pks_terms.specs.Closure.{applications_in}
use Rattle.pks_terms.specs.Actions.{Target, Set, Unset, Clear, Assign, Effect}
use Rattle.pks_terms.specs.Spoiling.{some_fixed_differ, may_fire, may_make_true, may_make_false, may_change, some_may, may_be_changed, is_stable, are_stable, may_be_denied, spoils}
use Rattle.pks_terms.specs.Problems.{Problem}
use Rattle.pks_terms.proofs.ListLaws.{each_append, found_in, any_in, none_in}
use Rattle.pks_terms.specs.Moments.{IsInOrder}
use Rattle.pks_terms.specs.Proofs.{Fact, FactLit, Path, final_moment}
use Rattle.pks_terms.specs.Judging.{Judge, is_cited}
use Rattle.pks_terms.specs.Reasons.{are_cited_apart, some_cited_apart, fixed_cited_apart, would_make_true, would_make_false, would_change, would_widen, cannot_fire, is_barred, are_barred, is_steady, are_steady, would_deny, keeps_literal}
use Rattle.pks_laws_explain.specs.Shown.{IsShown, AreShown}
use Rattle.pks_laws_explain.proofs.Equal.{cited_in, literal_ordered, Lit, AllSame, same_itself, same_turned, all_replaced}
use Rattle.pks_laws_explain.proofs.Derived.{differ_shown, held}

-- facts of a kind, by which T passes wherever they are among what is cited at the moment
pub record NeedsOf (S : Fact → Type 0) (m : ℕ) (T : Judge → Type 0) : Type 0 where
  pub facts : List Fact
  pub so : Each S facts
  pub then : (j : Judge) (fs : List Fact) → j m ≡ fs → ((f : Fact) → IsIn f facts → IsIn f fs) → T j

-- facts that are shown
abbrev pub Needs : Problem → Path → ℕ → (Judge → Type 0) → Type 0
Needs p path m T = NeedsOf (IsShown p path m) m T

pub in_front : {X : Type 0} (xs ys : List X) (x : X) → IsIn x xs → IsIn x (xs ++ ys)
in_front [] ys x i = absurd i
in_front (z ∷ xs) ys x (inl e) = inl e
in_front (z ∷ xs) ys x (inr i) = inr (in_front xs ys x i)

pub in_back : {X : Type 0} (xs ys : List X) (x : X) → IsIn x ys → IsIn x (xs ++ ys)
in_back [] ys x i = i
in_back (z ∷ xs) ys x i = inr (in_back xs ys x i)

-- the negation has its sides in order too
pub negated_ordered : (l : Literal) → IsInOrder l → IsInOrder (negated l)
negated_ordered l o = o

module _ (S : Fact → Type 0) (m : ℕ) where
  pub of_nothing : (T : Judge → Type 0) → ((j : Judge) → T j) → NeedsOf S m T
  of_nothing T f = record { facts = []; so = tt; then = λ j fs e w. f j }

  pub of_then : (T U : Judge → Type 0) → ((j : Judge) → T j → U j) → NeedsOf S m T → NeedsOf S m U
  of_then T U f n = record { facts = n.facts; so = n.so; then = λ j fs e w. f j (n.then j fs e w) }

  pub of_both : (T U : Judge → Type 0) → NeedsOf S m T → NeedsOf S m U → NeedsOf S m (λ j. T j × U j)
  of_both T U a b = record {
    facts = a.facts ++ b.facts;
    so = each_append S a.facts b.facts a.so b.so;
    then = λ j fs e w. (a.then j fs e (λ f i. w f (in_front a.facts b.facts f i)), b.then j fs e (λ f i. w f (in_back a.facts b.facts f i)));
  }

  pub of_and : (a b : Judge → Bool) → NeedsOf S m (λ j. a j ≡ true) → NeedsOf S m (λ j. b j ≡ true) → NeedsOf S m (λ j. (a j && b j) ≡ true)
  of_and a b x y = of_then (λ j. (a j ≡ true) × (b j ≡ true)) (λ j. (a j && b j) ≡ true) (λ j q. and_from (a j) (b j) q.0 q.1) (of_both (λ j. a j ≡ true) (λ j. b j ≡ true) x y)

  pub of_all : {X : Type 0} (t : Judge → X → Bool) (xs : List X) → ((x : X) → IsIn x xs → NeedsOf S m (λ j. t j x ≡ true)) → NeedsOf S m (λ j. list_all (t j) xs ≡ true)
  of_all t [] f = of_nothing (λ j. list_all (t j) [] ≡ true) (λ j. refl)
  of_all t (x ∷ xs) f = of_and (λ j. t j x) (λ j. list_all (t j) xs) (f x (inl refl)) (of_all t xs (λ y i. f y (inr i)))

  pub of_cited : (l : Literal) → S (FactLit l) → NeedsOf S m (λ j. is_cited j m l ≡ true)
  of_cited l s = record { facts = FactLit l ∷ []; so = (s, tt); then = λ j fs e w. cited_in j m fs l e (w (FactLit l) (inl refl)) }

  -- a test with a predicate or function in front
  pub of_miss : (a : Bool) (far : Judge → Bool) (near : Bool) → (near ≡ true → NeedsOf S m (λ j. far j ≡ true)) → (a && not near) ≡ false → NeedsOf S m (λ j. not (a && not (far j)) ≡ true)
  of_miss false far near f h = of_nothing (λ j. not (false && not (far j)) ≡ true) (λ j. refl)
  of_miss true far near f h = of_then (λ j. far j ≡ true) (λ j. not (true && not (far j)) ≡ true) (λ j c. ap (λ b. not (not b)) c) (f (not-false near h))

module _ (p : Problem) (path : Path) (m : ℕ) where
  pub needs_nothing : (T : Judge → Type 0) → ((j : Judge) → T j) → Needs p path m T
  needs_nothing T f = of_nothing (IsShown p path m) m T f

  pub needs_then : (T U : Judge → Type 0) → ((j : Judge) → T j → U j) → Needs p path m T → Needs p path m U
  needs_then T U f n = of_then (IsShown p path m) m T U f n

  pub needs_and : (a b : Judge → Bool) → Needs p path m (λ j. a j ≡ true) → Needs p path m (λ j. b j ≡ true) → Needs p path m (λ j. (a j && b j) ≡ true)
  needs_and a b x y = of_and (IsShown p path m) m a b x y

  pub needs_all : {X : Type 0} (t : Judge → X → Bool) (xs : List X) → ((x : X) → IsIn x xs → Needs p path m (λ j. t j x ≡ true)) → Needs p path m (λ j. list_all (t j) xs ≡ true)
  needs_all t xs f = of_all (IsShown p path m) m t xs f

  pub needs_cited : (l : Literal) → IsShown p path m (FactLit l) → Needs p path m (λ j. is_cited j m l ≡ true)
  needs_cited l s = of_cited (IsShown p path m) m l s

pub all_at : {X : Type 0} (t : X → Bool) (xs : List X) → list_all t xs ≡ true → (x : X) → IsIn x xs → t x ≡ true
all_at t [] h x i = absurd i
all_at t (y ∷ xs) h x (inl e) = subst (λ z. t z ≡ true) e (and_parts (t y) _ h).0
all_at t (y ∷ xs) h x (inr i) = all_at t xs (and_parts (t y) _ h).1 x i

-- each condition of each effect has its sides in order
abbrev pub AreOrderly : List Effect → Type 0
AreOrderly es = (e : Effect) → IsIn e es → (l : Literal) → IsIn l e.condition → IsInOrder l

-- each literal that holds is a fact of the kind
module _ (s : Signature) (d : Five) (S : Fact → Type 0) (m : ℕ) (hold : (l : Literal) → IsInOrder l → holds s d l ≡ true → S (FactLit l)) where
  abbrev O : (Judge → Type 0) → Type 0
  O T = NeedsOf S m T

  differ_held : (t u : Term) → differ s d.kf t u ≡ true → S (FactLit (inequation t u))
  unfolding differ holds
  differ_held t u h = hold (inequation t u) (literal_ordered Equality (t ∷ u ∷ []) false) (or_left _ _ h)

  apart_of : (ts us : List Term) → some_differ s d.kf ts us ≡ true → O (λ j. some_cited_apart j m ts us ≡ true)
  apart_of (t ∷ ts) (u ∷ us) h =
      ⊎_elim
      (λ e. of_then S m (λ j. is_cited j m (inequation t u) ≡ true) (λ j. some_cited_apart j m (t ∷ ts) (u ∷ us) ≡ true) (λ j c. or_left _ _ (or_left (is_cited j m (inequation t u)) _ c)) (of_cited S m (inequation t u) (differ_held t u e)))
      (λ e. of_then S m (λ j. some_cited_apart j m ts us ≡ true) (λ j. some_cited_apart j m (t ∷ ts) (u ∷ us) ≡ true) (λ j c. or_right (are_cited_apart j m t u) _ c) (apart_of ts us e))
      (or_cases (differ s d.kf t u) _ h)
  apart_of [] us h = absurd (true≢false (sym h))
  apart_of (t ∷ ts) [] h = absurd (true≢false (sym h))

  fixed_apart_of : (ss : List (Option Term)) (us : List Term) → some_fixed_differ s d.kf ss us ≡ true → O (λ j. fixed_cited_apart j m ss us ≡ true)
  fixed_apart_of (Some t ∷ ss) (u ∷ us) h =
      ⊎_elim
      (λ e. of_then S m (λ j. is_cited j m (inequation t u) ≡ true) (λ j. fixed_cited_apart j m (Some t ∷ ss) (u ∷ us) ≡ true) (λ j c. or_left _ _ (or_left (is_cited j m (inequation t u)) _ c)) (of_cited S m (inequation t u) (differ_held t u e)))
      (λ e. of_then S m (λ j. fixed_cited_apart j m ss us ≡ true) (λ j. fixed_cited_apart j m (Some t ∷ ss) (u ∷ us) ≡ true) (λ j c. or_right (are_cited_apart j m t u) _ c) (fixed_apart_of ss us e))
      (or_cases (differ s d.kf t u) _ h)
  fixed_apart_of (None ∷ ss) (u ∷ us) h = fixed_apart_of ss us h
  fixed_apart_of [] us h = absurd (true≢false (sym h))
  fixed_apart_of (Some t ∷ ss) [] h = absurd (true≢false (sym h))
  fixed_apart_of (None ∷ ss) [] h = absurd (true≢false (sym h))

  true_of : (r : ℕ) (us : List Term) (x : Target) → may_make_true s d.kf r us x ≡ false → O (λ j. not (would_make_true j m r us x) ≡ true)
  true_of r us (Set b) h = of_miss S m (b.predicate == r) (λ j. some_cited_apart j m b.arguments us) (some_differ s d.kf b.arguments us) (apart_of b.arguments us) h
  true_of r us (Unset b) h = of_nothing S m (λ j. not (would_make_true j m r us (Unset b)) ≡ true) (λ j. refl)
  true_of r us (Clear x) h = of_nothing S m (λ j. not (would_make_true j m r us (Clear x)) ≡ true) (λ j. refl)
  true_of r us (Assign f ts v) h = of_nothing S m (λ j. not (would_make_true j m r us (Assign f ts v)) ≡ true) (λ j. refl)

  false_of : (r : ℕ) (us : List Term) (x : Target) → may_make_false s d.kf r us x ≡ false → O (λ j. not (would_make_false j m r us x) ≡ true)
  false_of r us (Unset b) h = of_miss S m (b.predicate == r) (λ j. some_cited_apart j m b.arguments us) (some_differ s d.kf b.arguments us) (apart_of b.arguments us) h
  false_of r us (Clear x) h = of_miss S m (x.predicate == r) (λ j. fixed_cited_apart j m x.slots us) (some_fixed_differ s d.kf x.slots us) (fixed_apart_of x.slots us) h
  false_of r us (Set b) h = of_nothing S m (λ j. not (would_make_false j m r us (Set b)) ≡ true) (λ j. refl)
  false_of r us (Assign f ts v) h = of_nothing S m (λ j. not (would_make_false j m r us (Assign f ts v)) ≡ true) (λ j. refl)

  change_of : (f : ℕ) (us : List Inner) (x : Target) → may_change s d.kf f us x ≡ false → O (λ j. not (would_change j m f us x) ≡ true)
  change_of f us (Assign g ts v) h = of_miss S m (g == f) (λ j. some_cited_apart j m (map term_of ts) (map term_of us)) (some_differ s d.kf (map term_of ts) (map term_of us)) (apart_of (map term_of ts) (map term_of us)) h
  change_of f us (Set b) h = of_nothing S m (λ j. not (would_change j m f us (Set b)) ≡ true) (λ j. refl)
  change_of f us (Unset b) h = of_nothing S m (λ j. not (would_change j m f us (Unset b)) ≡ true) (λ j. refl)
  change_of f us (Clear x) h = of_nothing S m (λ j. not (would_change j m f us (Clear x)) ≡ true) (λ j. refl)

  -- a set that doesn't meet the pattern
  pub widen_of : (x : Pattern) (a : Atom) → ((a.predicate == x.predicate) && not (some_fixed_differ s d.kf x.slots a.arguments)) ≡ false → O (λ j. not (would_widen j m x (Set a)) ≡ true)
  widen_of x a h = of_miss S m (a.predicate == x.predicate) (λ j. fixed_cited_apart j m x.slots a.arguments) (some_fixed_differ s d.kf x.slots a.arguments) (fixed_apart_of x.slots a.arguments) h

  -- an effect that can't fire
  pub quiet_of : (e : Effect) → ((l : Literal) → IsIn l e.condition → IsInOrder l) → may_fire s d e ≡ false → O (λ j. cannot_fire j m e ≡ true)
  unfolding may_fire
  quiet_of e o h =
      let f = found_in (λ l. holds s d (negated l)) e.condition (not-false (list_any (λ l. holds s d (negated l)) e.condition) h) in
      of_then S m (λ j. is_cited j m (negated f.0) ≡ true) (λ j. cannot_fire j m e ≡ true) (λ j c. any_in (λ l. is_cited j m (negated l)) e.condition f.0 f.1 c) (of_cited S m (negated f.0) (hold (negated f.0) (o f.0 f.1) f.2))

  -- effects that may not do so are barred from it
  pub barred_of : (does : Target → Bool) (would : Judge → Target → Bool) → ((x : Target) → does x ≡ false → O (λ j. not (would j x) ≡ true)) → (es : List Effect) → AreOrderly es → some_may s d does es ≡ false → O (λ j. are_barred j m (would j) es ≡ true)
  barred_of does would misses es o h =
      of_all S m (λ j e. is_barred j m (would j) e) es (λ e i.
      ⊎_elim
      (λ q. of_then S m (λ j. cannot_fire j m e ≡ true) (λ j. is_barred j m (would j) e ≡ true) (λ j c. or_left _ _ c) (quiet_of e (o e i) q))
      (λ q. of_then S m (λ j. not (would j e.target) ≡ true) (λ j. is_barred j m (would j) e ≡ true) (λ j c. or_right (cannot_fire j m e) _ c) (misses e.target q))
      (and_cases (may_fire s d e) (does e.target) (none_in (λ e. may_fire s d e && does e.target) es e h i)))

  module _ (es : List Effect) (o : AreOrderly es) where
    pub steady_of : (t : Term) → is_stable s d es t ≡ true → O (λ j. is_steady j m es t ≡ true)
    unfolding is_stable may_be_changed
    steady_of t h =
        of_all S m (λ j u. are_barred j m (would_change j m (number_of u) (arguments_of u)) es) (applications_in t) (λ u i.
        barred_of (may_change s d.kf (number_of u) (arguments_of u)) (λ j. would_change j m (number_of u) (arguments_of u)) (change_of (number_of u) (arguments_of u)) es o
        (not-true _ (all_at (λ u. not (may_be_changed s d es u)) (applications_in t) h u i)))

    pub all_steady_of : (ts : List Term) → are_stable s d es ts ≡ true → O (λ j. are_steady j m es ts ≡ true)
    all_steady_of ts h = of_all S m (λ j t. is_steady j m es t) ts (λ t i. steady_of t (all_at (is_stable s d es) ts h t i))

    undenied_of : (r : Relation) (ts : List Term) (b : Bool) → may_be_denied s d es r ts b ≡ false → O (λ j. are_barred j m (would_deny j m r ts b) es ≡ true)
    undenied_of (Named q) ts true h = barred_of (may_make_false s d.kf q ts) (λ j. would_make_false j m q ts) (false_of q ts) es o h
    undenied_of (Named q) ts false h = barred_of (may_make_true s d.kf q ts) (λ j. would_make_true j m q ts) (true_of q ts) es o h
    undenied_of Equality ts b h =
        of_all S m (λ j e. is_barred j m (λ x. false) e) es (λ e i. of_nothing S m (λ j. is_barred j m (λ x. false) e ≡ true) (λ j. or_right (cannot_fire j m e) _ refl))

    -- a literal that isn't spoiled is kept
    pub kept_of : (l : Literal) → spoils s d es l ≡ false → O (λ j. keeps_literal j m es l ≡ true)
    unfolding spoils
    kept_of l h =
        let q = or_parts _ _ h in
        of_and S m (λ j. are_steady j m es l.arguments) (λ j. are_barred j m (would_deny j m l.relation l.arguments l.positive) es) (all_steady_of l.arguments (not-false _ q.0)) (undenied_of l.relation l.arguments l.positive q.1)

module _ (p : Problem) (path : Path) (m : ℕ) (within : m ≤ final_moment path) (d : Five) (shown : AreShown p path m d) where
  abbrev N : (Judge → Type 0) → Type 0
  N T = Needs p path m T

  -- terms at one position differ, also where the second ones are replaced by equal ones
  pub needs_apart : (ts us vs : List Term) → AllSame p path m within vs us → some_differ p.signature d.kf ts us ≡ true → N (λ j. some_cited_apart j m ts vs ≡ true)
  needs_apart (t ∷ ts) (u ∷ us) (v ∷ vs) a h =
      ⊎_elim
      (λ e.
      let so : Lit p path m within (inequation t v) = all_replaced p path m within Equality false (t ∷ u ∷ []) (t ∷ v ∷ []) (same_itself p path m within t, (same_turned p path m within v u a.0, tt)) (differ_shown p path m within d shown t u e) in
      needs_then p path m (λ j. is_cited j m (inequation t v) ≡ true) (λ j. some_cited_apart j m (t ∷ ts) (v ∷ vs) ≡ true) (λ j c. or_left _ _ (or_left (is_cited j m (inequation t v)) _ c)) (needs_cited p path m (inequation t v) so))
      (λ e. needs_then p path m (λ j. some_cited_apart j m ts vs ≡ true) (λ j. some_cited_apart j m (t ∷ ts) (v ∷ vs) ≡ true) (λ j c. or_right (are_cited_apart j m t v) _ c) (needs_apart ts us vs a.1 e))
      (or_cases (differ p.signature d.kf t u) _ h)
  needs_apart [] us vs a h = absurd (true≢false (sym h))
  needs_apart (t ∷ ts) [] vs a h = absurd (true≢false (sym h))
  needs_apart (t ∷ ts) (u ∷ us) [] a h = absurd a

  pub needs_fixed_apart : (ss : List (Option Term)) (us vs : List Term) → AllSame p path m within vs us → some_fixed_differ p.signature d.kf ss us ≡ true → N (λ j. fixed_cited_apart j m ss vs ≡ true)
  needs_fixed_apart (Some t ∷ ss) (u ∷ us) (v ∷ vs) a h =
      ⊎_elim
      (λ e.
      let so : Lit p path m within (inequation t v) = all_replaced p path m within Equality false (t ∷ u ∷ []) (t ∷ v ∷ []) (same_itself p path m within t, (same_turned p path m within v u a.0, tt)) (differ_shown p path m within d shown t u e) in
      needs_then p path m (λ j. is_cited j m (inequation t v) ≡ true) (λ j. fixed_cited_apart j m (Some t ∷ ss) (v ∷ vs) ≡ true) (λ j c. or_left _ _ (or_left (is_cited j m (inequation t v)) _ c)) (needs_cited p path m (inequation t v) so))
      (λ e. needs_then p path m (λ j. fixed_cited_apart j m ss vs ≡ true) (λ j. fixed_cited_apart j m (Some t ∷ ss) (v ∷ vs) ≡ true) (λ j c. or_right (are_cited_apart j m t v) _ c) (needs_fixed_apart ss us vs a.1 e))
      (or_cases (differ p.signature d.kf t u) _ h)
  needs_fixed_apart (None ∷ ss) (u ∷ us) (v ∷ vs) a h = needs_fixed_apart ss us vs a.1 h
  needs_fixed_apart [] us vs a h = absurd (true≢false (sym h))
  needs_fixed_apart (Some t ∷ ss) [] vs a h = absurd (true≢false (sym h))
  needs_fixed_apart (None ∷ ss) [] vs a h = absurd (true≢false (sym h))
  needs_fixed_apart (Some t ∷ ss) (u ∷ us) [] a h = absurd a
  needs_fixed_apart (None ∷ ss) (u ∷ us) [] a h = absurd a

  needs_miss : (a : Bool) (far : Judge → Bool) (near : Bool) → (near ≡ true → N (λ j. far j ≡ true)) → (a && not near) ≡ false → N (λ j. not (a && not (far j)) ≡ true)
  needs_miss a far near f h = of_miss (IsShown p path m) m a far near f h

  pub misses_true : (r : ℕ) (us vs : List Term) → AllSame p path m within vs us → (x : Target) → may_make_true p.signature d.kf r us x ≡ false → N (λ j. not (would_make_true j m r vs x) ≡ true)
  misses_true r us vs a (Set b) h = needs_miss (b.predicate == r) (λ j. some_cited_apart j m b.arguments vs) (some_differ p.signature d.kf b.arguments us) (needs_apart b.arguments us vs a) h
  misses_true r us vs a (Unset b) h = needs_nothing p path m (λ j. not (would_make_true j m r vs (Unset b)) ≡ true) (λ j. refl)
  misses_true r us vs a (Clear x) h = needs_nothing p path m (λ j. not (would_make_true j m r vs (Clear x)) ≡ true) (λ j. refl)
  misses_true r us vs a (Assign f ts v) h = needs_nothing p path m (λ j. not (would_make_true j m r vs (Assign f ts v)) ≡ true) (λ j. refl)

  pub misses_false : (r : ℕ) (us vs : List Term) → AllSame p path m within vs us → (x : Target) → may_make_false p.signature d.kf r us x ≡ false → N (λ j. not (would_make_false j m r vs x) ≡ true)
  misses_false r us vs a (Unset b) h = needs_miss (b.predicate == r) (λ j. some_cited_apart j m b.arguments vs) (some_differ p.signature d.kf b.arguments us) (needs_apart b.arguments us vs a) h
  misses_false r us vs a (Clear x) h = needs_miss (x.predicate == r) (λ j. fixed_cited_apart j m x.slots vs) (some_fixed_differ p.signature d.kf x.slots us) (needs_fixed_apart x.slots us vs a) h
  misses_false r us vs a (Set b) h = needs_nothing p path m (λ j. not (would_make_false j m r vs (Set b)) ≡ true) (λ j. refl)
  misses_false r us vs a (Assign f ts v) h = needs_nothing p path m (λ j. not (would_make_false j m r vs (Assign f ts v)) ≡ true) (λ j. refl)

  pub misses_change : (f : ℕ) (us vs : List Inner) → AllSame p path m within (map term_of vs) (map term_of us) → (x : Target) → may_change p.signature d.kf f us x ≡ false → N (λ j. not (would_change j m f vs x) ≡ true)
  misses_change f us vs a (Assign g ts v) h = needs_miss (g == f) (λ j. some_cited_apart j m (map term_of ts) (map term_of vs)) (some_differ p.signature d.kf (map term_of ts) (map term_of us)) (needs_apart (map term_of ts) (map term_of us) (map term_of vs) a) h
  misses_change f us vs a (Set b) h = needs_nothing p path m (λ j. not (would_change j m f vs (Set b)) ≡ true) (λ j. refl)
  misses_change f us vs a (Unset b) h = needs_nothing p path m (λ j. not (would_change j m f vs (Unset b)) ≡ true) (λ j. refl)
  misses_change f us vs a (Clear x) h = needs_nothing p path m (λ j. not (would_change j m f vs (Clear x)) ≡ true) (λ j. refl)

  abbrev shows : (l : Literal) → IsInOrder l → holds p.signature d l ≡ true → IsShown p path m (FactLit l)
  shows = held p path m within d shown

  -- effects that may not do so are barred from it
  pub needs_barred : (does : Target → Bool) (would : Judge → Target → Bool) → ((x : Target) → does x ≡ false → N (λ j. not (would j x) ≡ true)) → (es : List Effect) → AreOrderly es → some_may p.signature d does es ≡ false → N (λ j. are_barred j m (would j) es ≡ true)
  needs_barred does would misses es o h = barred_of p.signature d (IsShown p path m) m shows does would misses es o h

  module _ (es : List Effect) (o : AreOrderly es) where
    pub needs_steady : (t : Term) → is_stable p.signature d es t ≡ true → N (λ j. is_steady j m es t ≡ true)
    needs_steady t h = steady_of p.signature d (IsShown p path m) m shows es o t h

    pub needs_all_steady : (ts : List Term) → are_stable p.signature d es ts ≡ true → N (λ j. are_steady j m es ts ≡ true)
    needs_all_steady ts h = all_steady_of p.signature d (IsShown p path m) m shows es o ts h

    -- a literal that isn't spoiled is kept
    pub needs_kept : (l : Literal) → spoils p.signature d es l ≡ false → N (λ j. keeps_literal j m es l ≡ true)
    needs_kept l h = kept_of p.signature d (IsShown p path m) m shows es o l h
