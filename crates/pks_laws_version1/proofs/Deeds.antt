-- What an action may do, where equations are between terms of one type.
use Rattle.std.proofs.Common.{◌≡◌, ◌&&◌, ◌==◌, ℕ, Bool, true, false, not, List, [], ◌∷◌, map, slice_get, Option, Some, None, refl, sym, ap, ◌∙◌, subst, true≢false}
use Rattle.std.specs.Option.{option_map_or}
use Rattle.std.proofs.lemmas.Option.{same_Some}
use Rattle.pks_terms.specs.Sets.{Each}
use Rattle.pks_terms.specs.Syntax.{Object, Parameter, Apply, Inner, Term, term_of, Relation, Named, Equality, Literal, Pattern}
use Rattle.pks_terms.specs.Signatures.{Shape, Signature}
use Rattle.pks_terms.specs.Databases.{Five, some_differ}
use Rattle.pks_terms.specs.Closure.{applications_in}
use Rattle.pks_terms.specs.Actions.{Target, Set, Unset, Clear, Assign, Effect}
use Rattle.pks_terms.specs.Spoiling.{some_fixed_differ, may_fire, may_make_true, may_make_false, may_change, some_may, may_be_changed, is_stable, are_stable, may_be_denied, spoils}
use Rattle.pks_terms.specs.Valid.{all_fit, inner_fits, term_fits, slot_fits, is_related, is_pattern, IsTargetText}
use Rattle.pks_terms.proofs.ListLaws.{all_same, each_weaker}
use Rattle.pks_laws.proofs.Fitting.{all_fit_kept, map_keeps, as_term_fits}
use Rattle.pks_laws.proofs.Belonging.{L, T, related, related_terms}
use Rattle.pks_laws_version1.specs.OfFirst.{IsOfFirst}
use Rattle.pks_laws_version1.proofs.Lists.{or_same, and_same, any_same}
use Rattle.pks_laws_version1.proofs.Looking.{B, V, some_differ_same, fixed_differ_same, when_same, named_differ}
use Rattle.pks_laws_version1.proofs.Rounds.{shape_of, applications_are, any_denied_same}

module _ (s : Signature) (none : Each (λ o. o ≡ None) s.parents) where
  abbrev W : Signature
  W = B s none

  abbrev X : Literal → Type 0
  X = V s none

  -- its arguments put in: conditions and target are of the signature, equations between terms of one type
  abbrev pub IsFirstEffect : Effect → Type 0
  IsFirstEffect e = Each X e.condition × IsTargetText s [] e.target

  pub as_terms_fit : (tys : List ℕ) (us : List Inner) → all_fit (inner_fits s []) tys us ≡ true → all_fit (term_fits s []) tys (map term_of us) ≡ true
  as_terms_fit tys us h = all_fit_kept (inner_fits s []) (term_fits s []) tys us (map term_of us) (map_keeps (inner_fits s []) (term_fits s []) term_of (as_term_fits s []) us) h

  module _ (d : Five) (m : IsOfFirst s d) where
    pub may_fire_same : (e : Effect) → Each X e.condition → may_fire s d e ≡ may_fire W d e
    unfolding may_fire
    may_fire_same e a = ap not (any_denied_same s none d m e.condition a)

    pub may_make_true_same : (p : ℕ) (ts : List Term) → is_related s [] (Named p) ts ≡ true → (x : Target) → IsTargetText s [] x → may_make_true s d.kf p ts x ≡ may_make_true W d.kf p ts x
    may_make_true_same p ts h (Set a) t = named_differ s none d.kf m.typed.known a.predicate p a.arguments ts t h
    may_make_true_same p ts h (Unset a) t = refl
    may_make_true_same p ts h (Clear x) t = refl
    may_make_true_same p ts h (Assign f us value) t = refl

    pub pattern_differ : (x : Pattern) (us : List Term) → is_pattern s [] x ≡ true → is_related s [] (Named x.predicate) us ≡ true → some_fixed_differ s d.kf x.slots us ≡ some_fixed_differ W d.kf x.slots us
    pattern_differ x us h i =
        elim (slice_get s.predicates x.predicate) as (λ (o : Option Shape). option_map_or (λ (y : Shape). all_fit (slot_fits s []) y.arguments x.slots) o false ≡ true → option_map_or (λ (y : Shape). all_fit (term_fits s []) y.arguments us) o false ≡ true → some_fixed_differ s d.kf x.slots us ≡ some_fixed_differ W d.kf x.slots us) [
          | None ↦ λ q r. absurd (true≢false (sym q))
          | Some y ↦ λ q r. fixed_differ_same s none d.kf m.typed.known y.arguments x.slots us q r
        ] h i

    pub may_make_false_same : (p : ℕ) (ts : List Term) → is_related s [] (Named p) ts ≡ true → (x : Target) → IsTargetText s [] x → may_make_false s d.kf p ts x ≡ may_make_false W d.kf p ts x
    may_make_false_same p ts h (Unset a) t = named_differ s none d.kf m.typed.known a.predicate p a.arguments ts t h
    may_make_false_same p ts h (Clear x) t =
        when_same s none d.kf m.typed.known x.predicate p _ _ (λ e. ap not (pattern_differ x ts t (subst (λ n. is_related s [] (Named n) ts ≡ true) (sym e) h)))
    may_make_false_same p ts h (Set a) t = refl
    may_make_false_same p ts h (Assign f us value) t = refl

    pub may_change_same : (f : ℕ) (ts : List Inner) → T s (Apply f ts) → (x : Target) → IsTargetText s [] x → may_change s d.kf f ts x ≡ may_change W d.kf f ts x
    may_change_same f ts h (Assign g us value) t =
        let y = shape_of s f ts h in
        when_same s none d.kf m.typed.known g f _ _ (λ e.
        let same : t.0 ≡ y.0 = same_Some t.0 y.0 (sym t.1 ∙ ap (slice_get s.functions) e ∙ y.1) in
        ap not (some_differ_same s none d.kf m.typed.known y.0.arguments (map term_of us) (map term_of ts)
        (as_terms_fit y.0.arguments us (subst (λ (z : Shape). all_fit (inner_fits s []) z.arguments us ≡ true) same t.2)) (as_terms_fit y.0.arguments ts y.2)))
    may_change_same f ts h (Set a) t = refl
    may_change_same f ts h (Unset a) t = refl
    may_change_same f ts h (Clear x) t = refl

    pub some_may_same : (does does' : Target → Bool) → ((x : Target) → IsTargetText s [] x → does x ≡ does' x) → (es : List Effect) → Each IsFirstEffect es → some_may s d does es ≡ some_may W d does' es
    some_may_same does does' k es w =
        any_same (λ e. may_fire s d e && does e.target) (λ e. may_fire W d e && does' e.target) es
        (each_weaker IsFirstEffect (λ e. (may_fire s d e && does e.target) ≡ (may_fire W d e && does' e.target)) (λ e h. and_same _ _ _ _ (may_fire_same e h.0) (k e.target h.1)) es w)

    none_differ : (us : List Term) → some_differ s d.kf us [] ≡ some_differ W d.kf us []
    none_differ [] = refl
    none_differ (u ∷ us) = refl

    none_changes : (n : ℕ) (x : Target) → may_change s d.kf n [] x ≡ may_change W d.kf n [] x
    none_changes n (Assign g us value) = ap (λ b. (g == n) && not b) (none_differ (map term_of us))
    none_changes n (Set a) = refl
    none_changes n (Unset a) = refl
    none_changes n (Clear x) = refl

    module _ (es : List Effect) (w : Each IsFirstEffect es) where
      changed_same : (t : Term) → T s t → may_be_changed s d es t ≡ may_be_changed W d es t
      unfolding may_be_changed
      changed_same (Apply f ts) h = some_may_same (may_change s d.kf f ts) (may_change W d.kf f ts) (may_change_same f ts h) es w
      changed_same (Object e) h = some_may_same (may_change s d.kf e []) (may_change W d.kf e []) (λ x t. none_changes e x) es w
      changed_same (Parameter i) h = some_may_same (may_change s d.kf i []) (may_change W d.kf i []) (λ x t. none_changes i x) es w

      pub stable_same : (t : Term) → T s t → is_stable s d es t ≡ is_stable W d es t
      unfolding is_stable
      stable_same t h =
          all_same (λ u. not (may_be_changed s d es u)) (λ u. not (may_be_changed W d es u)) (applications_in t)
          (each_weaker (T s) (λ u. not (may_be_changed s d es u) ≡ not (may_be_changed W d es u)) (λ u k. ap not (changed_same u k)) (applications_in t) (applications_are s t h))

      pub all_stable_same : (ts : List Term) → Each (T s) ts → are_stable s d es ts ≡ are_stable W d es ts
      all_stable_same ts a = all_same (is_stable s d es) (is_stable W d es) ts (each_weaker (T s) (λ t. is_stable s d es t ≡ is_stable W d es t) stable_same ts a)

      denied_may_same : (r : Relation) (ts : List Term) (b : Bool) → is_related s [] r ts ≡ true → may_be_denied s d es r ts b ≡ may_be_denied W d es r ts b
      denied_may_same (Named p) ts true h = some_may_same (may_make_false s d.kf p ts) (may_make_false W d.kf p ts) (may_make_false_same p ts h) es w
      denied_may_same (Named p) ts false h = some_may_same (may_make_true s d.kf p ts) (may_make_true W d.kf p ts) (may_make_true_same p ts h) es w
      denied_may_same Equality ts b h = refl

      pub literal_terms : (l : Literal) → L s l → Each (T s) l.arguments
      literal_terms l h = related_terms s l.relation l.arguments (related s l h)

      pub spoils_same : (l : Literal) → L s l → spoils s d es l ≡ spoils W d es l
      unfolding spoils
      spoils_same l h = or_same _ _ _ _ (ap not (all_stable_same l.arguments (literal_terms l h))) (denied_may_same l.relation l.arguments l.positive (related s l h))
