-- What effects may do is the same in databases that are each other's images.
use Rattle.std.proofs.Common.{◌≡◌, ◌&&◌, ◌||◌, ◌==◌, ℕ, Bool, true, false, cond, not, List, [], ◌∷◌, map, filter, Option, Some, None, is_lt, refl, sym, ap, ◌∙◌}
use Rattle.std.specs.List.{list_any, list_all}
use Rattle.std.specs.Option.{option_map}
use Rattle.pks_terms.specs.Syntax.{Object, Parameter, Apply, Inner, Term, term_of, Relation, Named, Equality, Literal, negated}
use Rattle.pks_terms.specs.Orders.{term_cmp, in_order, literal}
use Rattle.pks_terms.specs.Signatures.{Signature}
use Rattle.pks_terms.specs.Databases.{Five, some_differ, holds}
use Rattle.pks_terms.specs.Closure.{is_application}
use Rattle.pks_terms.specs.Actions.{Target, Set, Unset, Clear, Assign, Effect}
use Rattle.pks_terms.specs.Spoiling.{some_fixed_differ, may_fire, may_make_true, may_make_false, may_change, some_may, may_be_changed, is_stable, are_stable, may_be_denied, spoils}
use Rattle.pks_terms.proofs.ListLaws.{all_alike, any_alike}
use Rattle.pks_laws_symmetry.specs.Renamed.{renamed_inner, renamed_term, renamed_literal}
use Rattle.pks_laws_symmetry.proofs.Mirrors.{Mirror, renamed_target, renamed_effect}
use Rattle.pks_laws_symmetry.proofs.Images.{image_negated, image_term_of, image_any}
use Rattle.pks_laws_symmetry.proofs.Reading.{holds_image, differ_image, some_differ_image}

-- ---- terms

pub term_ofs_image : (f : ℕ → ℕ) (ts : List Inner) → map term_of (map (renamed_inner f) ts) ≡ map (renamed_term f) (map term_of ts)
term_ofs_image f [] = refl
term_ofs_image f (t ∷ ts) = λ i. sym (image_term_of f t) i ∷ term_ofs_image f ts i

-- what holds of both sides of an equation holds of them in order
pub all_sides : (q : Term → Bool) (r : Relation) (ts : List Term) → list_all q (in_order r ts) ≡ list_all q ts
all_sides q (Named p) ts = refl
all_sides q Equality [] = refl
all_sides q Equality (t ∷ []) = refl
all_sides q Equality (t ∷ u ∷ []) = either (is_lt (term_cmp t u))
  where
    turned : (a b : Bool) → (a && (b && true)) ≡ (b && (a && true))
    turned true true = refl
    turned true false = refl
    turned false true = refl
    turned false false = refl

    either : (c : Bool) → list_all q (cond c (u ∷ t ∷ []) (t ∷ u ∷ [])) ≡ list_all q (t ∷ u ∷ [])
    either true = turned (q u) (q t)
    either false = refl
all_sides q Equality (t ∷ u ∷ v ∷ ts) = refl

module _ (s : Signature) (f g : ℕ → ℕ) (d e : Five) (m : Mirror s f g d e) where
  -- ---- targets and effects

  pub fire_image : (x : Effect) → may_fire s e (renamed_effect f x) ≡ may_fire s d x
  unfolding may_fire
  fire_image x =
      ap not (image_any f (λ l. holds s e (negated l)) x.condition ∙ (λ i. list_any (λ l. (ap (holds s e) (sym (image_negated f l)) ∙ holds_image s f g d e m (negated l)) i) x.condition))

  pub fixed_image : (ss : List (Option Term)) (ts : List Term) → some_fixed_differ s e.kf (map (option_map (renamed_term f)) ss) (map (renamed_term f) ts) ≡ some_fixed_differ s d.kf ss ts
  fixed_image (Some t ∷ ss) (u ∷ us) = λ i. differ_image s f g d e m t u i || fixed_image ss us i
  fixed_image (None ∷ ss) (u ∷ us) = fixed_image ss us
  fixed_image [] us = refl
  fixed_image (Some t ∷ ss) [] = refl
  fixed_image (None ∷ ss) [] = refl

  pub true_image : (p : ℕ) (ts : List Term) (x : Target) → may_make_true s e.kf p (map (renamed_term f) ts) (renamed_target f x) ≡ may_make_true s d.kf p ts x
  true_image p ts (Set b) = λ i. (b.predicate == p) && not (some_differ_image s f g d e m b.arguments ts i)
  true_image p ts (Unset b) = refl
  true_image p ts (Clear y) = refl
  true_image p ts (Assign h us v) = refl

  pub false_image : (p : ℕ) (ts : List Term) (x : Target) → may_make_false s e.kf p (map (renamed_term f) ts) (renamed_target f x) ≡ may_make_false s d.kf p ts x
  false_image p ts (Set b) = refl
  false_image p ts (Unset b) = λ i. (b.predicate == p) && not (some_differ_image s f g d e m b.arguments ts i)
  false_image p ts (Clear y) = λ i. (y.predicate == p) && not (fixed_image y.slots ts i)
  false_image p ts (Assign h us v) = refl

  inner_differ : (us ts : List Inner) → some_differ s e.kf (map term_of (map (renamed_inner f) us)) (map term_of (map (renamed_inner f) ts)) ≡ some_differ s d.kf (map term_of us) (map term_of ts)
  inner_differ us ts = (λ i. some_differ s e.kf (term_ofs_image f us i) (term_ofs_image f ts i)) ∙ some_differ_image s f g d e m (map term_of us) (map term_of ts)

  pub change_image : (h : ℕ) (ts : List Inner) (x : Target) → may_change s e.kf h (map (renamed_inner f) ts) (renamed_target f x) ≡ may_change s d.kf h ts x
  change_image h ts (Set b) = refl
  change_image h ts (Unset b) = refl
  change_image h ts (Clear y) = refl
  change_image h ts (Assign k us v) = λ i. (k == h) && not (inner_differ us ts i)

  pub some_image : (q r : Target → Bool) → ((x : Target) → r (renamed_target f x) ≡ q x) → (es : List Effect) → some_may s e r (map (renamed_effect f) es) ≡ some_may s d q es
  some_image q r h es = any_alike (λ x. may_fire s e x && r x.target) (λ x. may_fire s d x && q x.target) (renamed_effect f) (λ x i. fire_image x i && h x.target i) es

  -- ---- terms and literals

  changed_image : (es : List Effect) (h : ℕ) (ts : List Inner) → may_be_changed s e (map (renamed_effect f) es) (Apply h (map (renamed_inner f) ts)) ≡ may_be_changed s d es (Apply h ts)
  unfolding may_be_changed
  changed_image es h ts = some_image (may_change s d.kf h ts) (may_change s e.kf h (map (renamed_inner f) ts)) (change_image h ts) es

  inner_stable : (es : List Effect) (ts : List Inner)
      → list_all (λ u. not (may_be_changed s e (map (renamed_effect f) es) u)) (filter is_application (map term_of (map (renamed_inner f) ts))) ≡ list_all (λ u. not (may_be_changed s d es u)) (filter is_application (map term_of ts))
  inner_stable es [] = refl
  inner_stable es (Object o ∷ ts) = inner_stable es ts
  inner_stable es (Parameter k ∷ ts) = inner_stable es ts
  inner_stable es (Apply h os ∷ ts) =
      let place = ap (may_be_changed s e (map (renamed_effect f) es)) (sym (image_term_of f (Apply h os))) ∙ changed_image es h (map Object os) in
      λ i. not (place i) && inner_stable es ts i

  pub stable_image : (es : List Effect) (t : Term) → is_stable s e (map (renamed_effect f) es) (renamed_term f t) ≡ is_stable s d es t
  unfolding is_stable
  stable_image es (Object o) = refl
  stable_image es (Parameter k) = refl
  stable_image es (Apply h ts) = λ i. not (changed_image es h ts i) && inner_stable es ts i

  pub stables_image : (es : List Effect) (ts : List Term) → are_stable s e (map (renamed_effect f) es) (map (renamed_term f) ts) ≡ are_stable s d es ts
  stables_image es ts = all_alike (is_stable s e (map (renamed_effect f) es)) (is_stable s d es) (renamed_term f) (stable_image es) ts

  pub stable_sides_image : (es : List Effect) (r : Relation) (ts : List Term) → are_stable s e (map (renamed_effect f) es) (in_order r (map (renamed_term f) ts)) ≡ are_stable s d es ts
  stable_sides_image es r ts = all_sides (is_stable s e (map (renamed_effect f) es)) r (map (renamed_term f) ts) ∙ stables_image es ts

  denied_image : (es : List Effect) (r : Relation) (ts : List Term) (b : Bool) → may_be_denied s e (map (renamed_effect f) es) r (in_order r (map (renamed_term f) ts)) b ≡ may_be_denied s d es r ts b
  denied_image es (Named p) ts true = some_image (may_make_false s d.kf p ts) (may_make_false s e.kf p (map (renamed_term f) ts)) (false_image p ts) es
  denied_image es (Named p) ts false = some_image (may_make_true s d.kf p ts) (may_make_true s e.kf p (map (renamed_term f) ts)) (true_image p ts) es
  denied_image es Equality ts b = refl

  pub spoils_image : (es : List Effect) (l : Literal) → spoils s e (map (renamed_effect f) es) (renamed_literal f l) ≡ spoils s d es l
  unfolding spoils renamed_literal literal
  spoils_image es l = λ i. not (stable_sides_image es l.relation l.arguments i) || denied_image es l.relation l.arguments l.positive i
