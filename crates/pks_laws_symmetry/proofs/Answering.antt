-- Databases that are each other's images answer queries alike.
use Rattle.std.proofs.Common.{◌≡◌, ◌&&◌, ◌||◌, ℕ, Bool, true, false, cond, not, List, [], ◌∷◌, map, is_some, is_eq, is_lt, refl, sym, ap, ◌∙◌, subst, ⊎_elim}
use Rattle.std.specs.Cmp.{Equal-is}
use Rattle.std.specs.List.{list_any, list_all}
use Rattle.std.proofs.lemmas.Bool.{or_cases, or_left, or_right}
use Rattle.std.proofs.lemmas.Cmp.{tied_itself}
use Rattle.pks_terms.specs.Sets.{Each, IsOrdered}
use Rattle.pks_terms.specs.Syntax.{Object, Parameter, Apply, Term, as_object, Relation, Named, Equality, Literal, negated}
use Rattle.pks_terms.specs.Orders.{term_cmp, term_eq, literal_cmp, conj_cmp, in_order, literal}
use Rattle.pks_terms.specs.Totality.{literal_cmp_total, conj_cmp_total}
use Rattle.pks_terms.specs.Signatures.{Signature}
use Rattle.pks_terms.specs.Databases.{Five, normal, normal_literal, holds}
use Rattle.pks_terms.specs.Closure.{normal_conj}
use Rattle.pks_terms.specs.Queries.{Plain, Know, KnowWhether, KnowValue, Query, known_value, is_member, has_known_sides, is_decided, known_whether, answers_plain, answers}
use Rattle.pks_terms.specs.Moments.{IsInOrder}
use Rattle.pks_terms.proofs.ListLaws.{each_of, each_map, each_set_of, found_in, any_in}
use Rattle.pks_terms.proofs.OrderLaws.{literal_cmp_tells, conj_cmp_tells, same_term}
use Rattle.pks_terms.proofs.SetLaws.{ordered_set_of}
use Rattle.pks_terms.proofs.Types.{both_ways}
use Rattle.pks_laws.proofs.Least.{term_eq_itself}
use Rattle.pks_laws.proofs.SidesInOrder.{literal_ordered}
use Rattle.pks_laws_symmetry.specs.Renamed.{renamed_term, renamed_literal, renamed_conj, renamed_plain, renamed_query}
use Rattle.pks_laws_symmetry.proofs.Mirrors.{Mirror}
use Rattle.pks_laws_symmetry.proofs.Images.{image_negated, image_all, image_any, term_back, conj_back}
use Rattle.pks_laws_symmetry.proofs.Reading.{mirror_turned, normal_image, holds_image, conj_image}

-- ---- formulas in normal form

form_ordered : (kf : List Literal) (l : Literal) → IsInOrder (normal_literal kf l)
unfolding normal_literal
form_ordered kf l = literal_ordered l.relation (map (normal kf) l.arguments) l.positive

pub forms_ordered : (kf c : List Literal) → Each IsInOrder (normal_conj kf c)
forms_ordered kf c = each_set_of IsInOrder literal_cmp (map (normal_literal kf) c) (each_map IsInOrder (normal_literal kf) c (each_of (λ l. IsInOrder (normal_literal kf l)) c (λ l i. form_ordered kf l)))

pub forms_set : (kf c : List Literal) → IsOrdered literal_cmp (normal_conj kf c)
forms_set kf c = ordered_set_of literal_cmp_total literal_cmp_tells (map (normal_literal kf) c)

same_conj : (b c : List Literal) → is_eq (conj_cmp b c) ≡ true → b ≡ c
same_conj b c h = conj_cmp_tells b c ((Equal-is (conj_cmp b c)).0 h)

conj_itself : (b c : List Literal) → b ≡ c → is_eq (conj_cmp b c) ≡ true
conj_itself b c e = ap (λ x. is_eq (conj_cmp b x)) (sym e) ∙ ap is_eq (tied_itself conj_cmp_total b)

-- ---- values and formulas that are known

object_image : (f : ℕ → ℕ) (t : Term) → is_some (as_object (renamed_term f t)) ≡ is_some (as_object t)
object_image f (Object o) = refl
object_image f (Parameter k) = refl
object_image f (Apply h ts) = refl

value_goes : (s : Signature) (f g : ℕ → ℕ) (d e : Five) → Mirror s f g d e → (t : Term) → known_value d t ≡ true → known_value e (renamed_term f t) ≡ true
unfolding known_value
value_goes s f g d e m t h = ⊎_elim
    (λ k. or_left _ _ (ap (λ u. is_some (as_object u)) (normal_image s f g d e m t) ∙ object_image f (normal d.kf t) ∙ k))
    (λ k.
    let r = found_in (λ u. term_eq (normal d.kf u) (normal d.kf t)) d.kv k in
    let same : normal e.kf (renamed_term f r.0) ≡ normal e.kf (renamed_term f t) = normal_image s f g d e m r.0 ∙ ap (renamed_term f) (same_term (normal d.kf r.0) (normal d.kf t) r.2) ∙ sym (normal_image s f g d e m t) in
    or_right _ _ (any_in (λ u. term_eq (normal e.kf u) (normal e.kf (renamed_term f t))) e.kv (renamed_term f r.0) (m.images.there.values r.0 r.1) (term_eq_itself (normal e.kf (renamed_term f r.0)) (normal e.kf (renamed_term f t)) same)))
    (or_cases _ _ h)

member_goes : (s : Signature) (f g : ℕ → ℕ) (d e : Five) → Mirror s f g d e → (c : List Literal) → is_member d c ≡ true → is_member e (renamed_conj f c) ≡ true
unfolding is_member
member_goes s f g d e m c h =
    let r = found_in (λ k. is_eq (conj_cmp (normal_conj d.kf k) (normal_conj d.kf c))) d.kw h in
    let same : normal_conj e.kf (renamed_conj f r.0) ≡ normal_conj e.kf (renamed_conj f c) = conj_image s f g d e m r.0 ∙ ap (renamed_conj f) (same_conj (normal_conj d.kf r.0) (normal_conj d.kf c) r.2) ∙ sym (conj_image s f g d e m c) in
    any_in (λ k. is_eq (conj_cmp (normal_conj e.kf k) (normal_conj e.kf (renamed_conj f c)))) e.kw (renamed_conj f r.0) (m.images.there.whether r.0 r.1) (conj_itself (normal_conj e.kf (renamed_conj f r.0)) (normal_conj e.kf (renamed_conj f c)) same)

-- whether a formula is a member depends on its normal form alone
member_by_form : (d : Five) (b c : List Literal) → normal_conj d.kf b ≡ normal_conj d.kf c → is_member d b ≡ is_member d c
unfolding is_member
member_by_form d b c e = λ i. list_any (λ k. is_eq (conj_cmp (normal_conj d.kf k) (e i))) d.kw

-- ---- queries

module _ (s : Signature) (f g : ℕ → ℕ) (d e : Five) (m : Mirror s f g d e) where
  pub known_value_image : (t : Term) → known_value e (renamed_term f t) ≡ known_value d t
  known_value_image t =
      both_ways (known_value e (renamed_term f t)) (known_value d t)
      (λ h. subst (λ u. known_value d u ≡ true) (term_back f g m.renaming.back t) (value_goes s g f e d (mirror_turned s f g d e m) (renamed_term f t) h))
      (value_goes s f g d e m t)

  form_there_and_back : (c : List Literal) → normal_conj d.kf (renamed_conj g (renamed_conj f c)) ≡ normal_conj d.kf c
  form_there_and_back c =
      conj_image s g f e d (mirror_turned s f g d e m) (renamed_conj f c) ∙ ap (renamed_conj g) (conj_image s f g d e m c) ∙ conj_back f g m.renaming.back (normal_conj d.kf c) (forms_ordered d.kf c) (forms_set d.kf c)

  pub member_form_image : (c : List Literal) → is_member e (renamed_conj f c) ≡ is_member d c
  member_form_image c =
      both_ways (is_member e (renamed_conj f c)) (is_member d c)
      (λ h. sym (member_by_form d (renamed_conj g (renamed_conj f c)) c (form_there_and_back c)) ∙ member_goes s g f e d (mirror_turned s f g d e m) (renamed_conj f c) h)
      (member_goes s f g d e m c)

  sides_image : (r : Relation) (ts : List Term) → has_known_sides e r (in_order r (map (renamed_term f) ts)) ≡ has_known_sides d r ts
  sides_image Equality (t ∷ u ∷ []) = either (is_lt (term_cmp (renamed_term f t) (renamed_term f u)))
    where
      turned : (a b : Bool) → (a && b) ≡ (b && a)
      turned true true = refl
      turned true false = refl
      turned false true = refl
      turned false false = refl

      either : (c : Bool) → has_known_sides e Equality (cond c (renamed_term f u ∷ renamed_term f t ∷ []) (renamed_term f t ∷ renamed_term f u ∷ [])) ≡ (known_value d t && known_value d u)
      either true = (λ i. known_value_image u i && known_value_image t i) ∙ turned (known_value d u) (known_value d t)
      either false = λ i. known_value_image t i && known_value_image u i
  sides_image Equality [] = refl
  sides_image Equality (t ∷ []) = refl
  sides_image Equality (t ∷ u ∷ v ∷ ts) = refl
  sides_image (Named p) ts = refl

  literal_sides : (l : Literal) → has_known_sides e (renamed_literal f l).relation (renamed_literal f l).arguments ≡ has_known_sides d l.relation l.arguments
  unfolding renamed_literal literal
  literal_sides l = sides_image l.relation l.arguments

  denied_holds : (l : Literal) → holds s e (negated (renamed_literal f l)) ≡ holds s d (negated l)
  denied_holds l = ap (holds s e) (sym (image_negated f l)) ∙ holds_image s f g d e m (negated l)

  denied_member : (l : Literal) → is_member e (negated (renamed_literal f l) ∷ []) ≡ is_member d (negated l ∷ [])
  denied_member l = ap (λ k. is_member e (k ∷ [])) (sym (image_negated f l)) ∙ member_form_image (negated l ∷ [])

  decided_image : (l : Literal) → is_decided s e (renamed_literal f l) ≡ is_decided s d l
  unfolding is_decided
  decided_image l = λ i. (holds_image s f g d e m l i || denied_holds l i) || ((member_form_image (l ∷ []) i || denied_member l i) || literal_sides l i)

  whether_image : (c : List Literal) → known_whether s e (renamed_conj f c) ≡ known_whether s d c
  unfolding known_whether
  whether_image c =
      let some : list_any (λ l. holds s e (negated l)) (renamed_conj f c) ≡ list_any (λ l. holds s d (negated l)) c = image_any f (λ l. holds s e (negated l)) c ∙ (λ i. list_any (λ l. denied_holds l i) c) in
      let each : list_all (is_decided s e) (renamed_conj f c) ≡ list_all (is_decided s d) c = image_all f (is_decided s e) c ∙ (λ i. list_all (λ l. decided_image l i) c) in
      λ i. member_form_image c i || (some i || each i)

  plain_image : (q : Plain) → answers_plain s e (renamed_plain f q) ≡ answers_plain s d q
  plain_image (Know l) = holds_image s f g d e m l
  plain_image (KnowWhether c) = whether_image c
  plain_image (KnowValue t) = known_value_image t

  pub answers_image : (q : Query) → answers s e (renamed_query f q) ≡ answers s d q
  answers_image q = λ i. cond q.denied (not (plain_image q.asks i)) (plain_image q.asks i)
