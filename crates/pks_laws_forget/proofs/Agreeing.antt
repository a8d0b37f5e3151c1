-- Two lists of literals that give the same values at all places but changed ones: a term in which none of these occurs has the same normal form by both.
use Rattle.std.proofs.Common.{◌≡◌, ◌&&◌, ℕ, Bool, true, false, not, List, [], ◌∷◌, map, filter, Option, Some, None, option_and_then, refl, sym, ap, ◌∙◌, true≢false}
use Rattle.std.specs.List.{list_all}
use Rattle.std.specs.Option.{option_map_or}
use Rattle.std.proofs.lemmas.Bool.{and_parts, not-true}
use Rattle.std.proofs.lemmas.Option.{none-some, same_Some}
use Rattle.pks_terms.specs.Sets.{IsIn, all_some}
use Rattle.pks_terms.specs.Syntax.{Object, Parameter, Apply, Inner, Term, term_of, place, as_object, Literal}
use Rattle.pks_terms.specs.Signatures.{Signature}
use Rattle.pks_terms.specs.Databases.{values_at, least, applied, inner_normal, normal}
use Rattle.pks_terms.specs.Closure.{is_application, applications_in}
use Rattle.pks_terms.proofs.ListLaws.{map_alike, map-map}
use Rattle.pks_laws.proofs.NormalMembers.{term_again}
use Rattle.pks_laws_forget.proofs.Alike.{all_themselves, objects_stay}

pub objects_all : (ds : List ℕ) → all_some (map as_object (map (λ d. let t : Inner = Object d in t) ds)) ≡ Some ds
objects_all [] = refl
objects_all (d ∷ ds) = ap (λ o. elim o [ None ↦ None | Some ys ↦ Some (d ∷ ys) ]) (objects_all ds)

pub objects_are : (ts : List Inner) (ds : List ℕ) → all_some (map as_object ts) ≡ Some ds → ts ≡ map Object ds
objects_are [] ds e = ap (map Object) (same_Some [] ds e)
objects_are (Object d ∷ ts) ds e =
    elim (all_some (map as_object ts)) as (λ o. all_some (map as_object ts) ≡ o → ◌≡◌ {A = Option (List ℕ)} (elim o [ None ↦ None | Some ys ↦ Some (d ∷ ys) ]) (Some ds) → Object d ∷ ts ≡ map Object ds) [
      | None ↦ λ q k. absurd (none-some ds k)
      | Some ys ↦ λ q k. (λ i. Object d ∷ objects_are ts ys q i) ∙ ap (map Object) (same_Some (d ∷ ys) ds k)
    ] refl e
objects_are (Parameter d ∷ ts) ds e = absurd (none-some ds e)
objects_are (Apply g us ∷ ts) ds e = absurd (none-some ds e)

same_list : (ds : List ℕ) → map (λ d. d) ds ≡ ds
same_list [] = refl
same_list (d ∷ ds) = ap (λ es. d ∷ es) (same_list ds)

-- an argument as a term by itself
pub normal-term_of : (kg : List Literal) (u : Inner) → normal kg (term_of u) ≡ term_of (inner_normal kg u)
unfolding normal
normal-term_of kg (Object d) = refl
normal-term_of kg (Parameter d) = refl
normal-term_of kg (Apply g ds) =
    ap (applied as_object kg g) (objects_stay kg (map Object ds) ds (objects_all ds))
    ∙ ap (λ o. option_map_or Object (option_and_then (λ ds. least (values_at kg g ds)) o) (Apply g (map Object ds))) (objects_all ds)
    ∙ either (least (values_at kg g ds))
    ∙ sym (ap (λ o. term_of (option_map_or Object (option_and_then (λ ds. least (values_at kg g ds)) o) (Apply g (map (λ d. d) ds)))) (all_themselves ds))
  where
    either : (o : Option ℕ) → ◌≡◌ {A = Term} (option_map_or Object o (Apply g (map Object ds))) (term_of (option_map_or Object o (Apply g (map (λ d. d) ds))))
    either None = ap (λ es. Apply g (map Object es)) (sym (same_list ds))
    either (Some e) = refl

-- an application that is a normal form is of the same function, at the arguments in normal form
pub application_form : (kg : List Literal) (g f : ℕ) (vs us : List Inner) → normal kg (Apply g vs) ≡ Apply f us → (f ≡ g) × (us ≡ map (inner_normal kg) vs)
unfolding normal
application_form kg g f vs us e = either (option_and_then (λ ds. least (values_at kg g ds)) (all_some (map as_object (map (inner_normal kg) vs)))) e
  where
    either : (o : Option ℕ) → ◌≡◌ {A = Term} (option_map_or Object o (Apply g (map (inner_normal kg) vs))) (Apply f us) → (f ≡ g) × (us ≡ map (inner_normal kg) vs)
    either None k =
        let same : f ≡ g = cc in
        let inside : us ≡ map (inner_normal kg) vs = cc in
        (same, inside)
    either (Some d) k = absurd (true≢false (sym (ap (λ (t : Term). is_application t) k)))

module _ (s : Signature) (kf kg : List Literal) (changed : Term → Bool)
    (one : (f : ℕ) (ds : List ℕ) (e e' : ℕ) → IsIn e (values_at kg f ds) → IsIn e' (values_at kg f ds) → e ≡ e')
    (agree : (f : ℕ) (ds : List ℕ) → changed (place f ds) ≡ false → least (values_at kf f ds) ≡ least (values_at kg f ds))
    (alike : (f : ℕ) (us ws : List Inner) → map (normal kg) (map term_of us) ≡ map (normal kg) (map term_of ws) → changed (Apply f us) ≡ changed (Apply f ws)) where
  abbrev stays : Term → Bool
  stays t = list_all (λ u. not (changed u)) (applications_in t)

  abbrev inner_stays : Inner → Bool
  inner_stays (Object d) = true
  inner_stays (Parameter i) = true
  inner_stays (Apply g ds) = not (changed (Apply g (map Object ds)))

  inner_all : (us : List Inner) → list_all (λ u. not (changed u)) (filter is_application (map term_of us)) ≡ list_all inner_stays us
  inner_all [] = refl
  inner_all (Object d ∷ us) = inner_all us
  inner_all (Parameter d ∷ us) = inner_all us
  inner_all (Apply g ds ∷ us) = ap (λ b. not (changed (Apply g (map Object ds))) && b) (inner_all us)

  inner_agrees : (u : Inner) → inner_stays u ≡ true → inner_normal kf u ≡ inner_normal kg u
  inner_agrees (Object d) h = refl
  inner_agrees (Parameter d) h = refl
  inner_agrees (Apply g ds) h =
      ap (λ o. option_map_or Object (option_and_then (λ ds. least (values_at kf g ds)) o) (Apply g (map (λ d. d) ds))) (all_themselves ds)
      ∙ ap (λ o. option_map_or Object o (Apply g (map (λ d. d) ds))) (agree g ds (not-true _ h))
      ∙ sym (ap (λ o. option_map_or Object (option_and_then (λ ds. least (values_at kg g ds)) o) (Apply g (map (λ d. d) ds))) (all_themselves ds))

  inners_agree : (us : List Inner) → list_all inner_stays us ≡ true → map (inner_normal kf) us ≡ map (inner_normal kg) us
  inners_agree [] h = refl
  inners_agree (u ∷ us) h = let q = and_parts (inner_stays u) _ h in λ i. inner_agrees u q.0 i ∷ inners_agree us q.1 i

  normals-terms_of : (us : List Inner) → map (normal kg) (map term_of us) ≡ map term_of (map (inner_normal kg) us)
  normals-terms_of [] = refl
  normals-terms_of (u ∷ us) = λ i. normal-term_of kg u i ∷ normals-terms_of us i

  pub normal_inners_again : (us : List Inner) → map (normal kg) (map term_of (map (inner_normal kg) us)) ≡ map (normal kg) (map term_of us)
  normal_inners_again us =
      ap (map (normal kg)) (sym (normals-terms_of us))
      ∙ map-map (normal kg) (normal kg) (map term_of us) ∙ map_alike (λ t. normal kg (normal kg t)) (normal kg) (term_again s kg one) (map term_of us)

  outer : (f : ℕ) (us : List Inner) → changed (Apply f us) ≡ false → (o : Option (List ℕ)) → all_some (map as_object (map (inner_normal kg) us)) ≡ o → applied as_object kf f (map (inner_normal kg) us) ≡ applied as_object kg f (map (inner_normal kg) us)
  outer f us h None q =
      ap (λ o. option_map_or Object (option_and_then (λ ds. least (values_at kf f ds)) o) (Apply f (map (inner_normal kg) us))) q
      ∙ sym (ap (λ o. option_map_or Object (option_and_then (λ ds. least (values_at kg f ds)) o) (Apply f (map (inner_normal kg) us))) q)
  outer f us h (Some ds) q =
      let there : changed (place f ds) ≡ false = ap (λ ws. changed (Apply f ws)) (sym (objects_are (map (inner_normal kg) us) ds q)) ∙ alike f (map (inner_normal kg) us) us (normal_inners_again us) ∙ h in
      ap (λ o. option_map_or Object (option_and_then (λ ds. least (values_at kf f ds)) o) (Apply f (map (inner_normal kg) us))) q
      ∙ ap (λ o. option_map_or Object o (Apply f (map (inner_normal kg) us))) (agree f ds there)
      ∙ sym (ap (λ o. option_map_or Object (option_and_then (λ ds. least (values_at kg f ds)) o) (Apply f (map (inner_normal kg) us))) q)

  pub normal_agrees : (t : Term) → stays t ≡ true → normal kf t ≡ normal kg t
  unfolding normal
  normal_agrees (Object d) h = refl
  normal_agrees (Parameter d) h = refl
  normal_agrees (Apply f us) h =
      let q = and_parts (not (changed (Apply f us))) _ h in
      ap (applied as_object kf f) (inners_agree us (sym (inner_all us) ∙ q.1)) ∙ outer f us (not-true _ q.0) (all_some (map as_object (map (inner_normal kg) us))) refl

  pub normals_agree : (ts : List Term) → list_all stays ts ≡ true → map (normal kf) ts ≡ map (normal kg) ts
  normals_agree [] h = refl
  normals_agree (t ∷ ts) h = let q = and_parts (stays t) _ h in λ i. normal_agrees t q.0 i ∷ normals_agree ts q.1 i
