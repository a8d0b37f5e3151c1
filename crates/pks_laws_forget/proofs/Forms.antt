-- The forms of terms are reached by replacing applications by known values one by one.
use Rattle.std.proofs.Common.{List, [], ◌∷◌, map, subst, inl, inr, ⊎_elim}
use Rattle.std.specs.Option.{option_map_or}
use Rattle.pks_terms.specs.Sets.{IsIn, all_some, one_replaced, choices_from}
use Rattle.pks_terms.specs.Syntax.{Object, Parameter, Apply, Inner, Term, as_object, Literal}
use Rattle.pks_terms.specs.Databases.{values_at}
use Rattle.pks_terms.specs.Closure.{inner_steps, term_steps}
use Rattle.pks_terms.specs.Settling.{inner_forms, argument_forms, term_forms}
use Rattle.pks_terms.proofs.ListLaws.{in_map, in_mapped, in_flat_mapped}
use Rattle.pks_laws.proofs.Least.{in_left, in_right}

-- P holds at each choice of forms where it lasts as one element is replaced
choices_reached : {X : Type 0} (step forms : X → List X) → ((Q : X → Type 0) → ((x y : X) → Q x → IsIn y (step x) → Q y) → (x : X) → Q x → (y : X) → IsIn y (forms x) → Q y)
    → (P : List X → Type 0) → ((xs ys : List X) → P xs → IsIn ys (one_replaced step xs) → P ys) → (xs : List X) → P xs → (ys : List X) → IsIn ys (choices_from (map forms xs)) → P ys
choices_reached step forms each P closed [] p ys (inl e) = subst P e p
choices_reached step forms each P closed [] p ys (inr i) = absurd i
choices_reached {X} step forms each P closed (x ∷ xs) p ys i =
    let r = in_flat_mapped (λ y. map (λ zs. y ∷ zs) (choices_from (map forms xs))) (forms x) ys i in
    let q = in_mapped (λ zs. r.0 ∷ zs) (choices_from (map forms xs)) ys r.2 in
    let first : P (r.0 ∷ xs) = each (λ y. P (y ∷ xs)) (λ y z h j. closed (y ∷ xs) (z ∷ xs) h (in_left (map (λ w. w ∷ xs) (step y)) (map (λ ws. y ∷ ws) (one_replaced step xs)) (z ∷ xs) (in_map (λ w. w ∷ xs) (step y) z j))) x p r.0 r.1 in
    subst P q.2
    (choices_reached step forms each (λ zs. P (r.0 ∷ zs))
    (λ zs vs h j. closed (r.0 ∷ zs) (r.0 ∷ vs) h (in_right (map (λ w. w ∷ zs) (step r.0)) (map (λ ws. r.0 ∷ ws) (one_replaced step zs)) (r.0 ∷ vs) (in_map (λ ws. r.0 ∷ ws) (one_replaced step zs) vs j)))
    xs first q.0 q.1)

module _ (kf : List Literal) where
  inner_reached : (Q : Inner → Type 0) → ((x y : Inner) → Q x → IsIn y (inner_steps kf x) → Q y) → (x : Inner) → Q x → (y : Inner) → IsIn y (inner_forms kf x) → Q y
  inner_reached Q closed (Object d) q y (inl e) = subst Q e q
  inner_reached Q closed (Object d) q y (inr i) = absurd i
  inner_reached Q closed (Parameter d) q y (inl e) = subst Q e q
  inner_reached Q closed (Parameter d) q y (inr i) = absurd i
  inner_reached Q closed (Apply g ds) q y (inl e) = subst Q e q
  inner_reached Q closed (Apply g ds) q y (inr i) = closed (Apply g ds) y q i

  term_reached : (Q : Term → Type 0) → ((x y : Term) → Q x → IsIn y (term_steps kf x) → Q y) → (x : Term) → Q x → (y : Term) → IsIn y (term_forms kf x) → Q y
  unfolding term_steps
  term_reached Q closed (Object d) q y (inl e) = subst Q e q
  term_reached Q closed (Object d) q y (inr i) = absurd i
  term_reached Q closed (Parameter d) q y (inl e) = subst Q e q
  term_reached Q closed (Parameter d) q y (inr i) = absurd i
  term_reached Q closed (Apply f ts) q y i =
      let r = in_flat_mapped (λ us. Apply f us ∷ map Object (option_map_or (values_at kf f) (all_some (map as_object us)) [])) (argument_forms kf ts) y i in
      let inside : Q (Apply f r.0) =
      choices_reached (inner_steps kf) (inner_forms kf) inner_reached (λ vs. Q (Apply f vs))
      (λ vs ws h j. closed (Apply f vs) (Apply f ws) h (in_right (map Object (option_map_or (values_at kf f) (all_some (map as_object vs)) [])) (map (Apply f) (one_replaced (inner_steps kf) vs)) (Apply f ws) (in_map (Apply f) (one_replaced (inner_steps kf) vs) ws j)))
      ts q r.0 r.1 in
      ⊎_elim (λ e. subst Q e inside)
      (λ j. closed (Apply f r.0) y inside (in_left (map Object (option_map_or (values_at kf f) (all_some (map as_object r.0)) [])) (map (Apply f) (one_replaced (inner_steps kf) r.0)) y j)) r.2

  pub terms_reached : (P : List Term → Type 0) → ((xs ys : List Term) → P xs → IsIn ys (one_replaced (term_steps kf) xs) → P ys) → (xs : List Term) → P xs → (ys : List Term) → IsIn ys (choices_from (map (term_forms kf) xs)) → P ys
  terms_reached = choices_reached (term_steps kf) (term_forms kf) term_reached
