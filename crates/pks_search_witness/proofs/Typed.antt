-- What is of the signature by the test is of it.
use Rattle.std.proofs.Common.{◌≡◌, ◌&&◌, ℕ, true, false, List, [], ◌∷◌, map, slice_get, Some, None, refl, sym, subst, true≢false}
use Rattle.std.specs.Option.{option_map_or}
use Rattle.std.proofs.lemmas.Bool.{and_parts}
use Rattle.pks_terms.specs.Syntax.{Object, Parameter, Apply, Inner, Term, Atom, object}
use Rattle.pks_terms.specs.Signatures.{Shape, Signature, object_is_of}
use Rattle.pks_terms.specs.Meaning.{AreOfTypes}
use Rattle.pks_terms.specs.Actions.{Set, Assign}
use Rattle.pks_terms.specs.Typed.{may_stand, AllMayStand, IsTypedTarget}
use Rattle.pks_terms.proofs.Types.{are_objects_of as objects_there}
use Rattle.pks_world.specs.Contents.{places_of, has_place}
use Rattle.pks_world.specs.First.{IsWorldOf}
use Rattle.pks_world.specs.declared.worlds.World.{World as DWorld}
use Rattle.pks_search_witness.specs.Typing.{is_object_of, are_objects_of, is_typed_atom, is_typed_place}

module _ (s : Signature) where
  stands : (a : ℕ) (t : Term) → is_object_of s a t ≡ true → may_stand s [] a t
  stands a (Object d) h = objects_there s a d h
  stands a (Parameter i) h = absurd (true≢false (sym h))
  stands a (Apply f ts) h = absurd (true≢false (sym h))

  all_stand : (tys : List ℕ) (ts : List Term) → are_objects_of s tys ts ≡ true → AllMayStand s [] tys ts
  all_stand [] [] h = tt
  all_stand [] (t ∷ ts) h = absurd (true≢false (sym h))
  all_stand (a ∷ tys) [] h = absurd (true≢false (sym h))
  all_stand (a ∷ tys) (t ∷ ts) h =
      let k = and_parts (is_object_of s a t) (are_objects_of s tys ts) h in
      (stands a t k.0, all_stand tys ts k.1)

  -- an atom may be made true
  pub set_typed : (a : Atom) → is_typed_atom s a ≡ true → IsTypedTarget s [] (Set a)
  set_typed a h =
      elim (slice_get s.predicates a.predicate) as (λ o. slice_get s.predicates a.predicate ≡ o → option_map_or (λ (x : Shape). are_objects_of s x.arguments a.arguments) o false ≡ true → IsTypedTarget s [] (Set a)) [
        | None ↦ λ q k. absurd (true≢false (sym k))
        | Some x ↦ λ q k. (x, q, all_stand x.arguments a.arguments k)
      ] refl h

  the_object : (a : ℕ) (t : Inner) → is_object_of s a t ≡ true → (d : ℕ) × (t ≡ Object d) × (object_is_of s a d ≡ true)
  the_object a (Object d) h = (d, refl, h)
  the_object a (Parameter i) h = absurd (true≢false (sym h))
  the_object a (Apply f ts) h = absurd (true≢false (sym h))

  the_objects : (tys : List ℕ) (ts : List Inner) → are_objects_of s tys ts ≡ true → (ds : List ℕ) × (map Object ds ≡ ts) × AreOfTypes s tys ds
  the_objects [] [] h = ([], refl, tt)
  the_objects [] (t ∷ ts) h = absurd (true≢false (sym h))
  the_objects (a ∷ tys) [] h = absurd (true≢false (sym h))
  the_objects (a ∷ tys) (t ∷ ts) h =
      let k = and_parts (is_object_of s a t) (are_objects_of s tys ts) h in
      let one = the_object a t k.0 in
      let more = the_objects tys ts k.1 in
      (one.0 ∷ more.0, (λ i. sym one.1 i ∷ more.1 i), (objects_there s a one.0 one.2, more.2))

  -- a place of the signature
  typed_place : (f : ℕ) (ts : List Inner) (d : ℕ) → is_typed_place s f ts d ≡ true → (x : Shape) × (slice_get s.functions f ≡ Some x) × (are_objects_of s x.arguments ts ≡ true) × (object_is_of s x.result d ≡ true)
  typed_place f ts d h =
      elim (slice_get s.functions f) as (λ o. slice_get s.functions f ≡ o → option_map_or (λ (x : Shape). are_objects_of s x.arguments ts && object_is_of s x.result d) o false ≡ true → (x : Shape) × (slice_get s.functions f ≡ Some x) × (are_objects_of s x.arguments ts ≡ true) × (object_is_of s x.result d ≡ true)) [
        | None ↦ λ q k. absurd (true≢false (sym k))
        | Some x ↦ λ q k. let r = and_parts (are_objects_of s x.arguments ts) (object_is_of s x.result d) k in (x, q, r.0, r.1)
      ] refl h

  -- may be given the value
  pub assign_typed : (f : ℕ) (ts : List Inner) (d : ℕ) → is_typed_place s f ts d ≡ true → IsTypedTarget s [] (Assign f ts (object d))
  assign_typed f ts d h = let r = typed_place f ts d h in (r.0, r.1, objects_there s r.0.result d r.3)

  -- and has a value that is kept
  pub place_kept : (w : DWorld) (f : ℕ) (ts : List Inner) (d : ℕ) → is_typed_place s f ts d ≡ true → IsWorldOf s w → has_place (places_of w) (Apply f ts) ≡ true
  place_kept w f ts d h o =
      let r = typed_place f ts d h in
      let q = the_objects r.0.arguments ts r.2 in
      subst (λ us. let t : Term = Apply f us in has_place (places_of w) t ≡ true) q.1 (o.places f q.0 r.0 r.1 q.2)
