-- A change to something of the right types leaves a world of the signature.
use Rattle.std.proofs.Common.{◌≡◌, ℕ, true, false, cond, List, [], ◌∷◌, map, slice_get, Some, refl, sym, ap, ◌∙◌, subst}
use Rattle.std.proofs.lemmas.Option.{same_Some}
use Rattle.std.specs.Cmp.{Equal-is}
use Rattle.pks_terms.specs.Sets.{IsIn}
use Rattle.pks_terms.specs.Syntax.{Object, Term, Atom, place}
use Rattle.pks_terms.specs.Orders.{number_of, atom_cmp, term_eq}
use Rattle.pks_terms.specs.Signatures.{Shape, Signature, objects_of}
use Rattle.pks_terms.specs.Worlds.{World}
use Rattle.pks_terms.specs.Meaning.{AreOfTypes, IsWorld}
use Rattle.pks_terms.specs.Actions.{Set}
use Rattle.pks_terms.specs.Typed.{AllMayStand, IsTypedTarget}
use Rattle.pks_terms.proofs.OrderLaws.{atom_cmp_tells, same_term}
use Rattle.pks_world.specs.declared.worlds.World.{World as DWorld}
use Rattle.pks_world.specs.Contents.{ground, atom_eq, with_truth, with_value, world_of, places_of}
use Rattle.pks_world.specs.First.{AreAllPlaces, IsWorldOf}

pub same_atom : (a b : Atom) → atom_eq a b ≡ true → a ≡ b
same_atom a b e = atom_cmp_tells a b ((Equal-is (atom_cmp a b)).0 e)

objects_stand : (s : Signature) (tys ds : List ℕ) → AllMayStand s [] tys (map Object ds) → AreOfTypes s tys ds
objects_stand s [] [] m = tt
objects_stand s [] (d ∷ ds) m = absurd m
objects_stand s (a ∷ tys) [] m = absurd m
objects_stand s (a ∷ tys) (d ∷ ds) m = (m.0, objects_stand s tys ds m.1)

module _ (s : Signature) (w : World) (i : IsWorld s w) where
  pub atom_typed : (a : Atom) → IsTypedTarget s [] (Set a) → IsWorld s (with_truth w a true)
  atom_typed a m = record {
    atoms = λ p ds. elim (atom_eq a (ground p ds)) as (λ b. atom_eq a (ground p ds) ≡ b → cond b true (w.truth p ds) ≡ true → (x : Shape) × (slice_get s.predicates p ≡ Some x) × AreOfTypes s x.arguments ds) [
      | true ↦ λ e h.
          let t = subst (λ (b : Atom). IsTypedTarget s [] (Set b)) (same_atom a (ground p ds) e) m in
          (t.0, t.1, objects_stand s t.0.arguments ds t.2)
      | false ↦ λ e h. i.atoms p ds h
    ] refl;
    typed = i.typed;
  }

  pub value_typed : (t : Term) (d : ℕ) (x : Shape) → slice_get s.functions (number_of t) ≡ Some x → IsIn d (objects_of s x.result) → IsWorld s (with_value w t d)
  value_typed t d x h j = record {
    atoms = i.atoms;
    typed = λ f ds y q. elim (term_eq t (place f ds)) as (λ b. term_eq t (place f ds) ≡ b → IsIn (cond b d (w.value f ds)) (objects_of s y.result)) [
      | true ↦ λ e. subst (λ (z : Shape). IsIn d (objects_of s z.result)) (same_Some x y (sym h ∙ ap (slice_get s.functions) (ap number_of (same_term t (place f ds) e)) ∙ q)) j
      | false ↦ λ e. i.typed f ds y q
    ] refl;
  }

-- a world of the signature that says the same, with the same places, is one too
pub of_signature : (s : Signature) (old new : DWorld) → IsWorld s (world_of new) → places_of new ≡ places_of old → IsWorldOf s old → IsWorldOf s new
of_signature s old new typed same i = record { typed = typed; places = subst (AreAllPlaces s) (sym same) i.places }
