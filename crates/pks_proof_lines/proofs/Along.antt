-- The worlds at the moments of a path.
use Rattle.std.proofs.Common.{◌≡◌, ◌&&◌, ◌+◌, ℕ, zero, suc, true, false, List, [], ◌∷◌, take, map, slice_get, Some, None, refl, sym, ap, ◌∙◌, subst, true≢false, arith}
use Rattle.std.specs.Option.{option_map_or}
use Rattle.std.proofs.lemmas.Bool.{and_parts}
use Rattle.std.proofs.lemmas.Option.{none-some, same_Some}
use Rattle.pks_terms.specs.Sets.{Each, IsIn}
use Rattle.pks_terms.specs.Syntax.{Object, Parameter, Apply, Inner}
use Rattle.pks_terms.specs.Signatures.{Shape, Signature, fits_type, objects_of}
use Rattle.pks_terms.specs.Worlds.{World, inner_value}
use Rattle.pks_terms.specs.Meaning.{IsWorld}
use Rattle.pks_terms.specs.Valid.{all_fit, inner_fits}
use Rattle.pks_terms.specs.Actions.{Instance, applied_to}
use Rattle.pks_terms.specs.Typed.{IsTyped}
use Rattle.pks_terms.specs.Problems.{Problem, schema_of}
use Rattle.pks_terms.specs.Branching.{IsSo}
use Rattle.pks_terms.specs.Settling.{effects_of}
use Rattle.pks_terms.specs.Knowledge.{grounded, after_action, after_actions, ground_actions}
use Rattle.pks_terms.specs.Handed.{IsStepOf}
use Rattle.pks_terms.proofs.ListLaws.{each_weaker}
use Rattle.pks_terms.proofs.Types.{are_objects_of, wider}
use Rattle.pks_laws.proofs.Doing.{effects_do}
use Rattle.pks_laws.proofs.Staying.{AreTyped, still_world}
use Rattle.pks_terms.specs.Proofs.{Path, Went, Took, deeds, Taking, takings, GoesAlong}

-- the world after the ground actions that instances are from a world on
abbrev pub present : Problem → World → List Instance → World
present p w is = after_actions p w (ground_actions p w is)

-- the world at the next moment
pub next_world : (p : Problem) (w : World) (is : List Instance) (m : ℕ) (i : Instance) → slice_get is m ≡ Some i → present p w (take (suc m) is) ≡ applied_to (present p w (take m is)) (effects_of p i)
next_world p w [] m i h = absurd (none-some i h)
next_world p w (x ∷ is) zero i h = sym (effects_do p w x) ∙ ap (λ y. applied_to w (effects_of p y)) (same_Some x i h)
next_world p w (x ∷ is) (suc m) i h = next_world p (after_action p w (grounded w x)) is m i h

-- ---- each of them is a world of the signature

module _ (s : Signature) (w : World) (iw : IsWorld s w) where
  fitting : (t : Inner) (a : ℕ) → inner_fits s [] a t ≡ true → IsIn (inner_value w t) (objects_of s a)
  fitting (Object d) a h = are_objects_of s a d h
  fitting (Parameter k) a h = absurd (true≢false (sym h))
  fitting (Apply f ds) a h =
      elim (slice_get s.functions f) as (λ o. slice_get s.functions f ≡ o → option_map_or (λ (x : Shape). all_fit (Rattle.pks_terms.specs.Signatures.object_is_of s) x.arguments ds && fits_type s x.result a) o false ≡ true → IsIn (inner_value w (Apply f ds)) (objects_of s a)) [
        | None ↦ λ q k. absurd (true≢false (sym k))
        | Some x ↦ λ q k. wider s x.result a (inner_value w (Apply f ds)) (and_parts (all_fit (Rattle.pks_terms.specs.Signatures.object_is_of s) x.arguments ds) _ k).1 (iw.typed f (map (λ d. d) ds) x q)
      ] refl h

  fitting_all : (tys : List ℕ) (ts : List Inner) → all_fit (inner_fits s []) tys ts ≡ true → AreTyped s w iw tys ts
  fitting_all [] ts h k b e = absurd (none-some b e)
  fitting_all (a ∷ tys) [] h k b e = absurd (true≢false (sym h))
  fitting_all (a ∷ tys) (t ∷ ts) h zero b e = subst (λ c. IsIn (inner_value w t) (objects_of s c)) (same_Some a b e) (fitting t a (and_parts (inner_fits s [] a t) _ h).0)
  fitting_all (a ∷ tys) (t ∷ ts) h (suc k) b e = fitting_all tys ts (and_parts (inner_fits s [] a t) _ h).1 k b e

module _ (p : Problem) (typed : IsTyped p) where
  step_world : (w : World) (i : Instance) → IsWorld p.signature w → IsStepOf p i → IsWorld p.signature (applied_to w (effects_of p i))
  step_world w i iw step =
      let sc = schema_of p i.action in
      still_world p.signature w iw sc.parameters i.arguments (fitting_all p.signature w iw sc.parameters i.arguments step.arguments) sc.effects (typed i.action)

  pub each_world : (w : World) (is : List Instance) → IsWorld p.signature w → Each (IsStepOf p) is → (m : ℕ) → IsWorld p.signature (present p w (take m is))
  each_world w is iw steps zero = iw
  each_world w [] iw steps (suc m) = iw
  each_world w (i ∷ is) iw steps (suc m) = each_world (after_action p w (grounded w i)) is (subst (IsWorld p.signature) (effects_do p w i) (step_world w i iw steps.0)) steps.1 m

-- ---- each side that is taken is so in the world of its moment

sides_so : (p : Problem) (w : World) (path : Path) (k : ℕ) → GoesAlong p w path → Each (λ (q : Taking). (n : ℕ) × (q.moment ≡ k + n) × IsSo (present p w (take n (deeds path))) q.choice q.side) (takings k path)
sides_so p w [] k g = tt
sides_so p w (Went i ∷ rest) k g =
    each_weaker (λ (q : Taking). (n : ℕ) × (q.moment ≡ suc k + n) × IsSo (present p (after_action p w (grounded w i)) (take n (deeds rest))) q.choice q.side)
    (λ (q : Taking). (n : ℕ) × (q.moment ≡ k + n) × IsSo (present p w (take n (i ∷ deeds rest))) q.choice q.side)
    (λ q x. let e : q.moment ≡ k + suc x.0 = x.1 ∙ omega arith in (suc x.0, e, x.2)) (takings (suc k) rest) (sides_so p (after_action p w (grounded w i)) rest (suc k) g)
sides_so p w (Took c side ∷ rest) k g = let e : k ≡ k + 0 = omega arith in ((0, e, g.0), sides_so p w rest k g.1)

pub taken_so : (p : Problem) (w : World) (path : Path) → GoesAlong p w path → Each (λ (q : Taking). IsSo (present p w (take q.moment (deeds path))) q.choice q.side) (takings 0 path)
taken_so p w path g =
    each_weaker (λ (q : Taking). (n : ℕ) × (q.moment ≡ 0 + n) × IsSo (present p w (take n (deeds path))) q.choice q.side) (λ (q : Taking). IsSo (present p w (take q.moment (deeds path))) q.choice q.side)
    (λ q x. let e : x.0 ≡ q.moment = omega (arith, x.1) in subst (λ n. IsSo (present p w (take n (deeds path))) q.choice q.side) e x.2) (takings 0 path) (sides_so p w path 0 g)
