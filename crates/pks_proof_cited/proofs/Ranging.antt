-- The objects of a type, one by one.
use Rattle.std.proofs.Common.{◌≡◌, ◌||◌, ◌&&◌, ◌==◌, ◌+◌, ℕ, Bool, true, false, not, List, [], ◌∷◌, refl, sym, ap, ◌∙◌, subst, inl, inr}
use Rattle.std.specs.List.{list_any}
use Rattle.std.proofs.lemmas.Bool.{eqb-true, eq-eqb}
use Rattle.pks_terms.specs.Sets.{IsIn}
use Rattle.pks_terms.specs.Syntax.{Term, object}
use Rattle.pks_terms.specs.Orders.{inequation}
use Rattle.pks_terms.specs.Signatures.{Signature, objects_from, objects_of, object_is_of}
use Rattle.pks_terms.specs.Judging.{Judge, is_cited}
use Rattle.pks_terms.specs.Reasons.{others_ruled_out}
use Rattle.pks_terms.proofs.ListLaws.{found_in}
use Rattle.pks_terms.proofs.Types.{both_ways, objects_are_of, are_objects_of}

-- the first object isn't of the type, or is the one, or is ruled out, and so are the others
pub one_ruled_out : (j : Judge) (m : ℕ) (t : Term) (d : ℕ) (fits : ℕ → Bool) (n own : ℕ) (owns : List ℕ)
    → others_ruled_out j m t d (objects_from fits n (own ∷ owns)) ≡ ((not (fits own) || ((n == d) || is_cited j m (inequation t (object n)))) && others_ruled_out j m t d (objects_from fits (n + 1) owns))
one_ruled_out j m t d fits n own owns =
    elim (fits own) as (λ b. others_ruled_out j m t d (elim b [ true ↦ n ∷ objects_from fits (n + 1) owns | false ↦ objects_from fits (n + 1) owns ]) ≡ ((not b || ((n == d) || is_cited j m (inequation t (object n)))) && others_ruled_out j m t d (objects_from fits (n + 1) owns))) [
      | true ↦ refl
      | false ↦ refl
    ]

is_among : (d : ℕ) (es : List ℕ) → IsIn d es → list_any (λ e. e == d) es ≡ true
is_among d [] i = absurd i
is_among d (e ∷ es) (inl q) = ap (λ b. b || list_any (λ e. e == d) es) (eq-eqb e d q)
is_among d (e ∷ es) (inr i) = elim (e == d) as (λ b. (b || list_any (λ e. e == d) es) ≡ true) [ true ↦ refl | false ↦ is_among d es i ]

-- an object is one of the type where it is among the objects of the type
pub one_of_type : (s : Signature) (a d : ℕ) → list_any (λ e. e == d) (objects_of s a) ≡ object_is_of s a d
one_of_type s a d =
    both_ways (list_any (λ e. e == d) (objects_of s a)) (object_is_of s a d)
    (λ h. let x = found_in (λ e. e == d) (objects_of s a) h in objects_are_of s a d (subst (λ e. IsIn e (objects_of s a)) (eqb-true x.0 d x.2) x.1))
    (λ h. is_among d (objects_of s a) (are_objects_of s a d h))

-- an object that is one of the type, of whose objects this is so
pub left_then : (s : Signature) (a d : ℕ) (rest : List ℕ → Bool) (b r : Bool) → b ≡ object_is_of s a d → b ≡ true → r ≡ rest (objects_of s a) → r ≡ (list_any (λ e. e == d) (objects_of s a) && rest (objects_of s a))
left_then s a d rest b r e h f = f ∙ ap (λ c. c && rest (objects_of s a)) (sym h ∙ e ∙ sym (one_of_type s a d))

pub left_else : (s : Signature) (a d : ℕ) (rest : List ℕ → Bool) (b : Bool) → b ≡ object_is_of s a d → b ≡ false → b ≡ (list_any (λ e. e == d) (objects_of s a) && rest (objects_of s a))
left_else s a d rest b e h = h ∙ ap (λ c. c && rest (objects_of s a)) (sym h ∙ e ∙ sym (one_of_type s a d))
