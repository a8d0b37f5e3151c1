-- The first add without a case is the first of all that have none.
use Rattle.std.proofs.Common.{◌≡◌, ◌+◌, ◌++◌, ◌∙◌, ℕ, cond, List, [], ◌∷◌, map, Option, Some, None, ap, refl}
use Rattle.std.specs.Prelude.{is_none}
use Rattle.std.specs.List.{filter, flat_map}
use Rattle.std.specs.Option.{option_map_or}
use Rattle.pks_terms.specs.Actions.{Add, Schema}
use Rattle.pks_terms.specs.Justified.{case_of}
use Rattle.pks_terms.specs.Branching.{numbered}
use Rattle.pks_terms.specs.Problems.{Problem}
use Rattle.pks_terms.specs.Answers.{unjustified_in, unjustified}
use Rattle.pks_justify.specs.Cases.{first_without_case, first_unjustified}

-- the first of a list
abbrev head : {X : Type 0} → List X → Option X
head [] = None
head (x ∷ xs) = Some x

-- the adds of one action without a case, from a number on
abbrev without : Schema → ℕ → ℕ → List Add → List (ℕ × ℕ)
without sc a n adds = map (λ (m : ℕ × Add). (a, m.0)) (filter (λ (m : ℕ × Add). is_none (case_of sc m.1)) (numbered n adds))

head_without : (sc : Schema) (a n : ℕ) (adds : List Add) → head (without sc a n adds) ≡ option_map_or (λ k. Some (a, k)) (first_without_case sc n adds) None
head_without sc a n [] = refl
head_without sc a n (x ∷ rest) =
    elim (case_of sc x) as (λ o. head {X = ℕ × ℕ} (map (λ (m : ℕ × Add). (a, m.0)) (cond (is_none o) ((n, x) ∷ filter (λ (m : ℕ × Add). is_none (case_of sc m.1)) (numbered (n + 1) rest)) (filter (λ (m : ℕ × Add). is_none (case_of sc m.1)) (numbered (n + 1) rest)))) ≡ option_map_or (λ k. Some (a, k)) (option_map_or (λ k. first_without_case sc (n + 1) rest) o (Some n)) None) [
      | None ↦ refl
      | Some k ↦ head_without sc a (n + 1) rest
    ]

head_append : {X : Type 0} (xs ys : List X) → head (xs ++ ys) ≡ option_map_or Some (head xs) (head ys)
head_append [] ys = refl
head_append (x ∷ xs) ys = refl

option_twice : {X Y : Type 0} (f : X → Y) (o : Option X) (d : Option Y) → option_map_or Some (option_map_or (λ x. Some (f x)) o None) d ≡ option_map_or (λ x. Some (f x)) o d
option_twice f None d = refl
option_twice f (Some x) d = refl

head_among : (n : ℕ) (schemas : List Schema) → head (flat_map unjustified_in (numbered n schemas)) ≡ first_unjustified n schemas
head_among n [] = refl
head_among n (sc ∷ rest) =
    head_append (without sc n 1 sc.adds) (flat_map unjustified_in (numbered (n + 1) rest))
    ∙ (ap (λ o. option_map_or Some o (head (flat_map unjustified_in (numbered (n + 1) rest)))) (head_without sc n 1 sc.adds)
    ∙ (option_twice (λ k. (n, k)) (first_without_case sc 1 sc.adds) (head (flat_map unjustified_in (numbered (n + 1) rest)))
    ∙ ap (λ d. option_map_or (λ k. Some (n, k)) (first_without_case sc 1 sc.adds) d) (head_among (n + 1) rest)))

no_head : {X : Type 0} (xs : List X) → head xs ≡ None → xs ≡ []
no_head [] h = refl
no_head (x ∷ xs) h = absurd (cc)

its_head : {X : Type 0} (x : X) (xs : List X) → head xs ≡ Some x → (rest : List X) × (xs ≡ x ∷ rest)
its_head x [] h = absurd (cc)
its_head x (y ∷ ys) h = let e : y ≡ x = cc in (ys, ap (λ z. z ∷ ys) e)

pub none_without : (p : Problem) → first_unjustified 0 p.schemas ≡ None → unjustified p ≡ []
unfolding unjustified
none_without p h = no_head (flat_map unjustified_in (numbered 0 p.schemas)) (head_among 0 p.schemas ∙ h)

pub first_without : (p : Problem) (x : ℕ × ℕ) → first_unjustified 0 p.schemas ≡ Some x → (rest : List (ℕ × ℕ)) × (unjustified p ≡ x ∷ rest)
unfolding unjustified
first_without p x h = its_head x (flat_map unjustified_in (numbered 0 p.schemas)) (head_among 0 p.schemas ∙ h)
