-- What a walk gives: what its end gives of each way to take one element of each list.
use Rattle.std.proofs.Common.{◌≡◌, ℕ, Bool, true, false, cond, List, [], ◌∷◌, ◌++◌, map, filter, flat_map, refl, sym, ap, ◌∙◌, append-nil, append_assoc}
use Rattle.std.proofs.lemmas.List.{map-append}
use Rattle.std.proofs.lemmas.Grind.{flat_map-append}
use Rattle.pks_terms.specs.Sets.{choices_from}
use Rattle.pks_terms.specs.Signatures.{Signature}
use Rattle.pks_terms.specs.Databases.{Five}
use Rattle.pks_terms.specs.Actions.{Schema, Instance}
use Rattle.pks_terms.specs.Branching.{candidates, is_allowed, instances_at}
use Rattle.pks_branch.specs.Walks.{walked, allowed_at}

module _ {X : Type 0} where
  behind : (given : List X) (x : X) (ways : List (List X)) → map (λ ys. (given ++ x ∷ []) ++ ys) ways ≡ map (λ ys. given ++ ys) (map (λ ys. x ∷ ys) ways)
  behind given x [] = refl
  behind given x (ys ∷ ways) = λ i. append_assoc given (x ∷ []) ys i ∷ behind given x ways i

  nothing_before : (ways : List (List X)) → map (λ ys. [] ++ ys) ways ≡ ways
  nothing_before [] = refl
  nothing_before (ys ∷ ways) = ap (λ zs. ys ∷ zs) (nothing_before ways)

  module _ {Y : Type 0} (at : List X → List Y) where
    by_first :
        (given : List X) (xss : List (List X))
        → ((before : List X) → walked at before xss ≡ flat_map at (map (λ ys. before ++ ys) (choices_from xss)))
        → (xs : List X)
        → walked at given (xs ∷ xss) ≡ flat_map at (map (λ ys. given ++ ys) (choices_from (xs ∷ xss)))
    by_first given xss later [] = refl
    by_first given xss later (x ∷ xs) =
        let ways = choices_from xss in
        let others = choices_from (xs ∷ xss) in
        let after = λ (zs : List (List X)). map (λ ys. given ++ ys) zs in
        let first : walked at (given ++ x ∷ []) xss ≡ flat_map at (after (map (λ ys. x ∷ ys) ways)) = later (given ++ x ∷ []) ∙ ap (flat_map at) (behind given x ways) in
        (λ i. first i ++ by_first given xss later xs i)
        ∙ sym (flat_map-append at (after (map (λ ys. x ∷ ys) ways)) (after others))
        ∙ ap (flat_map at) (sym (map-append (λ ys. given ++ ys) (map (λ ys. x ∷ ys) ways) others))

    pub walked_all : (xss : List (List X)) (given : List X) → walked at given xss ≡ flat_map at (map (λ ys. given ++ ys) (choices_from xss))
    walked_all [] given = ap at (sym (append-nil given)) ∙ sym (append-nil (at (given ++ [])))
    walked_all (xs ∷ xss) given = by_first given xss (λ before. walked_all xss before) xs

passing : {X Y : Type 0} (test : X → Bool) (f : X → Y) (xs : List X) → flat_map (λ x. cond (test x) (f x ∷ []) []) xs ≡ map f (filter test xs)
passing test f [] = refl
passing test f (x ∷ xs) =
    elim (test x) as (λ b. cond b (f x ∷ []) [] ++ flat_map (λ y. cond (test y) (f y ∷ []) []) xs ≡ map f (cond b (x ∷ filter test xs) (filter test xs))) [
      | true ↦ ap (λ ys. f x ∷ ys) (passing test f xs)
      | false ↦ passing test f xs
    ]

-- the walk from the beginning gives the instances of the action
pub all_instances : (s : Signature) (d : Five) (act : ℕ) (sc : Schema) → walked (allowed_at s d sc.pre act) [] (map (candidates s d) sc.parameters) ≡ instances_at s d (act, sc)
all_instances s d act sc =
    let ways = choices_from (map (candidates s d) sc.parameters) in
    walked_all (allowed_at s d sc.pre act) (map (candidates s d) sc.parameters) []
    ∙ ap (flat_map (allowed_at s d sc.pre act)) (nothing_before ways)
    ∙ passing (is_allowed s d sc) (λ given. let i : Instance = record { action = act; arguments = given } in i) ways
