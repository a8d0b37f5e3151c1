-- The generated file isn't too long.
use Rattle.std.proofs.Common.{◌≤◌, ◌+◌, ◌*◌, ◌++◌, ◌∷◌, [], ℕ, zero, suc, length, codes, decimal, subst, arith}
use Rattle.std.specs.List.{flat_map}
use Rattle.std.proofs.lemmas.List.{length-append}
use Rattle.std.proofs.lemmas.Fmt.{length-decimal-le}
use Rattle.pks_run_bench.proofs.Generated.{to_objects, to_facts, to_end, by_parts}
use Rattle.pks_terms.specs.Printed.{Text, generated, numbers_from, numbered_object, fact_line, fact_lines}

-- texts of numbers in turn, each of at most so many bytes
in_turn : (f : ℕ → Text) (b m : ℕ) → ((i : ℕ) → i ≤ m → length (f i) ≤ b) → (i k : ℕ) → i + k ≤ m + 1 → length (flat_map f (numbers_from i k)) ≤ k * b
in_turn f b m each i zero within = omega arith
in_turn f b m each i (suc k) within =
    let first : length (f i) ≤ b = each i (omega (arith, within)) in
    let others : length (flat_map f (numbers_from (i + 1) k)) ≤ k * b = in_turn f b m each (i + 1) k (omega (arith, within)) in
    let all = length-append (f i) (flat_map f (numbers_from (i + 1) k)) in
    omega (arith, first, others, all)

two_digits : (i : ℕ) → i ≤ 64 → length (decimal i) ≤ 2
two_digits i most = length-decimal-le 2 i (omega arith) (omega (arith, most)) (omega (arith, most))

object_fits : (i : ℕ) → i ≤ 64 → length (numbered_object i) ≤ 3
object_fits i most = let digits = two_digits i most in omega (arith, digits)

fact_fits : (i : ℕ) → i ≤ 64 → (j : ℕ) → j ≤ 64 → length (fact_line i j) ≤ 20
fact_fits i few j most =
    let first = two_digits i few in
    let second = two_digits j most in
    let outer = length-append (codes "(kf (seen " ++ (numbered_object i ++ (codes " " ++ (numbered_object j ++ codes "))")))) (10 ∷ []) in
    let objects = length-append (decimal i) (codes " " ++ (numbered_object j ++ codes "))")) in
    let behind = length-append (decimal j) (codes "))") in
    omega (arith, first, second, outer, objects, behind)

row_fits : (n : ℕ) → n ≤ 64 → (i : ℕ) → i ≤ 64 → length (flat_map (fact_line i) (numbers_from 1 n)) ≤ 1280
row_fits n most i few = let row : length (flat_map (fact_line i) (numbers_from 1 n)) ≤ n * 20 = in_turn (fact_line i) 20 64 (fact_fits i few) 1 n (omega (arith, most)) in omega (arith, row, most)

facts_fit : (n : ℕ) → n ≤ 64 → length (fact_lines n) ≤ n * 1280
facts_fit n most = in_turn (λ i. flat_map (fact_line i) (numbers_from 1 n)) 1280 64 (row_fits n most) 1 n (omega (arith, most))

objects_fit : (n : ℕ) → n ≤ 64 → length (flat_map (λ i. 32 ∷ numbered_object i) (numbers_from 1 n)) ≤ n * 4
objects_fit n most = in_turn (λ i. 32 ∷ numbered_object i) 4 64 (λ i few. let fits = object_fits i few in omega (arith, fits)) 1 n (omega (arith, most))

pub generated_fits : (n : ℕ) → n ≤ 64 → length (generated n) ≤ 262144
generated_fits n most =
    let objects = flat_map (λ i. 32 ∷ numbered_object i) (numbers_from 1 n) in
    let front = length-append to_objects (objects ++ (to_facts ++ (fact_lines n ++ to_end))) in
    let named = length-append objects (to_facts ++ (fact_lines n ++ to_end)) in
    let middle = length-append to_facts (fact_lines n ++ to_end) in
    let stated = length-append (fact_lines n) to_end in
    let few = objects_fit n most in
    let facts = facts_fit n most in
    let whole : length (to_objects ++ (objects ++ (to_facts ++ (fact_lines n ++ to_end)))) ≤ 262144 = omega (arith, front, named, middle, stated, few, facts, most) in
    subst (λ (t : Text). length t ≤ 262144) (by_parts n) whole
