-- No line of an action is longer than that of the longest names.
use Rattle.std.proofs.Common.{◌≡◌, ◌≤◌, ℕ, ◌+◌, ◌*◌, zero, suc, List, [], ◌∷◌, ◌++◌, map, length, arith}
use Rattle.std.specs.Prelude.{codes}
use Rattle.std.specs.List.{flat_map}
use Rattle.std.proofs.lemmas.List.{length-append}
use Rattle.pks_terms.specs.Sets.{Each}
use Rattle.pks_terms.specs.Syntax.{Object, Parameter, Apply, Inner}
use Rattle.pks_terms.specs.Printed.{Text, Names, name_in, inner_text, instance_text}
use Rattle.pks_agent.specs.Rooms.{IsSpoken, FitsActions, IsLongest}

name_within : (names : List Text) (longest : Text) (n : ℕ) → IsLongest names longest → length (name_in names n) ≤ length longest
name_within [] longest n all = omega arith
name_within (x ∷ xs) longest zero all = all.0
name_within (x ∷ xs) longest (suc n) all = name_within xs longest n all.1

text_length : (name flat : Text) → length (codes "do " ++ (codes "(" ++ (name ++ (flat ++ codes ")")))) ≡ length name + length flat + 5
text_length name flat = let a = length-append name (flat ++ codes ")") in let b = length-append flat (codes ")") in omega (arith, a, b)

module _ (names : Names) (action object : Text) (actions : IsLongest names.actions action) (objects : IsLongest names.objects object) where
  part_within : (t : Inner) → IsSpoken t → length (inner_text names t) ≤ length object
  part_within (Object d) spoken = name_within names.objects object d objects
  part_within (Parameter i) spoken = omega arith
  part_within (Apply f ds) spoken = absurd spoken

  abbrev parts : List Inner → Text
  parts ts = flat_map (λ part. 32 ∷ part) (map (inner_text names) ts)

  -- one more part
  more_within : (t : Inner) (ts : List Inner) (n : ℕ) → IsSpoken t → length (parts ts) ≤ n → length (parts (t ∷ ts)) ≤ 1 + length object + n
  more_within t ts n spoken rest =
      let one = part_within t spoken in
      let sum = length-append (inner_text names t) (parts ts) in
      omega (arith, one, sum, rest)

  none_within : length (parts []) ≤ 0
  none_within = omega arith

  parts_within : (ts : List Inner) → length ts ≤ 4 → Each IsSpoken ts → length (parts ts) ≤ 4 * (1 + length object)
  parts_within [] few spoken = omega arith
  parts_within (a ∷ []) few spoken = let x = more_within a [] 0 spoken.0 none_within in omega (arith, x)
  parts_within (a ∷ b ∷ []) few spoken =
      let x = more_within b [] 0 spoken.1.0 none_within in
      let y = more_within a (b ∷ []) (1 + length object + 0) spoken.0 x in
      omega (arith, y)
  parts_within (a ∷ b ∷ c ∷ []) few spoken =
      let x = more_within c [] 0 spoken.1.1.0 none_within in
      let y = more_within b (c ∷ []) (1 + length object + 0) spoken.1.0 x in
      let z = more_within a (b ∷ c ∷ []) (1 + length object + (1 + length object + 0)) spoken.0 y in
      omega (arith, z)
  parts_within (a ∷ b ∷ c ∷ d ∷ []) few spoken =
      let x = more_within d [] 0 spoken.1.1.1.0 none_within in
      let y = more_within c (d ∷ []) (1 + length object + 0) spoken.1.1.0 x in
      let z = more_within b (c ∷ d ∷ []) (1 + length object + (1 + length object + 0)) spoken.1.0 y in
      let w = more_within a (b ∷ c ∷ d ∷ []) (1 + length object + (1 + length object + (1 + length object + 0))) spoken.0 z in
      omega (arith, w)
  parts_within (a ∷ b ∷ c ∷ d ∷ e ∷ ts) few spoken = absurd (omega (arith, few))

  pub fits_actions : (n : ℕ) → length action + 4 * (1 + length object) + 5 ≤ n → FitsActions names n
  unfolding instance_text
  fits_actions n room = λ k ts few spoken.
      let name = name_within names.actions action k actions in
      let rest = parts_within ts few spoken in
      let whole = text_length (name_in names.actions k) (parts ts) in
      omega (arith, room, name, rest, whole)
