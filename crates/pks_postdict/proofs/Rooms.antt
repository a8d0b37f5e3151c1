-- How many literals a family could still take: rounds end, since each but the last leaves less.
use Rattle.std.proofs.Common.{◌≡◌, ◌≤◌, ◌<◌, ◌^◌, ◌+◌, ◌-◌, ◌||◌, ◌++◌, ℕ, Bool, true, false, List, [], ◌∷◌, length, refl, ap, ⊎_elim, arith}
use Rattle.std.proofs.lemmas.Bool.{or_cases, or_parts}
use Rattle.pks_terms.specs.Databases.{Five}
use Rattle.pks_postdict.specs.declared.family.Place.{Place}
use Rattle.pks_postdict.specs.declared.family.Link.{Link}
use Rattle.pks_postdict.specs.declared.family.Family.{Family}
use Rattle.pks_postdict.specs.Families.{held_of, links_of, family_of}
use Rattle.pks_postdict.specs.Growing.{IsGrowth, IsLinkGrowth, AreGrowths, some_grew}

abbrev pub place_room : Place → ℕ
place_room d = 2 ^ 64 - length (held_of d.held).kf

abbrev pub links_room : List Link → ℕ
links_room [] = 0
links_room (x ∷ xs) = place_room x.place + links_room xs

-- what the moments of a family could still take
abbrev pub room : Family → ℕ
room f = place_room f.start + links_room f.later.items

place_smaller : (d e : Place) → IsGrowth d e → e.grew ≡ true → place_room e < place_room d
place_smaller d e g h = let l = g.longer h in omega (arith, l.0, l.1)

place_no_larger : (d e : Place) → IsGrowth d e → place_room e ≤ place_room d
place_no_larger d e g = go e.grew refl
  where
    go : (b : Bool) → e.grew ≡ b → place_room e ≤ place_room d
    go true h = let l = place_smaller d e g h in omega arith
    go false h = let l : length (held_of e.held).kf ≡ length (held_of d.held).kf = ap (λ (x : Five). length x.kf) (g.same h) in omega arith

links_no_larger : (xs ys : List Link) → AreGrowths xs ys → links_room ys ≤ links_room xs
links_no_larger [] [] g = omega arith
links_no_larger (x ∷ xs) (y ∷ ys) g = let a = place_no_larger x.place y.place g.0.growth in let b = links_no_larger xs ys g.1 in omega arith
links_no_larger [] (y ∷ ys) g = absurd g
links_no_larger (x ∷ xs) [] g = absurd g

links_smaller : (xs ys : List Link) → AreGrowths xs ys → some_grew ys ≡ true → links_room ys < links_room xs
links_smaller (x ∷ xs) (y ∷ ys) g h =
    ⊎_elim
    (λ k. let a = place_smaller x.place y.place g.0.growth k in let b = links_no_larger xs ys g.1 in omega arith)
    (λ k. let a = place_no_larger x.place y.place g.0.growth in let b = links_smaller xs ys g.1 k in omega arith)
    (or_cases y.place.grew (some_grew ys) h)
links_smaller [] [] g h = cc
links_smaller [] (y ∷ ys) g h = absurd g
links_smaller (x ∷ xs) [] g h = absurd g

pub family_smaller : (f g : Family) → IsGrowth f.start g.start → AreGrowths f.later.items g.later.items → g.start.grew || some_grew g.later.items ≡ true → room g < room f
family_smaller f g start later h =
    ⊎_elim
    (λ k. let a = place_smaller f.start g.start start k in let b = links_no_larger f.later.items g.later.items later in omega arith)
    (λ k. let a = place_no_larger f.start g.start start in let b = links_smaller f.later.items g.later.items later k in omega arith)
    (or_cases g.start.grew (some_grew g.later.items) h)

links_same : (xs ys : List Link) → AreGrowths xs ys → some_grew ys ≡ false → links_of ys ≡ links_of xs
links_same [] [] g h = refl
links_same (x ∷ xs) (y ∷ ys) g h =
    let k = or_parts y.place.grew (some_grew ys) h in
    λ i. (g.0.step i, g.0.growth.same k.0 i) ∷ links_same xs ys g.1 k.1 i
links_same [] (y ∷ ys) g h = absurd g
links_same (x ∷ xs) [] g h = absurd g

-- where none grew the family is the same
pub family_same : (f g : Family) → IsGrowth f.start g.start → AreGrowths f.later.items g.later.items → g.start.grew || some_grew g.later.items ≡ false → family_of g ≡ family_of f
family_same f g start later h =
    let k = or_parts g.start.grew (some_grew g.later.items) h in
    λ i. record { start = start.same k.0 i; steps = links_same f.later.items g.later.items later k.1 i }

-- one more moment at the end of each
pub growths_push : (done to : List Link) (x y : Link) → IsLinkGrowth x y → AreGrowths done to → AreGrowths (done ++ x ∷ []) (to ++ y ∷ [])
growths_push [] [] x y g a = (g, tt)
growths_push (u ∷ done) (v ∷ to) x y g a = (a.0, growths_push done to x y g a.1)
growths_push [] (v ∷ to) x y g a = absurd a
growths_push (u ∷ done) [] x y g a = absurd a
