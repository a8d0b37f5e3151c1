-- Later moments put one behind another.
use Rattle.std.proofs.Common.{◌≡◌, ◌≤◌, ◌-◌, ◌+◌, ℕ, List, [], ◌∷◌, ◌++◌, length, get_or, take, drop, refl, sym, ap, ◌∙◌, subst, append_assoc, arith}
use Rattle.std.proofs.lemmas.List.{take_rest}
use Rattle.pks_terms.specs.declared.literal.Literal.{Literal as DLiteral}
use Rattle.pks_terms.specs.Sets.{Each}
use Rattle.pks_terms.specs.Databases.{Five}
use Rattle.pks_terms.specs.Actions.{Instance}
use Rattle.pks_terms.specs.Problems.{Problem}
use Rattle.pks_terms.specs.Settling.{forward, from_next, grown, settled_steps}
use Rattle.pks_terms.specs.Views.{literal_of, instance_of}
use Rattle.pks_kf.specs.Known.{literals_of}
use Rattle.pks_postdict.specs.declared.family.Link.{Link}
use Rattle.pks_postdict.specs.Families.{held_of, link_of, links_of}
use Rattle.pks_postdict.specs.Growing.{IsLinkGrowth, AreGrowths}
use Rattle.pks_postdict.proofs.Rooms.{growths_push}

pub literals_append : (xs ys : List DLiteral) → literals_of (xs ++ ys) ≡ literals_of xs ++ literals_of ys
literals_append [] ys = refl
literals_append (x ∷ xs) ys = ap (λ zs. literal_of x ∷ zs) (literals_append xs ys)

pub links_push : (xs : List Link) (y : Link) → links_of (xs ++ y ∷ []) ≡ links_of xs ++ link_of y ∷ []
links_push [] y = refl
links_push (x ∷ xs) y = ap (λ zs. link_of x ∷ zs) (links_push xs y)

-- the first link and the rest, as a pattern gives them
pub begins : (xs : List Link) (x : Link) → 1 ≤ length xs → x ≡ get_or xs 0 x → x ∷ take (length xs - 1) (drop 1 xs) ≡ xs
begins [] x h e = absurd (omega arith)
begins (y ∷ ys) x h e = ap (λ zs. x ∷ zs) (take_rest (y ∷ ys) 1) ∙ ap (λ z. z ∷ ys) e

module _ (xs rest : List Link) (x next : Link) (to pushed new : List Link) (whole : x ∷ rest ≡ xs) (push : pushed ≡ to ++ next ∷ []) where
  pub links_put :
      (p : Problem) (d : Five)
      → link_of next ≡ (instance_of x.step, grown p.signature (held_of x.place.held) (forward p (instance_of x.step) d ++ from_next p (held_of x.place.held) (links_of rest)))
      → links_of new ≡ links_of pushed ++ settled_steps p (held_of x.place.held) (links_of rest)
      → links_of new ≡ links_of to ++ settled_steps p d (links_of xs)
  links_put p d link put =
      let more : List (Instance × Five) = settled_steps p (held_of x.place.held) (links_of rest) in
      put
      ∙ ap (λ zs. zs ++ more) (ap links_of push ∙ links_push to next)
      ∙ append_assoc (links_of to) (link_of next ∷ []) more
      ∙ ap (λ z. links_of to ++ z ∷ more) link
      ∙ ap (λ zs. links_of to ++ settled_steps p d (links_of zs)) whole

  pub growths_put : IsLinkGrowth x next → ((done : List Link) → AreGrowths done pushed → AreGrowths (done ++ rest) new) → (done : List Link) → AreGrowths done to → AreGrowths (done ++ xs) new
  growths_put growth put done a =
      subst (λ zs. AreGrowths zs new) (append_assoc done (x ∷ []) rest ∙ ap (λ zs. done ++ zs) whole)
      (put (done ++ x ∷ []) (subst (AreGrowths (done ++ x ∷ [])) (sym push) (growths_push done to x next growth a)))

-- what is so of all links is so of the rest
pub rest_each : (P : Instance × Five → Type 0) (xs : List Link) → Each P (links_of xs) → Each P (links_of (take (length xs - 1) (drop 1 xs)))
rest_each P xs a = subst (λ zs. Each P (links_of zs)) (sym (take_rest xs 1)) (go xs a)
  where
    go : (xs : List Link) → Each P (links_of xs) → Each P (links_of (drop 1 xs))
    go [] a = tt
    go (x ∷ xs) a = a.1

-- one more moment behind, one less to come
pub rest_few : (xs : List Link) (n m : ℕ) → 1 ≤ length xs → m + length xs ≤ 16 → n ≡ m + 1 → n + length (take (length xs - 1) (drop 1 xs)) ≤ 16
rest_few [] n m h k e = absurd (omega arith)
rest_few (x ∷ xs) n m h k e = let r : length (take (length (x ∷ xs) - 1) (drop 1 (x ∷ xs))) ≡ length xs = ap length (take_rest (x ∷ xs) 1) in omega arith
