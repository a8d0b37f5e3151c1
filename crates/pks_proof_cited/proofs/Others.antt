-- Each element with the others, walked from the left with what is known of the earlier ones.
use Rattle.std.proofs.Common.{◌≡◌, ◌&&◌, ◌||◌, ℕ, Bool, true, false, List, [], ◌∷◌, map, refl, ap, ◌∙◌}
use Rattle.std.specs.List.{list_any}
use Rattle.pks_terms.specs.Sets.{with_others}
use Rattle.pks_terms.specs.Syntax.{Literal, negated}
use Rattle.pks_terms.specs.Orders.{literal_eq}
use Rattle.pks_terms.specs.Proofs.{Fact, FactLit, FactKx, FactLcw}
use Rattle.pks_terms.specs.Judging.{Judge, is_cited, are_cited, is_group_that}
use Rattle.pks_terms.specs.Reasons.{is_only, is_other}
use Rattle.pks_proof_cited.specs.Walks.{denied_from, left_from, other_from}

pub and_again : (a b c : Bool) → (a && (b && c)) ≡ ((a && b) && c)
and_again true b c = refl
and_again false b c = refl

pub or_again : (a b c : Bool) → (a || (b || c)) ≡ ((a || b) || c)
or_again true b c = refl
or_again false b c = refl

module _ {X : Type 0} where
  pub any_mapped : {Y : Type 0} (p : Y → Bool) (f : X → Y) (xs : List X) → list_any p (map f xs) ≡ list_any (λ x. p (f x)) xs
  any_mapped p f [] = refl
  any_mapped p f (x ∷ xs) = ap (λ b. p (f x) || b) (any_mapped p f xs)

  pub any_alike : (p q : X → Bool) → ((x : X) → p x ≡ q x) → (xs : List X) → list_any p xs ≡ list_any q xs
  any_alike p q h [] = refl
  any_alike p q h (x ∷ xs) = ap (λ b. b || list_any p xs) (h x) ∙ ap (λ b. q x || b) (any_alike p q h xs)

module _ {X : Type 0} (f : X → Bool) (P : List X → Bool) (x : X) (px : Bool) where
  pub others_all : ((ys : List X) → P (x ∷ ys) ≡ (px && P ys)) → (b : Bool) (xs : List X)
      → list_any (λ q. f q.0 && (b && P q.1)) (with_others (x ∷ xs)) ≡ ((f x && (b && P xs)) || list_any (λ q. f q.0 && ((b && px) && P q.1)) (with_others xs))
  others_all h b xs =
      ap (λ c. (f x && (b && P xs)) || c)
      (any_mapped (λ (q : X × List X). f q.0 && (b && P q.1)) (λ p. (p.0, x ∷ p.1)) (with_others xs)
      ∙ any_alike (λ (q : X × List X). f q.0 && (b && P (x ∷ q.1))) (λ q. f q.0 && ((b && px) && P q.1)) (λ q. ap (λ c. f q.0 && c) (ap (λ c. b && c) (h q.1) ∙ and_again b px (P q.1))) (with_others xs))

  pub others_any : ((ys : List X) → P (x ∷ ys) ≡ (px || P ys)) → (b : Bool) (xs : List X)
      → list_any (λ q. f q.0 && (b || P q.1)) (with_others (x ∷ xs)) ≡ ((f x && (b || P xs)) || list_any (λ q. f q.0 && ((b || px) || P q.1)) (with_others xs))
  others_any h b xs =
      ap (λ c. (f x && (b || P xs)) || c)
      (any_mapped (λ (q : X × List X). f q.0 && (b || P q.1)) (λ p. (p.0, x ∷ p.1)) (with_others xs)
      ∙ any_alike (λ (q : X × List X). f q.0 && (b || P (x ∷ q.1))) (λ q. f q.0 && ((b || px) || P q.1)) (λ q. ap (λ c. f q.0 && c) (ap (λ c. b || c) (h q.1) ∙ or_again b px (P q.1))) (with_others xs))

-- the walks with what is so of those passed already
denied_walk : (j : Judge) (m : ℕ) (l : Literal) (b : Bool) (ls : List Literal) → list_any (λ q. literal_eq l (negated q.0) && (b && are_cited j m q.1)) (with_others ls) ≡ denied_from j m l b ls
denied_walk j m l b [] = refl
denied_walk j m l b (k ∷ ls) =
    others_all (λ x. literal_eq l (negated x)) (are_cited j m) k (is_cited j m k) (λ ys. refl) b ls
    ∙ ap (λ c. (literal_eq l (negated k) && (b && are_cited j m ls)) || c) (denied_walk j m l (b && is_cited j m k) ls)

left_walk : (j : Judge) (m : ℕ) (l : Literal) (b : Bool) (ls : List Literal) → list_any (λ q. literal_eq l q.0 && (b && are_cited j m (map negated q.1))) (with_others ls) ≡ left_from j m l b ls
left_walk j m l b [] = refl
left_walk j m l b (k ∷ ls) =
    others_all (literal_eq l) (λ ys. are_cited j m (map negated ys)) k (is_cited j m (negated k)) (λ ys. refl) b ls
    ∙ ap (λ c. (literal_eq l k && (b && are_cited j m (map negated ls))) || c) (left_walk j m l (b && is_cited j m (negated k)) ls)

other_walk : (j : Judge) (m : ℕ) (l : Literal) (b : Bool) (ls : List Literal) → list_any (λ q. literal_eq l (negated q.0) && (b || list_any (is_cited j m) q.1)) (with_others ls) ≡ other_from j m l b ls
other_walk j m l b [] = refl
other_walk j m l b (k ∷ ls) =
    others_any (λ x. literal_eq l (negated x)) (list_any (is_cited j m)) k (is_cited j m k) (λ ys. refl) b ls
    ∙ ap (λ c. (literal_eq l (negated k) && (b || list_any (is_cited j m) ls)) || c) (other_walk j m l (b || is_cited j m k) ls)

-- the negation of one literal, the others cited
pub one_denied : (j : Judge) (m : ℕ) (l : Literal) (ls : List Literal) → list_any (λ q. literal_eq l (negated q.0) && are_cited j m q.1) (with_others ls) ≡ denied_from j m l true ls
one_denied j m l ls = denied_walk j m l true ls

group_alike : (p q : List Literal → Bool) → ((g : List Literal) → p g ≡ q g) → (f : Fact) → is_group_that p f ≡ is_group_that q f
group_alike p q h (FactKx g) = h g
group_alike p q h (FactLit l) = refl
group_alike p q h (FactLcw e) = refl

-- some cited group leaves the literal alone
pub only_left : (j : Judge) (m : ℕ) (l : Literal) → is_only j m l ≡ list_any (is_group_that (left_from j m l true)) (j m)
only_left j m l =
    let p = λ (g : List Literal). list_any (λ q. literal_eq l q.0 && are_cited j m (map negated q.1)) (with_others g) in
    any_alike (is_group_that p) (is_group_that (left_from j m l true)) (group_alike p (left_from j m l true) (left_walk j m l true)) (j m)

-- some cited group has another member
pub other_found : (j : Judge) (m : ℕ) (l : Literal) → is_other j m l ≡ list_any (is_group_that (other_from j m l false)) (j m)
other_found j m l =
    let p = λ (g : List Literal). list_any (λ q. literal_eq l (negated q.0) && list_any (is_cited j m) q.1) (with_others g) in
    any_alike (is_group_that p) (is_group_that (other_from j m l false)) (group_alike p (other_from j m l false) (other_walk j m l false)) (j m)
