-- What was found at a history is the best there for other depths and limits too.
use Rattle.std.proofs.Common.{◌≡◌, ◌∙◌, ◌≤◌, ◌<◌, inl, inr, ℕ, min, Some, None, Less, Greater, Ordering, nat_cmp, sym, ap, ⊎_elim, arith}
use Rattle.std.specs.Ordering.{ordering_then}
use Rattle.std.specs.Cmp.{nat_cmp_is}
use Rattle.std.proofs.lemmas.Bool.{cases_lt}
use Rattle.pks_terms.specs.Problems.{Problem}
use Rattle.pks_terms.specs.Settling.{History}
use Rattle.pks_terms.specs.Trees.{Tree, Goal, Impossible, Do, Branch, Cases, depth, cost, root_cmp, tree_cmp, IsBefore}
use Rattle.pks_terms.specs.Valid.{IsValid}
use Rattle.pks_search_nogoods.specs.Finds.{IsCheapAt, IsAnswer, IsFound}
use Rattle.pks_search_nogoods.proofs.Costs.{depth_at_most_cost}

first : (o q a : Ordering) → o ≡ q → ordering_then o a ≡ ordering_then q a
first o q a e = λ i. ordering_then (e i) a

less : (o a b : Ordering) → o ≡ Less → ordering_then (ordering_then o a) b ≡ Less
less o a b e = λ i. ordering_then (ordering_then (e i) a) b

greater : (o a b : Ordering) → o ≡ Greater → ordering_then (ordering_then o a) b ≡ Greater
greater o a b e = λ i. ordering_then (ordering_then (e i) a) b

module _ (p : Problem) where
  cheaper : (t u : Tree) → cost p t < cost p u → tree_cmp (cost p) t u ≡ Less
  unfolding root_cmp
  cheaper Goal u k = first (nat_cmp (cost p Goal) (cost p u)) Less _ (sym (nat_cmp_is (cost p Goal) (cost p u) Less k))
  cheaper Impossible u k = first (nat_cmp (cost p Impossible) (cost p u)) Less _ (sym (nat_cmp_is (cost p Impossible) (cost p u) Less k))
  cheaper (Do i t) u k = less (nat_cmp (cost p (Do i t)) (cost p u)) _ _ (sym (nat_cmp_is (cost p (Do i t)) (cost p u) Less k))
  cheaper (Branch c t s) u k = less (nat_cmp (cost p (Branch c t s)) (cost p u)) _ _ (sym (nat_cmp_is (cost p (Branch c t s)) (cost p u) Less k))
  cheaper (Cases x m) u k = less (nat_cmp (cost p (Cases x m)) (cost p u)) _ _ (sym (nat_cmp_is (cost p (Cases x m)) (cost p u) Less k))

  dearer : (t u : Tree) → cost p u < cost p t → tree_cmp (cost p) t u ≡ Greater
  unfolding root_cmp
  dearer Goal u k = first (nat_cmp (cost p Goal) (cost p u)) Greater _ (sym (nat_cmp_is (cost p Goal) (cost p u) Greater k))
  dearer Impossible u k = first (nat_cmp (cost p Impossible) (cost p u)) Greater _ (sym (nat_cmp_is (cost p Impossible) (cost p u) Greater k))
  dearer (Do i t) u k = greater (nat_cmp (cost p (Do i t)) (cost p u)) _ _ (sym (nat_cmp_is (cost p (Do i t)) (cost p u) Greater k))
  dearer (Branch c t s) u k = greater (nat_cmp (cost p (Branch c t s)) (cost p u)) _ _ (sym (nat_cmp_is (cost p (Branch c t s)) (cost p u) Greater k))
  dearer (Cases x m) u k = greater (nat_cmp (cost p (Cases x m)) (cost p u)) _ _ (sym (nat_cmp_is (cost p (Cases x m)) (cost p u) Greater k))

  no_dearer : (t u : Tree) → IsBefore p t u → cost p t ≤ cost p u
  no_dearer t u (inl e) = let d : cost p t ≡ cost p u = ap (cost p) e in omega arith
  no_dearer t u (inr l) = ⊎_elim (λ lt. let g = sym l ∙ dearer t u lt in cc) (λ ge. ge) (cases_lt (cost p u) (cost p t))

  module _ (valid : IsValid p) (h : History) (t : Tree) (n most : ℕ) (found : IsFound p h n most t) where
    -- where depths up to m bind no more than n does, a tree that costs no more than the found one is among those that it is the best of
    among : (m limit : ℕ) → min m (min (cost p t) limit) ≤ n → (u : Tree) → IsCheapAt p h m limit u → cost p u ≤ cost p t → IsCheapAt p h n most u
    among m limit k u d le =
        let least : depth u ≤ cost p u = depth_at_most_cost p valid u in
        let deep : depth u ≤ m = d.0.1 in
        let costs : cost p u ≤ limit = d.1 in
        let own : cost p t ≤ most = found.0.1 in
        ((d.0.0, omega (arith, least, deep, costs, k, le)), omega (arith, own, le))

    -- so it is the best for such a depth too, where it is among its trees
    pub found_serves : (m limit : ℕ) → min m (min (cost p t) limit) ≤ n → depth t ≤ m → cost p t ≤ limit → IsAnswer p h m limit (Some t)
    found_serves m limit k deep fits = (
      ((found.0.0.0, deep), fits),
      λ u d. ⊎_elim (λ lt. inr (cheaper t u lt)) (λ ge. found.1 u (among m limit k u d ge)) (cases_lt (cost p t) (cost p u)),
    )

    -- and where it costs more than the limit there is none
    pub found_rules_out : (m limit : ℕ) → min m (min (cost p t) limit) ≤ n → limit < cost p t → IsAnswer p h m limit None
    found_rules_out m limit k dear = λ u d.
        let costs : cost p u ≤ limit = d.1 in
        let least : cost p t ≤ cost p u = no_dearer t u (found.1 u (among m limit k u d (omega (arith, costs, dear)))) in
        omega (arith, costs, least, dear)
