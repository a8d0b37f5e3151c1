-- What trees have in common whose roots are equal.
use Rattle.std.proofs.Common.{◌≡◌, ℕ, Ordering, Less, Equal, Greater, nat_cmp, refl}
use Rattle.std.specs.Ordering.{ordering_then}
use Rattle.std.specs.FinMap.{nat_cmp-IsAntisymmetric, slice_cmp-IsAntisymmetric}
use Rattle.pks_terms.specs.Orders.{term_cmp, conj_cmp}
use Rattle.pks_terms.specs.Trees.{Tree, Goal, Impossible, Do, Branch, Cases, objects_in, root_kind, root_step, root_test, root_term, root_cases, instance_cmp, root_cmp, tree_cmp}
use Rattle.pks_terms.proofs.OrderLaws.{both_equal}

pub then_unequal : (a b : Ordering) → (a ≡ Equal → ⊥) → ordering_then a b ≡ a
then_unequal Less b n = refl
then_unequal Equal b n = absurd (n refl)
then_unequal Greater b n = refl

pub same_kind : (size : Tree → ℕ) (t u : Tree) → root_cmp size t u ≡ Equal → root_kind t ≡ root_kind u
unfolding root_cmp
same_kind size t u e =
    let a = both_equal (nat_cmp (size t) (size u)) _ e in
    let b = both_equal (nat_cmp (root_kind t) (root_kind u)) _ a.1 in
    nat_cmp-IsAntisymmetric _ _ b.0

pub same_objects : (size : Tree → ℕ) (t u : Tree) → root_cmp size t u ≡ Equal → objects_in (root_cases t) ≡ objects_in (root_cases u)
unfolding root_cmp
same_objects size t u e =
    let a = both_equal (nat_cmp (size t) (size u)) _ e in
    let b = both_equal (nat_cmp (root_kind t) (root_kind u)) _ a.1 in
    let c = both_equal (instance_cmp (root_step t) (root_step u)) _ b.1 in
    let d = both_equal (conj_cmp (root_test t) (root_test u)) _ c.1 in
    let f = both_equal (term_cmp (root_term t) (root_term u)) _ d.1 in
    slice_cmp-IsAntisymmetric nat_cmp-IsAntisymmetric _ _ f.1

-- trees of unequal roots compare as their roots do
pub unequal_roots : (size : Tree → ℕ) (t u : Tree) → (root_cmp size t u ≡ Equal → ⊥) → tree_cmp size t u ≡ root_cmp size t u
unequal_roots size Goal u n = refl
unequal_roots size Impossible u n = refl
unequal_roots size (Do i t) u n = then_unequal (root_cmp size (Do i t) u) _ n
unequal_roots size (Branch c t t') u n = then_unequal (root_cmp size (Branch c t t') u) _ n
unequal_roots size (Cases x k) u n = then_unequal (root_cmp size (Cases x k) u) _ n
