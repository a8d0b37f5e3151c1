-- Lists with the same members give the same set.
use Rattle.std.proofs.Common.{◌≡◌, List, ◌++◌, flat_map, Ordering, inl, inr, ⊎_elim, ap, ◌∙◌}
use Rattle.std.specs.Cmp.{IsTotalOrder}
use Rattle.std.specs.FinMap.{IsAntisymmetric}
use Rattle.pks_terms.specs.Sets.{IsOrdered, added, set_of}
use Rattle.pks_terms.specs.Syntax.{Literal}
use Rattle.pks_terms.specs.Orders.{literal_cmp}
use Rattle.pks_terms.specs.Totality.{term_cmp_total, literal_cmp_total}
use Rattle.pks_terms.specs.Signatures.{Signature}
use Rattle.pks_terms.specs.Databases.{Five}
use Rattle.pks_terms.specs.Closure.{by_value, by_group, by_range, applications_in, additions, round}
use Rattle.pks_terms.specs.Saturated.{Within}
use Rattle.pks_terms.proofs.ListLaws.{in_flat_mapped}
use Rattle.pks_terms.proofs.OrderLaws.{term_cmp_tells, literal_cmp_tells}
use Rattle.pks_terms.proofs.SetLaws.{ordered_added, in_added, added_in, in_set_of, set_of_in, same_members}
use Rattle.pks_laws.proofs.Least.{in_flat, within_append}
use Rattle.pks_query_closing.specs.Rounds.{HaveSameMembers, added_once}

module _ {X : Type 0} {cmp : X → X → Ordering} (o : IsTotalOrder cmp) (tells : IsAntisymmetric cmp) where
  added_within : (s xs ys : List X) → Within xs ys → Within (added cmp s xs) (added cmp s ys)
  added_within s xs ys w z i = added_in o tells s ys z (⊎_elim (λ j. inl j) (λ j. inr (w z j)) (in_added o tells s xs z i))

  pub added_alike : (s xs ys : List X) → IsOrdered cmp s → HaveSameMembers xs ys → added cmp s xs ≡ added cmp s ys
  added_alike s xs ys h m =
      same_members o tells (added cmp s xs) (added cmp s ys) (ordered_added o tells s xs h) (ordered_added o tells s ys h) (added_within s xs ys m.0) (added_within s ys xs m.1)

  -- what each member of a list of lists gives, each looked at once
  pub once_within : {Y Z : Type 0} (f : X → List Y) (g : Z → List X) (zs : List Z) → HaveSameMembers (flat_map f (set_of cmp (flat_map g zs))) (flat_map (λ z. flat_map f (g z)) zs)
  once_within {Y} {Z} f g zs = (front, back)
    where
      front : Within (flat_map f (set_of cmp (flat_map g zs))) (flat_map (λ z. flat_map f (g z)) zs)
      front y i =
          let a = in_flat_mapped f (set_of cmp (flat_map g zs)) y i in
          let b = in_flat_mapped g zs a.0 (in_set_of o tells (flat_map g zs) a.0 a.1) in
          in_flat (λ z. flat_map f (g z)) zs b.0 y b.1 (in_flat f (g b.0) a.0 y b.2 a.2)

      back : Within (flat_map (λ z. flat_map f (g z)) zs) (flat_map f (set_of cmp (flat_map g zs)))
      back y i =
          let a = in_flat_mapped (λ z. flat_map f (g z)) zs y i in
          let b = in_flat_mapped f (g a.0) y a.2 in
          in_flat f (set_of cmp (flat_map g zs)) b.0 y (set_of_in o tells (flat_map g zs) b.0 (in_flat g zs a.0 b.0 a.1 b.1)) b.2

same : {X : Type 0} (xs : List X) → HaveSameMembers xs xs
same xs = (λ x i. i, λ x i. i)

pub same_append : {X : Type 0} (xs ys us vs : List X) → HaveSameMembers xs us → HaveSameMembers ys vs → HaveSameMembers (xs ++ ys) (us ++ vs)
same_append xs ys us vs m n = (within_append xs ys us vs m.0 n.0, within_append us vs xs ys m.1 n.1)

pub same_additions : (s : Signature) (d : Five) → HaveSameMembers (added_once s d) (additions s d)
unfolding additions
same_additions s d =
    same_append _ _ _ _ (same (flat_map (by_value d.kf) d.kf)) (same_append _ _ _ _ (same (flat_map (by_group s d) d.kx)) (once_within term_cmp_total term_cmp_tells (by_range s d) (λ l. flat_map applications_in l.arguments) d.kf))

module _ (s : Signature) (d : Five) (ordered : IsOrdered literal_cmp d.kf) (ls : List Literal) (e : ls ≡ added_once s d) where
  pub same_with_more : (more : List Literal) → added literal_cmp d.kf (ls ++ more) ≡ added literal_cmp d.kf (additions s d ++ more)
  same_with_more more =
      ap (λ xs. added literal_cmp d.kf (xs ++ more)) e ∙ added_alike literal_cmp_total literal_cmp_tells d.kf (added_once s d ++ more) (additions s d ++ more) ordered (same_append _ _ _ _ (same_additions s d) (same more))

  pub same_round : added literal_cmp d.kf ls ≡ (round s d).kf
  unfolding round
  same_round =
      ap (added literal_cmp d.kf) e ∙ added_alike literal_cmp_total literal_cmp_tells d.kf (added_once s d) (additions s d) ordered (same_additions s d)
