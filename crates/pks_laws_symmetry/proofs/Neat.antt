-- Closed databases of a problem are neat, each place has one value there, and what is made of neat databases is neat.
use Rattle.std.proofs.Common.{◌≡◌, ℕ, zero, suc, Bool, true, cond, List, [], ◌∷◌, ◌++◌, map, filter, flat_map, None, Ordering, sym, subst}
use Rattle.std.specs.List.{list_all}
use Rattle.std.specs.Cmp.{IsTotalOrder}
use Rattle.std.specs.FinMap.{IsAntisymmetric}
use Rattle.pks_terms.specs.Sets.{Each, IsOrdered, set_of, with_others, one_replaced}
use Rattle.pks_terms.specs.Syntax.{Term, object, Relation, Equality, Literal, negated}
use Rattle.pks_terms.specs.Orders.{literal_cmp, atom_cmp, literal}
use Rattle.pks_terms.specs.Totality.{literal_cmp_total, conj_cmp_total, atom_cmp_total, entry_cmp_total}
use Rattle.pks_terms.specs.Signatures.{Signature, HasValues, range_of}
use Rattle.pks_terms.specs.Databases.{Entry, Five, normal_literal, holds}
use Rattle.pks_terms.specs.Closure.{term_steps, by_value, by_member, by_group, applications_in, is_last_left, by_range, normal_conj, normal_atom, normal_entry, in_sequence, first_clash, additions, round, rounds, tidied}
use Rattle.pks_terms.specs.Saturated.{IsSaturated}
use Rattle.pks_terms.specs.Moments.{IsInOrder, IsMomentOf}
use Rattle.pks_terms.proofs.ListLaws.{each_append, each_in, each_of, each_map, each_flat_map, each_added, each_weaker, in_mapped}
use Rattle.pks_terms.proofs.OrderLaws.{literal_cmp_tells, conj_cmp_tells, atom_cmp_tells, entry_cmp_tells}
use Rattle.pks_terms.proofs.SetLaws.{in_set_of, ordered_added, ordered_set_of}
use Rattle.pks_laws.proofs.Belonging.{if_of, saturated_end, end_of}
use Rattle.pks_laws.proofs.BelongingHistories.{other_each}
use Rattle.pks_laws.proofs.Least.{one_value}
use Rattle.pks_laws.proofs.SidesInOrder.{literal_ordered}
use Rattle.pks_laws_forget.proofs.Sequence.{groups_sequenced}
use Rattle.pks_laws_symmetry.proofs.Mirrors.{HasOneValue, IsNeat}

pub saturated_one : (s : Signature) (d : Five) → HasValues s → IsSaturated s d → first_clash s d ≡ None → HasOneValue d.kf
saturated_one s d v i c = one_value s d v i c

pub moment_one : (s : Signature) (d : Five) → HasValues s → IsMomentOf s d → HasOneValue d.kf
unfolding tidied
moment_one s d v m =
    let closes = m.closed.closes in
    let end = rounds s closes.count m.closed.from in
    let last = end_of s m.closed.from d closes in
    subst (λ (x : Five). HasOneValue x.kf) (sym last.1) (saturated_one s end v (saturated_end s end closes.last) last.0)

-- the two parts of what holds of each
each_both : {X : Type 0} (P Q : X → Type 0) (xs : List X) → Each P xs → Each Q xs → Each (λ x. P x × Q x) xs
each_both P Q [] a b = tt
each_both P Q (x ∷ xs) a b = ((a.0, b.0), each_both P Q xs a.1 b.1)

-- what holds of each result of a function holds of each member of a set of results
each_result : {X Y : Type 0} {cmp : Y → Y → Ordering} → IsTotalOrder cmp → IsAntisymmetric cmp → (P : Y → Type 0) (n : X → Y) → ((x : X) → P (n x)) → (xs : List X) → Each P (set_of cmp (map n xs))
each_result {cmp = cmp} o tells P n holds xs =
    each_of P (set_of cmp (map n xs)) (λ y i. let r = in_mapped n xs y (in_set_of o tells (map n xs) y i) in subst P r.2 (holds r.0))

module _ (s : Signature) (d : Five) (m : IsMomentOf s d) where
  abbrev last : Five
  last = rounds s m.closed.closes.count m.closed.from

  is_tidied : d ≡ tidied last
  is_tidied = (end_of s m.closed.from d m.closed.closes).1

  formulas_sorted : Each (IsOrdered literal_cmp) d.kw
  unfolding tidied
  formulas_sorted =
      subst (λ (x : Five). Each (IsOrdered literal_cmp) x.kw) (sym is_tidied)
      (each_result conj_cmp_total conj_cmp_tells (IsOrdered literal_cmp) (normal_conj last.kf) (λ c. ordered_set_of literal_cmp_total literal_cmp_tells (map (normal_literal last.kf) c)) last.kw)

  regions_sorted : Each (λ (r : Entry). IsOrdered atom_cmp r.listed) d.lcw
  unfolding tidied
  regions_sorted =
      subst (λ (x : Five). Each (λ (r : Entry). IsOrdered atom_cmp r.listed) x.lcw) (sym is_tidied)
      (each_result entry_cmp_total entry_cmp_tells (λ (r : Entry). IsOrdered atom_cmp r.listed) (normal_entry last.kf) (λ r. ordered_set_of atom_cmp_total atom_cmp_tells (map (normal_atom last.kf) r.listed)) last.lcw)

pub moment_neat : (s : Signature) (d : Five) → IsMomentOf s d → IsOrdered literal_cmp d.kf → IsNeat d
moment_neat s d m o = record {
  sorted = o;
  known = m.ordered.known;
  whether = each_both (Each IsInOrder) (IsOrdered literal_cmp) d.kw m.ordered.whether (formulas_sorted s d m);
  groups = each_both (Each IsInOrder) (λ x. in_sequence x ≡ x) d.kx m.ordered.groups (groups_sequenced s d m.closed);
  regions = regions_sorted s d m;
}

-- ---- what the rules add

literals_ordered : {X : Type 0} (r : X → Relation) (ts : X → List Term) (b : X → Bool) (xs : List X) → Each IsInOrder (map (λ x. literal (r x) (ts x) (b x)) xs)
literals_ordered r ts b xs = each_map IsInOrder (λ x. literal (r x) (ts x) (b x)) xs (each_of (λ x. IsInOrder (literal (r x) (ts x) (b x))) xs (λ x i. literal_ordered (r x) (ts x) (b x)))

module _ (s : Signature) (d : Five) where
  values_ordered : (l : Literal) → Each IsInOrder (by_value d.kf l)
  unfolding by_value
  values_ordered l = literals_ordered (λ ts. l.relation) (λ ts. ts) (λ ts. l.positive) (one_replaced (term_steps d.kf) l.arguments)

  members_ordered : (q : Literal × List Literal) → IsInOrder q.0 → Each IsInOrder q.1 → Each IsInOrder (by_member s d q)
  members_ordered q a b =
      each_append IsInOrder (cond (list_all (λ m. holds s d (negated m)) q.1) (q.0 ∷ []) []) (cond (holds s d q.0) (map negated q.1) [])
      (if_of s IsInOrder (list_all (λ m. holds s d (negated m)) q.1) (q.0 ∷ []) (a, tt))
      (if_of s IsInOrder (holds s d q.0) (map negated q.1) (each_map IsInOrder negated q.1 (each_weaker IsInOrder (λ l. IsInOrder (negated l)) (λ l h. h) q.1 b)))

  group_ordered : (x : List Literal) → Each IsInOrder x → Each IsInOrder (by_group s d x)
  unfolding by_group
  group_ordered x a =
      each_flat_map IsInOrder (by_member s d) (with_others x)
      (λ q i. let k = each_in (λ q. IsInOrder q.0 × Each IsInOrder q.1) (with_others x) q (other_each IsInOrder x a) i in members_ordered q k.0 k.1)

  range_ordered : (t : Term) → Each IsInOrder (by_range s d t)
  unfolding by_range
  range_ordered t = literals_ordered (λ e. Equality) (λ e. t ∷ object e ∷ []) (λ e. true) (filter (is_last_left s d t (range_of s t)) (range_of s t))

-- equations in what the rules add stand in order
pub additions_ordered : (s : Signature) (d : Five) → IsNeat d → Each IsInOrder (additions s d)
unfolding additions
additions_ordered s d n =
    each_append IsInOrder (flat_map (by_value d.kf) d.kf) (flat_map (by_group s d) d.kx ++ flat_map (λ l. flat_map (by_range s d) (flat_map applications_in l.arguments)) d.kf)
    (each_flat_map IsInOrder (by_value d.kf) d.kf (λ l i. values_ordered s d l))
    (each_append IsInOrder (flat_map (by_group s d) d.kx) (flat_map (λ l. flat_map (by_range s d) (flat_map applications_in l.arguments)) d.kf)
    (each_flat_map IsInOrder (by_group s d) d.kx (λ x i. group_ordered s d x (each_in (λ x. Each IsInOrder x × (in_sequence x ≡ x)) d.kx x n.groups i).0))
    (each_flat_map IsInOrder (λ l. flat_map (by_range s d) (flat_map applications_in l.arguments)) d.kf
    (λ l i. each_flat_map IsInOrder (by_range s d) (flat_map applications_in l.arguments) (λ t j. range_ordered s d t))))

pub rounds_neat : (s : Signature) (n : ℕ) (d : Five) → IsNeat d → IsNeat (rounds s n d)
unfolding round
rounds_neat s zero d x = x
rounds_neat s (suc n) d x =
    let before = rounds s n d in
    let k = rounds_neat s n d x in
    record {
      sorted = ordered_added literal_cmp_total literal_cmp_tells before.kf (additions s before) k.sorted;
      known = each_added IsInOrder literal_cmp before.kf (additions s before) k.known (additions_ordered s before k);
      whether = k.whether;
      groups = k.groups;
      regions = k.regions;
    }
