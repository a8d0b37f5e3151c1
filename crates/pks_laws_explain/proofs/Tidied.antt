-- Closed databases are shown where those that they are closed from are.
use Rattle.std.proofs.Common.{◌≡◌, ◌≤◌, ℕ, List, [], ◌∷◌, map, sym, subst}
use Rattle.pks_terms.specs.Sets.{Each, IsIn, set_of, IsOrdered}
use Rattle.pks_terms.specs.Syntax.{Literal}
use Rattle.pks_terms.specs.Orders.{conj_cmp, atom_cmp}
use Rattle.pks_terms.specs.Totality.{conj_cmp_total, atom_cmp_total, entry_cmp_total}
use Rattle.pks_terms.specs.Databases.{Entry, entry_cmp, Five, normal, normal_literal}
use Rattle.pks_terms.specs.Closure.{rounds, in_sequence, normal_atom, normal_group, normal_entry, tidied, Next, Closes}
use Rattle.pks_terms.specs.Problems.{Problem}
use Rattle.pks_terms.specs.Moments.{IsInOrder}
use Rattle.pks_terms.proofs.ListLaws.{in_mapped}
use Rattle.pks_terms.proofs.OrderLaws.{conj_cmp_tells, atom_cmp_tells, entry_cmp_tells}
use Rattle.pks_terms.proofs.SetLaws.{ordered_set_of, in_set_of}
use Rattle.pks_terms.proofs.Sequences.{each_in_sequence, in_sequence_twice}
use Rattle.pks_laws.proofs.Belonging.{end_of}
use Rattle.pks_terms.specs.Proofs.{FactKx, FactLcw, Path, final_moment}
use Rattle.pks_laws_explain.specs.Shown.{IsShown, AreShown}
use Rattle.pks_laws_explain.proofs.Equal.{literal_ordered}
use Rattle.pks_laws_explain.proofs.Sorted.{group_normal_shown}
use Rattle.pks_laws_explain.proofs.Regions.{region_normal_shown}
use Rattle.pks_laws_explain.proofs.Gathered.{rounds_shown}

normals_ordered : (kf : List Literal) (g : List Literal) → Each IsInOrder (map (normal_literal kf) g)
unfolding normal_literal
normals_ordered kf [] = tt
normals_ordered kf (l ∷ g) = (literal_ordered l.relation (map (normal kf) l.arguments) l.positive, normals_ordered kf g)

module _ (p : Problem) (path : Path) (m : ℕ) (within : m ≤ final_moment path) where
  pub tidied_shown : (d : Five) → AreShown p path m d → AreShown p path m (tidied d)
  unfolding tidied
  tidied_shown d s =
      let groups = map (normal_group d.kf) d.kx in
      let regions = map (normal_entry d.kf) d.lcw in
      let group : (g : List Literal) → IsIn g (set_of conj_cmp groups) → (o : List Literal) × IsIn o d.kx × (normal_group d.kf o ≡ g) = λ g i. in_mapped (normal_group d.kf) d.kx g (in_set_of conj_cmp_total conj_cmp_tells groups g i) in
      let region : (e : Entry) → IsIn e (set_of entry_cmp regions) → (o : Entry) × IsIn o d.lcw × (normal_entry d.kf o ≡ e) = λ e i. in_mapped (normal_entry d.kf) d.lcw e (in_set_of entry_cmp_total entry_cmp_tells regions e i) in
      record {
        known = s.known;
        ordered = s.ordered;
        groups = λ g i. let o = group g i in subst (λ h. IsShown p path m (FactKx h)) o.2 (group_normal_shown p path m within d s.known o.0 (s.members o.0 o.1) (s.sorted o.0 o.1) (s.groups o.0 o.1));
        members = λ g i. let o = group g i in subst (Each IsInOrder) o.2 (each_in_sequence IsInOrder (map (normal_literal d.kf) o.0) (normals_ordered d.kf o.0));
        sorted = λ g i. let o = group g i in subst (λ h. in_sequence h ≡ h) o.2 (in_sequence_twice (map (normal_literal d.kf) o.0));
        regions = λ e i. let o = region e i in subst (λ r. IsShown p path m (FactLcw r)) o.2 (region_normal_shown p path m within d.kf s.known o.0 (s.listed o.0 o.1) (s.regions o.0 o.1));
        listed = λ e i. let o = region e i in subst (λ (r : Entry). IsOrdered atom_cmp r.listed) o.2 (ordered_set_of atom_cmp_total atom_cmp_tells (map (normal_atom d.kf) o.0.listed));
      }

  pub closed_shown : (d e : Five) → AreShown p path m d → Closes p.signature d (Next e) → AreShown p path m e
  closed_shown d e s c = subst (AreShown p path m) (sym (end_of p.signature d e c).1) (tidied_shown (rounds p.signature c.count d) (rounds_shown p path m within c.count d s))
