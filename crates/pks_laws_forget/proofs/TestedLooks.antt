-- A step that passes the test is a look, and the history without what passes is one without looks.
use Rattle.std.proofs.Common.{◌≡◌, true, false, cond, is_eq, List, [], ◌∷◌, refl, sym, subst, inr, true≢false}
use Rattle.std.specs.List.{list_all}
use Rattle.std.proofs.lemmas.Bool.{and_parts}
use Rattle.pks_terms.specs.Sets.{Each, IsIn}
use Rattle.pks_terms.specs.Syntax.{Literal}
use Rattle.pks_terms.specs.Orders.{conj_cmp}
use Rattle.pks_terms.specs.Totality.{conj_cmp_total, entry_cmp_total}
use Rattle.pks_terms.specs.Databases.{Entry, Five, AreSets}
use Rattle.pks_terms.specs.Actions.{Instance}
use Rattle.pks_terms.specs.Progress.{entry_terms}
use Rattle.pks_terms.specs.Problems.{Problem}
use Rattle.pks_terms.specs.Settling.{effects_of}
use Rattle.pks_terms.proofs.ListLaws.{each_in, each_from_all, each_weaker, found_in}
use Rattle.pks_terms.proofs.OrderLaws.{conj_cmp_tells, entry_cmp_tells}
use Rattle.pks_terms.proofs.SetLaws.{same_members}
use Rattle.pks_terms.specs.Objects.{is_of_objects}
use Rattle.pks_laws_forget.specs.Transparent.{AreObjects, IsOfObjects}
use Rattle.pks_laws_forget.specs.Testing.{has, lasts_as_region}
use Rattle.pks_laws_forget.proofs.Objects.{of_objects}
use Rattle.pks_laws_forget.proofs.Tested.{equal_of, has_in, region_lasts}
use Rattle.pks_laws_forget.specs.Looks.{aims_are_told_alike, IsLook, AreWithout, is_empty, has_group, lasts_in, is_look, behind, unlooked_from}
use Rattle.pks_laws_forget.proofs.Thinned.{Steps, one_goes}

none_of : {X : Type 0} (xs : List X) → is_empty xs ≡ true → xs ≡ []
none_of [] h = refl
none_of (x ∷ xs) h = absurd (true≢false (sym h))

group_there : (d : Five) (g : List Literal) → has_group d g ≡ true → Each IsOfObjects g × IsIn g d.kx
group_there d g h =
    let q = and_parts (list_all is_of_objects g) _ h in
    let f = found_in (λ h. is_eq (conj_cmp g h)) d.kx q.1 in
    (each_from_all IsOfObjects is_of_objects of_objects g q.0, subst (λ x. IsIn x d.kx) (sym (conj_cmp_tells g f.0 (equal_of (conj_cmp g f.0) f.2))) f.1)

groups_there : (d e : Five) → lasts_in d e ≡ true → Each (λ g. Each IsOfObjects g × IsIn g e.kx) d.kx
groups_there d e h = each_from_all (λ g. Each IsOfObjects g × IsIn g e.kx) (has_group e) (group_there e) d.kx (and_parts (list_all (has_group e) d.kx) _ h).0

regions_there : (d e : Five) → lasts_in d e ≡ true → Each (λ r. AreObjects (entry_terms r) × IsIn r e.lcw) d.lcw
regions_there d e h = each_from_all (λ r. AreObjects (entry_terms r) × IsIn r e.lcw) (lasts_as_region e) (region_lasts e) d.lcw (and_parts (list_all (has_group e) d.kx) _ h).1

pub tested : (p : Problem) (before : Five) (i : Instance) (after : Five) → AreSets before → AreSets after → is_look p before i after ≡ true → IsLook p before i after
tested p before i after a b h =
    let q = and_parts (is_empty (effects_of p i)) _ h in
    let aims = and_parts (aims_are_told_alike p before after) _ q.1 in
    let r = and_parts (list_all (has after) before.kf) _ aims.1 in
    let t = and_parts (lasts_in before after) _ r.1 in
    let groups = groups_there before after t.0 in
    let groups' = groups_there after before t.1 in
    let regions = regions_there before after t.0 in
    let regions' = regions_there after before t.1 in
    record {
      effects = none_of (effects_of p i) q.0;
      aims = aims.0;
      known = λ l j. each_in (λ l. IsIn l after.kf) before.kf l (each_from_all (λ l. IsIn l after.kf) (has after) (has_in after) before.kf r.0) j;
      groups = same_members conj_cmp_total conj_cmp_tells before.kx after.kx a.groups b.groups
          (λ g j. (each_in (λ g. Each IsOfObjects g × IsIn g after.kx) before.kx g groups j).1) (λ g j. (each_in (λ g. Each IsOfObjects g × IsIn g before.kx) after.kx g groups' j).1);
      regions = same_members entry_cmp_total entry_cmp_tells before.lcw after.lcw a.regions b.regions
          (λ r j. (each_in (λ (r : Entry). AreObjects (entry_terms r) × IsIn r after.lcw) before.lcw r regions j).1) (λ r j. (each_in (λ (r : Entry). AreObjects (entry_terms r) × IsIn r before.lcw) after.lcw r regions' j).1);
      of_objects = each_weaker (λ g. Each IsOfObjects g × IsIn g after.kx) (λ g. Each IsOfObjects g) (λ g k. k.0) before.kx groups;
      at_objects = each_weaker (λ (r : Entry). AreObjects (entry_terms r) × IsIn r after.lcw) (λ (r : Entry). AreObjects (entry_terms r)) (λ r k. k.0) before.lcw regions;
    }

pub unlooked_without : (p : Problem) (d : Five) (xs : Steps) → AreSets d → Each (λ (x : Instance × Five). AreSets x.1) xs → AreWithout (IsLook p) d xs (unlooked_from p d xs).start (unlooked_from p d xs).steps
unlooked_without p d [] a bs = refl
unlooked_without p d (x ∷ xs) a bs =
    let rest = unlooked_from p x.1 xs in
    let r = unlooked_without p x.1 xs bs.0 bs.1 in
    elim (is_look p d x.0 x.1) as (λ b. is_look p d x.0 x.1 ≡ b → AreWithout (IsLook p) d (x ∷ xs) (cond b rest (behind d x.0 rest)).start (cond b rest (behind d x.0 rest)).steps) [
      | true ↦ λ h. one_goes (IsLook p) d x xs rest.start rest.steps (tested p d x.0 x.1 a bs.0 h) r
      | false ↦ λ h. inr (refl, refl, r)
    ] refl
