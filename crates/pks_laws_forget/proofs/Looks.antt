-- A history without some moments before looks has the same ends.
use Rattle.std.proofs.Common.{◌≡◌, true, [], ◌∷◌, refl, sym, ap, inl, inr, ⊎_elim}
use Rattle.pks_terms.specs.Sets.{Each}
use Rattle.pks_terms.specs.Databases.{Five, AreSets}
use Rattle.pks_terms.specs.Actions.{Instance}
use Rattle.pks_terms.specs.Handed.{IsStepOf}
use Rattle.pks_terms.specs.Moments.{IsMomentOf, AreMomentsOf}
use Rattle.pks_terms.specs.Problems.{Problem}
use Rattle.pks_terms.specs.Saturated.{WithinAlong}
use Rattle.pks_terms.specs.Settling.{History, last_of, last_moment}
use Rattle.pks_terms.specs.Valid.{IsValid}
use Rattle.pks_laws_forget.specs.Looks.{aims_are_told_alike, IsLook, AreWithout}
use Rattle.pks_laws_forget.specs.Transparent.{AreSetsAlong}
use Rattle.pks_laws_forget.proofs.Held.{aims_minded}
use Rattle.pks_laws_forget.proofs.Still.{Continues, ContinuesAlike, left_family, told_family}
use Rattle.pks_laws_forget.proofs.Thinned.{Steps, thin, fat, without_last, without_weaker}
use Rattle.pks_laws_forget.specs.Ends.{EndsAmong, HaveSameEnds}
use Rattle.pks_laws_forget.proofs.Families.{at_objects_still}

-- a step that continues, and leaves what aims over time ask
pub record Leaves (p : Problem) (d : Five) (i : Instance) (x : Five) : Type 0 where
  pub goes : Continues p d i x
  pub aims : aims_are_told_alike p d x ≡ true

look_leaves : (p : Problem) (d : Five) (i : Instance) (x : Five) → IsMomentOf p.signature d → AreSets d → IsLook p d i x → Leaves p d i x
look_leaves p d i x m a k =
    let still = at_objects_still p d m a (record { groups = k.of_objects; regions = k.at_objects }) in
    record {
      goes = record { effects = k.effects; known = k.known; groups = k.groups; regions = k.regions; still_groups = still.groups; still_regions = still.regions; minded = aims_minded p.signature d x p.goal k.aims };
      aims = k.aims;
    }

pub looks_leave : (p : Problem) (d : Five) (xs : Steps) (e : Five) (ys : Steps) → IsMomentOf p.signature d → Each (λ (x : Instance × Five). IsStepOf p x.0 × IsMomentOf p.signature x.1) xs → AreSets d → Each (λ (x : Instance × Five). AreSets x.1) xs
    → AreWithout (IsLook p) d xs e ys → AreWithout (Leaves p) d xs e ys
looks_leave p d [] e [] m ms a bs k = k
looks_leave p d [] e (y ∷ ys) m ms a bs k = absurd k
looks_leave p d (x ∷ xs) e [] m ms a bs k = (look_leaves p d x.0 x.1 m a k.0, looks_leave p x.1 xs e [] ms.0.1 ms.1 bs.0 bs.1 k.1)
looks_leave p d (x ∷ xs) e (y ∷ ys) m ms a bs k =
    ⊎_elim
    (λ l. inl (look_leaves p d x.0 x.1 m a l.0, looks_leave p x.1 xs e (y ∷ ys) ms.0.1 ms.1 bs.0 bs.1 l.1))
    (λ l. inr (l.0, l.1, looks_leave p x.1 xs y.1 ys ms.0.1 ms.1 bs.0 bs.1 l.2)) k

module _ (p : Problem) (v : IsValid p) where
  -- a family in which moments are told twice ends as it did
  fat_last : (d : Five) (xs : Steps) (e : Five) (ys : Steps) (k : AreWithout (Continues p) d xs e ys) (f : Five) (zs : Steps) → WithinAlong e ys f zs → last_of (fat (Continues p) d xs e ys k f zs).start (fat (Continues p) d xs e ys k f zs).steps ≡ last_of f zs
  fat_last d [] e ys k f zs w = refl
  fat_last d (x ∷ xs) e [] k f zs w = fat_last x.1 xs e [] k.1 f zs w
  fat_last d (x ∷ xs) e (y ∷ ys) (inl k) f zs w = fat_last x.1 xs e (y ∷ ys) k.1 f zs w
  fat_last d (x ∷ xs) e (y ∷ ys) (inr k) f [] w = absurd w
  fat_last d (x ∷ xs) e (y ∷ ys) (inr k) f (z ∷ zs) w = fat_last x.1 xs y.1 ys k.2 z.1 zs w.2

  pub looks_keep_ends : (h g : History) → AreMomentsOf p h → AreSetsAlong h → AreWithout (IsLook p) h.start h.steps g.start g.steps → (last_moment h ≡ last_moment g) × HaveSameEnds p h g
  looks_keep_ends h g m a looks =
      let k = without_weaker (Leaves p) (Continues p) (λ b i a k. k.goes) h.start h.steps g.start g.steps (looks_leave p h.start h.steps g.start g.steps m.start m.steps a.start a.steps looks) in
      let on : EndsAmong p h g = λ family f.
      let t = thin (Continues p) h.start h.steps g.start g.steps k family.start family.steps in
      let r = left_family p v.signature.values h.start h.steps g.start g.steps k family.start family.steps f.over f.closed in
      (t, record { over = r.over; closed = r.closed }, ap (λ (d : Five). d.kf) (sym (without_last (ContinuesAlike p) family.start family.steps t.start t.steps r.without))) in
      let back : EndsAmong p g h = λ family f.
      let t = fat (Continues p) h.start h.steps g.start g.steps k family.start family.steps in
      let r = told_family p v.signature.values h.start h.steps g.start g.steps k family.start family.steps f.over f.closed in
      (t, record { over = r.over; closed = r.closed }, ap (λ (d : Five). d.kf) (fat_last h.start h.steps g.start g.steps k family.start family.steps f.over)) in
      (without_last (Continues p) h.start h.steps g.start g.steps k, (on, back))
