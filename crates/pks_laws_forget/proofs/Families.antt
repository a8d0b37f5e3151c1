-- Families over a history that is longer by a step, has other databases at its end, or was settled.
use Rattle.std.proofs.Common.{◌≡◌, ◌++◌, ◌∙◌, List, [], ◌∷◌, map, None, refl, sym, ap, subst}
use Rattle.pks_terms.specs.Sets.{Each, IsIn, set_of}
use Rattle.pks_terms.specs.Syntax.{Literal}
use Rattle.pks_terms.specs.Orders.{conj_cmp, atom_cmp}
use Rattle.pks_terms.specs.Totality.{conj_cmp_total, entry_cmp_total}
use Rattle.pks_terms.specs.Signatures.{HasValues}
use Rattle.pks_terms.specs.Databases.{Entry, entry_cmp, Five, AreSets}
use Rattle.pks_terms.specs.Closure.{first_clash, in_sequence, normal_group, normal_entry, tidied}
use Rattle.pks_terms.specs.Actions.{Instance}
use Rattle.pks_terms.specs.Moments.{IsMomentOf}
use Rattle.pks_terms.specs.Handed.{IsStepOf}
use Rattle.pks_terms.specs.Problems.{Problem}
use Rattle.pks_terms.specs.Progress.{entry_terms}
use Rattle.pks_terms.specs.Settling.{History, last_of, last_moment, pushed, with_last, forward, backward}
use Rattle.pks_terms.specs.Saturated.{Within, IsSaturated, WithinAlong, ClosedAlong}
use Rattle.pks_terms.proofs.ListLaws.{each_in, each_of}
use Rattle.pks_terms.proofs.OrderLaws.{conj_cmp_tells, entry_cmp_tells}
use Rattle.pks_terms.proofs.SetLaws.{ordered_set_of, in_set_of, set_of_in, same_members}
use Rattle.pks_laws.proofs.LeastFamily.{forward_within, backward_within}
use Rattle.pks_laws.proofs.NormalMembers.{map_fixed}
use Rattle.pks_laws_forget.specs.Transparent.{AreObjects, IsOfObjects}
use Rattle.pks_laws_forget.proofs.Ends.{group_at_objects, entry_at_objects}
use Rattle.pks_laws_forget.proofs.Sequence.{groups_sequenced, regions_listed}
use Rattle.pks_laws_forget.proofs.Thinned.{Steps, ended, ended_is}
use Rattle.pks_laws_forget.specs.Ends.{EndsAmong, IsAtObjects}

-- ---- families within one another

pub along_both : (d : Five) (xs : Steps) (e : Five) (ys : Steps) (f : Five) (zs : Steps) → WithinAlong d xs e ys → WithinAlong e ys f zs → WithinAlong d xs f zs
along_both d [] e [] f [] a b = (λ l i. b.0 l (a.0 l i), a.1 ∙ b.1, a.2 ∙ b.2)
along_both d (x ∷ xs) e (y ∷ ys) f (z ∷ zs) a b = ((λ l i. b.0.0 l (a.0.0 l i), a.0.1 ∙ b.0.1, a.0.2 ∙ b.0.2), a.1 ∙ b.1, along_both x.1 xs y.1 ys z.1 zs a.2 b.2)
along_both d [] e (y ∷ ys) f zs a b = absurd a
along_both d (x ∷ xs) e [] f zs a b = absurd a
along_both d [] e [] f (z ∷ zs) a b = absurd b
along_both d (x ∷ xs) e (y ∷ ys) f [] a b = absurd b

-- one moment within another
abbrev pub IsWithin : Five → Five → Type 0
IsWithin d e = Within d.kf e.kf × (d.kx ≡ e.kx) × (d.lcw ≡ e.lcw)

pub last_within : (d : Five) (xs : Steps) (e : Five) (ys : Steps) → WithinAlong d xs e ys → IsWithin (last_of d xs) (last_of e ys)
last_within d [] e [] w = w
last_within d (x ∷ xs) e (y ∷ ys) w = last_within x.1 xs y.1 ys w.2
last_within d [] e (y ∷ ys) w = absurd w
last_within d (x ∷ xs) e [] w = absurd w

module _ (p : Problem) where
  pub last_closed : (e : Five) (ys : Steps) → ClosedAlong p e ys → IsSaturated p.signature (last_of e ys) × (first_clash p.signature (last_of e ys) ≡ None)
  last_closed e [] c = c
  last_closed e (y ∷ ys) c = last_closed y.1 ys c.3

  -- ---- one step more

  -- the moment comes behind the other by the step
  abbrev Comes : Instance → Five → Five → Type 0
  Comes i b e = (IsSaturated p.signature e × (first_clash p.signature e ≡ None)) × Within (forward p i b) e.kf × Within (backward p i b e) b.kf

  record IsSplit (d : Five) (xs : Steps) (x : Instance × Five) (f : Five) (zs : Steps) : Type 0 where
    steps : Steps
    end : Five
    all : zs ≡ steps ++ (x.0, end) ∷ []
    over : WithinAlong d xs f steps
    closed : ClosedAlong p f steps
    has : IsWithin x.1 end
    comes : Comes x.0 (last_of f steps) end

  split : (d : Five) (xs : Steps) (x : Instance × Five) (f : Five) (zs : Steps) → WithinAlong d (xs ++ x ∷ []) f zs → ClosedAlong p f zs → IsSplit d xs x f zs
  split d [] x f [] w c = absurd w
  split d [] x f (z ∷ []) w c = record {
    steps = [];
    end = z.1;
    all = λ k. (sym w.1 k, z.1) ∷ [];
    over = w.0;
    closed = c.0;
    has = w.2;
    comes = (c.3, subst (λ i. Within (forward p i f) z.1.kf) (sym w.1) c.1, subst (λ i. Within (backward p i f z.1) f.kf) (sym w.1) c.2);
  }
  split d [] x f (z ∷ y ∷ zs) w c = absurd w.2
  split d (y ∷ xs) x f [] w c = absurd w
  split d (y ∷ xs) x f (z ∷ zs) w c =
      let r = split y.1 xs x z.1 zs w.2 c.3 in
      record {
        steps = z ∷ r.steps;
        end = r.end;
        all = ap (λ (l : Steps). z ∷ l) r.all;
        over = (w.0, w.1, r.over);
        closed = (c.0, c.1, c.2, r.closed);
        has = r.has;
        comes = r.comes;
      }

  joined_over : (d : Five) (xs : Steps) (x : Instance × Five) (f : Five) (zs : Steps) (e : Five) → WithinAlong d xs f zs → IsWithin x.1 e → WithinAlong d (xs ++ x ∷ []) f (zs ++ (x.0, e) ∷ [])
  joined_over d [] x f [] e w k = (w, refl, k)
  joined_over d (y ∷ xs) x f (z ∷ zs) e w k = (w.0, w.1, joined_over y.1 xs x z.1 zs e w.2 k)
  joined_over d [] x f (z ∷ zs) e w k = absurd w
  joined_over d (y ∷ xs) x f [] e w k = absurd w

  joined_closed : (f : Five) (zs : Steps) (i : Instance) (e : Five) → ClosedAlong p f zs → Comes i (last_of f zs) e → ClosedAlong p f (zs ++ (i, e) ∷ [])
  joined_closed f [] i e c k = (c, k.1, k.2, k.0)
  joined_closed f (z ∷ zs) i e c k = (c.0, c.1, c.2, joined_closed z.1 zs i e c.3 k)

  pub last_pushed : (f : Five) (zs : Steps) (x : Instance × Five) → last_of f (zs ++ x ∷ []) ≡ x.1
  last_pushed f [] x = refl
  last_pushed f (z ∷ zs) x = last_pushed z.1 zs x

  module _ (inhabited : HasValues p.signature) where
    -- what comes behind a moment comes behind one with the same literals, groups and regions
    comes_alike : (i : Instance) (b b' e : Five) → IsSaturated p.signature b → first_clash p.signature b ≡ None → b'.kf ≡ b.kf → b'.kx ≡ b.kx → b'.lcw ≡ b.lcw → Comes i b e → Comes i b' e
    comes_alike i b b' e sat fine same groups regions k =
        let w : Within b'.kf b.kf = λ l j. subst (IsIn l) same j in (
          k.0,
          λ l j. k.1 l (forward_within p b inhabited sat fine b' w groups regions i l j),
          λ l j. subst (IsIn l) (sym same) (k.2 l (backward_within p b inhabited sat fine b' w groups regions e e (λ l h. h) (λ l h. h) i l j)),
        )

    -- the ends stay among those of the other history where both are longer by the same step
    pub pushed_among : (h g : History) (i : Instance) (d : Five) → last_moment h ≡ last_moment g → EndsAmong p h g → EndsAmong p (pushed h i d) (pushed g i d)
    pushed_among h g i d last among family f =
        let s = split h.start h.steps (i, d) family.start family.steps f.over f.closed in
        let r = among (record { start = family.start; steps = s.steps }) (record { over = s.over; closed = s.closed }) in
        let o = r.0 in
        let b = last_of family.start s.steps in
        let own = last_within h.start h.steps family.start s.steps s.over in
        let other = last_within g.start g.steps o.start o.steps r.1.over in
        let groups : (last_moment o).kx ≡ b.kx = sym other.1 ∙ sym (ap (λ (d : Five). d.kx) last) ∙ own.1 in
        let regions : (last_moment o).lcw ≡ b.lcw = sym other.2 ∙ sym (ap (λ (d : Five). d.lcw) last) ∙ own.2 in
        let fine = last_closed family.start s.steps s.closed in (
          record { start = o.start; steps = o.steps ++ (i, s.end) ∷ [] },
          record {
            over = joined_over g.start g.steps (i, d) o.start o.steps s.end r.1.over s.has;
            closed = joined_closed o.start o.steps i s.end r.1.closed (comes_alike i b (last_moment o) s.end fine.0 fine.1 r.2 groups regions s.comes);
          },
          ap (λ (d : Five). d.kf) (last_pushed o.start o.steps (i, s.end) ∙ sym (ap (last_of family.start) s.all ∙ last_pushed family.start s.steps (i, s.end))),
        )

  -- ---- other databases at the end

  over_ended : (d : Five) (xs : Steps) (m : Five) (f : Five) (zs : Steps) → IsWithin (last_of d xs) m → WithinAlong (ended d xs m).start (ended d xs m).steps f zs → WithinAlong d xs f zs
  over_ended d [] m f [] k w = (λ l i. w.0 l (k.0 l i), k.1 ∙ w.1, k.2 ∙ w.2)
  over_ended d [] m f (z ∷ zs) k w = absurd w
  over_ended d (x ∷ xs) m f [] k w = absurd w
  over_ended d (x ∷ xs) m f (z ∷ zs) k w = (w.0, w.1, over_ended x.1 xs m z.1 zs k w.2)

  ended_over : (d : Five) (xs : Steps) (m : Five) (f : Five) (zs : Steps) → IsWithin m (last_of f zs) → WithinAlong d xs f zs → WithinAlong (ended d xs m).start (ended d xs m).steps f zs
  ended_over d [] m f [] k w = k
  ended_over d [] m f (z ∷ zs) k w = absurd w
  ended_over d (x ∷ xs) m f [] k w = absurd w
  ended_over d (x ∷ xs) m f (z ∷ zs) k w = (w.0, w.1, ended_over x.1 xs m z.1 zs k w.2)

  pub ended_last : (d : Five) (xs : Steps) (m : Five) → last_of (ended d xs m).start (ended d xs m).steps ≡ m
  ended_last d [] m = refl
  ended_last d (x ∷ xs) m = ended_last x.1 xs m

  -- so where the last databases of both are replaced by the same, which have more literals and the same groups and regions
  pub replaced_among : (h g : History) (m : Five) → last_moment h ≡ last_moment g → IsWithin (last_moment h) m → EndsAmong p h g → EndsAmong p (with_last h m) (with_last g m)
  replaced_among h g m last more among =
      subst (λ (k : History). EndsAmong p k (with_last g m)) (sym (ended_is h.start h.steps m))
      (subst (λ (k : History). EndsAmong p (ended h.start h.steps m) k) (sym (ended_is g.start g.steps m)) (λ family f.
      let r = among family (record { over = over_ended h.start h.steps m family.start family.steps more f.over; closed = f.closed }) in
      let o = r.0 in
      let w = last_within (ended h.start h.steps m).start (ended h.start h.steps m).steps family.start family.steps f.over in
      let w' : IsWithin m (last_moment family) = subst (λ (d : Five). IsWithin d (last_moment family)) (ended_last h.start h.steps m) w in
      let other = last_within g.start g.steps o.start o.steps r.1.over in
      let has : IsWithin m (last_moment o) = (
        λ l i. subst (IsIn l) (sym r.2) (w'.0 l i),
        sym more.1 ∙ ap (λ (d : Five). d.kx) last ∙ other.1,
        sym more.2 ∙ ap (λ (d : Five). d.lcw) last ∙ other.2,
      ) in
      (o, record { over = ended_over g.start g.steps m o.start o.steps has r.1.over; closed = r.1.closed }, r.2)))

-- ---- groups and regions that stay as they are in normal form

pub record IsStill (d : Five) : Type 0 where
  pub groups : (kf : List Literal) → set_of conj_cmp (map (normal_group kf) d.kx) ≡ d.kx
  pub regions : (kf : List Literal) → set_of entry_cmp (map (normal_entry kf) d.lcw) ≡ d.lcw

set_itself_groups : (d : Five) → AreSets d → set_of conj_cmp d.kx ≡ d.kx
set_itself_groups d a = same_members conj_cmp_total conj_cmp_tells (set_of conj_cmp d.kx) d.kx (ordered_set_of conj_cmp_total conj_cmp_tells d.kx) a.groups (in_set_of conj_cmp_total conj_cmp_tells d.kx) (set_of_in conj_cmp_total conj_cmp_tells d.kx)

set_itself_regions : (d : Five) → AreSets d → set_of entry_cmp d.lcw ≡ d.lcw
set_itself_regions d a = same_members entry_cmp_total entry_cmp_tells (set_of entry_cmp d.lcw) d.lcw (ordered_set_of entry_cmp_total entry_cmp_tells d.lcw) a.regions (in_set_of entry_cmp_total entry_cmp_tells d.lcw) (set_of_in entry_cmp_total entry_cmp_tells d.lcw)

pub at_objects_still : (p : Problem) (d : Five) → IsMomentOf p.signature d → AreSets d → IsAtObjects d → IsStill d
at_objects_still p d m a o = record {
  groups = λ kf.
      ap (set_of conj_cmp) (map_fixed (normal_group kf) d.kx (each_of (λ g. normal_group kf g ≡ g) d.kx
      (λ g j. group_at_objects kf g (each_in (λ g. Each IsOfObjects g) d.kx g o.groups j) (each_in (λ g. in_sequence g ≡ g) d.kx g (groups_sequenced p.signature d m.closed) j))))
      ∙ set_itself_groups d a;
  regions = λ kf.
      ap (set_of entry_cmp) (map_fixed (normal_entry kf) d.lcw (each_of (λ r. normal_entry kf r ≡ r) d.lcw
      (λ r j. entry_at_objects kf r (each_in (λ (r : Entry). AreObjects (entry_terms r)) d.lcw r o.regions j) (each_in (λ (r : Entry). set_of atom_cmp r.listed ≡ r.listed) d.lcw r (regions_listed p.signature d m.closed) j))))
      ∙ set_itself_regions d a;
}

abbrev pub AreStill : Steps → Type 0
AreStill xs = Each (λ (x : Instance × Five). IsStill x.1) xs

pub all_still : (p : Problem) (xs : Steps) → Each (λ (x : Instance × Five). IsStepOf p x.0 × IsMomentOf p.signature x.1) xs → Each (λ (x : Instance × Five). AreSets x.1) xs → Each (λ (x : Instance × Five). IsAtObjects x.1) xs → AreStill xs
all_still p [] m a o = tt
all_still p (x ∷ xs) m a o = (at_objects_still p x.1 m.0.1 a.0 o.0, all_still p xs m.1 a.1 o.1)

-- what is so by groups and regions alone is so of databases that differ in their literals
pub still_by : (d e : Five) → d.kx ≡ e.kx → d.lcw ≡ e.lcw → IsStill d → IsStill e
still_by d e groups regions k = record {
  groups = λ kf. subst (λ gs. set_of conj_cmp (map (normal_group kf) gs) ≡ gs) groups (k.groups kf);
  regions = λ kf. subst (λ rs. set_of entry_cmp (map (normal_entry kf) rs) ≡ rs) regions (k.regions kf);
}

-- such a kind goes on to a family
pub kind_along : (P : Five → Type 0) → ((d e : Five) → d.kx ≡ e.kx → d.lcw ≡ e.lcw → P d → P e) → (d : Five) (xs : Steps) (e : Five) (ys : Steps) → WithinAlong d xs e ys → P d → Each (λ (x : Instance × Five). P x.1) xs → P e × Each (λ (x : Instance × Five). P x.1) ys
kind_along P by d [] e [] w o os = (by d e w.1 w.2 o, tt)
kind_along P by d (x ∷ xs) e (y ∷ ys) w o os =
    let r = kind_along P by x.1 xs y.1 ys w.2 os.0 os.1 in
    (by d e w.0.1 w.0.2 o, (r.0, r.1))
kind_along P by d [] e (y ∷ ys) w o os = absurd w
kind_along P by d (x ∷ xs) e [] w o os = absurd w

-- ---- in normal form

abbrev pub tidied_steps : Steps → Steps
tidied_steps xs = map (λ (x : Instance × Five). let r : Instance × Five = (x.0, tidied x.1) in r) xs

pub tidied_within : (d : Five) → IsStill d → IsWithin d (tidied d) × IsWithin (tidied d) d
unfolding tidied
tidied_within d k = ((λ l i. i, sym (k.groups d.kf), sym (k.regions d.kf)), (λ l i. i, k.groups d.kf, k.regions d.kf))

pub in_tidied : (d : Five) (xs : Steps) → IsStill d → AreStill xs → WithinAlong d xs (tidied d) (tidied_steps xs) × WithinAlong (tidied d) (tidied_steps xs) d xs
in_tidied d [] k ks = tidied_within d k
in_tidied d (x ∷ xs) k ks =
    let r = in_tidied x.1 xs ks.0 ks.1 in
    let t = tidied_within d k in
    ((t.0, refl, r.0), (t.1, refl, r.1))

pub tidied_last : (d : Five) (xs : Steps) → last_of (tidied d) (tidied_steps xs) ≡ tidied (last_of d xs)
tidied_last d [] = refl
tidied_last d (x ∷ xs) = tidied_last x.1 xs
