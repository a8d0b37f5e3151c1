-- Families over a history and over the one without some looks, and where settling ends on both.
use Rattle.std.proofs.Common.{◌≡◌, ◌&&◌, ◌||◌, ◌++◌, ℕ, Bool, true, false, not, List, [], ◌∷◌, map, flat_map, None, refl, sym, ap, ◌∙◌, subst, inl, inr, ⊎_elim, true≢false}
use Rattle.std.specs.List.{list_all}
use Rattle.std.proofs.lemmas.Bool.{not_from_false, cases_Bool}
use Rattle.pks_terms.specs.Sets.{IsIn, IsOrdered, set_of, with_others, with_later}
use Rattle.pks_terms.specs.Syntax.{Relation, Named, Equality, Term, Literal, negated}
use Rattle.pks_terms.specs.Orders.{literal_cmp, conj_cmp}
use Rattle.pks_terms.specs.Signatures.{HasValues}
use Rattle.pks_terms.specs.Databases.{entry_cmp, Five, holds}
use Rattle.pks_terms.specs.Closure.{applications_in, first_clash, rounds, normal_group, normal_entry, tidied, Next}
use Rattle.pks_terms.specs.Actions.{Instance}
use Rattle.pks_terms.specs.Branching.{Choice, Side, assumed, Assumes}
use Rattle.pks_terms.specs.Spoiling.{may_be_changed, is_stable, are_stable, may_be_denied, spoils}
use Rattle.pks_terms.specs.Problems.{Problem}
use Rattle.pks_terms.specs.Settling.{History, effects_of, lasting, lasted, fired, must_have_fired, cannot_have_fired, forward, backward, settle_round, settle_rounds, clashes}
use Rattle.pks_terms.specs.Saturated.{Within, IsSaturated, WithinAlong, ClosedAlong}
use Rattle.pks_terms.proofs.ListLaws.{in_filter, in_filtered, in_appended}
use Rattle.pks_laws.proofs.Belonging.{end_of}
use Rattle.pks_laws.proofs.ClosedAgain.{holds-tidied}
use Rattle.pks_laws.proofs.Least.{in_left, one_value, holds_grows}
use Rattle.pks_laws.proofs.LeastFamily.{backward_within, settled_least}
use Rattle.pks_laws.proofs.SettledEnd.{rounds_have_start, end_closed}
use Rattle.pks_laws_forget.proofs.Lists.{both_ways}
use Rattle.pks_laws_forget.proofs.Cut.{assumed_more, rounds_have, rounds_leave}
use Rattle.pks_laws_forget.proofs.Ends.{AreOrdered, forget, forget_steps, rounds_ordered, rounds_forget, along_same, first_within, quiet_within, first_closed}
use Rattle.pks_laws_forget.specs.Looks.{AreWithout}
use Rattle.pks_laws_forget.proofs.Held.{Upholds, is_minded, aims_still}
use Rattle.pks_laws_forget.proofs.Thinned.{Steps, thin, fat, fat_start, thin_self, thin_fat, thin_within, thin_each, thin_forgets, one_goes}

-- a step without effects: what was known before is known after, groups and regions are the same, and in normal form by whatever literals, and aims over time ask for known literals or are met before for good
pub record Continues (p : Problem) (d : Five) (i : Instance) (x : Five) : Type 0 where
  pub effects : effects_of p i ≡ []
  pub known : Within d.kf x.kf
  pub groups : d.kx ≡ x.kx
  pub regions : d.lcw ≡ x.lcw
  pub still_groups : (kf : List Literal) → set_of conj_cmp (map (normal_group kf) d.kx) ≡ d.kx
  pub still_regions : (kf : List Literal) → set_of entry_cmp (map (normal_entry kf) d.lcw) ≡ d.lcw
  pub minded : list_all (is_minded p.signature d) p.goal ≡ true

-- such a step of which the same holds at both moments, once they are tidied
pub record ContinuesAlike (p : Problem) (d : Five) (i : Instance) (x : Five) : Type 0 where
  pub goes : Continues p d i x
  pub alike : (l : Literal) → holds p.signature (tidied d) l ≡ holds p.signature (tidied x) l
  pub upheld : Upholds p.signature d (tidied d)

module _ (p : Problem) (inhabited : HasValues p.signature) where
  -- ---- such a step hands all on, and back, and nothing else

  nothing_changed : (d : Five) (us : List Term) → list_all (λ u. not (may_be_changed p.signature d [] u)) us ≡ true
  unfolding may_be_changed
  nothing_changed d [] = refl
  nothing_changed d (u ∷ us) = nothing_changed d us

  all_stable : (d : Five) (ts : List Term) → are_stable p.signature d [] ts ≡ true
  unfolding is_stable
  all_stable d [] = refl
  all_stable d (t ∷ ts) = ap (λ b. b && are_stable p.signature d [] ts) (nothing_changed d (applications_in t)) ∙ all_stable d ts

  nothing_spoiled : (d : Five) (l : Literal) → spoils p.signature d [] l ≡ false
  unfolding spoils
  nothing_spoiled d l = ap (λ b. not b || may_be_denied p.signature d [] l.relation l.arguments l.positive) (all_stable d l.arguments) ∙ undenied l.relation l.arguments l.positive
    where
      undenied : (r : Relation) (ts : List Term) (b : Bool) → may_be_denied p.signature d [] r ts b ≡ false
      undenied (Named q) ts true = refl
      undenied (Named q) ts false = refl
      undenied Equality ts b = refl

  given_on : (i : Instance) → effects_of p i ≡ [] → (d : Five) → Within d.kf (forward p i d)
  given_on i e d l j =
      subst (λ es. IsIn l (lasting p.signature es d ++ flat_map (fired p.signature es d) (with_later es))) (sym e)
      (in_left (lasting p.signature [] d) [] l (in_filter (λ l. not (spoils p.signature d [] l)) d.kf l j (not_from_false _ (nothing_spoiled d l))))

  no_more_on : (i : Instance) → effects_of p i ≡ [] → (d : Five) → Within (forward p i d) d.kf
  no_more_on i e d l j =
      let k = subst (λ es. IsIn l (lasting p.signature es d ++ flat_map (fired p.signature es d) (with_later es))) e j in
      ⊎_elim (λ h. (in_filtered (λ l. not (spoils p.signature d [] l)) d.kf l h).0) (λ h. absurd h) (in_appended (lasting p.signature [] d) [] l k)

  pub given_back : (i : Instance) → effects_of p i ≡ [] → (d x : Five) → Within x.kf (backward p i d x)
  given_back i e d x l j =
      subst (λ es. IsIn l (lasted p.signature es d x ++ (flat_map (must_have_fired p.signature es d x) (with_others es) ++ flat_map (cannot_have_fired p.signature es d x) (with_later es)))) (sym e)
      (in_left (lasted p.signature [] d x) [] l (in_filter (λ l. not (spoils p.signature d [] (negated l))) x.kf l j (not_from_false _ (nothing_spoiled d (negated l)))))

  no_more_back : (i : Instance) → effects_of p i ≡ [] → (d x : Five) → Within (backward p i d x) x.kf
  no_more_back i e d x l j =
      let k = subst (λ es. IsIn l (lasted p.signature es d x ++ (flat_map (must_have_fired p.signature es d x) (with_others es) ++ flat_map (cannot_have_fired p.signature es d x) (with_later es)))) e j in
      ⊎_elim (λ h. (in_filtered (λ l. not (spoils p.signature d [] (negated l))) x.kf l h).0) (λ h. absurd h) (in_appended (lasted p.signature [] d x) [] l k)

  -- ---- moments left out of a family

  abbrev Without : Five → Steps → Five → Steps → Type 0
  Without = AreWithout (Continues p)

  abbrev left : (d : Five) (xs : Steps) (e : Five) (ys : Steps) → Without d xs e ys → Five → Steps → History
  left = thin (Continues p)

  abbrev told : (d : Five) (xs : Steps) (e : Five) (ys : Steps) → Without d xs e ys → Five → Steps → History
  told = fat (Continues p)

  -- the same literals, groups and regions
  pub record AreLike (f g : Five) : Type 0 where
    pub into : Within f.kf g.kf
    pub back : Within g.kf f.kf
    pub groups : f.kx ≡ g.kx
    pub regions : f.lcw ≡ g.lcw

  pub like_itself : (f : Five) → AreLike f f
  like_itself f = record { into = λ l i. i; back = λ l i. i; groups = refl; regions = refl }

  pub like_through : (f g h : Five) → AreLike f g → AreLike g h → AreLike f h
  like_through f g h a b = record { into = λ l i. b.into l (a.into l i); back = λ l i. a.back l (b.back l i); groups = a.groups ∙ b.groups; regions = a.regions ∙ b.regions }

  -- the two moments of such a step, in a closed family over it
  like_next : (d : Five) (x : Instance × Five) (xs : Steps) (f : Five) (z : Instance × Five) (zs : Steps) → Continues p d x.0 x.1 → WithinAlong d (x ∷ xs) f (z ∷ zs) → ClosedAlong p f (z ∷ zs) → AreLike f z.1
  like_next d x xs f z zs k w c =
      let e : effects_of p z.0 ≡ [] = subst (λ i. effects_of p i ≡ []) w.1 k.effects in
      let a = first_within x.1 xs z.1 zs w.2 in
      record {
        into = λ l i. c.1 l (given_on z.0 e f l i);
        back = λ l i. c.2 l (given_back z.0 e f z.1 l i);
        groups = sym w.0.1 ∙ k.groups ∙ a.1;
        regions = sym w.0.2 ∙ k.regions ∙ a.2;
      }

  still_next : (d : Five) (x : Instance × Five) (xs : Steps) (f : Five) (z : Instance × Five) (zs : Steps) → Continues p d x.0 x.1 → WithinAlong d (x ∷ xs) f (z ∷ zs) → ClosedAlong p f (z ∷ zs) → Continues p f z.0 z.1
  still_next d x xs f z zs k w c =
      let a = like_next d x xs f z zs k w c in
      record {
        effects = subst (λ i. effects_of p i ≡ []) w.1 k.effects;
        known = a.into;
        groups = a.groups;
        regions = a.regions;
        still_groups = λ kf. subst (λ gs. set_of conj_cmp (map (normal_group kf) gs) ≡ gs) w.0.1 (k.still_groups kf);
        still_regions = λ kf. subst (λ rs. set_of entry_cmp (map (normal_entry kf) rs) ≡ rs) w.0.2 (k.still_regions kf);
        minded = aims_still p.signature d f (λ l h. holds_grows p.signature f inhabited c.0.0 c.0.1 d w.0.0 w.0.1 w.0.2 l h) p.goal k.minded;
      }

  -- and the same holds at both
  same_holds : (f g : Five) → IsSaturated p.signature f → first_clash p.signature f ≡ None → IsSaturated p.signature g → first_clash p.signature g ≡ None → AreLike f g → (l : Literal) → holds p.signature (tidied f) l ≡ holds p.signature (tidied g) l
  same_holds f g sat fine sat' fine' a l =
      holds-tidied p.signature f (one_value p.signature f inhabited sat fine) l
      ∙ both_ways _ _ (holds_grows p.signature g inhabited sat' fine' f a.into a.groups a.regions l) (holds_grows p.signature f inhabited sat fine g a.back (sym a.groups) (sym a.regions) l)
      ∙ sym (holds-tidied p.signature g (one_value p.signature g inhabited sat' fine') l)

  alike_next : (d : Five) (x : Instance × Five) (xs : Steps) (f : Five) (z : Instance × Five) (zs : Steps) → Continues p d x.0 x.1 → WithinAlong d (x ∷ xs) f (z ∷ zs) → ClosedAlong p f (z ∷ zs) → ContinuesAlike p f z.0 z.1
  alike_next d x xs f z zs k w c =
      let own = first_closed p inhabited z.1 zs c.3 in
      record {
        goes = still_next d x xs f z zs k w c;
        alike = same_holds f z.1 c.0.0 c.0.1 own.0 own.1 (like_next d x xs f z zs k w c);
        upheld = λ l h. holds-tidied p.signature f (one_value p.signature f inhabited c.0.0 c.0.1) l ∙ h;
      }

  -- what comes back from the like moment
  pub back_alike : (f : Five) (i : Instance) (z r : Five) → IsSaturated p.signature f → first_clash p.signature f ≡ None → IsSaturated p.signature z → first_clash p.signature z ≡ None → AreLike z r → Within (backward p i f r) (backward p i f z)
  back_alike f i z r sat fine sat' fine' a =
      backward_within p f inhabited sat fine f (λ l j. j) refl refl r z (holds_grows p.signature z inhabited sat' fine' r a.back (sym a.groups) (sym a.regions)) a.back i

  pub record IsLeft (d : Five) (xs : Steps) (e : Five) (ys : Steps) (f : Five) (zs : Steps) (g : History) : Type 0 where
    pub like : AreLike f g.start
    pub over : WithinAlong e ys g.start g.steps
    pub closed : ClosedAlong p g.start g.steps
    pub without : AreWithout (ContinuesAlike p) f zs g.start g.steps

  pub left_family : (d : Five) (xs : Steps) (e : Five) (ys : Steps) (k : Without d xs e ys) (f : Five) (zs : Steps) → WithinAlong d xs f zs → ClosedAlong p f zs → IsLeft d xs e ys f zs (left d xs e ys k f zs)
  left_family d [] e [] k f [] w c = record { like = like_itself f; over = subst (λ x. WithinAlong x [] f []) k w; closed = c; without = refl }
  left_family d [] e [] k f (z ∷ zs) w c = absurd w
  left_family d [] e (y ∷ ys) k f zs w c = absurd k
  left_family d (x ∷ xs) e ys k f [] w c = absurd w
  left_family d (x ∷ xs) e [] k f (z ∷ zs) w c =
      let r = left_family x.1 xs e [] k.1 z.1 zs w.2 c.3 in
      let t = left x.1 xs e [] k.1 z.1 zs in
      record {
        like = like_through f z.1 t.start (like_next d x xs f z zs k.0 w c) r.like;
        over = r.over;
        closed = r.closed;
        without = one_goes (ContinuesAlike p) f z zs t.start t.steps (alike_next d x xs f z zs k.0 w c) r.without;
      }
  left_family d (x ∷ xs) e (y ∷ ys) (inl k) f (z ∷ zs) w c =
      let r = left_family x.1 xs e (y ∷ ys) k.1 z.1 zs w.2 c.3 in
      let t = left x.1 xs e (y ∷ ys) k.1 z.1 zs in
      record {
        like = like_through f z.1 t.start (like_next d x xs f z zs k.0 w c) r.like;
        over = r.over;
        closed = r.closed;
        without = one_goes (ContinuesAlike p) f z zs t.start t.steps (alike_next d x xs f z zs k.0 w c) r.without;
      }
  left_family d (x ∷ xs) e (y ∷ ys) (inr k) f (z ∷ zs) w c =
      let r = left_family x.1 xs y.1 ys k.2 z.1 zs w.2 c.3 in
      let t = left x.1 xs y.1 ys k.2 z.1 zs in
      let own = first_closed p inhabited z.1 zs c.3 in
      record {
        like = like_itself f;
        over = (subst (λ b. Within b.kf f.kf × (b.kx ≡ f.kx) × (b.lcw ≡ f.lcw)) k.0 w.0, sym k.1 ∙ w.1, r.over);
        closed = (c.0, λ l i. r.like.into l (c.1 l i), λ l i. c.2 l (back_alike f z.0 z.1 t.start c.0.0 c.0.1 own.0 own.1 r.like l i), r.closed);
        without = inr (refl, refl, r.without);
      }

  -- ---- moments told twice in a family

  pub record IsTold (d : Five) (xs : Steps) (g : History) : Type 0 where
    pub over : WithinAlong d xs g.start g.steps
    pub closed : ClosedAlong p g.start g.steps

  -- the first moment of a family over a history, before a step that continues to it
  first_told : (d : Five) (i : Instance) (x : Five) (xs : Steps) (g : History) → Continues p d i x → IsTold x xs g → IsTold d ((i, x) ∷ xs) (record { start = g.start; steps = (i, g.start) ∷ g.steps })
  first_told d i x xs g k r =
      let a = first_within x xs g.start g.steps r.over in
      record {
        over = ((λ l j. a.0 l (k.known l j), k.groups ∙ a.1, k.regions ∙ a.2), refl, r.over);
        closed = (first_closed p inhabited g.start g.steps r.closed, no_more_on i k.effects g.start, no_more_back i k.effects g.start g.start, r.closed);
      }

  pub told_family : (d : Five) (xs : Steps) (e : Five) (ys : Steps) (k : Without d xs e ys) (f : Five) (zs : Steps) → WithinAlong e ys f zs → ClosedAlong p f zs → IsTold d xs (told d xs e ys k f zs)
  told_family d [] e [] k f zs w c = record { over = subst (λ x. WithinAlong x [] f zs) (sym k) w; closed = c }
  told_family d [] e (y ∷ ys) k f zs w c = absurd k
  told_family d (x ∷ xs) e [] k f zs w c = first_told d x.0 x.1 xs (told x.1 xs e [] k.1 f zs) k.0 (told_family x.1 xs e [] k.1 f zs w c)
  told_family d (x ∷ xs) e (y ∷ ys) (inl k) f zs w c = first_told d x.0 x.1 xs (told x.1 xs e (y ∷ ys) k.1 f zs) k.0 (told_family x.1 xs e (y ∷ ys) k.1 f zs w c)
  told_family d (x ∷ xs) e (y ∷ ys) (inr k) f [] w c = absurd w
  told_family d (x ∷ xs) e (y ∷ ys) (inr k) f (z ∷ zs) w c =
      let r = told_family x.1 xs y.1 ys k.2 z.1 zs w.2 c.3 in
      let t = told x.1 xs y.1 ys k.2 z.1 zs in
      let same : z.1 ≡ t.start = sym (fat_start (Continues p) x.1 xs y.1 ys k.2 z.1 zs) in
      record {
        over = (subst (λ b. Within b.kf f.kf × (b.kx ≡ f.kx) × (b.lcw ≡ f.lcw)) (sym k.0) w.0, k.1 ∙ w.1, r.over);
        closed = (c.0, subst (λ (b : Five). Within (forward p z.0 f) b.kf) same c.1, subst (λ (b : Five). Within (backward p z.0 f b) f.kf) same c.2, r.closed);
      }

  -- ---- where settling ends on both

  module _ (d : Five) (xs : Steps) (e : Five) (ys : Steps) (k : Without d xs e ys) (n m : ℕ) where
    abbrev whole : History
    whole = record { start = d; steps = xs }

    abbrev short : History
    short = record { start = e; steps = ys }

    abbrev end : History
    end = settle_rounds p n whole

    abbrev end' : History
    end' = settle_rounds p m short

    abbrev rest : History
    rest = left d xs e ys k end.start end.steps

    abbrev double : History
    double = told d xs e ys k end'.start end'.steps

    module _ (fixed : settle_round p end' ≡ end') (quiet : clashes p.signature end' ≡ false) where
      double_is : IsTold d xs double
      double_is = told_family d xs e ys k end'.start end'.steps (rounds_have_start p short m) (end_closed p end' fixed quiet)

      in_double : WithinAlong end.start end.steps double.start double.steps
      in_double = settled_least p inhabited n whole double double_is.over double_is.closed

      whole_quiet : clashes p.signature end ≡ false
      whole_quiet = quiet_within p inhabited end.start end.steps double.start double.steps in_double double_is.closed

      rest_within : WithinAlong rest.start rest.steps end'.start end'.steps
      rest_within =
          subst (λ (g : History). WithinAlong rest.start rest.steps g.start g.steps) (thin_fat (Continues p) d xs e ys k end'.start end'.steps)
          (thin_within (Continues p) d xs e ys k end.start end.steps double.start double.steps in_double)

    module _ (fixed : settle_round p end ≡ end) (quiet : clashes p.signature end ≡ false) where
      pub rest_is : IsLeft d xs e ys end.start end.steps rest
      rest_is = left_family d xs e ys k end.start end.steps (rounds_have_start p whole n) (end_closed p end fixed quiet)

      in_rest : WithinAlong end'.start end'.steps rest.start rest.steps
      in_rest = settled_least p inhabited m short rest rest_is.over rest_is.closed

      short_quiet : clashes p.signature end' ≡ false
      short_quiet = quiet_within p inhabited end'.start end'.steps rest.start rest.steps in_rest rest_is.closed

    -- both end in a clash, or neither does
    pub same_clash : settle_round p end ≡ end → settle_round p end' ≡ end' → clashes p.signature end ≡ clashes p.signature end'
    same_clash a b =
        ⊎_elim
        (λ t. ⊎_elim (λ u. t ∙ sym u) (λ q. absurd (true≢false (sym t ∙ whole_quiet b q))) (cases_Bool (clashes p.signature end')))
        (λ q. q ∙ sym (short_quiet a q))
        (cases_Bool (clashes p.signature end))

    -- and then the one is the other without these moments
    pub meets : AreOrdered d xs → settle_round p end ≡ end → clashes p.signature end ≡ false → settle_round p end' ≡ end' → rest ≡ end'
    meets ordered fixed quiet fixed' =
        let o = rounds_ordered p n whole ordered in
        let r = thin_each (Continues p) (λ b. IsOrdered literal_cmp b.kf) d xs e ys k end.start end.steps o.0 o.1 in
        let t = thin_each (Continues p) (λ b. IsOrdered literal_cmp b.kf) d xs e ys k d xs ordered.0 ordered.1 in
        let own = thin_self (Continues p) d xs e ys k in
        let o' = rounds_ordered p m short (subst (λ (h : History). AreOrdered h.start h.steps) own t) in
        let g = rounds_forget p n whole in
        let g' = rounds_forget p m short in
        let q = thin_forgets (Continues p) d xs e ys k end.start end.steps d xs g.0 g.1 in
        let same = along_same rest.start rest.steps end'.start end'.steps (rest_within fixed' (short_quiet fixed quiet)) (in_rest fixed quiet) r o'
        (q.0 ∙ ap (λ (h : History). forget h.start) own ∙ sym g'.0) (q.1 ∙ ap (λ (h : History). forget_steps h.steps) own ∙ sym g'.1) in
        λ i. record { start = same.0 i; steps = same.1 i }

    pub ends_without : AreOrdered d xs → settle_round p end ≡ end → clashes p.signature end ≡ false → settle_round p end' ≡ end' → AreWithout (ContinuesAlike p) end.start end.steps end'.start end'.steps
    ends_without ordered fixed quiet fixed' = subst (λ (h : History). AreWithout (ContinuesAlike p) end.start end.steps h.start h.steps) (meets ordered fixed quiet fixed') (rest_is fixed quiet).without

  -- ---- in normal form

  pub still_tidied : (b : Five) (i : Instance) (a : Five) → Upholds p.signature b (tidied b) → Continues p b i a → Continues p (tidied b) i (tidied a)
  unfolding tidied
  still_tidied b i a up k =
      let groups : set_of conj_cmp (map (normal_group b.kf) b.kx) ≡ b.kx = k.still_groups b.kf in
      let regions : set_of entry_cmp (map (normal_entry b.kf) b.lcw) ≡ b.lcw = k.still_regions b.kf in
      record {
        effects = k.effects;
        known = k.known;
        groups = groups ∙ k.groups ∙ sym (subst (λ gs. set_of conj_cmp (map (normal_group a.kf) gs) ≡ gs) k.groups (k.still_groups a.kf));
        regions = regions ∙ k.regions ∙ sym (subst (λ rs. set_of entry_cmp (map (normal_entry a.kf) rs) ≡ rs) k.regions (k.still_regions a.kf));
        still_groups = λ kf. subst (λ gs. set_of conj_cmp (map (normal_group kf) gs) ≡ gs) (sym groups) (k.still_groups kf);
        still_regions = λ kf. subst (λ rs. set_of entry_cmp (map (normal_entry kf) rs) ≡ rs) (sym regions) (k.still_regions kf);
        minded = aims_still p.signature b (tidied b) up p.goal k.minded;
      }

  -- the databases that come to stand in the place of the step's last ones
  pub record Replaces (a m : Five) : Type 0 where
    pub known : Within a.kf m.kf
    pub groups : m.kx ≡ set_of conj_cmp (map (normal_group m.kf) a.kx)
    pub regions : m.lcw ≡ set_of entry_cmp (map (normal_entry m.kf) a.lcw)

  -- so do those that a side leads to
  pub side_replaces : (a d : Five) (c : Choice) (side : Side) → Assumes p.signature a c side (Next d) → Replaces a d
  unfolding tidied
  side_replaces a d c side s =
      let from = assumed p.signature a c side in
      let more = assumed_more p.signature a c side in
      let keep = rounds_leave p.signature s.count from in
      let r : Five = rounds p.signature s.count from in
      let own : Replaces a (tidied r) = record {
        known = λ l i. rounds_have p.signature s.count from l (more.0 l i);
        groups = ap (λ gs. set_of conj_cmp (map (normal_group r.kf) gs)) (sym (more.1 ∙ keep.0));
        regions = ap (λ rs. set_of entry_cmp (map (normal_entry r.kf) rs)) (sym (more.2 ∙ keep.1));
      } in
      subst (Replaces a) (sym (end_of p.signature from d s).1) own

  pub still_replaced : (b : Five) (i : Instance) (a m : Five) → Replaces a m → Continues p b i a → Continues p b i m
  still_replaced b i a m r k = record {
    effects = k.effects;
    known = λ l j. r.known l (k.known l j);
    groups = k.groups ∙ sym (subst (λ gs. set_of conj_cmp (map (normal_group m.kf) gs) ≡ gs) k.groups (k.still_groups m.kf)) ∙ sym r.groups;
    regions = k.regions ∙ sym (subst (λ rs. set_of entry_cmp (map (normal_entry m.kf) rs) ≡ rs) k.regions (k.still_regions m.kf)) ∙ sym r.regions;
    still_groups = k.still_groups;
    still_regions = k.still_regions;
    minded = k.minded;
  }
