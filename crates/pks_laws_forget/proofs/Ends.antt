-- A history whose first step is transparent, and the one without its first moment: settled they end alike.
use Rattle.std.proofs.Common.{◌≡◌, ◌&&◌, ◌||◌, ◌==◌, ◌++◌, ℕ, zero, suc, Bool, true, false, not, is_some, List, [], ◌∷◌, map, filter, flat_map, Option, Some, None, option_map, refl, sym, ap, ◌∙◌, subst, ⊎_elim, true≢false}
use Rattle.std.specs.List.{list_any, list_all}
use Rattle.std.proofs.lemmas.Bool.{and_parts, and_from, not_from_false, false_from_ne_true, not-true, cases_Bool}
use Rattle.pks_terms.specs.Sets.{Each, IsIn, IsOrdered, set_of}
use Rattle.pks_terms.specs.Syntax.{Inner, Term, term_of, as_object, Relation, Named, Equality, Literal, Atom, negated}
use Rattle.pks_terms.specs.Orders.{literal_cmp, atom_cmp, number_of, arguments_of}
use Rattle.pks_terms.specs.Totality.{literal_cmp_total, conj_cmp_total, entry_cmp_total}
use Rattle.pks_terms.specs.Signatures.{Signature, HasValues}
use Rattle.pks_terms.specs.Databases.{Entry, Five, normal, normal_literal, some_differ, holds}
use Rattle.pks_terms.specs.Closure.{first_clash, applications_in, additions, in_sequence, normal_atom, normal_group, normal_entry, tidied}
use Rattle.pks_terms.specs.Actions.{Target, Set, Unset, Clear, Assign, Effect, Instance}
use Rattle.pks_terms.specs.Spoiling.{may_fire, may_change}
use Rattle.pks_terms.specs.Progress.{fixed_terms, entry_terms}
use Rattle.pks_terms.specs.Problems.{Problem}
use Rattle.pks_terms.specs.Settling.{History, effects_of, forward, grown, from_next, settled_steps, settle_round, settle_rounds, clashes}
use Rattle.pks_terms.specs.Saturated.{Within, IsSaturated, WithinAlong, ClosedAlong}
use Rattle.pks_terms.proofs.ListLaws.{each_in, each_front, each_back, in_filter, in_filtered, in_appended, in_mapped, in_map}
use Rattle.pks_terms.proofs.OrderLaws.{literal_cmp_tells, conj_cmp_tells, entry_cmp_tells}
use Rattle.pks_terms.proofs.SetLaws.{ordered_added, in_set_of, set_of_in, same_members}
use Rattle.pks_laws.proofs.Least.{in_left, in_right, one_value, ranged, holds_grows, some_differ_grows}
use Rattle.pks_laws.proofs.LeastFamily.{settled_least}
use Rattle.pks_laws.proofs.SettledEnd.{rounds_have_start, end_closed}
use Rattle.pks_laws_forget.specs.Transparent.{AreObjects, IsOfObjects, Makes, effects_by, IsDecided, IsReadAlike, IsKept, LastsAsGroup}
use Rattle.pks_laws_forget.proofs.Lists.{nothing_found, any_more}
use Rattle.pks_laws_forget.proofs.Alike.{not_denied}
use Rattle.pks_laws_forget.proofs.Objects.{objects_normal, literal_normal, denied_by}
use Rattle.pks_laws_forget.proofs.Given.{IsGiven, changed_in, stays_in, returns_in, is_own, known_then, first_known}
use Rattle.pks_laws_forget.proofs.Returning.{no_clash}
use Rattle.pks_laws_forget.proofs.Rules.{saturated_before}
use Rattle.pks_laws_forget.proofs.Handing.{onward_in, backward_in}

-- ---- a step, and what is known at its two moments later

-- what of the step stays
pub record IsStart (p : Problem) (i : Instance) (before after : Five) : Type 0 where
  pub inhabited : HasValues p.signature
  pub saturated : IsSaturated p.signature before
  pub fine : first_clash p.signature before ≡ None
  pub decided : Each (IsDecided before after) (effects_by p before i)
  pub written : Each (IsReadAlike before after (effects_by p before i)) (effects_of p i)
  pub kept : Each (IsKept before after (effects_by p before i)) before.kf
  pub lasting : Each (LastsAsGroup before after (effects_by p before i)) before.kx
  pub objects : Each (λ r. AreObjects (entry_terms r)) before.lcw
  pub sequenced : Each (λ g. in_sequence g ≡ g) before.kx
  pub listed : Each (λ r. set_of atom_cmp r.listed ≡ r.listed) before.lcw

-- two moments that come from those of the step
pub record Follows (p : Problem) (i : Instance) (before after moment next : Five) : Type 0 where
  pub has : Within before.kf moment.kf
  pub bounded : (later : Five) → Within next.kf later.kf → IsSaturated p.signature later → first_clash p.signature later ≡ None → Within moment.kf (known_then p.signature before later (effects_by p before i))
  pub grown : Within after.kf next.kf
  pub own_groups : Within moment.kx before.kx
  pub own_regions : Within moment.lcw before.lcw
  pub groups : (g : List Literal) → IsIn g before.kx → IsIn g after.kx → IsIn g next.kx
  pub regions : Within before.lcw next.lcw

-- ---- families in order, and the sets that settling leaves as they are

abbrev pub AreOrdered : Five → List (Instance × Five) → Type 0
AreOrdered d xs = IsOrdered literal_cmp d.kf × Each (λ x. IsOrdered literal_cmp x.1.kf) xs

abbrev pub forget : Five → Five
forget d = record d { kf = [] }

abbrev pub forget_steps : List (Instance × Five) → List (Instance × Five)
forget_steps xs = map (λ x. (x.0, forget x.1)) xs

module _ (p : Problem) where
  grown_ordered : (d : Five) (news : List Literal) → IsOrdered literal_cmp d.kf → IsOrdered literal_cmp (grown p.signature d news).kf
  grown_ordered d news o = ordered_added literal_cmp_total literal_cmp_tells d.kf (additions p.signature d ++ news) o

  steps_ordered : (d : Five) (xs : List (Instance × Five)) → Each (λ x. IsOrdered literal_cmp x.1.kf) xs → Each (λ x. IsOrdered literal_cmp x.1.kf) (settled_steps p d xs)
  steps_ordered d [] o = tt
  steps_ordered d (x ∷ xs) o = (grown_ordered x.1 (forward p x.0 d ++ from_next p x.1 xs) o.0, steps_ordered x.1 xs o.1)

  pub round_ordered : (h : History) → AreOrdered h.start h.steps → AreOrdered (settle_round p h).start (settle_round p h).steps
  unfolding settle_round
  round_ordered h o = (grown_ordered h.start (from_next p h.start h.steps) o.0, steps_ordered h.start h.steps o.1)

  pub rounds_ordered : (n : ℕ) (h : History) → AreOrdered h.start h.steps → AreOrdered (settle_rounds p n h).start (settle_rounds p n h).steps
  rounds_ordered zero h o = o
  rounds_ordered (suc n) h o = round_ordered (settle_rounds p n h) (rounds_ordered n h o)

  steps_forget : (d : Five) (xs : List (Instance × Five)) → forget_steps (settled_steps p d xs) ≡ forget_steps xs
  steps_forget d [] = refl
  steps_forget d (x ∷ xs) = ap (λ (ys : List (Instance × Five)). (x.0, forget x.1) ∷ ys) (steps_forget x.1 xs)

  round_forgets : (h : History) → (forget (settle_round p h).start ≡ forget h.start) × (forget_steps (settle_round p h).steps ≡ forget_steps h.steps)
  unfolding settle_round
  round_forgets h = (refl, steps_forget h.start h.steps)

  pub rounds_forget : (n : ℕ) (h : History) → (forget (settle_rounds p n h).start ≡ forget h.start) × (forget_steps (settle_rounds p n h).steps ≡ forget_steps h.steps)
  rounds_forget zero h = (refl, refl)
  rounds_forget (suc n) h = let a = round_forgets (settle_rounds p n h) in let b = rounds_forget n h in (a.0 ∙ b.0, a.1 ∙ b.1)

same_five : (d e : Five) → forget d ≡ forget e → d.kf ≡ e.kf → d ≡ e
same_five d e q r = λ i. record (q i) { kf = r i }

abbrev pub head_five : Five → List (Instance × Five) → Five
head_five d [] = d
head_five d (x ∷ xs) = x.1

abbrev pub tail_steps : List (Instance × Five) → List (Instance × Five)
tail_steps [] = []
tail_steps (x ∷ xs) = xs

-- databases with the same literals and the same other sets are the same
pub same_known : (d e : Five) → Within d.kf e.kf → Within e.kf d.kf → IsOrdered literal_cmp d.kf → IsOrdered literal_cmp e.kf → forget d ≡ forget e → d ≡ e
same_known d e v w o q f = same_five d e f (same_members literal_cmp_total literal_cmp_tells d.kf e.kf o q v w)

-- the same members and the same other sets: the same family
pub along_same : (d : Five) (xs : List (Instance × Five)) (e : Five) (ys : List (Instance × Five)) → WithinAlong d xs e ys → WithinAlong e ys d xs → AreOrdered d xs → AreOrdered e ys → forget d ≡ forget e → forget_steps xs ≡ forget_steps ys → (d ≡ e) × (xs ≡ ys)
along_same d [] e [] v w o q f g = (same_known d e v.0 w.0 o.0 q.0 f, refl)
along_same d (x ∷ xs) e (y ∷ ys) v w o q f g =
    let rest = along_same x.1 xs y.1 ys v.2 w.2 o.1 q.1 (ap (head_five (forget d)) g) (ap tail_steps g) in
    (same_known d e v.0.0 w.0.0 o.0 q.0 f, λ i. (v.1 i, rest.0 i) ∷ rest.1 i)
along_same d [] e (y ∷ ys) v w o q f g = absurd v
along_same d (x ∷ xs) e [] v w o q f g = absurd v

pub first_within : (d : Five) (xs : List (Instance × Five)) (e : Five) (ys : List (Instance × Five)) → WithinAlong d xs e ys → Within d.kf e.kf × (d.kx ≡ e.kx) × (d.lcw ≡ e.lcw)
first_within d [] e [] w = w
first_within d (x ∷ xs) e (y ∷ ys) w = w.0
first_within d [] e (y ∷ ys) w = absurd w
first_within d (x ∷ xs) e [] w = absurd w

-- ---- what is known at the moment before grows with what is known after

pub all_more : {X : Type 0} (q r : X → Bool) → ((x : X) → q x ≡ true → r x ≡ true) → (xs : List X) → list_all q xs ≡ true → list_all r xs ≡ true
all_more q r f [] h = refl
all_more q r f (x ∷ xs) h = let p = and_parts (q x) _ h in and_from _ _ (f x p.0) (all_more q r f xs p.1)

module _ (s : Signature) (later big : Five) (inhabited : HasValues s) (within : Within later.kf big.kf) (saturated : IsSaturated s big) (fine : first_clash s big ≡ None) where
  apart_grows : (ts us : List Term) → not (some_differ s big.kf ts us) ≡ true → not (some_differ s later.kf ts us) ≡ true
  apart_grows ts us h =
      not_from_false _ (false_from_ne_true _ (λ t. true≢false (sym (some_differ_grows s later.kf big.kf within (one_value s big inhabited saturated fine) (ranged s big inhabited saturated fine) ts us t) ∙ not-true _ h)))

  denied_back : (r : Relation) (ts : List Term) (b : Bool) (x : Target) (l : Literal) → Makes x l → denied_by s big.kf r ts b x ≡ true → denied_by s later.kf r ts b x ≡ true
  denied_back (Named p) ts true (Unset a) l m h = let q = and_parts (a.predicate == p) _ h in and_from _ _ q.0 (apart_grows a.arguments ts q.1)
  denied_back (Named p) ts false (Set a) l m h = let q = and_parts (a.predicate == p) _ h in and_from _ _ q.0 (apart_grows a.arguments ts q.1)
  denied_back (Named p) ts true (Set a) l m h = h
  denied_back (Named p) ts false (Unset a) l m h = h
  denied_back (Named p) ts b (Clear y) l m h = absurd m
  denied_back (Named p) ts true (Assign g us v) l m h = h
  denied_back (Named p) ts false (Assign g us v) l m h = h
  denied_back Equality ts b x l m h = h

  change_back : (f : ℕ) (us : List Inner) (x : Target) → may_change s big.kf f us x ≡ true → may_change s later.kf f us x ≡ true
  change_back f us (Assign g vs v) h = let q = and_parts (g == f) _ h in and_from _ _ q.0 (apart_grows (map term_of vs) (map term_of us) q.1)
  change_back f us (Set a) h = h
  change_back f us (Unset a) h = h
  change_back f us (Clear y) h = h

  stays_more : (before : Five) (es : List Effect) (t : Term) → stays_in s before later es t ≡ true → stays_in s before big es t ≡ true
  stays_more before es t h =
      all_more (λ u. not (changed_in s before later es u)) (λ u. not (changed_in s before big es u))
      (λ u k. not_from_false _ (false_from_ne_true _ (λ c. true≢false (sym
      (any_more (λ e. may_fire s before e && may_change s big.kf (number_of u) (arguments_of u) e.target) (λ e. may_fire s before e && may_change s later.kf (number_of u) (arguments_of u) e.target) es
      (λ e i z. let q = and_parts (may_fire s before e) _ z in and_from _ _ q.0 (change_back (number_of u) (arguments_of u) e.target q.1)) c) ∙ not-true _ k))))
      (applications_in t) h

  known_then_grows : (before after : Five) (es : List Effect) → Each (IsDecided before after) es → Within (known_then s before later es) (known_then s before big es)
  known_then_grows before after es decided l i =
      ⊎_elim
      (λ j. in_left (filter (is_own before.kf) before.kf) (filter (returns_in s before big es) big.kf) l j)
      (λ j.
      let r = in_filtered (returns_in s before later es) later.kf l j in
      let q = and_parts (list_all (stays_in s before later es) l.arguments) _ r.1 in
      in_right (filter (is_own before.kf) before.kf) (filter (returns_in s before big es) big.kf) l
      (in_filter (returns_in s before big es) big.kf l (within l r.0)
      (and_from _ _ (all_more (stays_in s before later es) (stays_in s before big es) (stays_more before es) l.arguments q.0)
      (not_from_false _ (false_from_ne_true _ (λ t. true≢false (sym
      (any_more (λ e. may_fire s before e && denied_by s big.kf l.relation l.arguments (not l.positive) e.target) (λ e. may_fire s before e && denied_by s later.kf l.relation l.arguments (not l.positive) e.target) es
      (λ e k h. let d = each_in (IsDecided before after) es e decided k in let z = and_parts (may_fire s before e) _ h in and_from _ _ z.0 (denied_back l.relation l.arguments (not l.positive) e.target d.made d.makes z.1)) t)
      ∙ not-true _ q.1)))))))
      (in_appended (filter (is_own before.kf) before.kf) (filter (returns_in s before later es) later.kf) l i)

one_normal : (kf : List Literal) (t : Term) → is_some (as_object t) ≡ true → normal kf t ≡ t
one_normal kf t a = let e : normal kf t ∷ [] ≡ t ∷ [] = objects_normal kf (t ∷ []) (a, tt) in cc

-- groups and regions at objects are in normal form
pub group_at_objects : (kf : List Literal) (g : List Literal) → Each IsOfObjects g → in_sequence g ≡ g → normal_group kf g ≡ g
group_at_objects kf g a e = ap in_sequence (all_normal g a) ∙ e
  where
    all_normal : (ms : List Literal) → Each IsOfObjects ms → map (normal_literal kf) ms ≡ ms
    all_normal [] a = refl
    all_normal (m ∷ ms) a = λ j. literal_normal kf m a.0 j ∷ all_normal ms a.1 j

pub entry_at_objects : (kf : List Literal) (r : Entry) → AreObjects (entry_terms r) → set_of atom_cmp r.listed ≡ r.listed → normal_entry kf r ≡ r
entry_at_objects kf r o l =
    let ss = slots r.pattern.slots (each_front (λ t. is_some (as_object t) ≡ true) (fixed_terms r.pattern.slots) _ o) in
    let made = atoms r.listed (each_back (λ t. is_some (as_object t) ≡ true) (fixed_terms r.pattern.slots) _ o) in
    λ k. record { pattern = record { predicate = r.pattern.predicate; slots = ss k }; listed = (ap (set_of atom_cmp) made ∙ l) k }
  where
    slots : (ss : List (Option Term)) → AreObjects (fixed_terms ss) → map (option_map (normal kf)) ss ≡ ss
    slots [] a = refl
    slots (None ∷ ss) a = ap (λ (us : List (Option Term)). None ∷ us) (slots ss a)
    slots (Some t ∷ ss) a = λ k. Some (one_normal kf t a.0 k) ∷ slots ss a.1 k

    atoms : (xs : List Atom) → AreObjects (flat_map (λ (a : Atom). a.arguments) xs) → map (normal_atom kf) xs ≡ xs
    atoms [] a = refl
    atoms (x ∷ xs) a = λ k.
        record { predicate = x.predicate; arguments = objects_normal kf x.arguments (each_front (λ t. is_some (as_object t) ≡ true) x.arguments _ a) k }
        ∷ atoms xs (each_back (λ t. is_some (as_object t) ≡ true) x.arguments _ a) k

-- ---- within a closed family nothing clashes

module _ (p : Problem) (inhabited : HasValues p.signature) where
  quiet_below : (d e : Five) → Within d.kf e.kf → d.kx ≡ e.kx → d.lcw ≡ e.lcw → IsSaturated p.signature e → first_clash p.signature e ≡ None → is_some (first_clash p.signature d) ≡ false
  unfolding first_clash
  quiet_below d e w g r sat fine =
      ap is_some (nothing_found (λ l. holds p.signature d (negated l)) d.kf
      (λ l i h. not_denied p.signature e inhabited sat fine l (w l i) (holds_grows p.signature e inhabited sat fine d w g r (negated l) h)))

  pub quiet_within : (d : Five) (xs : List (Instance × Five)) (e : Five) (ys : List (Instance × Five)) → WithinAlong d xs e ys → ClosedAlong p e ys → (is_some (first_clash p.signature d) || list_any (λ (x : Instance × Five). is_some (first_clash p.signature x.1)) xs) ≡ false
  quiet_within d [] e [] w c = ap (λ b. b || false) (quiet_below d e w.0 w.1 w.2 c.0 c.1)
  quiet_within d (x ∷ xs) e (y ∷ ys) w c =
      ap (λ b. b || (is_some (first_clash p.signature x.1) || list_any (λ (x : Instance × Five). is_some (first_clash p.signature x.1)) xs)) (quiet_below d e w.0.0 w.0.1 w.0.2 c.0.0 c.0.1) ∙ quiet_within x.1 xs y.1 ys w.2 c.3
  quiet_within d [] e (y ∷ ys) w c = absurd w
  quiet_within d (x ∷ xs) e [] w c = absurd w

  pub first_closed : (e : Five) (ys : List (Instance × Five)) → ClosedAlong p e ys → IsSaturated p.signature e × (first_clash p.signature e ≡ None)
  first_closed e [] c = c
  first_closed e (y ∷ ys) c = c.0

  -- ---- the two histories

  module _ (i : Instance) (before after : Five) (start : IsStart p i before after) where
    given_of : (moment next later : Five) → Follows p i before after moment next → Within next.kf later.kf → next.kx ≡ later.kx → next.lcw ≡ later.lcw → IsSaturated p.signature later → first_clash p.signature later ≡ None → IsGiven p.signature before after later moment (effects_by p before i)
    given_of moment next later f w g r sat fine = record {
      inhabited = start.inhabited;
      first_saturated = start.saturated;
      first_fine = start.fine;
      saturated = sat;
      fine = fine;
      grown = λ l j. w l (f.grown l j);
      decided = start.decided;
      kept = start.kept;
      lasting = start.lasting;
      objects = start.objects;
      own_groups = f.own_groups;
      own_regions = f.own_regions;
      groups = λ c a b. subst (IsIn c) g (f.groups c a b);
      regions = λ c a. subst (IsIn c) r (f.regions c a);
    }

    module _ (moment next : Five) (rest : List (Instance × Five)) (f : Follows p i before after moment next) (n m : ℕ) where
      abbrev whole : History
      whole = record { start = moment; steps = (i, next) ∷ rest }

      abbrev short : History
      short = record { start = next; steps = rest }

      abbrev end : History
      end = settle_rounds p n whole

      abbrev end' : History
      end' = settle_rounds p m short

      abbrev big : History
      big = record { start = record moment { kf = known_then p.signature before end'.start (effects_by p before i) }; steps = (i, end'.start) ∷ end'.steps }

      module _ (fixed : settle_round p end' ≡ end') (quiet : clashes p.signature end' ≡ false) where
        short_closed : ClosedAlong p end'.start end'.steps
        short_closed = end_closed p end' fixed quiet

        short_had : WithinAlong next rest end'.start end'.steps
        short_had = rounds_have_start p short m

        in_big : WithinAlong end.start end.steps big.start big.steps
        in_big =
            let w = first_within next rest end'.start end'.steps short_had in
            let c = first_closed end'.start end'.steps short_closed in
            let g = given_of moment next end'.start f w.0 w.1 w.2 c.0 c.1 in
            settled_least p inhabited n whole big
            ((f.bounded end'.start w.0 c.0 c.1, refl, refl), refl, short_had) (
              (saturated_before p.signature before after end'.start moment (effects_by p before i) g, no_clash p.signature before after end'.start moment (effects_by p before i) g),
              onward_in p.signature before after end'.start moment (effects_of p i) g start.written,
              backward_in p.signature before after end'.start moment (effects_of p i) g start.written,
              short_closed,
            )

        big_closed : ClosedAlong p big.start big.steps
        big_closed =
            let w = first_within next rest end'.start end'.steps short_had in
            let c = first_closed end'.start end'.steps short_closed in
            let g = given_of moment next end'.start f w.0 w.1 w.2 c.0 c.1 in (
              (saturated_before p.signature before after end'.start moment (effects_by p before i) g, no_clash p.signature before after end'.start moment (effects_by p before i) g),
              onward_in p.signature before after end'.start moment (effects_of p i) g start.written,
              backward_in p.signature before after end'.start moment (effects_of p i) g start.written,
              short_closed,
            )

        pub whole_quiet : clashes p.signature end ≡ false
        whole_quiet = quiet_within end.start end.steps big.start big.steps in_big big_closed

      -- the moments behind the first
      abbrev Behind : Five → List (Instance × Five) → Type 0
      Behind e ys = (y : Instance × Five) × (zs : List (Instance × Five)) × (ys ≡ y ∷ zs) × (i ≡ y.0) × WithinAlong next rest y.1 zs × ClosedAlong p y.1 zs

      behind : (e : Five) (ys : List (Instance × Five)) → WithinAlong moment ((i, next) ∷ rest) e ys → ClosedAlong p e ys → Behind e ys
      behind e (y ∷ zs) w c = (y, zs, refl, w.1, w.2, c.3)
      behind e [] w c = absurd w

      module _ (fixed : settle_round p end ≡ end) (quiet : clashes p.signature end ≡ false) where
        pub end_behind : Behind end.start end.steps
        end_behind = behind end.start end.steps (rounds_have_start p whole n) (end_closed p end fixed quiet)

        in_end : WithinAlong end'.start end'.steps end_behind.0.1 end_behind.1
        in_end = settled_least p inhabited m short (record { start = end_behind.0.1; steps = end_behind.1 }) end_behind.4 end_behind.5

        pub short_quiet : clashes p.signature end' ≡ false
        short_quiet = quiet_within end'.start end'.steps end_behind.0.1 end_behind.1 in_end end_behind.5

      -- both end in a clash, or neither does
      pub same_clash : settle_round p end ≡ end → settle_round p end' ≡ end' → clashes p.signature end ≡ clashes p.signature end'
      same_clash e e' =
          ⊎_elim
          (λ t. ⊎_elim (λ t'. t ∙ sym t') (λ q'. absurd (true≢false (sym t ∙ whole_quiet e' q'))) (cases_Bool (clashes p.signature end')))
          (λ q. q ∙ sym (short_quiet e q))
          (cases_Bool (clashes p.signature end))

      -- and then what is behind the first moment of the one is the other
      module _ (ordered : AreOrdered moment ((i, next) ∷ rest)) (fixed : settle_round p end ≡ end) (quiet : clashes p.signature end ≡ false) (fixed' : settle_round p end' ≡ end') where
        quiet' : clashes p.signature end' ≡ false
        quiet' = short_quiet fixed quiet

        b : Behind end.start end.steps
        b = end_behind fixed quiet

        end_is : end ≡ record { start = end.start; steps = (i, b.0.1) ∷ b.1 }
        end_is = λ j. record { start = end.start; steps = (b.2 ∙ (λ k. (sym b.3 k, b.0.1) ∷ b.1)) j }

        back_again : WithinAlong b.0.1 b.1 end'.start end'.steps
        back_again = (subst (λ ys. WithinAlong end.start ys big.start big.steps) b.2 (in_big fixed' quiet')).2

        meet : (b.0.1 ≡ end'.start) × (b.1 ≡ end'.steps)
        unfolding b end_behind
        meet =
            let o = rounds_ordered p n whole ordered in
            let o' = rounds_ordered p m short ordered.1 in
            let g = rounds_forget p n whole in
            let g' = rounds_forget p m short in
            let q : forget_steps (b.0 ∷ b.1) ≡ forget_steps ((i, next) ∷ rest) = ap forget_steps (sym b.2) ∙ g.1 in
            let behind_ordered : Each (λ (x : Instance × Five). IsOrdered literal_cmp x.1.kf) (b.0 ∷ b.1) = subst (Each (λ (x : Instance × Five). IsOrdered literal_cmp x.1.kf)) b.2 o.1 in
            along_same b.0.1 b.1 end'.start end'.steps back_again (in_end fixed quiet) behind_ordered o'
            (ap (head_five (forget next)) q ∙ sym g'.0) (ap tail_steps q ∙ sym g'.1)

        pub ends_meet : end ≡ record { start = end.start; steps = (i, end'.start) ∷ end'.steps }
        ends_meet = end_is ∙ (λ j. record { start = end.start; steps = (i, meet.0 j) ∷ meet.1 j })

        pub ends_follow : Follows p i before after end.start end'.start
        ends_follow =
            let had = first_within moment ((i, next) ∷ rest) end.start end.steps (rounds_have_start p whole n) in
            let had' = first_within next rest end'.start end'.steps (rounds_have_start p short m) in
            let inside = first_within end.start end.steps big.start big.steps (in_big fixed' quiet') in
            record {
              has = λ l j. had.0 l (f.has l j);
              bounded = λ later w sat fine l j. known_then_grows p.signature end'.start later inhabited w sat fine before after (effects_by p before i) start.decided l (inside.0 l j);
              grown = λ l j. had'.0 l (f.grown l j);
              own_groups = λ c j. f.own_groups c (subst (IsIn c) (sym had.1) j);
              own_regions = λ c j. f.own_regions c (subst (IsIn c) (sym had.2) j);
              groups = λ c k j. subst (IsIn c) had'.1 (f.groups c k j);
              regions = λ c j. subst (IsIn c) had'.2 (f.regions c j);
            }

    -- ---- with the other sets in normal form

    group_normal : (kf : List Literal) (g : List Literal) → IsIn g before.kx → normal_group kf g ≡ g
    group_normal kf g j = group_at_objects kf g (each_in (LastsAsGroup before after (effects_by p before i)) before.kx g start.lasting j).0 (each_in (λ g. in_sequence g ≡ g) before.kx g start.sequenced j)

    entry_normal : (kf : List Literal) (r : Entry) → IsIn r before.lcw → normal_entry kf r ≡ r
    entry_normal kf r j = entry_at_objects kf r (each_in (λ r. AreObjects (entry_terms r)) before.lcw r start.objects j) (each_in (λ (r : Entry). set_of atom_cmp r.listed ≡ r.listed) before.lcw r start.listed j)

    pub first_tidied : (moment next : Five) → Follows p i before after moment next → Follows p i before after (tidied moment) next
    unfolding tidied
    first_tidied moment next f = record {
      has = f.has;
      bounded = f.bounded;
      grown = f.grown;
      own_groups = λ c j.
          let r = in_mapped (normal_group moment.kf) moment.kx c (in_set_of conj_cmp_total conj_cmp_tells (map (normal_group moment.kf) moment.kx) c j) in
          let o = f.own_groups r.0 r.1 in subst (λ x. IsIn x before.kx) (sym (group_normal moment.kf r.0 o) ∙ r.2) o;
      own_regions = λ c j.
          let r = in_mapped (normal_entry moment.kf) moment.lcw c (in_set_of entry_cmp_total entry_cmp_tells (map (normal_entry moment.kf) moment.lcw) c j) in
          let o = f.own_regions r.0 r.1 in subst (λ x. IsIn x before.lcw) (sym (entry_normal moment.kf r.0 o) ∙ r.2) o;
      groups = f.groups;
      regions = f.regions;
    }

    pub second_tidied : (moment next : Five) → Follows p i before after moment next → Follows p i before after moment (tidied next)
    unfolding tidied
    second_tidied moment next f = record {
      has = f.has;
      bounded = f.bounded;
      grown = f.grown;
      own_groups = f.own_groups;
      own_regions = f.own_regions;
      groups = λ c k j. set_of_in conj_cmp_total conj_cmp_tells (map (normal_group next.kf) next.kx) c (subst (λ x. IsIn x (map (normal_group next.kf) next.kx)) (group_normal next.kf c k) (in_map (normal_group next.kf) next.kx c (f.groups c k j)));
      regions = λ c j. set_of_in entry_cmp_total entry_cmp_tells (map (normal_entry next.kf) next.lcw) c (subst (λ x. IsIn x (map (normal_entry next.kf) next.lcw)) (entry_normal next.kf c j) (in_map (normal_entry next.kf) next.lcw c (f.regions c j)));
    }

    -- with more known at the second moment
    pub second_grows : (moment next more : Five) → Follows p i before after moment next → Within next.kf more.kf → next.kx ≡ more.kx → next.lcw ≡ more.lcw → Follows p i before after moment more
    second_grows moment next more f w g r = record {
      has = f.has;
      bounded = λ later v sat fine. f.bounded later (λ l j. v l (w l j)) sat fine;
      grown = λ l j. w l (f.grown l j);
      own_groups = f.own_groups;
      own_regions = f.own_regions;
      groups = λ c k j. subst (IsIn c) g (f.groups c k j);
      regions = λ c j. subst (IsIn c) r (f.regions c j);
    }

    -- the two moments of the step
    pub step_follows : Within before.lcw after.lcw → Follows p i before after before after
    step_follows regions = record {
      has = λ l j. j;
      bounded = λ later w sat fine. first_known p.signature before after later (effects_by p before i) start.kept w;
      grown = λ l j. j;
      own_groups = λ c j. j;
      own_regions = λ c j. j;
      groups = λ c k j. j;
      regions = regions;
    }
