-- Histories that are each other's images settle to such histories, or both clash.
use Rattle.std.proofs.Common.{◌≡◌, ◌⊎◌, ℕ, Bool, true, false, cond, List, [], ◌∷◌, map, None, refl, sym, ap, ◌∙◌, subst, inr, inl, ⊎_elim, true≢false}
use Rattle.pks_terms.specs.Sets.{Each, IsIn, IsOrdered}
use Rattle.pks_terms.specs.Syntax.{Literal}
use Rattle.pks_terms.specs.Orders.{literal_cmp}
use Rattle.pks_terms.specs.Signatures.{Signature, HasValues}
use Rattle.pks_terms.specs.Databases.{Five}
use Rattle.pks_terms.specs.Closure.{first_clash, tidied}
use Rattle.pks_terms.specs.Actions.{Instance}
use Rattle.pks_terms.specs.Problems.{Problem}
use Rattle.pks_terms.specs.Moments.{IsInOrder, AreInOrder, IsMomentOf, AreMomentsOf}
use Rattle.pks_terms.specs.Saturated.{Within, IsSaturated, WithinAlong, ClosedAlong}
use Rattle.pks_terms.specs.Settling.{History, settle_round, settle_rounds, State, At, Stopped, clashes, tidied_history, Settles}
use Rattle.pks_terms.specs.Handed.{IsStepOf}
use Rattle.pks_terms.specs.Valid.{IsValid}
use Rattle.pks_terms.proofs.ListLaws.{each_in, each_of, each_weaker, each_unmapped, in_mapped}
use Rattle.pks_laws.proofs.SidesInOrder.{settled_ordered}
use Rattle.pks_laws.proofs.SettledEnd.{rounds_have_start, end_closed}
use Rattle.pks_laws_forget.proofs.Ends.{AreOrdered, forget, forget_steps, head_five, tail_steps, first_within, first_closed, rounds_ordered, rounds_forget}
use Rattle.pks_laws_forget.proofs.Total.{settling_is_total}
use Rattle.pks_laws_symmetry.specs.Trivial.{is_trivial}
use Rattle.pks_laws_symmetry.specs.Renamed.{renamed_literal, renamed_instance, GoesTo, AreImages, AreImageSteps, AreImagesAlong}
use Rattle.pks_laws_symmetry.specs.Fixed.{IsSymmetry}
use Rattle.pks_laws_symmetry.proofs.Mirrors.{Mirror, IsNeat}
use Rattle.pks_laws_symmetry.proofs.Images.{literal_back, instance_back}
use Rattle.pks_laws_symmetry.proofs.Reading.{tidied_image}
use Rattle.pks_laws_symmetry.proofs.Neat.{saturated_one, moment_neat}
use Rattle.pks_laws_symmetry.proofs.Families.{symmetry_turned, Meets, Steps, ComesFrom, end_quiet, end_known}

-- both are stopped, or both are histories in order that are each other's images
abbrev pub StateImage : (ℕ → ℕ) → (ℕ → ℕ) → State → State → Type 0
StateImage f g (At h) (At k) = AreImagesAlong f g h k × AreOrdered h.start h.steps × AreOrdered k.start k.steps
StateImage f g Stopped Stopped = Unit {0}
StateImage f g (At h) Stopped = ⊥
StateImage f g Stopped (At k) = ⊥

-- ---- rows of four moments: of both starts, and of both ends

record Row : Type 0 where
  here : Instance
  there : Instance
  from : Five
  end : Five
  to : Five
  other : Five

abbrev froms : List Row → List (Instance × Five)
froms zs = map (λ (z : Row). (z.here, z.from)) zs

abbrev ends : List Row → List (Instance × Five)
ends zs = map (λ (z : Row). (z.here, z.end)) zs

abbrev tos : List Row → List (Instance × Five)
tos zs = map (λ (z : Row). (z.there, z.to)) zs

abbrev others : List Row → List (Instance × Five)
others zs = map (λ (z : Row). (z.there, z.other)) zs

module _ (f g : ℕ → ℕ) where
  record Fits (z : Row) : Type 0 where
    images : AreImages f g z.from z.to
    has : Within z.from.kf z.end.kf
    same : forget z.end ≡ forget z.from
    had : Within z.to.kf z.other.kf
    alike : forget z.other ≡ forget z.to

  record Rows (xs us ys vs : List (Instance × Five)) : Type 0 where
    rows : List Row
    fit : Each (λ z. Fits z × (renamed_instance f z.here ≡ z.there)) rows
    first : xs ≡ froms rows
    second : us ≡ ends rows
    third : ys ≡ tos rows
    fourth : vs ≡ others rows

  rows_of : (d r e q : Five) (xs us ys vs : List (Instance × Five)) → AreImageSteps f g xs ys → WithinAlong d xs r us → forget_steps us ≡ forget_steps xs → WithinAlong e ys q vs → forget_steps vs ≡ forget_steps ys → Rows xs us ys vs
  rows_of d r e q [] [] [] [] a w s k t = record { rows = []; fit = tt; first = refl; second = refl; third = refl; fourth = refl }
  rows_of d r e q (x ∷ xs) (u ∷ us) (y ∷ ys) (v ∷ vs) a w s k t =
      let rest = rows_of x.1 u.1 y.1 v.1 xs us ys vs a.2 w.2 (ap tail_steps s) k.2 (ap tail_steps t) in
      record {
        rows = record { here = x.0; there = y.0; from = x.1; end = u.1; to = y.1; other = v.1 } ∷ rest.rows;
        fit = (
          (
            record { images = a.1; has = (first_within x.1 xs u.1 us w.2).0; same = ap (head_five d) s; had = (first_within y.1 ys v.1 vs k.2).0; alike = ap (head_five d) t },
            a.0,
          ),
          rest.fit,
        );
        first = λ i. x ∷ rest.first i;
        second = λ i. (sym w.1 i, u.1) ∷ rest.second i;
        third = λ i. y ∷ rest.third i;
        fourth = λ i. (sym k.1 i, v.1) ∷ rest.fourth i;
      }
  rows_of d r e q [] (u ∷ us) ys vs a w s k t = absurd w
  rows_of d r e q (x ∷ xs) [] ys vs a w s k t = absurd w
  rows_of d r e q [] [] (y ∷ ys) vs a w s k t = absurd a
  rows_of d r e q (x ∷ xs) (u ∷ us) [] vs a w s k t = absurd a
  rows_of d r e q [] [] [] (v ∷ vs) a w s k t = absurd k
  rows_of d r e q (x ∷ xs) (u ∷ us) (y ∷ ys) [] a w s k t = absurd k

  -- what the one end has goes to the other
  goes : ((d : ℕ) → f (g d) ≡ d) → (x r y q : Five) → GoesTo f x y → forget r ≡ forget x → forget q ≡ forget y → Within y.kf q.kf → Each IsInOrder q.kf
      → ((l : Literal) → IsIn l r.kf → IsIn l x.kf ⊎ (IsIn l (map (renamed_literal g) q.kf) ⊎ (is_trivial l ≡ true))) → GoesTo f r q
  goes back x r y q m same alike had ordered from = record {
    known = λ l i. ⊎_elim
        (λ k. ⊎_elim (λ t. inl t) (λ n. inr (had (renamed_literal f l) n)) (m.known l k))
        (λ k. ⊎_elim
        (λ n. let w = in_mapped (renamed_literal g) q.kf l n in inr (subst (λ k. IsIn k q.kf) (sym (literal_back g f back w.0 (each_in IsInOrder q.kf w.0 ordered w.1)) ∙ ap (renamed_literal f) w.2) w.1))
        (λ t. inl t) k) (from l i);
    whether = λ c i. subst (IsIn _) (sym (ap (λ (d : Five). d.kw) alike)) (m.whether c (subst (IsIn c) (ap (λ (d : Five). d.kw) same) i));
    values = λ c i. subst (IsIn _) (sym (ap (λ (d : Five). d.kv) alike)) (m.values c (subst (IsIn c) (ap (λ (d : Five). d.kv) same) i));
    groups = λ c i. subst (IsIn _) (sym (ap (λ (d : Five). d.kx) alike)) (m.groups c (subst (IsIn c) (ap (λ (d : Five). d.kx) same) i));
    regions = λ c i. subst (IsIn _) (sym (ap (λ (d : Five). d.lcw) alike)) (m.regions c (subst (IsIn c) (ap (λ (d : Five). d.lcw) same) i));
  }

-- ---- ends

module _ (p : Problem) where
  abbrev IsFine : Five → Type 0
  IsFine d = IsSaturated p.signature d × (first_clash p.signature d ≡ None)

  all_fine : HasValues p.signature → (d : Five) (xs : List (Instance × Five)) → ClosedAlong p d xs → Each (λ x. IsFine x.1) xs
  all_fine inhabited d [] c = tt
  all_fine inhabited d (x ∷ xs) c = (first_closed p inhabited x.1 xs c.3, all_fine inhabited x.1 xs c.3)

  tidied_steps_ordered : (xs : List (Instance × Five)) → Each (λ x. IsOrdered literal_cmp x.1.kf) xs → Each (λ (x : Instance × Five). IsOrdered literal_cmp x.1.kf) (map (λ (x : Instance × Five). (x.0, tidied x.1)) xs)
  unfolding tidied
  tidied_steps_ordered [] o = tt
  tidied_steps_ordered (x ∷ xs) o = (o.0, tidied_steps_ordered xs o.1)

  tidied_ordered : (h : History) → AreOrdered h.start h.steps → AreOrdered (tidied_history h).start (tidied_history h).steps
  unfolding tidied
  tidied_ordered h o = (o.0, tidied_steps_ordered h.steps o.1)

  known_ordered : (d : Five) → AreInOrder (tidied d) → Each IsInOrder d.kf
  unfolding tidied
  known_ordered d m = m.known

  -- at an end without a clash the sides of equations stand in order
  end_ordered : (h : History) (n : ℕ) → AreMomentsOf p h → settle_round p (settle_rounds p n h) ≡ settle_rounds p n h → clashes p.signature (settle_rounds p n h) ≡ false → Each IsInOrder (settle_rounds p n h).start.kf × Each (λ x. Each IsInOrder x.1.kf) (settle_rounds p n h).steps
  end_ordered h n m fixed quiet =
      let end : History = settle_rounds p n h in
      let all = settled_ordered p h (tidied_history end) (record { start = m.start.ordered; steps = each_weaker (λ (x : Instance × Five). IsStepOf p x.0 × IsMomentOf p.signature x.1) (λ (x : Instance × Five). AreInOrder x.1) (λ x k. k.1.ordered) h.steps m.steps })
      (record { count = n; last = fixed; gives = ap (λ b. cond b Stopped (At (tidied_history end))) (sym quiet) }) in
      (known_ordered end.start all.start, each_weaker (λ (x : Instance × Five). AreInOrder (tidied x.1)) (λ (x : Instance × Five). Each IsInOrder x.1.kf) (λ x k. known_ordered x.1 k) end.steps (each_unmapped (λ (x : Instance × Five). AreInOrder x.1) (λ (x : Instance × Five). (x.0, tidied x.1)) end.steps all.steps))

  steps_neat : (xs : List (Instance × Five)) → Each (λ x. IsStepOf p x.0 × IsMomentOf p.signature x.1) xs → Each (λ x. IsOrdered literal_cmp x.1.kf) xs → Each (λ x. IsStepOf p x.0 × IsNeat x.1) xs
  steps_neat [] m o = tt
  steps_neat (x ∷ xs) m o = ((m.0.0, moment_neat p.signature x.1 m.0.1 o.0), steps_neat xs m.1 o.1)

-- ---- both ends

module _ (p : Problem) (v : IsValid p) (f g : ℕ → ℕ) (sy : IsSymmetry p f g) (h k : History) (images : AreImagesAlong f g h k) (moments_h : AreMomentsOf p h) (moments_k : AreMomentsOf p k) (sorted_h : AreOrdered h.start h.steps) (sorted_k : AreOrdered k.start k.steps)
    (n m : ℕ) (last_h : settle_round p (settle_rounds p n h) ≡ settle_rounds p n h) (last_k : settle_round p (settle_rounds p m k) ≡ settle_rounds p m k) where
  abbrev S : Signature
  S = p.signature

  abbrev back : IsSymmetry p g f
  back = symmetry_turned p f g sy

  abbrev end_h : History
  end_h = settle_rounds p n h

  abbrev end_k : History
  end_k = settle_rounds p m k

  had_h : WithinAlong h.start h.steps end_h.start end_h.steps
  had_h = rounds_have_start p h n

  had_k : WithinAlong k.start k.steps end_k.start end_k.steps
  had_k = rounds_have_start p k m

  all : Rows f g h.steps end_h.steps k.steps end_k.steps
  all = rows_of f g h.start end_h.start k.start end_k.start h.steps end_h.steps k.steps end_k.steps images.steps had_h (rounds_forget p n h).1 had_k (rounds_forget p m k).1

  -- the row of the first moments; its instances stand for nothing
  abbrev head : Row
  head = let none : Instance = record { action = 0; arguments = [] } in record { here = none; there = none; from = h.start; end = end_h.start; to = k.start; other = end_k.start }

  head_fits : Fits f g head
  head_fits = record {
    images = images.start;
    has = (first_within h.start h.steps end_h.start end_h.steps had_h).0;
    same = (rounds_forget p n h).0;
    had = (first_within k.start k.steps end_k.start end_k.steps had_k).0;
    alike = (rounds_forget p m k).0;
  }

  abbrev rest : List Row
  rest = all.rows

  -- what holds of each step holds of each row
  along : (P : Instance × Five → Type 0) (c : Row → Instance × Five) (xs : List (Instance × Five)) → xs ≡ map c rest → Each P xs → Each (λ z. P (c z)) rest
  along P c xs e w = each_unmapped P c rest (subst (Each P) e w)

  both : (P Q : Row → Type 0) (zs : List Row) → Each P zs → Each Q zs → Each (λ z. P z × Q z) zs
  both P Q [] w w' = tt
  both P Q (z ∷ zs) w w' = ((w.0, w'.0), both P Q zs w.1 w'.1)

  neat_h : Each (λ z. IsStepOf p z.here × IsNeat z.from) rest
  neat_h = along (λ x. IsStepOf p x.0 × IsNeat x.1) (λ (z : Row). (z.here, z.from)) h.steps all.first (steps_neat p h.steps moments_h.steps sorted_h.1)

  neat_k : Each (λ z. IsStepOf p z.there × IsNeat z.to) rest
  neat_k = along (λ x. IsStepOf p x.0 × IsNeat x.1) (λ (z : Row). (z.there, z.to)) k.steps all.third (steps_neat p k.steps moments_k.steps sorted_k.1)

  history_h : h ≡ record { start = h.start; steps = froms rest }
  history_h = λ i. record { start = h.start; steps = all.first i }

  history_k : k ≡ record { start = k.start; steps = tos rest }
  history_k = λ i. record { start = k.start; steps = all.third i }

  history_end_h : end_h ≡ record { start = end_h.start; steps = ends rest }
  history_end_h = λ i. record { start = end_h.start; steps = all.second i }

  history_end_k : end_k ≡ record { start = end_k.start; steps = others rest }
  history_end_k = λ i. record { start = end_k.start; steps = all.fourth i }

  -- ---- from the end at h to the end at k

  module _ (quiet : clashes S end_h ≡ false) where
    ordered_h : Each (λ z. Each IsInOrder z.end.kf) (head ∷ rest)
    ordered_h = let e = end_ordered p h n moments_h last_h quiet in (e.0, along (λ x. Each IsInOrder x.1.kf) (λ (z : Row). (z.here, z.end)) end_h.steps all.second e.1)

    abbrev Meets_h : Row → Type 0
    Meets_h = Meets p v f g sy (λ z. z.here) (λ z. z.there) (λ z. z.from) (λ z. z.end) (λ z. z.to)

    meets_h : Each Meets_h (head ∷ rest)
    meets_h =
        let one : (z : Row) → Fits f g z → IsNeat z.to → Each IsInOrder z.end.kf → Meets_h z = λ z w t e. record { images = w.images; has = w.has; same = w.same; neat = t; ordered = e } in (
          one head head_fits (moment_neat S k.start moments_k.start sorted_k.0) ordered_h.0,
          each_of Meets_h rest (λ z i. one z (each_in (λ z. Fits f g z × (renamed_instance f z.here ≡ z.there)) rest z all.fit i).0 (each_in (λ z. IsStepOf p z.there × IsNeat z.to) rest z neat_k i).1 (each_in (λ z. Each IsInOrder z.end.kf) rest z ordered_h.1 i)),
        )

    steps_h : Each (Steps p v f g sy (λ z. z.here) (λ z. z.there) (λ z. z.from) (λ z. z.end) (λ z. z.to)) rest
    steps_h =
        each_of (Steps p v f g sy (λ z. z.here) (λ z. z.there) (λ z. z.from) (λ z. z.end) (λ z. z.to)) rest
        (λ z i. (
          ap (renamed_instance g) (sym (each_in (λ z. Fits f g z × (renamed_instance f z.here ≡ z.there)) rest z all.fit i).1) ∙ instance_back f g sy.renaming.back z.here,
          (each_in (λ z. IsStepOf p z.there × IsNeat z.to) rest z neat_k i).0,
        ))

    closed_h : ClosedAlong p end_h.start (ends rest)
    closed_h = subst (ClosedAlong p end_h.start) all.second (end_closed p end_h last_h quiet)

    quiet_there : clashes S end_k ≡ false
    quiet_there = end_quiet p v f g sy (λ z. z.here) (λ z. z.there) (λ z. z.from) (λ z. z.end) (λ z. z.to) head rest meets_h steps_h closed_h m k history_k

    known_there : Each (λ z. (l : Literal) → IsIn l z.other.kf → ComesFrom p v f g sy (λ z. z.here) (λ z. z.there) (λ z. z.from) (λ z. z.end) (λ z. z.to) z l) (head ∷ rest)
    known_there = end_known p v f g sy (λ z. z.here) (λ z. z.there) (λ z. z.from) (λ z. z.end) (λ z. z.to) head rest meets_h steps_h closed_h m k history_k (λ z. z.other) history_end_k

  -- ---- from the end at k to the end at h

  module _ (quiet : clashes S end_k ≡ false) where
    ordered_k : Each (λ z. Each IsInOrder z.other.kf) (head ∷ rest)
    ordered_k = let e = end_ordered p k m moments_k last_k quiet in (e.0, along (λ x. Each IsInOrder x.1.kf) (λ (z : Row). (z.there, z.other)) end_k.steps all.fourth e.1)

    abbrev Meets_k : Row → Type 0
    Meets_k = Meets p v g f back (λ z. z.there) (λ z. z.here) (λ z. z.to) (λ z. z.other) (λ z. z.from)

    meets_k : Each Meets_k (head ∷ rest)
    meets_k =
        let one : (z : Row) → Fits f g z → IsNeat z.from → Each IsInOrder z.other.kf → Meets_k z = λ z w t e. record { images = record { there = w.images.back; back = w.images.there }; has = w.had; same = w.alike; neat = t; ordered = e } in (
          one head head_fits (moment_neat S h.start moments_h.start sorted_h.0) ordered_k.0,
          each_of Meets_k rest (λ z i. one z (each_in (λ z. Fits f g z × (renamed_instance f z.here ≡ z.there)) rest z all.fit i).0 (each_in (λ z. IsStepOf p z.here × IsNeat z.from) rest z neat_h i).1 (each_in (λ z. Each IsInOrder z.other.kf) rest z ordered_k.1 i)),
        )

    steps_k : Each (Steps p v g f back (λ z. z.there) (λ z. z.here) (λ z. z.to) (λ z. z.other) (λ z. z.from)) rest
    steps_k =
        each_of (Steps p v g f back (λ z. z.there) (λ z. z.here) (λ z. z.to) (λ z. z.other) (λ z. z.from)) rest
        (λ z i. ((each_in (λ z. Fits f g z × (renamed_instance f z.here ≡ z.there)) rest z all.fit i).1, (each_in (λ z. IsStepOf p z.here × IsNeat z.from) rest z neat_h i).0))

    closed_k : ClosedAlong p end_k.start (others rest)
    closed_k = subst (ClosedAlong p end_k.start) all.fourth (end_closed p end_k last_k quiet)

    quiet_back : clashes S end_h ≡ false
    quiet_back = end_quiet p v g f back (λ z. z.there) (λ z. z.here) (λ z. z.to) (λ z. z.other) (λ z. z.from) head rest meets_k steps_k closed_k n h history_h

    known_back : Each (λ z. (l : Literal) → IsIn l z.end.kf → ComesFrom p v g f back (λ z. z.there) (λ z. z.here) (λ z. z.to) (λ z. z.other) (λ z. z.from) z l) (head ∷ rest)
    known_back = end_known p v g f back (λ z. z.there) (λ z. z.here) (λ z. z.to) (λ z. z.other) (λ z. z.from) head rest meets_k steps_k closed_k n h history_h (λ z. z.end) history_end_h

  -- ---- the ends are images

  module _ (quiet_h : clashes S end_h ≡ false) (quiet_k : clashes S end_k ≡ false) where
    fine_h : Each (λ z. IsFine p z.end) (head ∷ rest)
    fine_h = let c = end_closed p end_h last_h quiet_h in (first_closed p v.signature.values end_h.start end_h.steps c, along (λ x. IsFine p x.1) (λ (z : Row). (z.here, z.end)) end_h.steps all.second (all_fine p v.signature.values end_h.start end_h.steps c))

    fine_k : Each (λ z. IsFine p z.other) (head ∷ rest)
    fine_k = let c = end_closed p end_k last_k quiet_k in (first_closed p v.signature.values end_k.start end_k.steps c, along (λ x. IsFine p x.1) (λ (z : Row). (z.there, z.other)) end_k.steps all.fourth (all_fine p v.signature.values end_k.start end_k.steps c))

    fits : Each (Fits f g) (head ∷ rest)
    fits = (head_fits, each_weaker (λ z. Fits f g z × (renamed_instance f z.here ≡ z.there)) (Fits f g) (λ z w. w.0) rest all.fit)

    mirror : (z : Row) → IsIn z (head ∷ rest) → Mirror S f g z.end z.other
    mirror z i =
        let w = each_in (Fits f g) (head ∷ rest) z fits i in
        let c = each_in (λ z. IsFine p z.end) (head ∷ rest) z fine_h i in
        let e = each_in (λ z. IsFine p z.other) (head ∷ rest) z fine_k i in
        record {
          renaming = sy.renaming;
          images = record {
            there = goes f g sy.renaming.there z.from z.end z.to z.other w.images.there w.same w.alike w.had (each_in (λ z. Each IsInOrder z.other.kf) (head ∷ rest) z (ordered_k quiet_k) i)
                (each_in (λ z. (l : Literal) → IsIn l z.end.kf → ComesFrom p v g f back (λ z. z.there) (λ z. z.here) (λ z. z.to) (λ z. z.other) (λ z. z.from) z l) (head ∷ rest) z (known_back quiet_k) i);
            back = goes g f sy.renaming.back z.to z.other z.from z.end w.images.back w.alike w.same w.has (each_in (λ z. Each IsInOrder z.end.kf) (head ∷ rest) z (ordered_h quiet_h) i)
                (each_in (λ z. (l : Literal) → IsIn l z.other.kf → ComesFrom p v f g sy (λ z. z.here) (λ z. z.there) (λ z. z.from) (λ z. z.end) (λ z. z.to) z l) (head ∷ rest) z (known_there quiet_h) i);
          };
          one = saturated_one S z.end v.signature.values c.0 c.1;
          other = saturated_one S z.other v.signature.values e.0 e.1;
        }

    tidied_rows : (zs : List Row) → Each (λ z. (renamed_instance f z.here ≡ z.there) × Mirror S f g z.end z.other) zs → AreImageSteps f g (map (λ (x : Instance × Five). (x.0, tidied x.1)) (ends zs)) (map (λ (x : Instance × Five). (x.0, tidied x.1)) (others zs))
    tidied_rows [] w = tt
    tidied_rows (z ∷ zs) w = (w.0.0, tidied_image S f g z.end z.other w.0.1, tidied_rows zs w.1)

    ends_images : AreImagesAlong f g (tidied_history end_h) (tidied_history end_k)
    ends_images =
        let tidy : List (Instance × Five) → List (Instance × Five) = λ xs. map (λ (x : Instance × Five). (x.0, tidied x.1)) xs in
        let rows = tidied_rows rest (each_of (λ z. (renamed_instance f z.here ≡ z.there) × Mirror S f g z.end z.other) rest (λ z i. ((each_in (λ z. Fits f g z × (renamed_instance f z.here ≡ z.there)) rest z all.fit i).1, mirror z (inr i)))) in
        record {
          start = tidied_image S f g end_h.start end_k.start (mirror head (inl refl));
          steps = subst (λ us. AreImageSteps f g (tidy us) (tidy end_k.steps)) (sym all.second) (subst (λ vs. AreImageSteps f g (tidy (ends rest)) (tidy vs)) (sym all.fourth) rows);
        }

  both_end : (b c : Bool) → clashes S end_h ≡ b → clashes S end_k ≡ c → StateImage f g (cond b Stopped (At (tidied_history end_h))) (cond c Stopped (At (tidied_history end_k)))
  both_end true true q q' = tt
  both_end true false q q' = absurd (true≢false (sym q ∙ quiet_back q'))
  both_end false true q q' = absurd (true≢false (sym q' ∙ quiet_there q))
  both_end false false q q' = (ends_images q q', tidied_ordered p end_h (rounds_ordered p n h sorted_h), tidied_ordered p end_k (rounds_ordered p m k sorted_k))

pub settles_image : (p : Problem) (f g : ℕ → ℕ) (h k : History) (x : State) → IsValid p → IsSymmetry p f g → AreImagesAlong f g h k → AreMomentsOf p h → AreMomentsOf p k → AreOrdered h.start h.steps → AreOrdered k.start k.steps → Settles p h x → (y : State) × Settles p k y × StateImage f g x y
settles_image p f g h k x v s a m n o q c =
    let total = settling_is_total p v k n q in
    let end : History = settle_rounds p total.0 k in
    let y : State = cond (clashes p.signature end) Stopped (At (tidied_history end)) in (
      y,
      record { count = total.0; last = total.1; gives = refl },
      subst (λ x. StateImage f g x y) (sym c.gives) (both_end p v f g s h k a m n o q c.count total.0 c.last total.1 (clashes p.signature (settle_rounds p c.count h)) (clashes p.signature end) refl refl),
    )
