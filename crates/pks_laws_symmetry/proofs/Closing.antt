-- Databases that are each other's images close to such databases, or both clash.
use Rattle.std.proofs.Common.{◌≡◌, ◌⊎◌, ◌==◌, ℕ, zero, suc, Bool, true, false, cond, not, find, List, [], ◌∷◌, map, Option, Some, None, option_map, option_and_then, is_some, refl, sym, ap, ◌∙◌, subst, inl, inr, ⊎_elim, true≢false}
use Rattle.std.specs.Option.{option_map_or}
use Rattle.std.proofs.lemmas.Bool.{not-true, eq-eqb, cond-true, and_from}
use Rattle.pks_terms.specs.Sets.{IsIn, added, all_some}
use Rattle.pks_terms.specs.Syntax.{Object, Apply, Inner, Term, object, place, as_object, Relation, Equality, Literal, negated}
use Rattle.pks_terms.specs.Orders.{term_cmp, literal_cmp, number_of, literal, equation}
use Rattle.pks_terms.specs.Totality.{literal_cmp_total}
use Rattle.pks_terms.specs.Signatures.{Signature, HasValues}
use Rattle.pks_terms.specs.Databases.{Five, Told, told, value_if_at, values_at, normal, normal_literal, is_evident, is_closed_off, holds}
use Rattle.pks_terms.specs.Closure.{Outcome, Next, Clash, Closes, first_clash, additions, round, rounds, outcome, tidied}
use Rattle.pks_terms.specs.Saturated.{Within, IsSaturated}
use Rattle.pks_terms.specs.Moments.{IsInOrder}
use Rattle.pks_terms.proofs.ListLaws.{each_in, each_of, each_added, each_map, in_map, in_mapped}
use Rattle.pks_terms.proofs.OrderLaws.{literal_cmp_tells, same_term}
use Rattle.pks_terms.proofs.SetLaws.{ordered_added, in_added, added_in}
use Rattle.pks_laws.proofs.Holding.{same_objects_itself}
use Rattle.pks_laws.proofs.Least.{in_filter_map, value_literal, rounds_within, holds_grows}
use Rattle.pks_laws.proofs.Belonging.{saturated_end}
use Rattle.pks_laws_forget.proofs.Lists.{negated_twice, nothing_found}
use Rattle.pks_laws_forget.proofs.Alike.{found_known, holds_cases, evident_holds, negated_normal, not_denied}
use Rattle.pks_laws_progress.proofs.ClosingEnds.{closing_ends}
use Rattle.pks_laws_symmetry.specs.Trivial.{is_trivial}
use Rattle.pks_laws_symmetry.specs.Renamed.{IsRenaming, renamed_inner, renamed_literal, GoesTo, AreImages}
use Rattle.pks_laws_symmetry.proofs.Trivial.{shape_of, evident_form}
use Rattle.pks_laws_symmetry.proofs.Mirrors.{Mirror, HasOneValue, IsNeat, EndImage}
use Rattle.pks_laws_symmetry.proofs.Images.{image_negated, image_ordered, literal_back, renaming_turned}
use Rattle.pks_laws_symmetry.proofs.Reading.{mirror_turned, holds_image, tidied_image}
use Rattle.pks_laws_symmetry.proofs.Neat.{saturated_one, additions_ordered, rounds_neat}
use Rattle.pks_laws_symmetry.proofs.Adding.{additions_image}

same_truth : (a b : Bool) → (a ≡ true → b ≡ true) → (b ≡ true → a ≡ true) → a ≡ b
same_truth true b f g = sym (f refl)
same_truth false true f g = g refl
same_truth false false f g = refl

-- ---- the negation of a trivial literal isn't evident

module _ (s : Signature) where
  two_objects : (x y : ℕ) (b : Bool) → b ≡ (x == y) → is_evident s Equality (Object x ∷ Object y ∷ []) (not b) ≡ true → ⊥
  two_objects x y true e h = true≢false (e ∙ not-true (x == y) h)
  two_objects x y false e h = true≢false (sym (eq-eqb x y (ap number_of (same_term (Object x) (Object y) h))) ∙ sym e)

  not_evident : (kf : List Literal) (l : Literal) → is_trivial l ≡ true → is_evident s (negated l).relation (map (normal kf) (negated l).arguments) (negated l).positive ≡ true → ⊥
  unfolding normal
  not_evident kf l t h =
      let w = shape_of l.relation l.arguments l.positive t in
      two_objects w.0 w.1 l.positive w.4 (sym (λ i. is_evident s (w.2 i) (map (normal kf) (w.3 i)) (not l.positive)) ∙ h)

  equality_open : (d : Five) (r : Relation) (ts : List Term) (b : Bool) → r ≡ Equality → is_closed_off s d r ts b ≡ true → ⊥
  equality_open d r ts b e h = true≢false (sym h ∙ ap (λ r. is_closed_off s d r ts b) e)

-- ---- they clash alike

module _ (s : Signature) (f g : ℕ → ℕ) (d e : Five) (m : Mirror s f g d e) where
  -- a known literal that isn't trivial, and of which the negation holds
  denied_image : (l : Literal) → IsIn (renamed_literal f l) e.kf → holds s d (negated l) ≡ true → (k : Literal) × IsIn k e.kf × (holds s e (negated k) ≡ true)
  denied_image l i h = (renamed_literal f l, i, ap (holds s e) (sym (image_negated f l)) ∙ holds_image s f g d e m (negated l) ∙ h)

  -- a clash of the ones is a clash of the others
  clash_too : (l : Literal) → IsIn l d.kf → holds s d (negated l) ≡ true → (k : Literal) × IsIn k e.kf × (holds s e (negated k) ≡ true)
  clash_too l i h =
      ⊎_elim
      (λ t. ⊎_elim
      (λ k.
      let c = found_known d.kf (negated l) k in
      let form : normal_literal d.kf l ≡ normal_literal d.kf (negated c.0) =
      ap (normal_literal d.kf) (sym (negated_twice l)) ∙ sym (negated_normal d.kf (negated l)) ∙ ap negated (sym c.2) ∙ negated_normal d.kf c.0 in
      ⊎_elim
      (λ u. absurd (not_evident s d.kf l t (evident_form s d.kf c.0 (negated l) u c.2)))
      (λ j. denied_image c.0 j (evident_holds s d (negated c.0) (evident_form s d.kf l (negated c.0) t form)))
      (m.images.there.known c.0 c.1))
      (λ r. ⊎_elim
      (λ v. absurd (not_evident s d.kf l t v))
      (λ o. absurd (equality_open s d (negated l).relation (negated l).arguments (negated l).positive (shape_of l.relation l.arguments l.positive t).2 o))
      r)
      (holds_cases s d (negated l) h))
      (λ j. denied_image l j h)
      (m.images.there.known l i)

find_in : {X : Type 0} (p : X → Bool) (xs : List X) → is_some (find p xs) ≡ true → (x : X) × IsIn x xs × (p x ≡ true)
find_in p [] h = absurd (true≢false (sym h))
find_in {X} p (x ∷ xs) h =
    elim (p x) as (λ b. p x ≡ b → is_some (cond b (Some x) (find p xs)) ≡ true → (y : X) × IsIn y (x ∷ xs) × (p y ≡ true)) [
      | true ↦ λ q k. (x, inl refl, q)
      | false ↦ λ q k. let r = find_in p xs k in (r.0, inr r.1, r.2)
    ] refl h

in_find : {X : Type 0} (p : X → Bool) (xs : List X) (x : X) → IsIn x xs → p x ≡ true → is_some (find p xs) ≡ true
in_find p [] x i t = absurd i
in_find {X} p (y ∷ ys) x i t =
    elim (p y) as (λ b. p y ≡ b → is_some (cond b (Some y) (find p ys)) ≡ true) [
      | true ↦ λ q. refl
      | false ↦ λ q. ⊎_elim (λ e. absurd (true≢false (sym t ∙ ap p (sym e) ∙ q))) (λ j. in_find p ys x j t) i
    ] refl

clash_found : (s : Signature) (f g : ℕ → ℕ) (d e : Five) → Mirror s f g d e → is_some (first_clash s d) ≡ true → is_some (first_clash s e) ≡ true
unfolding first_clash
clash_found s f g d e m h =
    let c = find_in (λ l. holds s d (negated l)) d.kf h in
    let k = clash_too s f g d e m c.0 c.1 c.2 in
    in_find (λ l. holds s e (negated l)) e.kf k.0 k.1 k.2

-- they clash alike
pub clash_image : (s : Signature) (f g : ℕ → ℕ) (d e : Five) → Mirror s f g d e → is_some (first_clash s d) ≡ is_some (first_clash s e)
clash_image s f g d e m = same_truth (is_some (first_clash s d)) (is_some (first_clash s e)) (clash_found s f g d e m) (clash_found s g f e d (mirror_turned s f g d e m))

none_alike : {X : Type 0} (o q : Option X) → is_some o ≡ is_some q → o ≡ None → q ≡ None
none_alike o None h e = refl
none_alike o (Some x) h e = absurd (true≢false (sym h ∙ ap is_some e))

-- ---- values have images as values

objects_all : (ds : List ℕ) → all_some (map as_object (map (λ d. let t : Inner = Object d in t) ds)) ≡ Some ds
objects_all [] = refl
objects_all (d ∷ ds) = ap (λ o. elim o [ None ↦ None | Some es ↦ Some (d ∷ es) ]) (objects_all ds)

-- an equation of a place and an object gives the value
equation_value : (kf : List Literal) (h : ℕ) (ds : List ℕ) (v : ℕ) → IsIn (equation (place h ds) (object v)) kf → IsIn v (values_at kf h ds)
unfolding values_at told literal term_cmp
equation_value kf h ds v i =
    in_filter_map (λ l. option_and_then (value_if_at h ds) (told l.relation l.arguments l.positive)) kf (equation (place h ds) (object v)) v i
    (ap (λ o. option_and_then (value_if_at h ds) (option_map (λ es. let r : Told = (h, es, v) in r) o)) (objects_all ds) ∙ cond-true _ (Some v) None (and_from _ _ (eq-eqb h h refl) (same_objects_itself ds ds refl)))

objects_map : (f : ℕ → ℕ) (ds : List ℕ) → map (renamed_inner f) (map (λ d. let t : Inner = Object d in t) ds) ≡ map (λ d. let t : Inner = Object d in t) (map f ds)
objects_map f [] = refl
objects_map f (d ∷ ds) = λ i. Object (f d) ∷ objects_map f ds i

value_goes : (f : ℕ → ℕ) (d e : Five) → GoesTo f d e → (h : ℕ) (ds : List ℕ) (v : ℕ) → IsIn v (values_at d.kf h ds) → IsIn (f v) (values_at e.kf h (map f ds))
unfolding renamed_literal
value_goes f d e go h ds v i =
    let l : Literal = record { relation = Equality; arguments = place h ds ∷ object v ∷ []; positive = true } in
    ⊎_elim
    (λ t. absurd (true≢false (sym t)))
    (λ j. equation_value e.kf h (map f ds) (f v) (subst (λ us. IsIn (equation (Apply h us) (object (f v))) e.kf) (objects_map f ds) j))
    (go.known l (value_literal d.kf h ds v i))

-- where each place of the first has one value, so has each of the second
one_value_goes : (f g : ℕ → ℕ) (d e : Five) → ((n : ℕ) → f (g n) ≡ n) → GoesTo g e d → HasOneValue d.kf → HasOneValue e.kf
one_value_goes f g d e there go one h ds v w i j =
    sym (there v) ∙ ap f (one h (map g ds) (g v) (g w) (value_goes g e d go h ds v i) (value_goes g e d go h ds w j)) ∙ there w

-- ---- rounds

keep_others : (s : Signature) (n : ℕ) (d : Five) → ((rounds s n d).kw ≡ d.kw) × ((rounds s n d).kv ≡ d.kv) × ((rounds s n d).kx ≡ d.kx) × ((rounds s n d).lcw ≡ d.lcw)
unfolding round
keep_others s zero d = (refl, refl, refl, refl)
keep_others s (suc n) d = keep_others s n d

-- the databases with other known literals
abbrev with_known : Five → List Literal → Five
with_known d kf = record d { kf = kf }

rounds_grow : (s : Signature) (n : ℕ) (d : Five) → Within d.kf (rounds s n d).kf
unfolding round
rounds_grow s zero d l i = i
rounds_grow s (suc n) d l i = added_in literal_cmp_total literal_cmp_tells (rounds s n d).kf (additions s (rounds s n d)) l (inl (rounds_grow s n d l i))

-- where the rounds of the ones come to an end without a clash, those of the others derive but images of it, and don't clash
module _ (s : Signature) (f g : ℕ → ℕ) (d e : Five) (inhabited : HasValues s) (r : IsRenaming s f g) (a : AreImages f g d e) (n : IsNeat d) (k : IsNeat e)
    (count : ℕ) (last : round s (rounds s count d) ≡ rounds s count d) (fine : first_clash s (rounds s count d) ≡ None) where
  abbrev end : Five
  end = rounds s count d

  abbrev big : Five
  big = with_known e (added literal_cmp e.kf (map (renamed_literal f) end.kf))

  end_neat : IsNeat end
  end_neat = rounds_neat s count d n

  in_big : (l : Literal) → IsIn l big.kf → IsIn l e.kf ⊎ ((m : Literal) × IsIn m end.kf × (renamed_literal f m ≡ l))
  in_big l i = ⊎_elim (λ j. inl j) (λ j. inr (in_mapped (renamed_literal f) end.kf l j)) (in_added literal_cmp_total literal_cmp_tells e.kf (map (renamed_literal f) end.kf) l i)

  big_has : (l : Literal) → IsIn l end.kf → IsIn (renamed_literal f l) big.kf
  big_has l i = added_in literal_cmp_total literal_cmp_tells e.kf (map (renamed_literal f) end.kf) (renamed_literal f l) (inr (in_map (renamed_literal f) end.kf l i))

  big_back : (l : Literal) → IsIn l big.kf → (is_trivial l ≡ true) ⊎ IsIn (renamed_literal g l) end.kf
  big_back l i =
      ⊎_elim
      (λ j. ⊎_elim (λ t. inl t) (λ q. inr (rounds_grow s count d (renamed_literal g l) q)) (a.back.known l j))
      (λ o. inr (subst (λ x. IsIn x end.kf) (sym (literal_back f g r.back o.0 (each_in IsInOrder end.kf o.0 end_neat.known o.1)) ∙ ap (renamed_literal g) o.2) o.1))
      (in_big l i)

  abbrev kept : ((rounds s count d).kw ≡ d.kw) × ((rounds s count d).kv ≡ d.kv) × ((rounds s count d).kx ≡ d.kx) × ((rounds s count d).lcw ≡ d.lcw)
  kept = keep_others s count d

  big_images : AreImages f g end big
  big_images = record {
    there = record {
      known = λ l i. inr (big_has l i);
      whether = λ c i. a.there.whether c (subst (IsIn c) kept.0 i);
      values = λ t i. a.there.values t (subst (IsIn t) kept.1 i);
      groups = λ x i. a.there.groups x (subst (IsIn x) kept.2 i);
      regions = λ x i. a.there.regions x (subst (IsIn x) kept.3 i);
    };
    back = record {
      known = big_back;
      whether = λ c i. subst (IsIn _) (sym kept.0) (a.back.whether c i);
      values = λ t i. subst (IsIn _) (sym kept.1) (a.back.values t i);
      groups = λ x i. subst (IsIn _) (sym kept.2) (a.back.groups x i);
      regions = λ x i. subst (IsIn _) (sym kept.3) (a.back.regions x i);
    };
  }

  end_saturated : IsSaturated s end
  end_saturated = saturated_end s end last

  end_one : HasOneValue end.kf
  end_one = saturated_one s end inhabited end_saturated fine

  mirror : Mirror s f g end big
  mirror = record {
    renaming = r;
    images = big_images;
    one = end_one;
    other = one_value_goes f g end big r.there big_images.back end_one;
  }

  big_neat : IsNeat big
  big_neat = record {
    sorted = ordered_added literal_cmp_total literal_cmp_tells e.kf (map (renamed_literal f) end.kf) k.sorted;
    known = each_added IsInOrder literal_cmp e.kf (map (renamed_literal f) end.kf) k.known (each_map IsInOrder (renamed_literal f) end.kf (each_of (λ l. IsInOrder (renamed_literal f l)) end.kf (λ l i. image_ordered f l)));
    whether = k.whether;
    groups = k.groups;
    regions = k.regions;
  }

  big_saturated : IsSaturated s big
  big_saturated l i =
      let ordered : IsInOrder l = each_in IsInOrder (additions s big) l (additions_ordered s big big_neat) i in
      let there : IsIn (renamed_literal g l) end.kf = end_saturated (renamed_literal g l) (additions_image s g f big end (mirror_turned s f g end big mirror) l i) in
      subst (λ x. IsIn x big.kf) (literal_back g f r.there l ordered) (big_has (renamed_literal g l) there)

  big_fine : first_clash s big ≡ None
  big_fine = none_alike (first_clash s end) (first_clash s big) (clash_image s f g end big mirror) fine

  bounded : (m : ℕ) → Within (rounds s m e).kf big.kf
  bounded m = rounds_within s big inhabited big_saturated big_fine m e (λ l i. added_in literal_cmp_total literal_cmp_tells e.kf (map (renamed_literal f) end.kf) l (inl i)) refl refl

  rounds_back : (m : ℕ) (l : Literal) → IsIn l (rounds s m e).kf → (is_trivial l ≡ true) ⊎ IsIn (renamed_literal g l) end.kf
  rounds_back m l i = big_back l (bounded m l i)

  rounds_quiet : (m : ℕ) → first_clash s (rounds s m e) ≡ None
  unfolding first_clash
  rounds_quiet m =
      let same = keep_others s m e in
      nothing_found (λ l. holds s (rounds s m e) (negated l)) (rounds s m e).kf
      (λ l i h. not_denied s big inhabited big_saturated big_fine l (bounded m l i) (holds_grows s big inhabited big_saturated big_fine (rounds s m e) (bounded m) same.2 same.3 (negated l) h))

-- ---- closing

images_turned : (f g : ℕ → ℕ) (d e : Five) → AreImages f g d e → AreImages g f e d
images_turned f g d e a = record { there = a.back; back = a.there }

module _ (s : Signature) (f g : ℕ → ℕ) (d e : Five) (inhabited : HasValues s) (r : IsRenaming s f g) (a : AreImages f g d e) (n : IsNeat d) (k : IsNeat e)
    (count other : ℕ) (last : round s (rounds s count d) ≡ rounds s count d) (last_too : round s (rounds s other e) ≡ rounds s other e) where
  back : IsRenaming s g f
  back = renaming_turned s f g r

  turned : AreImages g f e d
  turned = images_turned f g d e a

  quiet_too : first_clash s (rounds s count d) ≡ None → first_clash s (rounds s other e) ≡ None
  quiet_too fine = rounds_quiet s f g d e inhabited r a n k count last fine other

  quiet_back : first_clash s (rounds s other e) ≡ None → first_clash s (rounds s count d) ≡ None
  quiet_back fine = rounds_quiet s g f e d inhabited back turned k n other last_too fine count

  ends_mirror : first_clash s (rounds s count d) ≡ None → first_clash s (rounds s other e) ≡ None → Mirror s f g (rounds s count d) (rounds s other e)
  ends_mirror fine fine_too =
      let own = keep_others s count d in
      let its = keep_others s other e in
      record {
        renaming = r;
        images = record {
          there = record {
            known = rounds_back s g f e d inhabited back turned k n other last_too fine_too count;
            whether = λ c i. subst (IsIn _) (sym its.0) (a.there.whether c (subst (IsIn c) own.0 i));
            values = λ t i. subst (IsIn _) (sym its.1) (a.there.values t (subst (IsIn t) own.1 i));
            groups = λ x i. subst (IsIn _) (sym its.2) (a.there.groups x (subst (IsIn x) own.2 i));
            regions = λ x i. subst (IsIn _) (sym its.3) (a.there.regions x (subst (IsIn x) own.3 i));
          };
          back = record {
            known = rounds_back s f g d e inhabited r a n k count last fine other;
            whether = λ c i. subst (IsIn _) (sym own.0) (a.back.whether c (subst (IsIn c) its.0 i));
            values = λ t i. subst (IsIn _) (sym own.1) (a.back.values t (subst (IsIn t) its.1 i));
            groups = λ x i. subst (IsIn _) (sym own.2) (a.back.groups x (subst (IsIn x) its.2 i));
            regions = λ x i. subst (IsIn _) (sym own.3) (a.back.regions x (subst (IsIn x) its.3 i));
          };
        };
        one = saturated_one s (rounds s count d) inhabited (saturated_end s (rounds s count d) last) fine;
        other = saturated_one s (rounds s other e) inhabited (saturated_end s (rounds s other e) last_too) fine_too;
      }

  ends_image : EndImage f g (outcome s (rounds s count d)) (outcome s (rounds s other e))
  ends_image = go (first_clash s (rounds s count d)) (first_clash s (rounds s other e)) refl refl
    where
      go : (x y : Option Literal) → first_clash s (rounds s count d) ≡ x → first_clash s (rounds s other e) ≡ y → EndImage f g (option_map_or Clash x (Next (tidied (rounds s count d)))) (option_map_or Clash y (Next (tidied (rounds s other e))))
      go None None p q = (tidied_image s f g (rounds s count d) (rounds s other e) (ends_mirror p q), unfold tidied in (rounds_neat s count d n).sorted, unfold tidied in (rounds_neat s other e k).sorted)
      go (Some l) (Some m) p q = tt
      go None (Some m) p q = absurd (true≢false (ap is_some (sym q ∙ quiet_too p)))
      go (Some l) None p q = absurd (true≢false (ap is_some (sym p ∙ quiet_back q)))

pub closes_image : (s : Signature) (f g : ℕ → ℕ) (d e : Five) (o : Outcome) → HasValues s → IsRenaming s f g → AreImages f g d e → IsNeat d → IsNeat e → Closes s d o → (q : Outcome) × Closes s e q × EndImage f g o q
closes_image s f g d e o v r a n k c =
    let t = closing_ends s e k.sorted in (
      t.0,
      t.1,
      subst (λ x. EndImage f g x t.0) (sym c.gives) (subst (EndImage f g (outcome s (rounds s c.count d))) (sym t.1.gives) (ends_image s f g d e v r a n k c.count t.1.count c.last t.1.last)),
    )
