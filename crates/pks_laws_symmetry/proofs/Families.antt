-- The images of the end of settling bound what settling makes of the image of its start.
use Rattle.std.proofs.Common.{◌≡◌, ◌⊎◌, ◌++◌, ℕ, zero, suc, Bool, true, false, is_some, List, [], ◌∷◌, map, filter, flat_map, length, slice_get, unwrap_or, Option, Some, None, option_map, option_and_then, refl, sym, ap, ◌∙◌, subst, inl, inr, ⊎_elim, true≢false}
use Rattle.std.proofs.lemmas.Bool.{and_parts, and_from, eq-eqb, cond-true}
use Rattle.pks_terms.specs.Sets.{Each, IsIn, all_some, added, with_others, with_later}
use Rattle.pks_terms.specs.Syntax.{Object, Apply, Inner, object, place, as_object, Equality, Literal}
use Rattle.pks_terms.specs.Orders.{term_cmp, literal_cmp, literal, equation}
use Rattle.pks_terms.specs.Totality.{literal_cmp_total}
use Rattle.pks_terms.specs.Signatures.{Signature}
use Rattle.pks_terms.specs.Databases.{Told, Five, told, value_if_at, values_at}
use Rattle.pks_terms.specs.Closure.{additions, first_clash}
use Rattle.pks_terms.specs.Actions.{Instance, Schema}
use Rattle.pks_terms.specs.Problems.{Problem, schema_of}
use Rattle.pks_terms.specs.Settling.{History, lasting, lasted, fired, must_have_fired, cannot_have_fired, effects_of, forward, backward, settle_rounds, clashes}
use Rattle.pks_terms.specs.Saturated.{Within, IsSaturated, WithinAlong, ClosedAlong}
use Rattle.pks_terms.specs.Moments.{IsInOrder}
use Rattle.pks_terms.specs.Valid.{all_fit, inner_fits, IsValid}
use Rattle.pks_terms.specs.Handed.{IsStepOf}
use Rattle.pks_terms.proofs.ListLaws.{each_append, each_in, each_of, each_map, each_kept, each_flat_map, each_added, each_weaker, in_map, in_mapped, in_appended, in_filtered, in_filter}
use Rattle.pks_terms.proofs.OrderLaws.{literal_cmp_tells}
use Rattle.pks_terms.proofs.SetLaws.{ordered_added, in_added, added_in}
use Rattle.pks_laws.proofs.Holding.{same_objects_itself}
use Rattle.pks_laws.proofs.Least.{in_left, in_right, in_flat, in_filter_map, value_literal}
use Rattle.pks_laws.proofs.LeastFamily.{settled_least}
use Rattle.pks_laws_forget.proofs.Ends.{forget, quiet_within}
use Rattle.pks_laws_symmetry.specs.Trivial.{is_trivial}
use Rattle.pks_laws_symmetry.specs.Renamed.{renamed_inner, renamed_literal, renamed_instance, AreImages}
use Rattle.pks_laws_symmetry.specs.Fixed.{IsFixedSchema, IsSymmetry}
use Rattle.pks_laws_symmetry.proofs.Mirrors.{HasOneValue, Mirror, IsNeat, renamed_effect}
use Rattle.pks_laws_symmetry.proofs.Images.{image_ordered, literal_back, renaming_turned, effects_at_image, fixed_turned}
use Rattle.pks_laws_symmetry.proofs.Neat.{saturated_one, additions_ordered}
use Rattle.pks_laws_symmetry.proofs.Adding.{additions_image}
use Rattle.pks_laws_symmetry.proofs.Closing.{clash_image}
use Rattle.pks_laws_symmetry.proofs.Forms.{forward_image, backward_image, steps_ordered, returns_ordered, effects_neat}

-- ---- the effects of images

pub symmetry_turned : (p : Problem) (f g : ℕ → ℕ) → IsSymmetry p f g → IsSymmetry p g f
symmetry_turned p f g a = record {
  renaming = renaming_turned p.signature f g a.renaming;
  texts = each_weaker (IsFixedSchema f) (IsFixedSchema g) (fixed_turned p.signature f g a.renaming) p.schemas a.texts;
  goal = λ x i. let k = a.goal x i in (k.1, k.0);
}

abbrev nothing : Schema
nothing = record { cost = 1; parameters = []; pre = []; effects = []; senses = []; adds = [] }

fixed_schema : (f : ℕ → ℕ) (scs : List Schema) (n : ℕ) → Each (IsFixedSchema f) scs → IsFixedSchema f (unwrap_or (slice_get scs n) nothing)
fixed_schema f [] n a = record { pre = tt; effects = tt; adds = tt }
fixed_schema f (sc ∷ scs) zero a = a.0
fixed_schema f (sc ∷ scs) (suc n) a = fixed_schema f scs n a.1

as_long : {A : Type 0} (fits : ℕ → A → Bool) (tys : List ℕ) (ts : List A) → all_fit fits tys ts ≡ true → length ts ≡ length tys
as_long fits [] [] h = refl
as_long fits (ty ∷ tys) (t ∷ ts) h = ap suc (as_long fits tys ts (and_parts (fits ty t) _ h).1)
as_long fits [] (t ∷ ts) h = absurd (true≢false (sym h))
as_long fits (ty ∷ tys) [] h = absurd (true≢false (sym h))

effects_image : (p : Problem) (f g : ℕ → ℕ) → IsSymmetry p f g → (i : Instance) → IsStepOf p i → effects_of p (renamed_instance f i) ≡ map (renamed_effect f) (effects_of p i)
effects_image p f g a i fit =
    let sc = schema_of p i.action in
    sym (effects_at_image f (length sc.parameters) i.arguments (as_long (inner_fits p.signature []) sc.parameters i.arguments fit.arguments) sc.effects (fixed_schema f p.schemas i.action a.texts).effects)

-- ---- places that have one value

places_all : (ds : List ℕ) → all_some (map as_object (map (λ d. let t : Inner = Object d in t) ds)) ≡ Some ds
places_all [] = refl
places_all (d ∷ ds) = ap (λ (o : Option (List ℕ)). let r : Option (List ℕ) = elim o [ None ↦ None | Some ys ↦ Some (d ∷ ys) ] in r) (places_all ds)

value_told : (kf : List Literal) (h : ℕ) (ds : List ℕ) (v : ℕ) → IsIn (equation (place h ds) (object v)) kf → IsIn v (values_at kf h ds)
unfolding values_at told literal term_cmp
value_told kf h ds v i =
    in_filter_map (λ l. option_and_then (value_if_at h ds) (told l.relation l.arguments l.positive)) kf (equation (place h ds) (object v)) v i
    (ap (λ o. option_and_then (value_if_at h ds) (option_map (λ es. let r : Told = (h, es, v) in r) o)) (places_all ds) ∙ cond-true _ (Some v) None (and_from _ _ (eq-eqb h h refl) (same_objects_itself ds ds refl)))

objects_renamed : (f : ℕ → ℕ) (ds : List ℕ) → map (renamed_inner f) (map (λ d. let t : Inner = Object d in t) ds) ≡ map (λ d. let t : Inner = Object d in t) (map f ds)
objects_renamed f [] = refl
objects_renamed f (d ∷ ds) = λ i. Object (f d) ∷ objects_renamed f ds i

value_goes : (f : ℕ → ℕ) (kf others : List Literal) → ((l : Literal) → IsIn l kf → (is_trivial l ≡ true) ⊎ IsIn (renamed_literal f l) others) → (h : ℕ) (ds : List ℕ) (v : ℕ) → IsIn v (values_at kf h ds) → IsIn (f v) (values_at others h (map f ds))
unfolding renamed_literal
value_goes f kf others w h ds v i =
    let l : Literal = record { relation = Equality; arguments = place h ds ∷ object v ∷ []; positive = true } in
    ⊎_elim (λ t. absurd (true≢false (sym t)))
    (λ j. value_told others h (map f ds) (f v) (subst (λ ts. IsIn (literal Equality (Apply h ts ∷ object (f v) ∷ []) true) others) (objects_renamed f ds) j))
    (w l (value_literal kf h ds v i))

one_goes : (f g : ℕ → ℕ) → ((d : ℕ) → g (f d) ≡ d) → (kf others : List Literal) → ((l : Literal) → IsIn l kf → (is_trivial l ≡ true) ⊎ IsIn (renamed_literal f l) others) → HasOneValue others → HasOneValue kf
one_goes f g back kf others w one h ds u v i j = sym (back u) ∙ ap g (one h (map f ds) (f u) (f v) (value_goes f kf others w h ds u i) (value_goes f kf others w h ds v j)) ∙ back v

none_of : {X : Type 0} (o : Option X) → is_some o ≡ false → o ≡ None
none_of None e = refl
none_of (Some x) e = absurd (true≢false e)

-- ---- rows of moments: x settles to r, and y is the image of x, behind the instances i and j

module _ (p : Problem) (v : IsValid p) (f g : ℕ → ℕ) (a : IsSymmetry p f g) {Z : Type 0} (i j : Z → Instance) (x r y : Z → Five) where
  abbrev S : Signature
  S = p.signature

  -- what one row has
  pub record Meets (z : Z) : Type 0 where
    pub images : AreImages f g (x z) (y z)
    pub has : Within (x z).kf (r z).kf
    pub same : forget (r z) ≡ forget (x z)
    pub neat : IsNeat (y z)
    pub ordered : Each IsInOrder (r z).kf

  -- what its step has
  abbrev pub Steps : Z → Type 0
  Steps z = (renamed_instance g (j z) ≡ i z) × IsStepOf p (j z)

  -- trivial literals need have no images, and last whatever is done: each moment of the images gets those of all moments
  module _ (trivials : List Literal) (trivial : (l : Literal) → IsIn l trivials → is_trivial l ≡ true) (in_order : Each IsInOrder trivials) where
    -- the image of the end, with what the other start has, and these
    abbrev carried : Z → Five
    carried z = record (y z) { kf = added literal_cmp (y z).kf (map (renamed_literal f) (r z).kf ++ trivials) }

    in_carried : (z : Z) (l : Literal) → IsIn l (carried z).kf → IsIn l (y z).kf ⊎ (IsIn l (map (renamed_literal f) (r z).kf) ⊎ IsIn l trivials)
    in_carried z l k = ⊎_elim (λ n. inl n) (λ n. inr (in_appended (map (renamed_literal f) (r z).kf) trivials l n)) (in_added literal_cmp_total literal_cmp_tells (y z).kf (map (renamed_literal f) (r z).kf ++ trivials) l k)

    trivials_carried : (z : Z) (l : Literal) → IsIn l trivials → IsIn l (carried z).kf
    trivials_carried z l k = added_in literal_cmp_total literal_cmp_tells (y z).kf (map (renamed_literal f) (r z).kf ++ trivials) l (inr (in_right (map (renamed_literal f) (r z).kf) trivials l k))

    image_carried : (z : Z) (l : Literal) → IsIn l (r z).kf → IsIn (renamed_literal f l) (carried z).kf
    image_carried z l k =
        added_in literal_cmp_total literal_cmp_tells (y z).kf (map (renamed_literal f) (r z).kf ++ trivials) (renamed_literal f l) (inr (in_left (map (renamed_literal f) (r z).kf) trivials (renamed_literal f l) (in_map (renamed_literal f) (r z).kf l k)))

    back_carried : (z : Z) (l : Literal) → IsInOrder l → IsIn (renamed_literal g l) (r z).kf → IsIn l (carried z).kf
    back_carried z l o k = subst (λ m. IsIn m (carried z).kf) (literal_back g f a.renaming.there l o) (image_carried z (renamed_literal g l) k)

    carried_neat : (z : Z) → Meets z → IsNeat (carried z)
    carried_neat z m = record {
      sorted = ordered_added literal_cmp_total literal_cmp_tells (y z).kf (map (renamed_literal f) (r z).kf ++ trivials) m.neat.sorted;
      known = each_added IsInOrder literal_cmp (y z).kf (map (renamed_literal f) (r z).kf ++ trivials) m.neat.known (each_append IsInOrder (map (renamed_literal f) (r z).kf) trivials (each_map IsInOrder (renamed_literal f) (r z).kf (each_of (λ l. IsInOrder (renamed_literal f l)) (r z).kf (λ l k. image_ordered f l))) in_order);
      whether = m.neat.whether;
      groups = m.neat.groups;
      regions = m.neat.regions;
    }

    carried_back : (z : Z) → Meets z → (l : Literal) → IsIn l (carried z).kf → (is_trivial l ≡ true) ⊎ IsIn (renamed_literal g l) (r z).kf
    carried_back z m l k =
        ⊎_elim (λ n. ⊎_elim (λ t. inl t) (λ q. inr (m.has (renamed_literal g l) q)) (m.images.back.known l n))
        (λ n. ⊎_elim
        (λ q. let w = in_mapped (renamed_literal f) (r z).kf l q in inr (subst (λ k. IsIn k (r z).kf) (sym (literal_back f g a.renaming.back w.0 (each_in IsInOrder (r z).kf w.0 m.ordered w.1)) ∙ ap (renamed_literal g) w.2) w.1))
        (λ q. inl (trivial l q)) n) (in_carried z l k)

    images_carried : (z : Z) → Meets z → AreImages g f (carried z) (r z)
    images_carried z m = record {
      there = record {
        known = carried_back z m;
        whether = λ c k. subst (IsIn _) (sym (ap (λ (d : Five). d.kw) m.same)) (m.images.back.whether c k);
        values = λ c k. subst (IsIn _) (sym (ap (λ (d : Five). d.kv) m.same)) (m.images.back.values c k);
        groups = λ c k. subst (IsIn _) (sym (ap (λ (d : Five). d.kx) m.same)) (m.images.back.groups c k);
        regions = λ c k. subst (IsIn _) (sym (ap (λ (d : Five). d.lcw) m.same)) (m.images.back.regions c k);
      };
      back = record {
        known = λ l k. inr (image_carried z l k);
        whether = λ c k. m.images.there.whether c (subst (IsIn c) (ap (λ (d : Five). d.kw) m.same) k);
        values = λ c k. m.images.there.values c (subst (IsIn c) (ap (λ (d : Five). d.kv) m.same) k);
        groups = λ c k. m.images.there.groups c (subst (IsIn c) (ap (λ (d : Five). d.kx) m.same) k);
        regions = λ c k. m.images.there.regions c (subst (IsIn c) (ap (λ (d : Five). d.lcw) m.same) k);
      };
    }

    abbrev IsFine : Five → Type 0
    IsFine d = IsSaturated S d × (first_clash S d ≡ None)

    mirror : (z : Z) → Meets z → IsFine (r z) → Mirror S g f (carried z) (r z)
    mirror z m c =
        let one : HasOneValue (r z).kf = saturated_one S (r z) v.signature.values c.0 c.1 in
        record { renaming = renaming_turned S f g a.renaming; images = images_carried z m; one = one_goes g f a.renaming.there (carried z).kf (r z).kf (carried_back z m) one; other = one }

    -- a moment of the images is closed
    moment_closed : (z : Z) → Meets z → IsFine (r z) → IsFine (carried z)
    moment_closed z m c = (
      λ l k. back_carried z l (each_in IsInOrder (additions S (carried z)) l (additions_ordered S (carried z) (carried_neat z m)) k) (c.0 (renamed_literal g l) (additions_image S g f (carried z) (r z) (mirror z m c) l k)),
      none_of (first_clash S (carried z)) (clash_image S g f (carried z) (r z) (mirror z m c) ∙ ap is_some c.1),
    )

    -- these are all trivial literals of the row
    abbrev Covers : Z → Type 0
    Covers z = (l : Literal) → IsIn l ((y z).kf ++ map (renamed_literal f) (r z).kf) → is_trivial l ≡ true → IsIn l trivials

    trivial_in : (z : Z) → Covers z → (l : Literal) → IsIn l (carried z).kf → is_trivial l ≡ true → IsIn l trivials
    trivial_in z w l k t =
        ⊎_elim (λ n. w l (in_left (y z).kf (map (renamed_literal f) (r z).kf) l n) t) (λ n. ⊎_elim (λ q. w l (in_right (y z).kf (map (renamed_literal f) (r z).kf) l q) t) (λ q. q) n) (in_carried z l k)

    step_effects : (u : Z) → Steps u → map (renamed_effect g) (effects_of p (j u)) ≡ effects_of p (i u)
    step_effects u b = sym (effects_image p g f (symmetry_turned p f g a) (j u) b.1) ∙ ap (effects_of p) b.0

    onward : (z u : Z) → Meets z → Meets u → Covers z → Steps u → IsFine (r z) → Within (forward p (i u) (r z)) (r u).kf → Within (forward p (j u) (carried z)) (carried u).kf
    onward z u m n t b c w l k =
        ⊎_elim (λ q. trivials_carried u l (trivial_in z t l q.0 q.1))
        (λ q. back_carried u l (each_in IsInOrder (forward p (j u) (carried z)) l (steps_ordered S (carried z) (effects_of p (j u)) (carried_neat z m).known) k)
        (w (renamed_literal g l) (subst (λ es. IsIn (renamed_literal g l) (lasting S es (r z) ++ flat_map (fired S es (r z)) (with_later es))) (step_effects u b) q)))
        (forward_image S g f (carried z) (r z) (mirror z m c) (effects_of p (j u)) l k)

    homeward : (z u : Z) → Meets z → Meets u → Covers u → Steps u → IsFine (r z) → IsFine (r u) → Within (backward p (i u) (r z) (r u)) (r z).kf → Within (backward p (j u) (carried z) (carried u)) (carried z).kf
    homeward z u m n t b c e w l k =
        let es = effects_of p (j u) in
        ⊎_elim (λ q. trivials_carried z l (trivial_in u t l q.0 q.1))
        (λ q. back_carried z l (each_in IsInOrder (backward p (j u) (carried z) (carried u)) l (returns_ordered S (carried z) (carried u) es (effects_neat p (j u)) (carried_neat u n).known) k)
        (w (renamed_literal g l) (subst (λ es. IsIn (renamed_literal g l) (lasted S es (r z) (r u) ++ (flat_map (must_have_fired S es (r z) (r u)) (with_others es) ++ flat_map (cannot_have_fired S es (r z) (r u)) (with_later es)))) (step_effects u b) q)))
        (backward_image S g f (carried z) (r z) (mirror z m c) (carried u) (r u) (mirror u n e) es (effects_neat p (j u)) l k)

    first_fine : (z : Z) (zs : List Z) → ClosedAlong p (r z) (map (λ z. (i z, r z)) zs) → IsFine (r z)
    first_fine z [] c = c
    first_fine z (u ∷ zs) c = c.0

    family_closed : (z : Z) (zs : List Z) → Meets z → Covers z → Each (λ u. Meets u × Covers u × Steps u) zs → ClosedAlong p (r z) (map (λ z. (i z, r z)) zs) → ClosedAlong p (carried z) (map (λ z. (j z, carried z)) zs)
    family_closed z [] m t b c = moment_closed z m c
    family_closed z (u ∷ zs) m t b c = (
      moment_closed z m c.0,
      onward z u m b.0.0 t b.0.2 c.0 c.1,
      homeward z u m b.0.0 b.0.1 b.0.2 c.0 (first_fine u zs c.3) c.2,
      family_closed u zs b.0.0 b.0.1 b.1 c.3,
    )

    family_has : (z : Z) (zs : List Z) → WithinAlong (y z) (map (λ z. (j z, y z)) zs) (carried z) (map (λ z. (j z, carried z)) zs)
    family_has z [] = (λ l k. added_in literal_cmp_total literal_cmp_tells (y z).kf (map (renamed_literal f) (r z).kf ++ trivials) l (inl k), refl, refl)
    family_has z (u ∷ zs) = ((λ l k. added_in literal_cmp_total literal_cmp_tells (y z).kf (map (renamed_literal f) (r z).kf ++ trivials) l (inl k), refl, refl), refl, family_has u zs)

    -- what comes of a literal of the images
    carried_from : (z : Z) (l : Literal) → IsIn l (carried z).kf → IsIn l (y z).kf ⊎ (IsIn l (map (renamed_literal f) (r z).kf) ⊎ (is_trivial l ≡ true))
    carried_from z l k = ⊎_elim (λ n. inl n) (λ n. inr (⊎_elim (λ q. inl q) (λ q. inr (trivial l q)) n)) (in_carried z l k)

  -- ---- the end at the image of the start

  -- a literal known at the start, the image of one known at the other end, or a trivial one
  abbrev pub ComesFrom : Z → Literal → Type 0
  ComesFrom z l = IsIn l (y z).kf ⊎ (IsIn l (map (renamed_literal f) (r z).kf) ⊎ (is_trivial l ≡ true))

  module _ (z : Z) (zs : List Z) (meets : Each Meets (z ∷ zs)) (steps : Each Steps zs) (closed : ClosedAlong p (r z) (map (λ z. (i z, r z)) zs)) where
    abbrev row_known : Z → List Literal
    row_known u = (y u).kf ++ map (renamed_literal f) (r u).kf

    abbrev all_trivials : List Literal
    all_trivials = filter is_trivial (flat_map row_known (z ∷ zs))

    all_trivial : (l : Literal) → IsIn l all_trivials → is_trivial l ≡ true
    all_trivial l k = (in_filtered is_trivial (flat_map row_known (z ∷ zs)) l k).1

    all_in_order : Each IsInOrder all_trivials
    all_in_order =
        each_kept IsInOrder is_trivial (flat_map row_known (z ∷ zs))
        (each_flat_map IsInOrder row_known (z ∷ zs) (λ u k. each_append IsInOrder (y u).kf (map (renamed_literal f) (r u).kf) (each_in Meets (z ∷ zs) u meets k).neat.known (each_map IsInOrder (renamed_literal f) (r u).kf (each_of (λ l. IsInOrder (renamed_literal f l)) (r u).kf (λ l n. image_ordered f l)))))

    covered : (u : Z) → IsIn u (z ∷ zs) → (l : Literal) → IsIn l (row_known u) → is_trivial l ≡ true → IsIn l all_trivials
    covered u k l n t = in_filter is_trivial (flat_map row_known (z ∷ zs)) l (in_flat row_known (z ∷ zs) u l k n) t

    abbrev bound : Z → Five
    bound = carried all_trivials all_trivial all_in_order

    abbrev bound_steps : List (Instance × Five)
    bound_steps = map (λ z. (j z, bound z)) zs

    bound_closed : ClosedAlong p (bound z) bound_steps
    bound_closed =
        family_closed all_trivials all_trivial all_in_order z zs meets.0 (covered z (inl refl))
        (each_of (λ u. Meets u × Covers all_trivials all_trivial all_in_order u × Steps u) zs (λ u k. (each_in Meets zs u meets.1 k, covered u (inr k), each_in Steps zs u steps k))) closed

    module _ (n : ℕ) (k : History) (rows : k ≡ record { start = y z; steps = map (λ z. (j z, y z)) zs }) where
      abbrev end : History
      end = settle_rounds p n k

      end_within : WithinAlong end.start end.steps (bound z) bound_steps
      end_within =
          settled_least p v.signature.values n k (record { start = bound z; steps = bound_steps })
          (subst (λ (k : History). WithinAlong k.start k.steps (bound z) bound_steps) (sym rows) (family_has all_trivials all_trivial all_in_order z zs)) bound_closed

      -- without a clash at the one end there is none at the other
      pub end_quiet : clashes S end ≡ false
      end_quiet = quiet_within p v.signature.values end.start end.steps (bound z) bound_steps end_within bound_closed

      -- and its literals come from where they can
      pub end_known : (q : Z → Five) → end ≡ record { start = q z; steps = map (λ z. (j z, q z)) zs } → Each (λ u. (l : Literal) → IsIn l (q u).kf → ComesFrom u l) (z ∷ zs)
      end_known q e = go z zs (subst (λ (h : History). WithinAlong h.start h.steps (bound z) bound_steps) e end_within)
        where
          go : (u : Z) (us : List Z) → WithinAlong (q u) (map (λ z. (j z, q z)) us) (bound u) (map (λ z. (j z, bound z)) us) → Each (λ u. (l : Literal) → IsIn l (q u).kf → ComesFrom u l) (u ∷ us)
          go u [] w = (λ l m. carried_from all_trivials all_trivial all_in_order u l (w.0 l m), tt)
          go u (t ∷ us) w = (λ l m. carried_from all_trivials all_trivial all_in_order u l (w.0.0 l m), go t us w.2)
