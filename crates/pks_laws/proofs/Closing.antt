-- A round keeps the databases true of a world, and so the end of the rounds is true and doesn't clash.
use Rattle.std.proofs.Common.{◌≡◌, ◌||◌, ◌==◌, ℕ, zero, suc, Bool, true, false, cond, not, List, [], ◌∷◌, ◌++◌, map, filter, flat_map, find, slice_get, Option, Some, None, refl, sym, ap, ◌∙◌, inl, inr, ⊎_elim, true≢false}
use Rattle.std.specs.List.{list_any, list_all}
use Rattle.std.specs.Option.{option_map_or}
use Rattle.std.proofs.lemmas.Bool.{or_cases, or_parts, cases_Bool, eqb-true, eq-eqb, not-true}
use Rattle.std.proofs.lemmas.Option.{none-some, same_Some}
use Rattle.pks_terms.specs.Sets.{Each, IsIn, all_some, exactly_one, with_others, one_replaced}
use Rattle.pks_terms.specs.Syntax.{Object, Parameter, Apply, Inner, Term, object, as_object, Equality, Literal, negated}
use Rattle.pks_terms.specs.Orders.{literal, literal_cmp, equation, inequation}
use Rattle.pks_terms.specs.Signatures.{Shape, Signature, objects_of, range_of}
use Rattle.pks_terms.specs.Worlds.{World, form_value, inner_value, value_of, true_in}
use Rattle.pks_terms.specs.Databases.{Five, values_at, holds}
use Rattle.pks_terms.specs.Meaning.{IsWorld, IsTrueIn}
use Rattle.pks_terms.specs.Closure.{inner_steps, term_steps, by_value, by_member, by_group, applications_in, is_last_left, by_range, additions, round, rounds, first_clash}
use Rattle.pks_terms.proofs.ListLaws.{each_append, each_in, each_of, each_map, each_filter, each_flat_map, each_added, each_weaker, each_from_all, values_of_all_some}
use Rattle.pks_laws.proofs.Values.{AllTrue, values_at_true, inner_object_value}
use Rattle.pks_laws.proofs.Holding.{true_in-literal, true_in-alike, true_in-negated, holds_true, denied_false}

-- ---- one application replaced by a known value

one_replaced_alike : {X Y : Type 0} (v : X → Y) (step : X → List X) → ((x : X) → Each (λ y. v y ≡ v x) (step x)) → (xs : List X) → Each (λ ys. map v ys ≡ map v xs) (one_replaced step xs)
one_replaced_alike v step keeps [] = tt
one_replaced_alike v step keeps (x ∷ xs) =
    each_append (λ ys. map v ys ≡ map v (x ∷ xs)) (map (λ y. y ∷ xs) (step x)) (map (λ ys. x ∷ ys) (one_replaced step xs))
    (each_map (λ ys. map v ys ≡ map v (x ∷ xs)) (λ y. y ∷ xs) (step x) (each_weaker (λ y. v y ≡ v x) (λ y. v y ∷ map v xs ≡ v x ∷ map v xs) (λ y e. ap (λ z. z ∷ map v xs) e) (step x) (keeps x)))
    (each_map (λ ys. map v ys ≡ map v (x ∷ xs)) (λ ys. x ∷ ys) (one_replaced step xs) (each_weaker (λ ys. map v ys ≡ map v xs) (λ ys. v x ∷ map v ys ≡ v x ∷ map v xs) (λ ys e. ap (λ z. v x ∷ z) e) (one_replaced step xs) (one_replaced_alike v step keeps xs)))

module _ (w : World) (kf : List Literal) (a : AllTrue w kf) where
  map_itself : (ds : List ℕ) → map (λ d. d) ds ≡ ds
  map_itself [] = refl
  map_itself (d ∷ ds) = λ i. d ∷ map_itself ds i

  inner_steps_alike : (t : Inner) → Each (λ u. inner_value w u ≡ inner_value w t) (inner_steps kf t)
  inner_steps_alike (Object d) = tt
  inner_steps_alike (Parameter i) = tt
  inner_steps_alike (Apply f ds) =
      each_map (λ u. inner_value w u ≡ w.value f (map (λ d. d) ds)) Object (values_at kf f ds)
      (each_weaker (λ e. w.value f ds ≡ e) (λ e. e ≡ w.value f (map (λ d. d) ds)) (λ e h. sym h ∙ ap (w.value f) (sym (map_itself ds))) (values_at kf f ds) (values_at_true w kf a f ds))

  pub term_steps_alike : (t : Term) → Each (λ u. value_of w u ≡ value_of w t) (term_steps kf t)
  unfolding value_of term_steps
  term_steps_alike (Object d) = tt
  term_steps_alike (Parameter i) = tt
  term_steps_alike (Apply f ts) =
      let P : Term → Type 0 = λ u. form_value (inner_value w) w u ≡ w.value f (map (inner_value w) ts) in
      each_append P (map Object (option_map_or (values_at kf f) (all_some (map as_object ts)) [])) (map (Apply f) (one_replaced (inner_steps kf) ts))
      (each_map P Object (option_map_or (values_at kf f) (all_some (map as_object ts)) [])
      (elim (all_some (map as_object ts)) as (λ o. all_some (map as_object ts) ≡ o → Each (λ e. e ≡ w.value f (map (inner_value w) ts)) (option_map_or (values_at kf f) o [])) [
        | None ↦ λ q. tt
        | Some ds ↦ λ q. each_weaker (λ e. w.value f ds ≡ e) (λ e. e ≡ w.value f (map (inner_value w) ts)) (λ e h. sym (ap (w.value f) (values_of_all_some as_object (inner_value w) (inner_object_value w) ts ds q) ∙ h)) (values_at kf f ds) (values_at_true w kf a f ds)
      ] refl))
      (each_map P (Apply f) (one_replaced (inner_steps kf) ts)
      (each_weaker (λ us. map (inner_value w) us ≡ map (inner_value w) ts) (λ us. w.value f (map (inner_value w) us) ≡ w.value f (map (inner_value w) ts)) (λ us e. ap (w.value f) e) (one_replaced (inner_steps kf) ts) (one_replaced_alike (inner_value w) (inner_steps kf) inner_steps_alike ts)))

by_value_true : (w : World) (kf : List Literal) → AllTrue w kf → (l : Literal) → true_in w l ≡ true → AllTrue w (by_value kf l)
unfolding by_value
by_value_true w kf a l h =
    each_map (λ m. true_in w m ≡ true) (λ ts. literal l.relation ts l.positive) (one_replaced (term_steps kf) l.arguments)
    (each_weaker (λ us. map (value_of w) us ≡ map (value_of w) l.arguments) (λ us. true_in w (literal l.relation us l.positive) ≡ true) (λ us e. true_in-alike w l us e ∙ h)
    (one_replaced (term_steps kf) l.arguments) (one_replaced_alike (value_of w) (term_steps kf) (term_steps_alike w kf a) l.arguments))

-- ---- exclusive groups

any_with_others : {X : Type 0} (p : X → Bool) (xs : List X) → Each (λ q. list_any p (q.0 ∷ q.1) ≡ list_any p xs) (with_others xs)
any_with_others p [] = tt
any_with_others {X} p (x ∷ xs) = (
  refl,
  each_map (λ (q : X × List X). list_any p (q.0 ∷ q.1) ≡ list_any p (x ∷ xs)) (λ q. (q.0, x ∷ q.1)) (with_others xs)
      (each_weaker (λ q. list_any p (q.0 ∷ q.1) ≡ list_any p xs) (λ q. (p q.0 || (p x || list_any p q.1)) ≡ (p x || list_any p xs)) (λ q e. swapped (p q.0) (p x) (list_any p q.1) ∙ ap (λ b. p x || b) e) (with_others xs) (any_with_others p xs)),
)
  where
    swapped : (a b c : Bool) → (a || (b || c)) ≡ (b || (a || c))
    swapped true true c = refl
    swapped true false c = refl
    swapped false b c = refl

one_with_others : {X : Type 0} (p : X → Bool) (xs : List X) → Each (λ q. exactly_one p (q.0 ∷ q.1) ≡ exactly_one p xs) (with_others xs)
one_with_others p [] = tt
one_with_others {X} p (x ∷ xs) = (
  refl,
  each_map (λ (q : X × List X). exactly_one p (q.0 ∷ q.1) ≡ exactly_one p (x ∷ xs)) (λ q. (q.0, x ∷ q.1)) (with_others xs)
      (each_of (λ q. exactly_one p (q.0 ∷ x ∷ q.1) ≡ exactly_one p (x ∷ xs)) (with_others xs)
      (λ q i. swapped (p q.0) (p x) (list_any p q.1) (exactly_one p q.1)
      ∙ ap (λ b. cond (p x) (not b) (exactly_one p (q.0 ∷ q.1))) (each_in (λ q. list_any p (q.0 ∷ q.1) ≡ list_any p xs) (with_others xs) q (any_with_others p xs) i)
      ∙ ap (λ b. cond (p x) (not (list_any p xs)) b) (each_in (λ q. exactly_one p (q.0 ∷ q.1) ≡ exactly_one p xs) (with_others xs) q (one_with_others p xs) i))),
)
  where
    swapped : (a b c e : Bool) → cond a (not (b || c)) (cond b (not c) e) ≡ cond b (not (a || c)) (cond a (not c) e)
    swapped true true c e = refl
    swapped true false c e = refl
    swapped false true c e = refl
    swapped false false c e = refl

none_true : (w : World) (ms : List Literal) → Each (λ m. true_in w m ≡ false) ms → exactly_one (true_in w) ms ≡ false
none_true w [] a = refl
none_true w (m ∷ ms) a = ap (λ b. cond b (not (list_any (true_in w) ms)) (exactly_one (true_in w) ms)) a.0 ∙ none_true w ms a.1

all_false : {X : Type 0} (p : X → Bool) (xs : List X) → list_any p xs ≡ false → Each (λ x. p x ≡ false) xs
all_false p [] h = tt
all_false p (x ∷ xs) h = let q = or_parts (p x) (list_any p xs) h in (q.0, all_false p xs q.1)

by_member_true : {s : Signature} (w : World) (d : Five) → IsTrueIn s w d → (q : Literal × List Literal) → exactly_one (true_in w) (q.0 ∷ q.1) ≡ true → AllTrue w (by_member s d q)
by_member_true {s = s} w d t q one =
    each_append (λ m. true_in w m ≡ true) (cond (list_all (λ m. holds s d (negated m)) q.1) (q.0 ∷ []) []) (cond (holds s d q.0) (map negated q.1) [])
    (elim (list_all (λ m. holds s d (negated m)) q.1) as (λ b. list_all (λ m. holds s d (negated m)) q.1 ≡ b → AllTrue w (cond b (q.0 ∷ []) [])) [
      | false ↦ λ e. tt
      | true ↦ λ e.
          let others = none_true w q.1 (each_from_all (λ m. true_in w m ≡ false) (λ m. holds s d (negated m)) (λ m h. denied_false w d t m h) q.1 e) in
          (⊎_elim (λ y. y) (λ n. absurd (true≢false (sym one ∙ ap (λ b. cond b (not (list_any (true_in w) q.1)) (exactly_one (true_in w) q.1)) n ∙ others))) (cases_Bool (true_in w q.0)), tt)
    ] refl)
    (elim (holds s d q.0) as (λ b. holds s d q.0 ≡ b → AllTrue w (cond b (map negated q.1) [])) [
      | false ↦ λ e. tt
      | true ↦ λ e.
          let none : list_any (true_in w) q.1 ≡ false = not-true _ (sym (ap (λ b. cond b (not (list_any (true_in w) q.1)) (exactly_one (true_in w) q.1)) (holds_true w d t q.0 e)) ∙ one) in
          each_map (λ m. true_in w m ≡ true) negated q.1 (each_weaker (λ m. true_in w m ≡ false) (λ m. true_in w (negated m) ≡ true) (λ m f. true_in-negated w m ∙ ap not f) q.1 (all_false (true_in w) q.1 none))
    ] refl)

by_group_true : {s : Signature} (w : World) (d : Five) → IsTrueIn s w d → (g : List Literal) → exactly_one (true_in w) g ≡ true → AllTrue w (by_group s d g)
unfolding by_group
by_group_true {s = s} w d t g one =
    each_flat_map (λ m. true_in w m ≡ true) (by_member s d) (with_others g)
    (λ q i. by_member_true w d t q (each_in (λ q. exactly_one (true_in w) (q.0 ∷ q.1) ≡ exactly_one (true_in w) g) (with_others g) q (one_with_others (true_in w) g) i ∙ one))

-- ---- the value that is left

-- the value of a term is among the objects that may be, where there are some
pub value_in_range : (s : Signature) (w : World) → IsWorld s w → (t : Term) (e : ℕ) → IsIn e (range_of s t) → IsIn (value_of w t) (range_of s t)
unfolding value_of
value_in_range s w i (Object d) e j = inl refl
value_in_range s w i (Parameter d) e j = absurd j
value_in_range s w i (Apply f ts) e j =
    elim (slice_get s.functions f) as (λ o. slice_get s.functions f ≡ o → IsIn e (option_map_or (λ (x : Shape). objects_of s x.result) o []) → IsIn (w.value f (map (inner_value w) ts)) (option_map_or (λ (x : Shape). objects_of s x.result) o [])) [
      | None ↦ λ q k. absurd k
      | Some x ↦ λ q k. i.typed f (map (inner_value w) ts) x q
    ] refl j

by_range_true : (s : Signature) (w : World) (d : Five) → IsWorld s w → IsTrueIn s w d → (t : Term) → AllTrue w (by_range s d t)
unfolding by_range value_of
by_range_true s w d i m t =
    let objects = range_of s t in
    each_map (λ l. true_in w l ≡ true) (λ e. equation t (object e)) (filter (is_last_left s d t objects) objects)
    (each_filter (λ e. true_in w (equation t (object e)) ≡ true) (is_last_left s d t objects) objects (λ e j k.
    let left = each_in (λ o. (value_of w t ≡ o) → o ≡ e) objects (value_of w t) (each_from_all (λ o. (value_of w t ≡ o) → o ≡ e) (λ o. (o == e) || holds s d (inequation t (object o)))
    (λ o b same. ⊎_elim (λ q. eqb-true o e q) (λ q. absurd (not_here o q same)) (or_cases (o == e) _ b)) objects k) (value_in_range s w i t e j) refl in
    true_in-literal w Equality (t ∷ object e ∷ []) true ∙ eq-eqb (value_of w t) e left))
  where
    not_here : (o : ℕ) → holds s d (inequation t (object o)) ≡ true → value_of w t ≡ o → ⊥
    not_here o q same = true≢false (sym (holds_true w d m (inequation t (object o)) q) ∙ true_in-literal w Equality (t ∷ object o ∷ []) false ∙ ap not (eq-eqb (value_of w t) o same))

-- ---- a round, and all rounds

module _ (s : Signature) (w : World) (i : IsWorld s w) where
  pub additions_true : (d : Five) → IsTrueIn s w d → AllTrue w (additions s d)
  unfolding additions
  additions_true d m =
      let T : Literal → Type 0 = λ l. true_in w l ≡ true in
      each_append T (flat_map (by_value d.kf) d.kf) (flat_map (by_group s d) d.kx ++ flat_map (λ l. flat_map (by_range s d) (flat_map applications_in l.arguments)) d.kf)
      (each_flat_map T (by_value d.kf) d.kf (λ l j. by_value_true w d.kf m.known l (each_in T d.kf l m.known j)))
      (each_append T (flat_map (by_group s d) d.kx) (flat_map (λ l. flat_map (by_range s d) (flat_map applications_in l.arguments)) d.kf)
      (each_flat_map T (by_group s d) d.kx (λ g j. by_group_true w d m g (each_in (λ g. exactly_one (true_in w) g ≡ true) d.kx g m.groups j)))
      (each_flat_map T (λ l. flat_map (by_range s d) (flat_map applications_in l.arguments)) d.kf
      (λ l j. each_flat_map T (by_range s d) (flat_map applications_in l.arguments)
      (λ t k. by_range_true s w d i m t))))

  -- a round keeps databases true
  pub round_true : (d : Five) → IsTrueIn s w d → IsTrueIn s w (round s d)
  unfolding round
  round_true d m =
      let T : Literal → Type 0 = λ l. true_in w l ≡ true in
      record { world = m.world; known = each_added T literal_cmp d.kf (additions s d) m.known (additions_true d m); groups = m.groups; regions = m.regions }

  pub rounds_true : (n : ℕ) (d : Five) → IsTrueIn s w d → IsTrueIn s w (rounds s n d)
  rounds_true zero d m = m
  rounds_true (suc n) d m = round_true (rounds s n d) (rounds_true n d m)

find_finds : {X : Type 0} (p : X → Bool) (xs : List X) (x : X) → find p xs ≡ Some x → IsIn x xs × (p x ≡ true)
find_finds p [] x h = absurd (none-some x h)
find_finds {X} p (y ∷ ys) x h =
    elim (p y) as (λ b. p y ≡ b → ◌≡◌ {A = Option X} (cond b (Some y) (find p ys)) (Some x) → IsIn x (y ∷ ys) × (p x ≡ true)) [
      | true ↦ λ e k. let q = same_Some y x k in (inl q, ap p (sym q) ∙ e)
      | false ↦ λ e k. let r = find_finds p ys x k in (inr r.0, r.1)
    ] refl h

-- true databases don't clash
pub no_clash : {s : Signature} (w : World) (d : Five) → IsTrueIn s w d → (l : Literal) → first_clash s d ≡ Some l → ⊥
unfolding first_clash
no_clash {s = s} w d m l h =
    let f = find_finds (λ l. holds s d (negated l)) d.kf l h in
    true≢false (sym (each_in (λ l. true_in w l ≡ true) d.kf l m.known f.0) ∙ denied_false w d m l f.1)
