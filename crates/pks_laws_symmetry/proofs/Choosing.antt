-- Databases that are each other's images have images of each other's choices, and sides make images of them.
use Rattle.std.proofs.Common.{◌≡◌, ◌⊎◌, ◌≤◌, ◌+◌, ◌&&◌, ℕ, suc, Bool, true, false, cond, not, List, [], ◌∷◌, map, filter, filter_map, length, nat_le, slice_get, Option, Some, None, option_map, Ordering, is_eq, refl, sym, ap, ◌∙◌, subst, inl, inr, ⊎_elim, arith, true≢false}
use Rattle.std.specs.FinMap.{IsAntisymmetric}
use Rattle.std.specs.Cmp.{IsTotalOrder, Equal-is}
use Rattle.std.specs.List.{list_any, list_all}
use Rattle.std.specs.Option.{option_map_or}
use Rattle.std.proofs.lemmas.Cmp.{tied_itself}
use Rattle.std.proofs.lemmas.Option.{none-some}
use Rattle.pks_terms.specs.Sets.{Each, IsIn, IsOrdered, all_some, choices_from, added}
use Rattle.pks_terms.specs.Syntax.{Object, Parameter, Apply, Inner, Term, object, as_object, Literal, negated}
use Rattle.pks_terms.specs.Orders.{term_cmp, term_eq, literal_cmp, conj_cmp, equation, inequation}
use Rattle.pks_terms.specs.Totality.{term_cmp_total, literal_cmp_total, conj_cmp_total}
use Rattle.pks_terms.specs.Signatures.{Shape, Signature, fits_type, has_type, objects_from, objects_of, range_of}
use Rattle.pks_terms.specs.Databases.{Five, holds}
use Rattle.pks_terms.specs.Closure.{in_sequence}
use Rattle.pks_terms.specs.Saturated.{Within}
use Rattle.pks_terms.specs.Queries.{Query, answers}
use Rattle.pks_terms.specs.Actions.{Schema, Instance, query_at}
use Rattle.pks_terms.specs.Moments.{IsInOrder, AreInOrder}
use Rattle.pks_terms.specs.Problems.{Problem}
use Rattle.pks_terms.specs.Branching.{as_inner, candidates, is_allowed, instances_at, numbered, instances, is_undecided, left, may_split, Choice, Act, BranchOn, CasesOn, Side, AsTrue, AsFalse, Is, IsMember, denials, assumed_formula, assumed}
use Rattle.pks_terms.proofs.ListLaws.{each_in, each_weaker, each_kept, all_same, in_appended, in_map, in_mapped, in_filter, in_filtered, in_flat_mapped}
use Rattle.pks_terms.proofs.OrderLaws.{term_cmp_tells, literal_cmp_tells, conj_cmp_tells}
use Rattle.pks_terms.proofs.SetLaws.{ordered_insert, ordered_added, in_inserted, inserted_in, in_added, added_in}
use Rattle.pks_laws.proofs.Least.{in_left, in_right, in_flat, in_filter_map, in_filter_mapped}
use Rattle.pks_laws.proofs.SidesInOrder.{assumed_ordered}
use Rattle.pks_laws_symmetry.specs.Renamed.{renamed_inner, renamed_term, renamed_literal, renamed_conj, renamed_instance, renamed_choice, renamed_side, GoesTo, AreImages}
use Rattle.pks_laws_symmetry.specs.Fixed.{IsFixedPlain, IsFixedSchema, IsSymmetry}
use Rattle.pks_laws_symmetry.proofs.Mirrors.{Mirror, IsNeat}
use Rattle.pks_laws_symmetry.proofs.Permuted.{Permuted, permuted_filter, permuted_in, permuted_length}
use Rattle.pks_laws_symmetry.proofs.Images.{image_negated, image_equation, image_inequation, image_in, image_all, image_any, term_back, conj_back, conj_permuted, objects_image, range_image, has_type_image, query_at_image}
use Rattle.pks_laws_symmetry.proofs.Reading.{mirror_turned, holds_image}
use Rattle.pks_laws_symmetry.proofs.Answering.{answers_image}

-- ---- lists in which no element comes twice

abbrev pub AreDistinct : {X : Type 0} → List X → Type 0
AreDistinct [] = Unit {0}
AreDistinct (x ∷ xs) = (IsIn x xs → ⊥) × AreDistinct xs

distinct_map : (f g : ℕ → ℕ) → ((d : ℕ) → g (f d) ≡ d) → (xs : List ℕ) → AreDistinct xs → AreDistinct (map f xs)
distinct_map f g back [] a = tt
distinct_map f g back (x ∷ xs) a = (λ i. let r = in_mapped f xs (f x) i in a.0 (subst (λ z. IsIn z xs) (sym (back r.0) ∙ ap g r.2 ∙ back x) r.1), distinct_map f g back xs a.1)

distinct_filter : {X : Type 0} (q : X → Bool) (xs : List X) → AreDistinct xs → AreDistinct (filter q xs)
distinct_filter q [] a = tt
distinct_filter q (x ∷ xs) a =
    elim (q x) as (λ b. AreDistinct (cond b (x ∷ filter q xs) (filter q xs))) [
      | true ↦ (λ i. a.0 (in_filtered q xs x i).0, distinct_filter q xs a.1)
      | false ↦ distinct_filter q xs a.1
    ]

-- a list without one of its elements
without : {X : Type 0} (xs : List X) (x : X) → IsIn x xs → (zs : List X) × (length xs ≡ suc (length zs)) × ((z : X) → IsIn z xs → (x ≡ z) ⊎ IsIn z zs)
without [] x i = absurd i
without (y ∷ ys) x (inl e) = (ys, refl, λ z j. ⊎_elim (λ q. inl (sym e ∙ q)) (λ k. inr k) j)
without (y ∷ ys) x (inr i) =
    let r = without ys x i in
    (y ∷ r.0, ap suc r.1, λ z j. ⊎_elim (λ q. inr (inl q)) (λ k. ⊎_elim (λ q. inl q) (λ l. inr (inr l)) (r.2 z k)) j)

no_longer : {X : Type 0} (xs ys : List X) → AreDistinct xs → Within xs ys → length xs ≤ length ys
no_longer [] ys a w = omega arith
no_longer (x ∷ xs) ys a w =
    let r = without ys x (w x (inl refl)) in
    let few = no_longer xs r.0 a.1 (λ z i. ⊎_elim (λ e. absurd (a.0 (subst (λ u. IsIn u xs) (sym e) i))) (λ j. j) (r.2 z (w z (inr i)))) in
    omega (arith, few, r.1)

same_length : {X : Type 0} (f : X → X) (xs : List X) → length (map f xs) ≡ length xs
same_length f [] = refl
same_length f (x ∷ xs) = ap suc (same_length f xs)

-- ---- the objects of a type

above : (q : ℕ → Bool) (n : ℕ) (owns : List ℕ) (d : ℕ) → IsIn d (objects_from q n owns) → n ≤ d
above q n [] d i = absurd i
above q n (own ∷ owns) d i =
    elim (q own) as (λ b. IsIn d (elim b [ true ↦ n ∷ objects_from q (n + 1) owns | false ↦ objects_from q (n + 1) owns ]) → n ≤ d) [
      | true ↦ λ j. ⊎_elim (λ e. omega (arith, e)) (λ k. let l = above q (n + 1) owns d k in omega (arith, l)) j
      | false ↦ λ j. let l = above q (n + 1) owns d j in omega (arith, l)
    ] i

distinct_from : (q : ℕ → Bool) (n : ℕ) (owns : List ℕ) → AreDistinct (objects_from q n owns)
distinct_from q n [] = tt
distinct_from q n (own ∷ owns) =
    elim (q own) as (λ b. AreDistinct (elim b [ true ↦ n ∷ objects_from q (n + 1) owns | false ↦ objects_from q (n + 1) owns ])) [
      | true ↦ (λ i. let l = above q (n + 1) owns n i in omega (arith, l), distinct_from q (n + 1) owns)
      | false ↦ distinct_from q (n + 1) owns
    ]

distinct_range : (s : Signature) (t : Term) → AreDistinct (range_of s t)
distinct_range s (Object d) = (λ i. i, tt)
distinct_range s (Parameter j) = tt
distinct_range s (Apply h ts) = elim (slice_get s.functions h) as (λ o. AreDistinct (option_map_or (λ (x : Shape). objects_of s x.result) o [])) [ None ↦ tt | Some x ↦ unfold objects_of in distinct_from (λ own. fits_type s own x.result) 0 s.objects ]

pub distinct_left : (s : Signature) (d : Five) (t : Term) → AreDistinct (left s d t)
unfolding left
distinct_left s d t = distinct_filter (λ o. not (holds s d (inequation t (object o)))) (range_of s t) (distinct_range s t)

-- ---- instances

each_numbered : {X : Type 0} (P : X → Type 0) (n : ℕ) (xs : List X) → Each P xs → Each (λ q. P q.1) (numbered n xs)
each_numbered P n [] a = tt
each_numbered P n (x ∷ xs) a = (a.0, each_numbered P (n + 1) xs a.1)

pub choices_length : {X : Type 0} (h : ℕ → List X) (params : List ℕ) (given : List X) → IsIn given (choices_from (map h params)) → length given ≡ length params
choices_length h [] given (inl e) = ap length (sym e)
choices_length h [] given (inr i) = absurd i
choices_length h (a ∷ params) given i =
    let r = in_flat_mapped (λ x. map (λ ys. x ∷ ys) (choices_from (map h params))) (h a) given i in
    let q = in_mapped (λ ys. r.0 ∷ ys) (choices_from (map h params)) given r.2 in
    ap length (sym q.2) ∙ ap suc (choices_length h params q.0 q.1)

objects_renamed : (f : ℕ → ℕ) (ts : List Inner) → all_some (map as_object (map (renamed_inner f) ts)) ≡ option_map (map f) (all_some (map as_object ts))
objects_renamed f [] = refl
objects_renamed f (Object d ∷ ts) =
    ap (λ (o : Option (List ℕ)). elim o as (λ _. Option (List ℕ)) [ None ↦ None | Some ys ↦ Some (f d ∷ ys) ]) (objects_renamed f ts)
    ∙ elim (all_some (map as_object ts)) as (λ (o : Option (List ℕ)). (elim (option_map (map f) o) as (λ _. Option (List ℕ)) [ None ↦ None | Some ys ↦ Some (f d ∷ ys) ]) ≡ option_map (map f) (elim o as (λ _. Option (List ℕ)) [ None ↦ None | Some ys ↦ Some (d ∷ ys) ])) [ None ↦ refl | Some ys ↦ refl ]
objects_renamed f (Parameter i ∷ ts) = refl
objects_renamed f (Apply h ds ∷ ts) = refl

as_inner_renamed : (f : ℕ → ℕ) (t : Term) → as_inner (renamed_term f t) ≡ option_map (renamed_inner f) (as_inner t)
as_inner_renamed f (Object d) = refl
as_inner_renamed f (Parameter i) = refl
as_inner_renamed f (Apply h ts) =
    ap (option_map (λ ds. Apply h ds)) (objects_renamed f ts)
    ∙ elim (all_some (map as_object ts)) as (λ o. ◌≡◌ {A = Option Inner} (option_map (λ ds. Apply h ds) (option_map (map f) o)) (option_map (renamed_inner f) (option_map (λ ds. Apply h ds) o))) [ None ↦ refl | Some ds ↦ refl ]

chosen_renamed : (r : Inner → Inner) (b : Bool) (o : Option Inner) (u : Inner) → cond b o None ≡ Some u → cond b (option_map r o) None ≡ Some (r u)
chosen_renamed r true o u e = ap (option_map r) e
chosen_renamed r false o u e = absurd (none-some u e)

module _ (s : Signature) (f g : ℕ → ℕ) (d e : Five) (m : Mirror s f g d e) where
  candidates_go : (a : ℕ) (u : Inner) → IsIn u (candidates s d a) → IsIn (renamed_inner f u) (candidates s e a)
  candidates_go a u i =
      let h = λ (t : Term). cond (has_type s t a) (as_inner t) None in
      ⊎_elim
      (λ j. let r = in_mapped Object (objects_of s a) u j in
      subst (λ x. IsIn (renamed_inner f x) (candidates s e a)) r.2 (in_left (map Object (objects_of s a)) (filter_map h e.kv) (Object (f r.0)) (in_map Object (objects_of s a) (f r.0) (objects_image s f g m.renaming a r.0 r.1))))
      (λ j. let r = in_filter_mapped h d.kv u j in
      in_right (map Object (objects_of s a)) (filter_map h e.kv) (renamed_inner f u)
      (in_filter_map h e.kv (renamed_term f r.0) (renamed_inner f u) (m.images.there.values r.0 r.1)
      ((λ k. cond (has_type_image s f g m.renaming r.0 a k) (as_inner_renamed f r.0 k) None) ∙ chosen_renamed (renamed_inner f) (has_type s r.0 a) (as_inner r.0) u r.2)))
      (in_appended (map Object (objects_of s a)) (filter_map h d.kv) u i)

  choices_go : (params : List ℕ) (given : List Inner) → IsIn given (choices_from (map (candidates s d) params)) → IsIn (map (renamed_inner f) given) (choices_from (map (candidates s e) params))
  choices_go [] given (inl q) = inl (ap (map (renamed_inner f)) q)
  choices_go [] given (inr i) = absurd i
  choices_go (a ∷ params) given i =
      let r = in_flat_mapped (λ x. map (λ ys. x ∷ ys) (choices_from (map (candidates s d) params))) (candidates s d a) given i in
      let q = in_mapped (λ ys. r.0 ∷ ys) (choices_from (map (candidates s d) params)) given r.2 in
      subst (λ us. IsIn (map (renamed_inner f) us) (choices_from (map (candidates s e) (a ∷ params)))) q.2
      (in_flat (λ x. map (λ ys. x ∷ ys) (choices_from (map (candidates s e) params))) (candidates s e a) (renamed_inner f r.0) (renamed_inner f r.0 ∷ map (renamed_inner f) q.0) (candidates_go a r.0 r.1)
      (in_map (λ ys. renamed_inner f r.0 ∷ ys) (choices_from (map (candidates s e) params)) (map (renamed_inner f) q.0) (choices_go params q.0 q.1)))

  allowed_image : (sc : Schema) (given : List Inner) → IsFixedSchema f sc → length given ≡ length sc.parameters → is_allowed s e sc (map (renamed_inner f) given) ≡ is_allowed s d sc given
  allowed_image sc given x n =
      let count = length sc.parameters in
      all_same (λ q. answers s e (query_at (map (renamed_inner f) given) q)) (λ q. answers s d (query_at given q)) sc.pre
      (each_weaker (λ (q : Query). IsFixedPlain f count q.asks) (λ q. answers s e (query_at (map (renamed_inner f) given) q) ≡ answers s d (query_at given q))
      (λ q a. ap (answers s e) (sym (query_at_image f count given n q a)) ∙ answers_image s f g d e m (query_at given q)) sc.pre x.pre)

  instance_goes : (x : ℕ × Schema) → IsFixedSchema f x.1 → (i : Instance) → IsIn i (instances_at s d x) → IsIn (renamed_instance f i) (instances_at s e x)
  instance_goes x fixed i j =
      let make = λ (given : List Inner). let z : Instance = record { action = x.0; arguments = given } in z in
      let all = choices_from (map (candidates s d) x.1.parameters) in
      let others = choices_from (map (candidates s e) x.1.parameters) in
      let b = in_mapped make (filter (is_allowed s d x.1) all) i j in
      let c = in_filtered (is_allowed s d x.1) all b.0 b.1 in
      let enough = choices_length (candidates s d) x.1.parameters b.0 c.0 in
      subst (λ z. IsIn (renamed_instance f z) (instances_at s e x)) b.2
      (in_map make (filter (is_allowed s e x.1) others) (map (renamed_inner f) b.0)
      (in_filter (is_allowed s e x.1) others (map (renamed_inner f) b.0) (choices_go x.1.parameters b.0 c.0) (allowed_image x.1 b.0 fixed enough ∙ c.1)))

pub instances_image : (p : Problem) (f g : ℕ → ℕ) (d e : Five) → IsSymmetry p f g → Mirror p.signature f g d e → (i : Instance) → IsIn i (instances p d) → IsIn (renamed_instance f i) (instances p e)
unfolding instances
instances_image p f g d e y m i j =
    let a = in_flat_mapped (instances_at p.signature d) (numbered 0 p.schemas) i j in
    let fixed = each_in (λ (q : ℕ × Schema). IsFixedSchema f q.1) (numbered 0 p.schemas) a.0 (each_numbered (IsFixedSchema f) 0 p.schemas y.texts) a.1 in
    in_flat (instances_at p.signature e) (numbered 0 p.schemas) a.0 (renamed_instance f i) a.1 (instance_goes p.signature f g d e m a.0 fixed i a.2)

-- ---- what is left, and what a side denies

left_goes : (s : Signature) (f g : ℕ → ℕ) (d e : Five) → Mirror s f g d e → (t : Term) (o : ℕ) → IsIn o (left s d t) → IsIn (f o) (left s e (renamed_term f t))
unfolding left
left_goes s f g d e m t o i =
    let r = in_filtered (λ x. not (holds s d (inequation t (object x)))) (range_of s t) o i in
    in_filter (λ x. not (holds s e (inequation (renamed_term f t) (object x)))) (range_of s (renamed_term f t)) (f o) (range_image s f g m.renaming t o r.0)
    (ap not (ap (holds s e) (sym (image_inequation f t (object o))) ∙ holds_image s f g d e m (inequation t (object o))) ∙ r.1)

left_shorter : (s : Signature) (f g : ℕ → ℕ) (d e : Five) → Mirror s f g d e → (t : Term) → length (left s d t) ≤ length (left s e (renamed_term f t))
left_shorter s f g d e m t =
    let few = no_longer (map f (left s d t)) (left s e (renamed_term f t)) (distinct_map f g m.renaming.back (left s d t) (distinct_left s d t))
    (λ o i. let r = in_mapped f (left s d t) o i in subst (λ z. IsIn z (left s e (renamed_term f t))) r.2 (left_goes s f g d e m t r.0 r.1)) in
    subst (λ n. n ≤ length (left s e (renamed_term f t))) (same_length f (left s d t)) few

left_length : (s : Signature) (f g : ℕ → ℕ) (d e : Five) → Mirror s f g d e → (t : Term) → length (left s e (renamed_term f t)) ≡ length (left s d t)
left_length s f g d e m t =
    let there = left_shorter s f g d e m t in
    let back = subst (λ u. length (left s e (renamed_term f t)) ≤ length (left s d u)) (term_back f g m.renaming.back t) (left_shorter s g f e d (mirror_turned s f g d e m) (renamed_term f t)) in
    omega (arith, there, back)

filter_renamed : {X : Type 0} (q : X → Bool) (h : X → X) (xs : List X) → filter q (map h xs) ≡ map h (filter (λ x. q (h x)) xs)
filter_renamed q h [] = refl
filter_renamed q h (x ∷ xs) =
    elim (q (h x)) as (λ b. cond b (h x ∷ filter q (map h xs)) (filter q (map h xs)) ≡ map h (cond b (x ∷ filter (λ x. q (h x)) xs) (filter (λ x. q (h x)) xs))) [
      | true ↦ ap (λ ys. h x ∷ ys) (filter_renamed q h xs)
      | false ↦ filter_renamed q h xs
    ]

alone : {X : Type 0} (x : X) (ys : List X) → Permuted (x ∷ []) ys → ys ≡ x ∷ []
alone {X} x ys a = only ys (sym (permuted_length (x ∷ []) ys a)) (permuted_in (x ∷ []) ys a x (inl refl))
  where
    only : (ys : List X) → length ys ≡ 1 → IsIn x ys → ys ≡ x ∷ []
    only [] n i = absurd i
    only (y ∷ []) n (inl e) = ap (λ z. z ∷ []) e
    only (y ∷ []) n (inr i) = absurd i
    only (y ∷ z ∷ zs) n i = absurd (omega (arith, n))

denied_one : (xs : List Literal) (l : Literal) → IsIn l (denials xs) → (k : Literal) × (xs ≡ k ∷ []) × (negated k ≡ l)
denied_one [] l i = absurd i
denied_one (k ∷ []) l (inl e) = (k, refl, e)
denied_one (k ∷ []) l (inr i) = absurd i
denied_one (k ∷ m ∷ ms) l i = absurd i

-- what different members become stays different
still_apart : {X : Type 0} (cmp : X → X → Ordering) → IsTotalOrder cmp → IsAntisymmetric cmp → (r : X → X) (x y : X) → (r x ≡ r y → x ≡ y) → not (is_eq (cmp x y)) ≡ true → not (is_eq (cmp (r x) (r y))) ≡ true
still_apart cmp total tells r x y one h =
    elim (is_eq (cmp (r x) (r y))) as (λ b. is_eq (cmp (r x) (r y)) ≡ b → not b ≡ true) [
      | true ↦ λ q. let e : x ≡ y = one (tells (r x) (r y) ((Equal-is (cmp (r x) (r y))).0 q)) in
          absurd (true≢false (sym h ∙ ap not (ap is_eq (ap (cmp x) (sym e) ∙ tied_itself total x))))
      | false ↦ λ q. refl
    ] refl

module _ (s : Signature) (f g : ℕ → ℕ) (d e : Five) (m : Mirror s f g d e) (n : IsNeat d) where
  denials_go : (c : List Literal) → IsIn c d.kw → (l : Literal) → IsIn l (denials (filter (λ k. not (holds s d k)) c)) → IsIn (renamed_literal f l) (denials (filter (λ k. not (holds s e k)) (renamed_conj f c)))
  denials_go c i l j =
      let neat = each_in (λ c. Each IsInOrder c × IsOrdered literal_cmp c) d.kw c n.whether i in
      let r = denied_one (filter (λ k. not (holds s d k)) c) l j in
      let open_here = λ (k : Literal). not (holds s e k) in
      let before : filter open_here (map (renamed_literal f) c) ≡ renamed_literal f r.0 ∷ [] =
      filter_renamed open_here (renamed_literal f) c ∙ (λ k. map (renamed_literal f) (filter (λ x. not (holds_image s f g d e m x k)) c)) ∙ ap (map (renamed_literal f)) r.1 in
      let order = permuted_filter open_here (map (renamed_literal f) c) (renamed_conj f c) (conj_permuted f g m.renaming.back c neat.0 neat.1) in
      let after : filter open_here (renamed_conj f c) ≡ renamed_literal f r.0 ∷ [] = alone (renamed_literal f r.0) (filter open_here (renamed_conj f c)) (subst (λ xs. Permuted xs (filter open_here (renamed_conj f c))) before order) in
      subst (λ xs. IsIn (renamed_literal f l) (denials xs)) (sym after) (inl (sym (image_negated f r.0) ∙ ap (renamed_literal f) r.2))

  formula_goes : (c us vs : List Literal) → IsIn c d.kw → ((l : Literal) → IsIn l us → IsIn (renamed_literal f l) vs) → GoesTo f (assumed_formula d c us) (assumed_formula e (renamed_conj f c) vs)
  formula_goes c us vs i h = record {
    known = λ l j. ⊎_elim
        (λ k. ⊎_elim (λ q. inl q) (λ q. inr (added_in literal_cmp_total literal_cmp_tells e.kf vs (renamed_literal f l) (inl q))) (m.images.there.known l k))
        (λ k. inr (added_in literal_cmp_total literal_cmp_tells e.kf vs (renamed_literal f l) (inr (h l k))))
        (in_added literal_cmp_total literal_cmp_tells d.kf us l j);
    whether = λ b j.
        let r = in_filtered (λ b. not (is_eq (conj_cmp b c))) d.kw b j in
        let mine = each_in (λ c. Each IsInOrder c × IsOrdered literal_cmp c) d.kw c n.whether i in
        let other = each_in (λ c. Each IsInOrder c × IsOrdered literal_cmp c) d.kw b n.whether r.0 in
        in_filter (λ b. not (is_eq (conj_cmp b (renamed_conj f c)))) e.kw (renamed_conj f b) (m.images.there.whether b r.0)
        (still_apart conj_cmp conj_cmp_total conj_cmp_tells (renamed_conj f) b c (λ q. sym (conj_back f g m.renaming.back b other.0 other.1) ∙ ap (renamed_conj g) q ∙ conj_back f g m.renaming.back c mine.0 mine.1) r.1);
    values = m.images.there.values;
    groups = m.images.there.groups;
    regions = m.images.there.regions;
  }

  assumed_goes : (c : Choice) (side : Side) → IsMember d c → GoesTo f (assumed s d c side) (assumed s e (renamed_choice f c) (renamed_side f side))
  unfolding assumed term_eq
  assumed_goes (BranchOn c) AsTrue i = formula_goes c c (renamed_conj f c) i (image_in f c)
  assumed_goes (BranchOn c) AsFalse i = formula_goes c (denials (filter (λ l. not (holds s d l)) c)) (denials (filter (λ l. not (holds s e l)) (renamed_conj f c))) i (denials_go c i)
  assumed_goes (CasesOn t) (Is o) i = record {
    known = λ l j.
        let put = λ (q : (equation (renamed_term f t) (object (f o)) ≡ renamed_literal f l) ⊎ IsIn (renamed_literal f l) e.kf). inserted_in literal_cmp_total literal_cmp_tells (equation (renamed_term f t) (object (f o))) e.kf (renamed_literal f l) q in
        ⊎_elim
        (λ q. inr (put (inl (sym (image_equation f t (object o)) ∙ ap (renamed_literal f) q))))
        (λ k. ⊎_elim (λ q. inl q) (λ q. inr (put (inr q))) (m.images.there.known l k))
        (in_inserted literal_cmp_total literal_cmp_tells (equation t (object o)) d.kf l j);
    whether = m.images.there.whether;
    values = λ u j.
        let r = in_filtered (λ u. not (term_eq u t)) d.kv u j in
        in_filter (λ u. not (term_eq u (renamed_term f t))) e.kv (renamed_term f u) (m.images.there.values u r.0)
        (still_apart term_cmp term_cmp_total term_cmp_tells (renamed_term f) u t (λ q. sym (term_back f g m.renaming.back u) ∙ ap (renamed_term g) q ∙ term_back f g m.renaming.back t) r.1);
    groups = m.images.there.groups;
    regions = m.images.there.regions;
  }
  assumed_goes (BranchOn c) (Is o) i = m.images.there
  assumed_goes (CasesOn t) AsTrue i = m.images.there
  assumed_goes (CasesOn t) AsFalse i = m.images.there
  assumed_goes (Act x) AsTrue i = absurd i
  assumed_goes (Act x) AsFalse i = absurd i
  assumed_goes (Act x) (Is o) i = absurd i

  choice_back : (c : Choice) → IsMember d c → renamed_choice g (renamed_choice f c) ≡ c
  choice_back (BranchOn c) i = let neat = each_in (λ c. Each IsInOrder c × IsOrdered literal_cmp c) d.kw c n.whether i in ap BranchOn (conj_back f g m.renaming.back c neat.0 neat.1)
  choice_back (CasesOn t) i = ap CasesOn (term_back f g m.renaming.back t)
  choice_back (Act x) i = absurd i

side_back : (f g : ℕ → ℕ) → ((d : ℕ) → g (f d) ≡ d) → (side : Side) → renamed_side g (renamed_side f side) ≡ side
side_back f g back AsTrue = refl
side_back f g back AsFalse = refl
side_back f g back (Is o) = ap Is (back o)

-- ---- the laws

module _ (s : Signature) (f g : ℕ → ℕ) (d e : Five) (m : Mirror s f g d e) where
  pub undecided_image : (c : List Literal) → is_undecided s e (renamed_conj f c) ≡ is_undecided s d c
  unfolding is_undecided
  undecided_image c =
      let denied = λ (l : Literal). ap (holds s e) (sym (image_negated f l)) ∙ holds_image s f g d e m (negated l) in
      let some : list_any (λ l. holds s e (negated l)) (renamed_conj f c) ≡ list_any (λ l. holds s d (negated l)) c = image_any f (λ l. holds s e (negated l)) c ∙ (λ i. list_any (λ l. denied l i) c) in
      let all : list_all (holds s e) (renamed_conj f c) ≡ list_all (holds s d) c = image_all f (holds s e) c ∙ (λ i. list_all (λ l. holds_image s f g d e m l i) c) in
      λ i. not (some i) && not (all i)

  pub left_image : (t : Term) (o : ℕ) → IsIn o (left s d t) → IsIn (f o) (left s e (renamed_term f t))
  left_image t o i = left_goes s f g d e m t o i

  pub split_image : (t : Term) → may_split s e (renamed_term f t) ≡ may_split s d t
  split_image t = λ i. nat_le 1 (left_length s f g d e m t i) && nat_le (left_length s f g d e m t i) 16

  pub member_image : (c : Choice) → IsMember d c → IsMember e (renamed_choice f c)
  member_image (BranchOn c) i = m.images.there.whether c i
  member_image (CasesOn t) i = m.images.there.values t i
  member_image (Act x) i = i

  pub assumed_image : (c : Choice) (side : Side) → IsNeat d → IsNeat e → IsMember d c → AreImages f g (assumed s d c side) (assumed s e (renamed_choice f c) (renamed_side f side))
  assumed_image c side n k i = record {
    there = assumed_goes s f g d e m n c side i;
    back = subst (λ x. GoesTo g (assumed s e (renamed_choice f c) (renamed_side f side)) (assumed s d c x)) (side_back f g m.renaming.back side)
        (subst (λ x. GoesTo g (assumed s e (renamed_choice f c) (renamed_side f side)) (assumed s d x (renamed_side g (renamed_side f side)))) (choice_back s f g d e m n c i)
        (assumed_goes s g f e d (mirror_turned s f g d e m) k (renamed_choice f c) (renamed_side f side) (member_image c i)));
  }

pub assumed_neat : (s : Signature) (d : Five) (c : Choice) (side : Side) → IsNeat d → IsMember d c → IsNeat (assumed s d c side)
unfolding assumed
assumed_neat s d c side n i =
    let order : AreInOrder d = record { known = n.known; whether = each_weaker (λ c. Each IsInOrder c × IsOrdered literal_cmp c) (Each IsInOrder) (λ c a. a.0) d.kw n.whether; groups = each_weaker (λ x. Each IsInOrder x × (in_sequence x ≡ x)) (Each IsInOrder) (λ x a. a.0) d.kx n.groups } in
    go c side i (assumed_ordered s d order c side i).known
  where
    more_known : (news : List Literal) (b : List Literal) → Each IsInOrder (added literal_cmp d.kf news) → IsNeat (assumed_formula d b news)
    more_known news b o = record { sorted = ordered_added literal_cmp_total literal_cmp_tells d.kf news n.sorted; known = o; whether = each_kept (λ c. Each IsInOrder c × IsOrdered literal_cmp c) (λ x. not (is_eq (conj_cmp x b))) d.kw n.whether; groups = n.groups; regions = n.regions }

    go : (c : Choice) (side : Side) → IsMember d c → Each IsInOrder (assumed s d c side).kf → IsNeat (assumed s d c side)
    go (BranchOn b) AsTrue i o = more_known b b o
    go (BranchOn b) AsFalse i o = more_known (denials (filter (λ l. not (holds s d l)) b)) b o
    go (CasesOn t) (Is e) i o = record { sorted = ordered_insert literal_cmp_total literal_cmp_tells (equation t (object e)) d.kf n.sorted; known = o; whether = n.whether; groups = n.groups; regions = n.regions }
    go (BranchOn b) (Is e) i o = n
    go (CasesOn t) AsTrue i o = n
    go (CasesOn t) AsFalse i o = n
    go (Act x) side i o = absurd i
