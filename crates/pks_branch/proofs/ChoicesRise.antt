-- The list of choices rises: the lists that it is made of rise, and each stands below the next.
use Rattle.std.proofs.Common.{◌≡◌, ◌<◌, ◌+◌, ℕ, Bool, true, false, cond, List, [], ◌∷◌, ◌++◌, map, filter, filter_map, flat_map, Option, Some, None, Ordering, Less, Equal, Greater, nat_cmp, refl, sym, ap, ◌∙◌, arith}
use Rattle.std.specs.Ordering.{ordering_then}
use Rattle.std.specs.Option.{option_map}
use Rattle.std.specs.List.{cons_option}
use Rattle.std.specs.Cmp.{IsTotalOrder, nat_cmp_is, tied_itself}
use Rattle.std.specs.Cmp.Lexicographic.{slice_cmp}
use Rattle.std.proofs.lemmas.Cmp.{nat_cmp_total}
use Rattle.std.proofs.lemmas.Option.{none-some, same_Some}
use Rattle.pks_terms.specs.Sets.{Each, IsOrdered, choices_from, all_some}
use Rattle.pks_terms.specs.Syntax.{Object, Parameter, Apply, Inner, Term, Literal, as_object}
use Rattle.pks_terms.specs.Orders.{inner_cmp, term_cmp, conj_cmp}
use Rattle.pks_terms.specs.Totality.{inner_cmp_total}
use Rattle.pks_terms.specs.Signatures.{Signature, has_type, fits_type, objects_from, objects_of}
use Rattle.pks_terms.specs.Databases.{Five}
use Rattle.pks_terms.specs.Actions.{Schema, Instance}
use Rattle.pks_terms.specs.Problems.{Problem}
use Rattle.pks_terms.specs.Trees.{instance_cmp}
use Rattle.pks_terms.specs.Branching.{as_inner, candidates, is_allowed, instances_at, numbered, instances, is_undecided, may_split, Act, BranchOn, CasesOn, choices}
use Rattle.pks_terms.proofs.ListLaws.{each_append, each_in, each_of, each_map, each_weaker, each_kept, each_flat_map, each_filter_map}
use Rattle.pks_branch.specs.ChoiceOrder.{choice_cmp}

-- ---- lists that rise, by any order

module _ {X : Type 0} (R : X → X → Ordering) where
  -- each of the first list is below each of the second
  abbrev AreBelow : List X → List X → Type 0
  AreBelow xs ys = Each (λ x. Each (λ y. R x y ≡ Less) ys) xs

  ordered_append : (xs ys : List X) → IsOrdered R xs → IsOrdered R ys → AreBelow xs ys → IsOrdered R (xs ++ ys)
  ordered_append [] ys a b c = b
  ordered_append (x ∷ xs) ys a b c = (each_append (λ y. R x y ≡ Less) xs ys a.0 c.0, ordered_append xs ys a.1 b c.1)

  ordered_filter : (p : X → Bool) (xs : List X) → IsOrdered R xs → IsOrdered R (filter p xs)
  ordered_filter p [] h = tt
  ordered_filter p (x ∷ xs) h =
      elim (p x) as (λ b. IsOrdered R (cond b (x ∷ filter p xs) (filter p xs))) [
        | true ↦ (each_kept (λ y. R x y ≡ Less) p xs h.0, ordered_filter p xs h.1)
        | false ↦ ordered_filter p xs h.1
      ]

  module _ {A : Type 0} (Q : A → A → Ordering) where
    ordered_map : (f : A → X) → ((a b : A) → Q a b ≡ Less → R (f a) (f b) ≡ Less) → (items : List A) → IsOrdered Q items → IsOrdered R (map f items)
    ordered_map f rises [] h = tt
    ordered_map f rises (a ∷ rest) h =
        (each_map (λ y. R (f a) y ≡ Less) f rest (each_weaker (λ b. Q a b ≡ Less) (λ b. R (f a) (f b) ≡ Less) (rises a) rest h.0), ordered_map f rises rest h.1)

    ordered_flat_map : (f : A → List X) → ((a : A) → IsOrdered R (f a)) → ((a b : A) → Q a b ≡ Less → AreBelow (f a) (f b)) → (items : List A) → IsOrdered Q items → IsOrdered R (flat_map f items)
    ordered_flat_map f each below [] h = tt
    ordered_flat_map f each below (a ∷ rest) h =
        ordered_append (f a) (flat_map f rest) (each a) (ordered_flat_map f each below rest h.1)
        (each_of (λ x. Each (λ y. R x y ≡ Less) (flat_map f rest)) (f a) (λ x i.
        each_flat_map (λ y. R x y ≡ Less) f rest (λ b j. each_in (λ z. Each (λ y. R z y ≡ Less) (f b)) (f a) x (below a b (each_in (λ c. Q a c ≡ Less) rest b h.0 j)) i)))

    ordered_filter_map : (f : A → Option X) → ((a b : A) (x y : X) → f a ≡ Some x → f b ≡ Some y → Q a b ≡ Less → R x y ≡ Less) → (items : List A) → IsOrdered Q items → IsOrdered R (filter_map f items)
    ordered_filter_map f rises [] h = tt
    ordered_filter_map f rises (a ∷ rest) h =
        elim (f a) as (λ o. f a ≡ o → IsOrdered R (cons_option o (filter_map f rest))) [
          | None ↦ λ e. ordered_filter_map f rises rest h.1
          | Some x ↦ λ e. (each_filter_map (λ y. R x y ≡ Less) f rest (λ b y i g. rises a b x y e g (each_in (λ c. Q a c ≡ Less) rest b h.0 i)), ordered_filter_map f rises rest h.1)
        ] refl

less_first : (a b : Ordering) → a ≡ Less → ordering_then a b ≡ Less
less_first a b e = ap (λ r. ordering_then r b) e

equal_first : (a b : Ordering) → a ≡ Equal → b ≡ Less → ordering_then a b ≡ Less
equal_first a b e h = ap (λ r. ordering_then r b) e ∙ h

-- one element of each of some lists that rise
choices_rise : {X : Type 0} (R : X → X → Ordering) → IsTotalOrder R → (xss : List (List X)) → Each (IsOrdered R) xss → IsOrdered (slice_cmp R) (choices_from xss)
choices_rise R total [] h = (tt, tt)
choices_rise {X} R total (xs ∷ xss) h =
    let ways = choices_from xss in
    let later = choices_rise R total xss h.1 in
    ordered_flat_map (slice_cmp R) R (λ x. map (λ ys. x ∷ ys) ways)
    (λ x. ordered_map (slice_cmp R) (slice_cmp R) (λ ys. x ∷ ys) (λ ys zs e. equal_first (R x x) (slice_cmp R ys zs) (tied_itself total x) e) ways later)
    (λ x y e. each_map (λ way. Each (λ other. slice_cmp R way other ≡ Less) (map (λ zs. y ∷ zs) ways)) (λ ys. x ∷ ys) ways
    (each_of (λ ys. Each (λ other. slice_cmp R (x ∷ ys) other ≡ Less) (map (λ zs. y ∷ zs) ways)) ways (λ ys i.
    each_map (λ other. slice_cmp R (x ∷ ys) other ≡ Less) (λ zs. y ∷ zs) ways (each_of (λ zs. slice_cmp R (x ∷ ys) (y ∷ zs) ≡ Less) ways (λ zs j. less_first (R x y) (slice_cmp R ys zs) e)))))
    xs h.0

-- ---- candidates

above : (p : ℕ → Bool) (k n : ℕ) (owns : List ℕ) → k < n → Each (λ d. nat_cmp k d ≡ Less) (objects_from p n owns)
above p k n [] h = tt
above p k n (own ∷ owns) h =
    elim (p own) as (λ b. Each (λ d. nat_cmp k d ≡ Less) (elim b [ true ↦ n ∷ objects_from p (n + 1) owns | false ↦ objects_from p (n + 1) owns ])) [
      | true ↦ (sym (nat_cmp_is k n Less h), above p k (n + 1) owns (omega arith))
      | false ↦ above p k (n + 1) owns (omega arith)
    ]

objects_rise : (p : ℕ → Bool) (n : ℕ) (owns : List ℕ) → IsOrdered nat_cmp (objects_from p n owns)
objects_rise p n [] = tt
objects_rise p n (own ∷ owns) =
    elim (p own) as (λ b. IsOrdered nat_cmp (elim b [ true ↦ n ∷ objects_from p (n + 1) owns | false ↦ objects_from p (n + 1) owns ])) [
      | true ↦ (above p n (n + 1) owns (omega arith), objects_rise p (n + 1) owns)
      | false ↦ objects_rise p (n + 1) owns
    ]

objects_of_rise : (s : Signature) (wanted : ℕ) → IsOrdered nat_cmp (objects_of s wanted)
unfolding objects_of
objects_of_rise s wanted = objects_rise (λ own. fits_type s own wanted) 0 s.objects

object_below : (d e : ℕ) → nat_cmp d e ≡ Less → inner_cmp (Object d) (Object e) ≡ Less
object_below d e h = less_first (nat_cmp d e) _ h

then_nothing : (a : Ordering) → ordering_then a Equal ≡ a
then_nothing Less = refl
then_nothing Equal = refl
then_nothing Greater = refl

-- arguments that are objects are those objects
are_objects : (ts : List Inner) (ds : List ℕ) → all_some (map as_object ts) ≡ Some ds → ts ≡ map Object ds
are_objects [] ds e = ap (map Object) (same_Some [] ds e)
are_objects (Parameter i ∷ ts) ds e = absurd (none-some ds e)
are_objects (Apply f us ∷ ts) ds e = absurd (none-some ds e)
are_objects (Object d ∷ ts) ds e =
    elim (all_some (map as_object ts)) as (λ o. all_some (map as_object ts) ≡ o → elim o as (λ _. Option (List ℕ)) [ None ↦ None | Some ys ↦ Some (d ∷ ys) ] ≡ Some ds → Object d ∷ ts ≡ map Object ds) [
      | None ↦ λ q h. absurd (none-some ds h)
      | Some ys ↦ λ q h. (λ i. Object d ∷ are_objects ts ys q i) ∙ ap (map Object) (same_Some (d ∷ ys) ds h)
    ] refl e

-- a term that is an application to objects, and that application
pub record IsApplied (t : Term) (u : Inner) : Type 0 where
  pub fun : ℕ
  pub objects : List ℕ
  pub term : t ≡ Apply fun (map Object objects)
  pub argument : u ≡ Apply fun objects

is_applied : (t : Term) (u : Inner) → as_inner t ≡ Some u → IsApplied t u
is_applied (Object d) u e = absurd (none-some u e)
is_applied (Parameter i) u e = absurd (none-some u e)
is_applied (Apply f ts) u e =
    elim (all_some (map as_object ts)) as (λ o. all_some (map as_object ts) ≡ o → option_map (λ ds. Apply f ds) o ≡ Some u → IsApplied (Apply f ts) u) [
      | None ↦ λ q h. absurd (none-some u h)
      | Some ds ↦ λ q h. record { fun = f; objects = ds; term = ap (Apply f) (are_objects ts ds q); argument = sym (same_Some (Apply f ds) u h) }
    ] refl e

lifted_cmp : (ds es : List ℕ) → slice_cmp inner_cmp (map Object ds) (map Object es) ≡ slice_cmp nat_cmp ds es
lifted_cmp [] [] = refl
lifted_cmp [] (e ∷ es) = refl
lifted_cmp (d ∷ ds) [] = refl
lifted_cmp (d ∷ ds) (e ∷ es) = λ i. ordering_then (then_nothing (nat_cmp d e) i) (lifted_cmp ds es i)

-- terms that are known values stand in the order of the arguments that they are
values_rise : (t t' : Term) (u u' : Inner) → as_inner t ≡ Some u → as_inner t' ≡ Some u' → term_cmp t t' ≡ Less → inner_cmp u u' ≡ Less
unfolding term_cmp
values_rise t t' u u' e e' h =
    let a = is_applied t u e in
    let b = is_applied t' u' e' in
    let terms : term_cmp (Apply a.fun (map Object a.objects)) (Apply b.fun (map Object b.objects)) ≡ Less = (λ i. term_cmp (sym a.term i) (sym b.term i)) ∙ h in
    let numbers = nat_cmp a.fun b.fun in
    (λ i. inner_cmp (a.argument i) (b.argument i)) ∙ ap (ordering_then numbers) (sym (lifted_cmp a.objects b.objects)) ∙ terms

chosen : {X : Type 0} (b : Bool) (o : Option X) (x : X) → cond b o None ≡ Some x → o ≡ Some x
chosen true o x e = e
chosen false o x e = absurd (none-some x e)

-- an object stands before an application
value_above : (d : ℕ) (t : Term) (u : Inner) → as_inner t ≡ Some u → inner_cmp (Object d) u ≡ Less
value_above d t u e = let a = is_applied t u e in ap (inner_cmp (Object d)) a.argument

candidates_rise : (s : Signature) (d : Five) (wanted : ℕ) → IsOrdered term_cmp d.kv → IsOrdered inner_cmp (candidates s d wanted)
candidates_rise s d wanted h =
    let value = λ (t : Term). cond (has_type s t wanted) (as_inner t) None in
    ordered_append inner_cmp (map Object (objects_of s wanted)) (filter_map value d.kv)
    (ordered_map inner_cmp nat_cmp Object object_below (objects_of s wanted) (objects_of_rise s wanted))
    (ordered_filter_map inner_cmp term_cmp value (λ t t' u u' e e' q. values_rise t t' u u' (chosen (has_type s t wanted) (as_inner t) u e) (chosen (has_type s t' wanted) (as_inner t') u' e') q) d.kv h)
    (each_map (λ x. Each (λ y. inner_cmp x y ≡ Less) (filter_map value d.kv)) Object (objects_of s wanted)
    (each_of (λ e. Each (λ y. inner_cmp (Object e) y ≡ Less) (filter_map value d.kv)) (objects_of s wanted) (λ e i.
    each_filter_map (λ y. inner_cmp (Object e) y ≡ Less) value d.kv (λ t u j q. value_above e t u (chosen (has_type s t wanted) (as_inner t) u q)))))

lists_rise : (s : Signature) (d : Five) (tys : List ℕ) → IsOrdered term_cmp d.kv → Each (IsOrdered inner_cmp) (map (candidates s d) tys)
lists_rise s d [] h = tt
lists_rise s d (wanted ∷ tys) h = (candidates_rise s d wanted h, lists_rise s d tys h)

-- ---- instances

later_number : (k n : ℕ) (xs : List Schema) → k < n → Each (λ a. nat_cmp k a.0 ≡ Less) (numbered n xs)
later_number k n [] h = tt
later_number k n (x ∷ xs) h = (sym (nat_cmp_is k n Less h), later_number k (n + 1) xs (omega arith))

abbrev by_number : ℕ × Schema → ℕ × Schema → Ordering
by_number a b = nat_cmp a.0 b.0

numbers_rise : (n : ℕ) (xs : List Schema) → IsOrdered by_number (numbered n xs)
numbers_rise n [] = tt
numbers_rise n (x ∷ xs) = (later_number n (n + 1) xs (omega arith), numbers_rise (n + 1) xs)

module _ (s : Signature) (d : Five) (values : IsOrdered term_cmp d.kv) where
  abbrev ways_of : ℕ × Schema → List (List Inner)
  ways_of a = filter (is_allowed s d a.1) (choices_from (map (candidates s d) a.1.parameters))

  abbrev instance_at : ℕ × Schema → List Inner → Instance
  instance_at a given = record { action = a.0; arguments = given }

  action_rises : (a : ℕ × Schema) → IsOrdered instance_cmp (instances_at s d a)
  action_rises a =
      ordered_map instance_cmp (slice_cmp inner_cmp) (instance_at a) (λ ys zs e. equal_first (nat_cmp a.0 a.0) (slice_cmp inner_cmp ys zs) (tied_itself nat_cmp_total a.0) e) (ways_of a)
      (ordered_filter (slice_cmp inner_cmp) (is_allowed s d a.1) (choices_from (map (candidates s d) a.1.parameters))
      (choices_rise inner_cmp inner_cmp_total (map (candidates s d) a.1.parameters) (lists_rise s d a.1.parameters values)))

  actions_part : (a b : ℕ × Schema) → by_number a b ≡ Less → AreBelow instance_cmp (instances_at s d a) (instances_at s d b)
  actions_part a b e =
      each_map (λ i. Each (λ j. instance_cmp i j ≡ Less) (instances_at s d b)) (instance_at a) (ways_of a)
      (each_of (λ ys. Each (λ j. instance_cmp (instance_at a ys) j ≡ Less) (instances_at s d b)) (ways_of a) (λ ys i.
      each_map (λ j. instance_cmp (instance_at a ys) j ≡ Less) (instance_at b) (ways_of b)
      (each_of (λ zs. instance_cmp (instance_at a ys) (instance_at b zs) ≡ Less) (ways_of b) (λ zs j. less_first (by_number a b) (slice_cmp inner_cmp ys zs) e))))

  actions_rise : (xs : List Schema) → IsOrdered instance_cmp (flat_map (instances_at s d) (numbered 0 xs))
  actions_rise xs = ordered_flat_map instance_cmp by_number (instances_at s d) action_rises actions_part (numbered 0 xs) (numbers_rise 0 xs)

instances_rise : (p : Problem) (d : Five) → IsOrdered term_cmp d.kv → IsOrdered instance_cmp (instances p d)
unfolding instances
instances_rise p d h = actions_rise p.signature d h p.schemas

-- ---- all choices

act_rises : (i j : Instance) → instance_cmp i j ≡ Less → choice_cmp (Act i) (Act j) ≡ Less
unfolding choice_cmp
act_rises i j e = less_first (instance_cmp i j) _ e

branch_rises : (b c : List Literal) → conj_cmp b c ≡ Less → choice_cmp (BranchOn b) (BranchOn c) ≡ Less
unfolding choice_cmp
branch_rises b c e = less_first (conj_cmp b c) _ e

cases_rise : (t u : Term) → term_cmp t u ≡ Less → choice_cmp (CasesOn t) (CasesOn u) ≡ Less
unfolding choice_cmp term_cmp
cases_rise t u e = e

act_before_branch : (i : Instance) (c : List Literal) → choice_cmp (Act i) (BranchOn c) ≡ Less
unfolding choice_cmp
act_before_branch i c = refl

act_before_cases : (i : Instance) (t : Term) → choice_cmp (Act i) (CasesOn t) ≡ Less
unfolding choice_cmp
act_before_cases i t = refl

branch_before_cases : (c : List Literal) (t : Term) → choice_cmp (BranchOn c) (CasesOn t) ≡ Less
unfolding choice_cmp
branch_before_cases c t = refl

each_mapped : {X Y : Type 0} (P : X → Type 0) (f : Y → X) (ys : List Y) → ((y : Y) → P (f y)) → Each P (map f ys)
each_mapped P f [] h = tt
each_mapped P f (y ∷ ys) h = (h y, each_mapped P f ys h)

-- the list of choices rises
pub all_rise : (p : Problem) (d : Five) → IsOrdered conj_cmp d.kw → IsOrdered term_cmp d.kv → IsOrdered choice_cmp (choices p d)
unfolding choices
all_rise p d whether values =
    let acts = instances p d in
    let formulas = filter (is_undecided p.signature d) d.kw in
    let terms = filter (may_split p.signature d) d.kv in
    ordered_append choice_cmp (map Act acts) (map BranchOn formulas ++ map CasesOn terms)
    (ordered_map choice_cmp instance_cmp Act act_rises acts (instances_rise p d values))
    (ordered_append choice_cmp (map BranchOn formulas) (map CasesOn terms)
    (ordered_map choice_cmp conj_cmp BranchOn branch_rises formulas (ordered_filter conj_cmp (is_undecided p.signature d) d.kw whether))
    (ordered_map choice_cmp term_cmp CasesOn cases_rise terms (ordered_filter term_cmp (may_split p.signature d) d.kv values))
    (each_mapped (λ x. Each (λ y. choice_cmp x y ≡ Less) (map CasesOn terms)) BranchOn formulas
    (λ c. each_mapped (λ y. choice_cmp (BranchOn c) y ≡ Less) CasesOn terms (branch_before_cases c))))
    (each_mapped (λ x. Each (λ y. choice_cmp x y ≡ Less) (map BranchOn formulas ++ map CasesOn terms)) Act acts
    (λ i. each_append (λ y. choice_cmp (Act i) y ≡ Less) (map BranchOn formulas) (map CasesOn terms)
    (each_mapped (λ y. choice_cmp (Act i) y ≡ Less) BranchOn formulas (act_before_branch i))
    (each_mapped (λ y. choice_cmp (Act i) y ≡ Less) CasesOn terms (act_before_cases i))))
