-- A walk goes on from a beginning: what it gives and what it leaves are what began with it.
use Rattle.std.proofs.Common.{◌≡◌, ◌<◌, ◌≤◌, ◌+◌, ◌-◌, ℕ, zero, suc, true, List, [], ◌∷◌, ◌++◌, map, length, get_or, drop, drop-cons, reverse, flat_map, Option, Some, None, option_map, slice_get, nat_lt, refl, sym, ap, ◌∙◌, subst, arith, add-one, append_assoc}
use Rattle.std.specs.List.{cons_option}
use Rattle.std.specs.Option.{option_map_or, option_to_list}
use Rattle.std.proofs.lemmas.List.{map-append, reverse-append, length-append}
use Rattle.std.proofs.lemmas.Grind.{flat_map-append}
use Rattle.std.proofs.lemmas.Bool.{ltb-true}
use Rattle.std.proofs.lemmas.Option.{none-some, same_Some, slice_get-map, slice_get_read, slice_get_past}
use Rattle.pks_terms.specs.declared.schema.Instance.{Instance as DInstance}
use Rattle.pks_terms.specs.declared.schema.Schema.{Schema as DSchema}
use Rattle.pks_terms.specs.Syntax.{Inner}
use Rattle.pks_terms.specs.Databases.{Five}
use Rattle.pks_terms.specs.Actions.{Schema, Instance}
use Rattle.pks_terms.specs.Problems.{Problem}
use Rattle.pks_terms.specs.Branching.{candidates, numbered, instances, instances_at}
use Rattle.pks_terms.specs.Views.{instance_of, schema_of}
use Rattle.pks_branch.specs.WalkViews.{beginnings_of}
use Rattle.pks_branch.specs.Early.{is_barred}
use Rattle.pks_branch.specs.Walks.{walked, allowed_at, lists_after, begun, bare, longer, for_each, count_beginnings, steps_from, steps_in, GoesOn}
use Rattle.pks_branch.proofs.Barring.{walk_barred}
use Rattle.pks_branch.proofs.WalkLaws.{all_instances}

-- the last one kept is the next
pub next_first : (xs : List DInstance) (x : DInstance) → beginnings_of (xs ++ x ∷ []) ≡ instance_of x ∷ beginnings_of xs
next_first xs x = ap reverse (map-append instance_of xs (x ∷ [])) ∙ reverse-append (map instance_of xs) (instance_of x ∷ [])

module _ {X Y : Type 0} (f : X → Y) where
  none_after : (xs : List X) (n : ℕ) → slice_get xs n ≡ None → drop n (map f xs) ≡ []
  none_after [] zero e = refl
  none_after [] (suc n) e = refl
  none_after (x ∷ xs) zero e = absurd (none-some x (sym e))
  none_after (x ∷ xs) (suc n) e = none_after xs n e

  one_after : (xs : List X) (n : ℕ) (x : X) → slice_get xs n ≡ Some x → drop n (map f xs) ≡ f x ∷ drop (suc n) (map f xs)
  one_after [] n x e = absurd (none-some x e)
  one_after (y ∷ ys) zero x e = ap (λ z. f z ∷ map f ys) (same_Some y x e)
  one_after (y ∷ ys) (suc n) x e = one_after ys n x e

pub found_at : {X Y : Type 0} (f : X → Y) (xs ys : List X) (k : ℕ) (x : X) → xs ≡ ys → true ≡ nat_lt k (length xs) → x ≡ get_or xs k x → slice_get (map f ys) k ≡ Some (f x)
found_at f xs ys k x same within is =
    let inside : k < length xs = ltb-true k (length xs) (sym within) in
    ap (λ zs. slice_get (map f zs) k) (sym same) ∙ slice_get-map f xs k ∙ ap (option_map f) (slice_get_read xs (length xs) k x refl inside is)

pub missing_at : {X Y : Type 0} (f : X → Y) (xs ys : List X) (k : ℕ) → xs ≡ ys → length xs ≤ k → slice_get (map f ys) k ≡ None
missing_at f xs ys k same past = ap (λ zs. slice_get (map f zs) k) (sym same) ∙ slice_get-map f xs k ∙ ap (option_map f) (slice_get_past xs k past)

listed : {X : Type 0} (o : Option X) (xs : List X) → option_to_list o ++ xs ≡ cons_option o xs
listed None xs = refl
listed (Some x) xs = refl

some_beginning : {X : Type 0} (xss : List (List X)) → 0 < count_beginnings xss
some_beginning [] = omega arith
some_beginning (xs ∷ xss) = omega arith

nearer : (a b c k : ℕ) → a ≡ k + c → b ≡ suc k → a < b + c
nearer a b c k e f = omega arith

no_more : (a : ℕ) → a ≡ 0 + a
no_more a = omega arith

sum_assoc : (a b c : ℕ) → a + (b + c) ≡ (a + b) + c
sum_assoc a b c = omega arith

steps_appended : (p : Problem) (d : Five) (xs ys : List Instance) → steps_in p d (xs ++ ys) ≡ steps_in p d xs + steps_in p d ys
steps_appended p d [] ys = no_more (steps_in p d ys)
steps_appended p d (x ∷ xs) ys = ap (λ k. steps_from p d x + k) (steps_appended p d xs ys) ∙ sum_assoc (steps_from p d x) (steps_in p d xs) (steps_in p d ys)

module _ (p : Problem) (d : Five) (i : Instance) (old : List Instance) where
  abbrev after : Schema → ℕ → List (List Inner)
  after sc n = lists_after p.signature d sc n

  abbrev at : Schema → List Inner → List Instance
  at sc = allowed_at p.signature d sc.pre i.action

  -- without such an action nothing begins
  pub no_action : slice_get p.schemas i.action ≡ None → GoesOn p d i old old None
  no_action e =
      let one : steps_from p d i ≡ 1 = ap (λ o. option_map_or (λ sc. count_beginnings (after sc (length i.arguments))) o 1) e in
      record {
        left = ap (λ o. option_map_or (λ sc. walked (at sc) i.arguments (after sc (length i.arguments))) o [] ++ flat_map (begun p d) old) e;
        fewer = nearer (steps_in p d old) (steps_from p d i) (steps_in p d old) 0 (no_more (steps_in p d old)) one;
      }

  module _ (sc : Schema) (there : slice_get p.schemas i.action ≡ Some sc) where
    begun_is : begun p d i ≡ walked (at sc) i.arguments (after sc (length i.arguments))
    begun_is = ap (λ o. option_map_or (λ sc. walked (at sc) i.arguments (after sc (length i.arguments))) o []) there

    steps_are : steps_from p d i ≡ count_beginnings (after sc (length i.arguments))
    steps_are = ap (λ o. option_map_or (λ sc. count_beginnings (after sc (length i.arguments))) o 1) there

    fewer_by_one : steps_in p d old < steps_from p d i + steps_in p d old
    fewer_by_one = let some = some_beginning (after sc (length i.arguments)) in let same = steps_are in omega arith

    -- a whole instance is given where it is allowed
    pub whole : (found : Option Instance) → slice_get sc.parameters (length i.arguments) ≡ None → option_to_list found ≡ at sc i.arguments → GoesOn p d i old old found
    whole found e f =
        let rest = flat_map (begun p d) old in
        record {
          left =
              ap (λ xs. xs ++ rest) (begun_is ∙ ap (walked (at sc) i.arguments) (none_after (candidates p.signature d) sc.parameters (length i.arguments) e) ∙ sym f)
              ∙ listed found rest;
          fewer = fewer_by_one;
        }

    -- where a precondition isn't answered, nothing begins
    pub barred : is_barred p.signature d sc.pre i.arguments ≡ true → GoesOn p d i old old None
    barred e = record {
      left = ap (λ xs. xs ++ flat_map (begun p d) old) (begun_is ∙ walk_barred p.signature d sc.pre i.action i.arguments (after sc (length i.arguments)) e);
      fewer = fewer_by_one;
    }

    module _ (wanted : ℕ) (next : slice_get sc.parameters (length i.arguments) ≡ Some wanted) where
      abbrev others : List (List Inner)
      others = after sc (suc (length i.arguments))

      lists_are : after sc (length i.arguments) ≡ candidates p.signature d wanted ∷ others
      lists_are = one_after (candidates p.signature d) sc.parameters (length i.arguments) wanted next

      later_lists : (x : Inner) → after sc (length (i.arguments ++ x ∷ [])) ≡ others
      later_lists x = let long : length (i.arguments ++ x ∷ []) ≡ length i.arguments + 1 = length-append i.arguments (x ∷ []) in ap (after sc) (long ∙ add-one (length i.arguments))

      begun_longer : (x : Inner) → begun p d (longer i x) ≡ walked (at sc) (i.arguments ++ x ∷ []) others
      begun_longer x =
          ap (λ o. option_map_or (λ sc. walked (at sc) (i.arguments ++ x ∷ []) (after sc (length (i.arguments ++ x ∷ [])))) o []) there
          ∙ ap (walked (at sc) (i.arguments ++ x ∷ [])) (later_lists x)

      steps_longer : (x : Inner) → steps_from p d (longer i x) ≡ count_beginnings others
      steps_longer x =
          ap (λ o. option_map_or (λ sc. count_beginnings (after sc (length (i.arguments ++ x ∷ [])))) o 1) there
          ∙ ap count_beginnings (later_lists x)

      begun_each : (xs : List Inner) → flat_map (λ x. walked (at sc) (i.arguments ++ x ∷ []) others) xs ≡ flat_map (begun p d) (map (longer i) xs)
      begun_each [] = refl
      begun_each (x ∷ xs) = λ k. sym (begun_longer x) k ++ begun_each xs k

      steps_each : (xs : List Inner) → steps_in p d (map (longer i) xs) ≡ for_each (count_beginnings others) xs
      steps_each [] = refl
      steps_each (x ∷ xs) = λ k. steps_longer x k + steps_each xs k

      -- else what begins with it begins with one more argument
      pub with_each : GoesOn p d i old (map (longer i) (candidates p.signature d wanted) ++ old) None
      with_each =
          let xs = candidates p.signature d wanted in
          let more = map (longer i) xs in
          record {
            left =
                ap (λ ys. ys ++ flat_map (begun p d) old) (begun_is ∙ ap (walked (at sc) i.arguments) lists_are ∙ begun_each xs)
                ∙ sym (flat_map-append (begun p d) more old);
            fewer =
                nearer (steps_in p d (more ++ old)) (steps_from p d i) (steps_in p d old) (for_each (count_beginnings others) xs)
                (steps_appended p d more old ∙ ap (λ k. k + steps_in p d old) (steps_each xs))
                (steps_are ∙ ap count_beginnings lists_are);
          }

-- ---- before the first step

one_there : {X : Type 0} (all : List X) (n : ℕ) (x : X) (xs : List X) → drop n all ≡ x ∷ xs → slice_get all n ≡ Some x
one_there [] zero x xs e = absurd (nothing_there x xs e)
  where
    nothing_there : {X : Type 0} (x : X) (xs : List X) → [] ≡ x ∷ xs → ⊥
    nothing_there x xs e = cc
one_there [] (suc n) x xs e = absurd (nothing_there x xs e)
  where
    nothing_there : {X : Type 0} (x : X) (xs : List X) → [] ≡ x ∷ xs → ⊥
    nothing_there x xs e = cc
one_there (y ∷ ys) zero x xs e = first y x ys xs e
  where
    first : {X : Type 0} (y x : X) (ys xs : List X) → y ∷ ys ≡ x ∷ xs → Some y ≡ Some x
    first y x ys xs e = cc
one_there (y ∷ ys) (suc n) x xs e = one_there ys n x xs e

others_there : {X : Type 0} (all : List X) (n : ℕ) (x : X) (xs : List X) → drop n all ≡ x ∷ xs → drop (suc n) all ≡ xs
others_there [] zero x xs e = absurd (nothing_there x xs e)
  where
    nothing_there : {X : Type 0} (x : X) (xs : List X) → [] ≡ x ∷ xs → ⊥
    nothing_there x xs e = cc
others_there [] (suc n) x xs e = absurd (nothing_there x xs e)
  where
    nothing_there : {X : Type 0} (x : X) (xs : List X) → [] ≡ x ∷ xs → ⊥
    nothing_there x xs e = cc
others_there (y ∷ ys) zero x xs e = tail y x ys xs e
  where
    tail : {X : Type 0} (y x : X) (ys xs : List X) → y ∷ ys ≡ x ∷ xs → ys ≡ xs
    tail y x ys xs e = cc
others_there (y ∷ ys) (suc n) x xs e = others_there ys n x xs e

module _ (p : Problem) (d : Five) where
  from_bare : (n : ℕ) (xs : List Schema) → drop n p.schemas ≡ xs → flat_map (begun p d) (map bare (numbered n xs)) ≡ flat_map (instances_at p.signature d) (numbered n xs)
  from_bare n [] e = refl
  from_bare n (sc ∷ xs) e =
      let here : begun p d (bare (n, sc)) ≡ instances_at p.signature d (n, sc) =
      ap (λ o. option_map_or (λ sc. walked (allowed_at p.signature d sc.pre n) [] (map (candidates p.signature d) sc.parameters)) o []) (one_there p.schemas n sc xs e) ∙ all_instances p.signature d n sc
      in
      λ k. here k ++ from_bare (n + 1) xs (ap (λ j. drop j p.schemas) (add-one n) ∙ others_there p.schemas n sc xs e) k

  -- from all actions without arguments all instances begin
  pub all_begin : flat_map (begun p d) (map bare (numbered 0 p.schemas)) ≡ instances p d
  unfolding instances
  all_begin = from_bare 0 p.schemas refl

-- ---- lists from their end

back : (k : ℕ) → 0 < k → k - 1 + 1 ≡ k
back k some = omega arith

back_suc : (k : ℕ) → 0 < k → suc (k - 1) ≡ k
back_suc k some = omega arith

module _ {X : Type 0} where
  one_down : (xs : List X) (j : ℕ) → j < length xs → (x : X) × (drop j xs ≡ x ∷ drop (suc j) xs)
  one_down [] j within = absurd (omega arith)
  one_down (x ∷ xs) zero within = (x, refl)
  one_down (x ∷ xs) (suc j) within = one_down xs j (omega arith)

  pub down_at : (xs : List X) (k : ℕ) (d : X) → 0 < k → k ≤ length xs → drop (k - 1) xs ≡ get_or xs (k - 1) d ∷ drop k xs
  down_at xs k d some within = drop-cons xs (k - 1) d (omega arith) ∙ ap (λ j. get_or xs (k - 1) d ∷ drop j xs) (back_suc k some)

pub bare_down : (xs : List DSchema) (k : ℕ) → 0 < k → k ≤ length xs → map bare (numbered (k - 1) (map schema_of (drop (k - 1) xs))) ≡ record { action = k - 1; arguments = [] } ∷ map bare (numbered k (map schema_of (drop k xs)))
bare_down xs k some within =
    let r = one_down xs (k - 1) (omega arith) in
    let this : Instance = record { action = k - 1; arguments = [] } in
    ap (λ ys. map bare (numbered (k - 1) (map schema_of ys))) (r.1 ∙ ap (λ j. r.0 ∷ drop j xs) (back_suc k some)) ∙ ap (λ n. this ∷ map bare (numbered n (map schema_of (drop k xs)))) (back k some)

-- ---- a step

-- what is left after a step from the next beginning, and that the walk comes nearer to its end
pub step_taken :
    (p : Problem) (d : Five) (x : DInstance) (all popped : List DInstance) (new : List Instance) (o : Option Instance)
    → all ≡ popped ++ x ∷ []
    → GoesOn p d (instance_of x) (beginnings_of popped) new o
    → (flat_map (begun p d) (beginnings_of all) ≡ cons_option o (flat_map (begun p d) new)) × (steps_in p d new < steps_in p d (beginnings_of all))
step_taken p d x all popped new o e g =
    let same = ap beginnings_of e ∙ next_first popped x in
    (ap (flat_map (begun p d)) same ∙ g.left, subst (λ k. steps_in p d new < k) (sym (ap (steps_in p d) same)) g.fewer)

-- ---- what was given and what is left

pub shorter : {X : Type 0} (old new : List X) (x : X) → old ≡ x ∷ new → length new < length old
shorter old new x e = let longer' : length old ≡ suc (length new) = ap length e in omega arith

-- one more was given
pub given_more : {X Y : Type 0} (f : X → Y) (all : List X) (x : X) (old new whole : List Y) → old ≡ f x ∷ new → map f all ++ old ≡ whole → map f (all ++ x ∷ []) ++ new ≡ whole
given_more f all x old new whole e before =
    ap (λ ys. ys ++ new) (map-append f all (x ∷ []))
    ∙ append_assoc (map f all) (f x ∷ []) new
    ∙ ap (λ ys. map f all ++ ys) (sym e)
    ∙ before
