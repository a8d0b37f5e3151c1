-- Adds that are offered one after another are those that have a case, each once.
use Rattle.std.proofs.Common.{◌≡◌, ◌&&◌, ◌||◌, Bool, true, false, cond, not, is_some, List, [], ◌∷◌, ◌++◌, fold, filter, flat_map, Option, Some, None, option_map, append_assoc, append-nil, refl, sym, ap, ◌∙◌}
use Rattle.std.specs.List.{list_any}
use Rattle.std.proofs.lemmas.List.Folds.{list_any-append}
use Rattle.std.proofs.lemmas.List.Sums.{fold-append}
use Rattle.pks_terms.specs.Sets.{first_of_each}
use Rattle.pks_terms.specs.Actions.{Add, Schema}
use Rattle.pks_terms.specs.Justified.{case_of}
use Rattle.pks_terms.specs.Shapes.{same_add, effect_shapes, sense_shapes, shapes, derived_adds}
use Rattle.pks_terms.proofs.ListLaws.{or_swapped, or_false}
use Rattle.pks_terms.specs.declared.schema.Adds.{Adds}
use Rattle.pks_terms.specs.declared.schema.Effect.{Effect as DEffect}
use Rattle.pks_terms.specs.declared.schema.Sense as sense
use Rattle.pks_terms.specs.declared.schema.Schema.{Schema as DSchema}
use Rattle.pks_terms.specs.Views.{schema_of}
use Rattle.pks_justify.specs.Cases.{adds_of}
use Rattle.pks_justify.specs.Effects.{effects_of, senses_of}
use Rattle.pks_derive.specs.Offering.{with_offered}

pub shown : {X Y : Type 0} (f : X → Y) (o : Option X) → is_some (option_map f o) ≡ is_some o
shown f None = refl
shown f (Some x) = refl

module _ (sc : Schema) where
  abbrev offered : List Add → List Add → List Add
  offered adds xs = fold (with_offered sc) adds xs

  abbrev firsts : List Add → List Add → List Add
  firsts before xs = first_of_each same_add before (filter (λ a. is_some (case_of sc a)) xs)

  step : (c m n : Bool) (before done : List Add) (x : Add) (xs : List Add) → n ≡ m → offered done xs ≡ done ++ firsts before xs → offered (done ++ x ∷ []) xs ≡ (done ++ x ∷ []) ++ firsts (x ∷ before) xs
      → offered (cond (c && not m) (done ++ x ∷ []) done) xs
      ≡ done ++ cond c (cond n (firsts before xs) (x ∷ firsts (x ∷ before) xs)) (firsts before xs)
  step false m n before done x xs e f g = f
  step true true n before done x xs e f g = f ∙ ap (λ b. done ++ cond b (firsts before xs) (x ∷ firsts (x ∷ before) xs)) (sym e)
  step true false n before done x xs e f g = g ∙ append_assoc done (x ∷ []) (firsts (x ∷ before) xs) ∙ ap (λ b. done ++ cond b (firsts before xs) (x ∷ firsts (x ∷ before) xs)) (sym e)

  -- the first of each of a list that begins with something under a test
  first_cond : (c : Bool) (before : List Add) (x : Add) (ys : List Add) → cond c (cond (list_any (same_add x) before) (first_of_each same_add before ys) (x ∷ first_of_each same_add (x ∷ before) ys)) (first_of_each same_add before ys) ≡ first_of_each same_add before (cond c (x ∷ ys) ys)
  first_cond true before x ys = refl
  first_cond false before x ys = refl

  offered_all : (before done xs : List Add) → ((y : Add) → list_any (same_add y) before ≡ list_any (same_add y) done) → offered done xs ≡ done ++ firsts before xs
  offered_all before done [] f = sym (append-nil done)
  offered_all before done (x ∷ xs) f =
      step (is_some (case_of sc x)) (list_any (same_add x) done) (list_any (same_add x) before) before done x xs (f x) (offered_all before done xs f)
      (offered_all (x ∷ before) (done ++ x ∷ []) xs
      (λ y. ap (λ b. same_add y x || b) (f y ∙ sym (or_false (list_any (same_add y) done))) ∙ or_swapped (same_add y x) (list_any (same_add y) done) false ∙ sym (list_any-append (same_add y) done (x ∷ []))))
      ∙ ap (λ ys. done ++ ys) (first_cond (is_some (case_of sc x)) before x (filter (λ a. is_some (case_of sc a)) xs))

  pub offered_are : fold (with_offered sc) [] (shapes sc) ≡ derived_adds sc
  unfolding derived_adds
  offered_are = offered_all [] [] (shapes sc) (λ y. refl)

-- one list behind another
pub both_offered : (sc : Schema) (adds xs ys : List Add) → fold (with_offered sc) adds (xs ++ ys) ≡ fold (with_offered sc) (fold (with_offered sc) adds xs) ys
both_offered sc adds xs ys = fold-append (with_offered sc) adds xs ys

-- what is offered to nothing, effect by effect and sense by sense
pub derived_from : (x : DSchema) (es : List DEffect) (ss : List sense.Sense) (none first all : List Adds) → none ≡ [] → es ≡ x.effects → ss ≡ x.senses
    → adds_of first ≡ fold (with_offered (schema_of x)) (adds_of none) (flat_map effect_shapes (effects_of es))
    → adds_of all ≡ fold (with_offered (schema_of x)) (adds_of first) (flat_map sense_shapes (senses_of ss))
    → adds_of all ≡ derived_adds (schema_of x)
unfolding shapes
derived_from x es ss none first all n e s a b =
    let W = with_offered (schema_of x) in
    b ∙ ap (λ us. fold W us (flat_map sense_shapes (senses_of ss))) a
    ∙ (λ i. fold W (fold W (adds_of (n i)) (flat_map effect_shapes (effects_of (e i)))) (flat_map sense_shapes (senses_of (s i))))
    ∙ sym (both_offered (schema_of x) [] (flat_map effect_shapes (effects_of x.effects)) (flat_map sense_shapes (senses_of x.senses)))
    ∙ offered_are (schema_of x)
