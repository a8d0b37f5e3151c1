-- Literals that give the same values at each place make the same normal forms.
use Rattle.std.proofs.Common.{◌≡◌, ℕ, List, [], ◌∷◌, map, Option, Some, None, option_and_then, is_some, false, Less, Equal, Greater, refl, ap, ◌∙◌, true≢false}
use Rattle.std.specs.List.{cons_option}
use Rattle.std.specs.Option.{option_map_or}
use Rattle.pks_terms.specs.Sets.{all_some, insert_in}
use Rattle.pks_terms.specs.Syntax.{Object, Parameter, Apply, Inner, Term, as_object, Literal}
use Rattle.pks_terms.specs.Orders.{literal_cmp, literal}
use Rattle.pks_terms.specs.Databases.{told, value_if_at, values_at, least, applied, inner_normal, normal, normal_literal}
use Rattle.pks_terms.proofs.ListLaws.{map_alike}
use Rattle.pks_query_lookup.specs.Tables.{GiveAlike}

given_at : ℕ → List ℕ → Literal → Option ℕ
given_at f ds l = option_and_then (value_if_at f ds) (told l.relation l.arguments l.positive)

put_nothing : (f : ℕ) (ds : List ℕ) (l : Literal) (ls : List Literal) → given_at f ds l ≡ None → values_at (insert_in literal_cmp l ls) f ds ≡ values_at ls f ds
unfolding values_at given_at
put_nothing f ds l [] h = ap (λ o. cons_option o []) h
put_nothing f ds l (m ∷ ms) h =
    elim (literal_cmp l m) as (λ c. values_at (elim c [ Less ↦ l ∷ m ∷ ms | Equal ↦ m ∷ ms | Greater ↦ m ∷ insert_in literal_cmp l ms ]) f ds ≡ values_at (m ∷ ms) f ds) [
      | Less ↦ ap (λ o. cons_option o (values_at (m ∷ ms) f ds)) h
      | Equal ↦ refl
      | Greater ↦ λ i. cons_option (given_at f ds m) (put_nothing f ds l ms h i)
    ]

none_of : {X : Type 0} (o : Option X) → is_some o ≡ false → o ≡ None
none_of None h = refl
none_of (Some x) h = absurd (true≢false h)

-- a literal that gives no value leaves the values as they are
pub gives_nothing : (l : Literal) (kf : List Literal) → is_some (told l.relation l.arguments l.positive) ≡ false → GiveAlike (insert_in literal_cmp l kf) kf
unfolding given_at
gives_nothing l kf h = record {
  alike = λ f ds. put_nothing f ds l kf (ap (option_and_then (value_if_at f ds)) (none_of (told l.relation l.arguments l.positive) h));
}

module _ (kf other : List Literal) (same : GiveAlike kf other) where
  inner_same : (t : Inner) → inner_normal kf t ≡ inner_normal other t
  inner_same (Object d) = refl
  inner_same (Parameter d) = refl
  inner_same (Apply f ds) = λ i. option_map_or Object (option_and_then (λ es. least (same.alike f es i)) (all_some (map Some (map (λ d. d) ds)))) (Apply f (map (λ d. d) ds))

  term_same : (t : Term) → normal kf t ≡ normal other t
  unfolding normal
  term_same (Object d) = refl
  term_same (Parameter d) = refl
  term_same (Apply f ts) =
      ap (λ us. applied as_object kf f us) (map_alike (inner_normal kf) (inner_normal other) inner_same ts)
      ∙ (λ i. option_map_or Object (option_and_then (λ es. least (same.alike f es i)) (all_some (map as_object (map (inner_normal other) ts)))) (Apply f (map (inner_normal other) ts)))

  pub literal_same : (l : Literal) → normal_literal kf l ≡ normal_literal other l
  unfolding normal_literal
  literal_same l = ap (λ ts. literal l.relation ts l.positive) (map_alike (normal kf) (normal other) term_same l.arguments)
