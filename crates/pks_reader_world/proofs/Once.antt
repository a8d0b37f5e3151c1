-- Without a fault each place is given one value.
use Rattle.std.proofs.Common.{◌≡◌, ◌++◌, ℕ, true, false, cond, [], Option, Some, None, refl, sym, ap, ◌∙◌, option_map, true≢false}
use Rattle.std.specs.Prelude.{codes, unwrap_or}
use Rattle.std.specs.Option.{option_map_or}
use Rattle.pks_terms.specs.Syntax.{Term, place}
use Rattle.pks_terms.specs.Orders.{term_eq}
use Rattle.pks_terms.proofs.OrderLaws.{same_term}
use Rattle.pks_text.specs.Forms.{Form, Forms, no_forms, form, place_of}
use Rattle.pks_reader_names.specs.Scopes.{Scope, signature_in}
use Rattle.pks_reader_names.specs.Parts.{section, each}
use Rattle.pks_reader_names.specs.Declarations.{first_in, second_in}
use Rattle.pks_laws_reader.specs.Facts.{EachForm}
use Rattle.pks_laws_reader.proofs.Numbers.{nil_parts, when}
use Rattle.pks_world.specs.First.{least_value}
use Rattle.pks_world.proofs.Filling.{same_eq}
use Rattle.pks_reader_world.specs.Naming.{object_named, place_named}
use Rattle.pks_reader_world.specs.Facts.{Given, once_given, again, function_at, fact_faults, object_faults, true_faults, value_faults, given_with, none_given, values_faults, world_faults}
use Rattle.pks_reader_world.specs.Stated.{value_with, value_given, world_in}
use Rattle.pks_reader_world.specs.Typing.{HasItsValue}

each_weaker : (P Q : Form → Type 0) → ((f : Form) → P f → Q f) → (fs : Forms) → EachForm P fs → EachForm Q fs
each_weaker P Q h no_forms a = tt
each_weaker P Q h (form f fs) a = (h f a.0, each_weaker P Q h fs a.1)

module _ (s : Scope) where
  not_again : (given : Given) (e : Form) → value_faults s given e ≡ [] → again given (place_named s (first_in e)) (place_of (first_in e)) ≡ []
  unfolding value_faults
  not_again given e h =
      let g = first_in e in
      let outer = nil_parts (fact_faults s (function_at s g) g ++ again given (place_named s g) (place_of g)) (object_faults s (option_map (λ x. x.result) (function_at s g)) (second_in e)) h in
      (nil_parts (fact_faults s (function_at s g) g) (again given (place_named s g) (place_of g)) outer.0).1

  -- a place that has a value keeps it
  kept : (given : Given) (o : Option Term) (v : Option ℕ) (at : ℕ) (t : Term) (d : ℕ) → given t ≡ true → again given o at ≡ [] → option_map_or (λ u. cond (term_eq u t) (unwrap_or v d) d) o d ≡ d
  kept given None v at t d h a = refl
  kept given (Some u) v at t d h a =
      elim (term_eq u t) as (λ b. term_eq u t ≡ b → cond b (unwrap_or v d) d ≡ d) [
        | true ↦ λ q. absurd (true≢false (sym h ∙ sym (ap given (same_term u t q)) ∙ when (at, 304) (given u) a))
        | false ↦ λ q. refl
      ] refl

  still : (given : Given) (o : Option Term) (t : Term) → given t ≡ true → once_given given o t ≡ true
  still given None t h = h
  still given (Some u) t h = elim (term_eq u t) as (λ b. cond b true (given t) ≡ true) [ true ↦ refl | false ↦ h ]

  no_more : (given : Given) (es : Forms) (t : Term) (d : ℕ) → given t ≡ true → values_faults s given es ≡ [] → value_given s es t d ≡ d
  no_more given no_forms t d h e = refl
  no_more given (form f fs) t d h e =
      let parts = nil_parts (value_faults s given f) (values_faults s (given_with s given f) fs) e in
      ap (λ x. value_given s fs t x) (kept given (place_named s (first_in f)) (object_named s (second_in f)) (place_of (first_in f)) t d h (not_again given f parts.0))
      ∙ no_more (given_with s given f) fs t d (still given (place_named s (first_in f)) t h) parts.1

  -- whatever the value was before
  abbrev Has : Forms → Form → Type 0
  Has es e = (t : Term) (v d : ℕ) → place_named s (first_in e) ≡ Some t → object_named s (second_in e) ≡ Some v → value_given s es t d ≡ v

  put : (e : Form) (t : Term) (v d : ℕ) → place_named s (first_in e) ≡ Some t → object_named s (second_in e) ≡ Some v → value_with s e t d ≡ v
  put e t v d p o =
      (λ i. option_map_or (λ u. cond (term_eq u t) (unwrap_or (o i) d) d) (p i) d)
      ∙ ap (λ b. cond b v d) (same_eq t t refl)

  all_have : (given : Given) (es : Forms) → values_faults s given es ≡ [] → EachForm (Has es) es
  all_have given no_forms e = tt
  all_have given (form f fs) e =
      let parts = nil_parts (value_faults s given f) (values_faults s (given_with s given f) fs) e in
      let after = given_with s given f in
      let head : Has (form f fs) f = λ t v d p o.
      ap (λ x. value_given s fs t x) (put f t v d p o)
      ∙ no_more after fs t v (ap (λ (q : Option Term). once_given given q t) p ∙ ap (λ b. cond b true (given t)) (same_eq t t refl)) parts.1 in
      (head, each_weaker (Has fs) (Has (form f fs)) (λ g h t v d p o. h t v (value_with s f t d) p o) fs (all_have after fs parts.1))

  pub values_hold : (fs : Forms) → world_faults s fs ≡ [] → EachForm (HasItsValue s (world_in s fs)) (section (codes "values") fs)
  unfolding world_faults world_in
  values_hold fs e =
      let vs = section (codes "values") fs in
      let parts = nil_parts (each (true_faults s) (section (codes "true") fs)) (values_faults s none_given vs) e in
      each_weaker (Has vs) (HasItsValue s (world_in s fs)) (λ g h f ds v p o. h (place f ds) v (least_value (signature_in s) f) p o) vs (all_have none_given vs parts.1)
