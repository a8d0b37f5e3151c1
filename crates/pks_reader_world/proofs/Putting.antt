-- A world with the facts put in is the world that they state.
use Rattle.std.proofs.Common.{◌≡◌, ◌||◌, ℕ, Bool, true, false, cond, List, Option, Some, None, refl, ap, ◌∙◌}
use Rattle.std.specs.Prelude.{codes, unwrap_or}
use Rattle.std.specs.Option.{option_map_or}
use Rattle.pks_terms.specs.Syntax.{Term, Atom, place}
use Rattle.pks_terms.specs.Orders.{term_eq}
use Rattle.pks_terms.specs.Worlds.{World}
use Rattle.pks_terms.proofs.ListLaws.{or_false}
use Rattle.pks_text.specs.Forms.{Forms, no_forms, form}
use Rattle.pks_reader_names.specs.Scopes.{Scope, signature_in}
use Rattle.pks_reader_names.specs.Parts.{section}
use Rattle.pks_reader_names.specs.Declarations.{first_in, second_in}
use Rattle.pks_world.specs.Contents.{ground, atom_eq}
use Rattle.pks_world.specs.First.{first_world}
use Rattle.pks_reader_world.specs.Naming.{object_named, atom_named, place_named}
use Rattle.pks_reader_world.specs.Stated.{is_listed, value_given, world_in}
use Rattle.pks_reader_world.specs.Filling.{with_atom, with_facts, with_place, with_entries, with_all}

turned : (a b c : Bool) → (b || cond a true c) ≡ ((a || b) || c)
turned true true c = refl
turned true false c = refl
turned false b c = refl

one_atom : (o : Option Atom) (rest : ℕ → List ℕ → Bool) (w : World)
    → ◌≡◌ {A = World} (record (with_atom w o) { truth = λ p ds. rest p ds || (with_atom w o).truth p ds }) (record w { truth = λ p ds. (option_map_or (λ b. atom_eq b (ground p ds)) o false || rest p ds) || w.truth p ds })
one_atom None rest w = refl
one_atom (Some a) rest w = λ i. record w { truth = λ p ds. turned (atom_eq a (ground p ds)) (rest p ds) (w.truth p ds) i }

same_either : (b : Bool) (d : ℕ) → d ≡ cond b d d
same_either true d = refl
same_either false d = refl

one_place : (o : Option Term) (v : Option ℕ) (rest : ℕ → List ℕ → ℕ → ℕ) (w : World)
    → ◌≡◌ {A = World} (record (with_place w o v) { value = λ f ds. rest f ds ((with_place w o v).value f ds) }) (record w { value = λ f ds. rest f ds (option_map_or (λ u. cond (term_eq u (place f ds)) (unwrap_or v (w.value f ds)) (w.value f ds)) o (w.value f ds)) })
one_place None v rest w = refl
one_place (Some t) None rest w = λ i. record w { value = λ f ds. rest f ds (same_either (term_eq t (place f ds)) (w.value f ds) i) }
one_place (Some t) (Some d) rest w = refl

module _ (s : Scope) where
  facts_put : (w : World) (fs : Forms) → ◌≡◌ {A = World} (with_facts s w fs) (record w { truth = λ p ds. is_listed s fs (ground p ds) || w.truth p ds })
  facts_put w no_forms = refl
  facts_put w (form f fs) = facts_put (with_atom w (atom_named s f)) fs ∙ one_atom (atom_named s f) (λ p ds. is_listed s fs (ground p ds)) w

  entries_put : (w : World) (es : Forms) → ◌≡◌ {A = World} (with_entries s w es) (record w { value = λ f ds. value_given s es (place f ds) (w.value f ds) })
  entries_put w no_forms = refl
  entries_put w (form e es) =
      entries_put (with_place w (place_named s (first_in e)) (object_named s (second_in e))) es
      ∙ one_place (place_named s (first_in e)) (object_named s (second_in e)) (λ f ds. value_given s es (place f ds)) w

  pub all_put : (fs : Forms) → with_all s (first_world (signature_in s)) fs ≡ world_in s fs
  unfolding world_in
  all_put fs =
      let first = first_world (signature_in s) in
      let values : World → World = λ w. record w { value = λ f ds. value_given s (section (codes "values") fs) (place f ds) (w.value f ds) } in
      let start : World = with_facts s first (section (codes "true") fs) in
      entries_put start (section (codes "values") fs)
      ∙ ap values (facts_put first (section (codes "true") fs))
      ∙ (λ i. record { truth = λ p ds. or_false (is_listed s (section (codes "true") fs) (ground p ds)) i; value = (values first).value })
