-- Terms whose parameters may have names.
use Rattle.std.proofs.Common.{◌≡◌, ℕ, Option, Some, None, List, [], ◌∷◌, map, codes, refl, ap}
use Rattle.std.specs.Option.{option_map_or}
use Rattle.pks_terms.specs.Syntax.{Object, Parameter, Apply, Term}
use Rattle.pks_terms.specs.Printed.{Text, Names, name_in, listed, term_text, slot_text}
use Rattle.pks_plan.specs.Written.{parameter_text, written_form}

module _ {A : Type 0} (text : A → Text) (names : Names) where
  pub of_object : (ps : Option (List Text)) (d : ℕ) → written_form text names ps (Object d) ≡ name_in names.objects d
  of_object None d = refl
  of_object (Some ps) d = refl

  pub of_parameter : (ps : Option (List Text)) (i : ℕ) → written_form text names ps (Parameter i) ≡ parameter_text ps i
  of_parameter None i = refl
  of_parameter (Some ps) i = refl

  pub of_application : (ps : Option (List Text)) (f : ℕ) (ts : List A) → written_form text names ps (Apply f ts) ≡ listed (name_in names.functions f) (map text ts)
  of_application None f ts = refl
  of_application (Some ps) f ts = refl

pub ruleset forms = (of_object, of_parameter, of_application)

pub slots : (names : Names) (ss : List (Option Term)) → map (λ s. option_map_or (term_text names) s (codes "_")) ss ≡ map (slot_text names) ss
slots names [] = refl
slots names (None ∷ ss) = ap (λ ts. codes "_" ∷ ts) (slots names ss)
slots names (Some t ∷ ss) = ap (λ ts. term_text names t ∷ ts) (slots names ss)
