-- The stable forms of targets.
use Rattle.std.proofs.Common.{◌≡◌, ℕ, List, map, filter, flat_map, sym, ◌∙◌}
use Rattle.pks_terms.specs.Syntax.{Apply, Inner, Term, term_of}
use Rattle.pks_terms.specs.Orders.{equation}
use Rattle.pks_terms.specs.Signatures.{Signature}
use Rattle.pks_terms.specs.Databases.{Five}
use Rattle.pks_terms.specs.Actions.{Effect}
use Rattle.pks_terms.specs.Spoiling.{is_stable, are_stable}
use Rattle.pks_terms.specs.Progress.{has_stable_arguments}
use Rattle.pks_terms.specs.Settling.{term_forms, stable_forms}
use Rattle.pks_postdict_rules.specs.Choosing.{choices_after}
use Rattle.pks_postdict_rules.specs.Targets.{stable_terms, equations_at}
use Rattle.pks_postdict_rules.proofs.Choices.{choices_start, filter_choices, flat_map-filter_map}

module _ (s : Signature) (d : Five) (es : List Effect) where
  -- choosing among stable forms gives the stable choices
  pub stable_choices : (ts : List Term) → choices_after (stable_terms s d es) 0 ts ≡ stable_forms s d es ts
  stable_choices ts = choices_start (stable_terms s d es) ts ∙ sym (filter_choices (is_stable s d es) (term_forms d.kf) ts)

  -- the places of one function
  pub equations_of : (f : ℕ) (uss : List (List Inner)) (values : List Term)
      → equations_at s d es (map (Apply f) uss) values ≡ flat_map (λ us. map (equation (Apply f us)) values) (filter (λ us. are_stable s d es (map term_of us)) uss)
  equations_of f uss values = flat_map-filter_map (Apply f) (has_stable_arguments s d es) (λ t. map (equation t) values) uss
