-- Reading the moments of a list one by one.
use Rattle.std.proofs.Common.{◌≡◌, ◌<◌, ◌-◌, ℕ, zero, suc, List, ◌∷◌, map, Some, ap, ◌∙◌, subst, arith}
use Rattle.std.specs.List.{slice_get}
use Rattle.std.specs.Option.{option_map}
use Rattle.std.proofs.lemmas.Option.{slice_get-map}
use Rattle.pks_terms.specs.Databases.{Five}
use Rattle.pks_terms.specs.Actions.{Instance}
use Rattle.pks_terms.specs.Views.{instance_of}
use Rattle.pks_query_lookup.specs.Fives.{five_of}
use Rattle.pks_history.specs.declared.histories.Moment.{Moment}
use Rattle.pks_history.specs.Moments.{moment_of, moments_of}

-- the databases of a later moment
pub databases_there : (start : Five) (ms : List Moment) (n : ℕ) (m : Moment) → 0 < n → slice_get ms (n - 1) ≡ Some m → slice_get (start ∷ map (λ step. step.1) (moments_of ms)) n ≡ Some (five_of m.db)
databases_there start ms zero m h e = absurd (omega arith)
databases_there start ms (suc k) m h e =
    let one : suc k - 1 ≡ k = omega arith in
    let there : slice_get ms k ≡ Some m = subst (λ j. slice_get ms j ≡ Some m) one e in
    slice_get-map (λ (step : Instance × Five). step.1) (moments_of ms) k ∙ ap (option_map (λ (step : Instance × Five). step.1)) (slice_get-map moment_of ms k ∙ ap (option_map moment_of) there)

-- the instance that led to it
pub instance_there : (ms : List Moment) (k : ℕ) (m : Moment) → slice_get ms k ≡ Some m → slice_get (map (λ step. step.0) (moments_of ms)) k ≡ Some (instance_of m.step)
instance_there ms k m there =
    slice_get-map (λ (step : Instance × Five). step.0) (moments_of ms) k ∙ ap (option_map (λ (step : Instance × Five). step.0)) (slice_get-map moment_of ms k ∙ ap (option_map moment_of) there)
