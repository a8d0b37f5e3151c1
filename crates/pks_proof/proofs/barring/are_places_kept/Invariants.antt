use Rattle.std.proofs.Common.{◌≡◌, drop, map}
use Rattle.std.specs.List.{list_all, filter}
use Rattle.pks_terms.specs.Syntax.{term_of as lifted}
use Rattle.pks_terms.specs.Closure.{is_application}
use Rattle.pks_terms.specs.Orders.{number_of, arguments_of}
use Rattle.pks_terms.specs.Views.{inner_of}
use Rattle.pks_terms.specs.Reasons.{would_change, are_barred}
use Rattle.pks_proof.specs.Doings.{effects_by, before_in, moment_in}
use Rattle.pks_proof.proofs.barring.are_places_kept.Given as goal

abbrev pub invariant-loop-t : goal.invariant-loop-t
invariant-loop-t l = list_all (λ u. are_barred (before_in l.d) (moment_in l.d) (would_change (before_in l.d) (moment_in l.d) (number_of u) (arguments_of u)) (effects_by l.d)) (filter is_application (map lifted (map inner_of (drop l.t-index l.ts)))) ≡ list_all (λ u. are_barred (before_in l.d) (moment_in l.d) (would_change (before_in l.d) (moment_in l.d) (number_of u) (arguments_of u)) (effects_by l.d)) (filter is_application (map lifted (map inner_of l.ts)))
