use Rattle.std.proofs.Common.{◌==◌, ◌≡◌, drop, map}
use Rattle.std.specs.List.{list_any, filter}
use Rattle.pks_terms.specs.Closure.{is_application}
use Rattle.pks_terms.specs.Orders.{number_of}
use Rattle.pks_terms.specs.Syntax.{term_of as lifted}
use Rattle.pks_terms.specs.Views.{inner_of}
use Rattle.pks_history_forget.proofs.touching.some_applies.Given as goal

abbrev pub invariant-loop-t : goal.invariant-loop-t
invariant-loop-t l = list_any (λ u. l.fun == number_of u) (filter is_application (map lifted (map inner_of (drop l.t-index l.ts)))) ≡ list_any (λ u. l.fun == number_of u) (filter is_application (map lifted (map inner_of l.ts)))
