use Rattle.std.proofs.Common.{◌≡◌, drop, map}
use Rattle.std.specs.List.{list_any, filter}
use Rattle.pks_terms.specs.Closure.{is_application}
use Rattle.pks_terms.specs.Syntax.{term_of as lifted}
use Rattle.pks_terms.specs.Views.{inner_of, effect_of}
use Rattle.pks_query_lookup.specs.Fives.{five_of}
use Rattle.pks_laws_forget.specs.Testing.{is_assigned}
use Rattle.pks_history_forget.proofs.kept_copies.some_assigned.Given as goal

abbrev pub invariant-loop-t : goal.invariant-loop-t
invariant-loop-t l = list_any (is_assigned (five_of l.before) (map effect_of l.effects)) (filter is_application (map lifted (map inner_of (drop l.t-index l.ts)))) ≡ list_any (is_assigned (five_of l.before) (map effect_of l.effects)) (filter is_application (map lifted (map inner_of l.ts)))
