use Rattle.std.proofs.Common.{◌≡◌, drop, map}
use Rattle.std.specs.List.{list_any, flat_map}
use Rattle.pks_terms.specs.Closure.{applications_in}
use Rattle.pks_terms.specs.Views.{terms_of, effect_of}
use Rattle.pks_query_lookup.specs.Fives.{five_of}
use Rattle.pks_laws_forget.specs.Testing.{is_assigned}
use Rattle.pks_history_forget.proofs.kept_copies.some_moves.Given as goal

abbrev pub invariant-loop-t : goal.invariant-loop-t
invariant-loop-t l = list_any (is_assigned (five_of l.before) (map effect_of l.effects)) (flat_map applications_in (terms_of (drop l.t-index l.ts))) ≡ list_any (is_assigned (five_of l.before) (map effect_of l.effects)) (flat_map applications_in (terms_of l.ts))
