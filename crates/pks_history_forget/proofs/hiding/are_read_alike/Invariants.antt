use Rattle.std.proofs.Common.{◌≡◌, drop, map}
use Rattle.std.specs.List.{list_all}
use Rattle.pks_terms.specs.ValidProblems.{ArePlaced}
use Rattle.pks_terms.specs.Views.{effect_of}
use Rattle.pks_query_lookup.specs.Fives.{five_of}
use Rattle.pks_laws_forget.specs.Testing.{is_read_alike}
use Rattle.pks_history_forget.proofs.hiding.are_read_alike.Given as goal

abbrev pub invariant-loop-e : goal.invariant-loop-e
invariant-loop-e l = (ArePlaced (drop l.e-index l.written)) × (list_all (is_read_alike (five_of l.before) (five_of l.after) (map effect_of l.effects)) (map effect_of (drop l.e-index l.written)) ≡ list_all (is_read_alike (five_of l.before) (five_of l.after) (map effect_of l.effects)) (map effect_of l.written))
