use Rattle.std.proofs.Common.{◌≡◌, drop, map}
use Rattle.std.specs.List.{list_all}
use Rattle.pks_terms.specs.Views.{literals_in, effect_of}
use Rattle.pks_laws_forget.specs.Testing.{is_left}
use Rattle.pks_history_forget.proofs.touching.are_left.Given as goal

abbrev pub invariant-loop-l : goal.invariant-loop-l
invariant-loop-l l = list_all (is_left (map effect_of l.effects)) (literals_in (drop l.l-index l.ls)) ≡ list_all (is_left (map effect_of l.effects)) (literals_in l.ls)
