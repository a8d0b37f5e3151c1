use Rattle.std.proofs.Common.{◌≡◌}
use Rattle.std.specs.List.{list_all}
use Rattle.pks_kf.specs.Known.{literals_of}
use Rattle.pks_kw.specs.Formulas.{formulas_of}
use Rattle.pks_query_closing.specs.Own.{is_own_formula}
use Rattle.pks_query_closing.proofs.tidied.are_own_formulas.Given as goal

abbrev pub invariant-loop-c : goal.invariant-loop-c
invariant-loop-c l = list_all (is_own_formula (literals_of l.d.kf)) (formulas_of l.c-iterator) ≡ list_all (is_own_formula (literals_of l.d.kf)) (formulas_of l.d.kw)
