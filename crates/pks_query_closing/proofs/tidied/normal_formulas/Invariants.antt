use Rattle.std.proofs.Common.{◌≡◌, ◌++◌, map}
use Rattle.pks_terms.specs.Closure.{normal_conj}
use Rattle.pks_kf.specs.Known.{literals_of}
use Rattle.pks_kw.specs.Formulas.{formulas_of}
use Rattle.pks_query_closing.proofs.tidied.normal_formulas.Given as goal

abbrev pub invariant-loop-c : goal.invariant-loop-c
invariant-loop-c l = formulas_of l.all.items ++ map (normal_conj (literals_of l.d.kf)) (formulas_of l.c-iterator) ≡ map (normal_conj (literals_of l.d.kf)) (formulas_of l.d.kw)
