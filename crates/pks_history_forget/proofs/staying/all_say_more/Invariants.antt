use Rattle.std.proofs.Common.{◌≡◌}
use Rattle.std.specs.List.{list_all}
use Rattle.pks_terms.specs.Views.{conj_of}
use Rattle.pks_kw.specs.Formulas.{formulas_of}
use Rattle.pks_laws_forget.specs.Staying.{says_more}
use Rattle.pks_history_forget.proofs.staying.all_say_more.Given as goal

abbrev pub invariant-loop-k : goal.invariant-loop-k
invariant-loop-k l = list_all (says_more (conj_of l.c)) (formulas_of l.k-iterator) ≡ list_all (says_more (conj_of l.c)) (formulas_of l.d.kw)
