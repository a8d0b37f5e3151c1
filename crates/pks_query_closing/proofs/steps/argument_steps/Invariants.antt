use Rattle.std.proofs.Common.{◌≡◌, ◌++◌, map, take}
use Rattle.pks_terms.specs.Sets.{one_replaced, Each}
use Rattle.pks_terms.specs.Closure.{term_steps}
use Rattle.pks_terms.specs.Views.{arguments_in, term_of}
use Rattle.pks_kf.specs.Known.{literals_of}
use Rattle.pks_query_closing.specs.Reading.{replaced_from}
use Rattle.pks_query_closing.proofs.steps.argument_steps.Given as goal

abbrev pub invariant-loop-i : goal.invariant-loop-i
invariant-loop-i l = record {
  same : Each (λ a. a.n ≡ l.n) l.all.items;
  terms : map arguments_in l.all.items ++ replaced_from (term_steps (literals_of l.by.kf)) l.i (map term_of (take l.n l.items)) ≡ one_replaced (term_steps (literals_of l.by.kf)) (map term_of (take l.n l.items));
}
