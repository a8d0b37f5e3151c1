use Rattle.std.proofs.Common.{◌≡◌, ◌++◌, map}
use Rattle.pks_terms.specs.Sets.{one_replaced}
use Rattle.pks_terms.specs.Closure.{inner_steps}
use Rattle.pks_terms.specs.Syntax.{Apply}
use Rattle.pks_terms.specs.Views.{term_of}
use Rattle.pks_kf.specs.Known.{literals_of}
use Rattle.pks_query_lookup.specs.Reading.{first_inners}
use Rattle.pks_query_closing.specs.Reading.{replaced_from}
use Rattle.pks_query_closing.proofs.steps.put_argument_steps.Given as goal

abbrev pub invariant-loop-i : goal.invariant-loop-i
invariant-loop-i l =
    map term_of l.to.items ++ map (Apply l.fun.0) (replaced_from (inner_steps (literals_of l.by.kf)) l.i (first_inners l.n l.args))
    ≡ map term_of l.fn.to.items ++ map (Apply l.fun.0) (one_replaced (inner_steps (literals_of l.by.kf)) (first_inners l.n l.args))
