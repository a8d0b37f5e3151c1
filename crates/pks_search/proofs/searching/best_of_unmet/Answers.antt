use Rattle.std.proofs.Common.{◌≡◌, [], sym, ap, subst}
use Rattle.pks_terms.specs.Closure.{Next, Closes}
use Rattle.pks_terms.specs.Databases.{Five}
use Rattle.pks_terms.specs.Problems.{Problem, initial}
use Rattle.pks_terms.specs.Settling.{History}
use Rattle.pks_terms.specs.Views.{problem_of}
use Rattle.pks_query_lookup.specs.Fives.{five_of}
use Rattle.pks_search.proofs.searching.best_of_unmet.Goals as goal

-- the closed databases are the history's first ones
first_closes : (p : Problem) (h : History) (d : Five) → h ≡ record { start = d; steps = [] } → Closes p.signature (initial p) (Next d) → Closes p.signature (initial p) (Next h.start)
first_closes p h d e c = subst (λ f. Closes p.signature (initial p) (Next f)) (sym (ap (λ (h : History). h.start) e)) c

pub best_at_start-requires-clause-start : goal.best_at_start-requires-clause-start
best_at_start-requires-clause-start c = first_closes (problem_of c.args.p.now) c.in_ok-h.h (five_of c.args.start) c.in_ok-h.ensures c.requires.start

pub best_at_start-requires-clause-alone : goal.best_at_start-requires-clause-alone
best_at_start-requires-clause-alone c = ap (λ (h : History). h.steps) c.in_ok-h.ensures
