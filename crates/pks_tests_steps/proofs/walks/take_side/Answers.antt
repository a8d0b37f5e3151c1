use Rattle.std.proofs.Common.{sym, subst}
use Rattle.pks_terms.specs.Views.{problem_of}
use Rattle.pks_terms.specs.Moments.{IsMomentOf}
use Rattle.pks_laws.proofs.SearchStates.{last_of_it}
use Rattle.pks_tests_steps.proofs.walks.take_side.Goals as goal

pub assume-requires-clause-moment : goal.assume-requires-clause-moment
assume-requires-clause-moment c = subst (IsMomentOf (problem_of c.args.p.now).signature) (sym c.last.ensures) (last_of_it (problem_of c.args.p.now) c.requires.valid.says c.args.h.now c.requires.moments)
