use Rattle.std.proofs.Common.{refl}
use Rattle.pks_search_distance.proofs.Growing.{cleared_grows, cleared_has}
use Rattle.pks_search_distance.proofs.gains.RelaxedFacts.put_cleared.Goals as goal

pub returns-clause-grows : goal.returns-clause-grows
returns-clause-grows c = λ w. cleared_grows w c.args.self.now (record c.args.self.now { cleared = c.push.new.self }) c.args.pred refl refl refl c.in_ok-push.ensures.items

pub returns-clause-has : goal.returns-clause-has
returns-clause-has c = λ w. cleared_has w c.args.self.now (record c.args.self.now { cleared = c.push.new.self }) c.args.pred c.in_ok-push.ensures.items
