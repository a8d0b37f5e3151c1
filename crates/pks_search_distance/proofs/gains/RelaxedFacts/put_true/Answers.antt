use Rattle.pks_search_distance.proofs.Growing.{true_grows, true_has}
use Rattle.pks_search_distance.proofs.gains.RelaxedFacts.put_true.Goals as goal

pub returns-clause-grows : goal.returns-clause-grows
returns-clause-grows c = λ w. true_grows w c.args.self.now c.args.a.now c.insert.new.self c.in_ok-insert.ensures.updates.0

pub returns-clause-has : goal.returns-clause-has
returns-clause-has c = λ w. true_has w c.args.self.now c.args.a.now c.insert.new.self c.in_ok-insert.ensures.updates.0
