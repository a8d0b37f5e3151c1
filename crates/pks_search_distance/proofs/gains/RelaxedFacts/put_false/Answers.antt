use Rattle.pks_search_distance.proofs.Growing.{false_grows, false_has}
use Rattle.pks_search_distance.proofs.gains.RelaxedFacts.put_false.Goals as goal

pub returns-clause-grows : goal.returns-clause-grows
returns-clause-grows c = λ w. false_grows w c.args.self.now c.args.a.now c.insert.new.self c.in_ok-insert.ensures.updates.0

pub returns-clause-has : goal.returns-clause-has
returns-clause-has c = λ w. false_has w c.args.self.now c.args.a.now c.insert.new.self c.in_ok-insert.ensures.updates.0
