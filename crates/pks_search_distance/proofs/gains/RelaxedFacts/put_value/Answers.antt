use Rattle.std.proofs.Common.{refl}
use Rattle.pks_search_distance.proofs.Growing.{value_grows, value_has}
use Rattle.pks_search_distance.proofs.gains.RelaxedFacts.put_value.Goals as goal

pub returns-clause-grows : goal.returns-clause-grows
returns-clause-grows c = λ w. value_grows w c.args.self.now (record c.args.self.now { values = c.push.new.self }) (record { place = c.args.place.now; value = c.args.d }) refl refl refl c.in_ok-push.ensures.items

pub returns-clause-has : goal.returns-clause-has
returns-clause-has c = λ w. value_has w c.args.self.now (record c.args.self.now { values = c.push.new.self }) (record { place = c.args.place.now; value = c.args.d }) c.in_ok-push.ensures.items
