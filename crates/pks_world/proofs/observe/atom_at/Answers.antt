use Rattle.pks_world.proofs.Gathering.{three_viewed}
use Rattle.pks_world.proofs.observe.atom_at.Goals as goal

pub returns-clause-says : goal.returns-clause-says
returns-clause-says c = λ i. record { predicate = c.args.pred.0; arguments = three_viewed c.args.n c.args.d c.args.e c.args.f i }
