use Rattle.pks_world.proofs.Gathering.{three_viewed}
use Rattle.pks_world.proofs.few.Few.atom.Goals as goal

pub returns-clause-says : goal.returns-clause-says
returns-clause-says c =
    let objects = c.args.self.now in
    λ i. record { predicate = c.args.pred.0; arguments = three_viewed objects.n objects.first objects.second objects.third i }
