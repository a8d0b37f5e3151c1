use Rattle.pks_terms.specs.Syntax.{Apply}
use Rattle.pks_search_distance.proofs.Growing.{two_viewed}
use Rattle.pks_search_distance.proofs.objects.Pair.place.Goals as goal

pub returns : goal.returns
returns c =
    let objects = c.args.self.now in
    λ i. Apply c.args.fun.0 (two_viewed objects.n objects.first objects.second i)
