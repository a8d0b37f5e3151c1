use Rattle.pks_query.proofs.Alike.{told_alike}
use Rattle.pks_query.proofs.databases.Db.same.Goals as goal

pub returns : goal.returns
returns c = told_alike c.args.self.now c.args.other.now c.parts.result.now c.parts-2.result.now _ c.parts.ensures.lent c.parts-2.ensures.lent c.same_sets.ensures
