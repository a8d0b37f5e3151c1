use Rattle.std.proofs.Common.{◌∙◌, ap}
use Rattle.pks_kf.specs.Known.{literals_of}
use Rattle.pks_query_uses.proofs.uses.Uses.literals.Goals as goal

pub returns : goal.returns
returns c = λ d u. ap literals_of c.at.ensures ∙ u.literals c.args.t.now
