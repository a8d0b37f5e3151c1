use Rattle.std.proofs.Common.{◌∙◌, ap}
use Rattle.pks_kx.specs.Groups.{groups_of}
use Rattle.pks_query_uses.proofs.uses.Uses.groups.Goals as goal

pub returns : goal.returns
returns c = λ d u. ap groups_of c.at.ensures ∙ u.groups c.args.t.now
