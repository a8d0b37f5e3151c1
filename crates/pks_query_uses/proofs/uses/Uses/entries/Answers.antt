use Rattle.std.proofs.Common.{◌∙◌, ap}
use Rattle.pks_lcw.specs.Entries.{entries_of}
use Rattle.pks_query_uses.proofs.uses.Uses.entries.Goals as goal

pub returns : goal.returns
returns c = λ d u. ap entries_of c.at.ensures ∙ u.entries c.args.t.now
