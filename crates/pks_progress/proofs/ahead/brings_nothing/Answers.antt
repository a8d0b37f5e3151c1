use Rattle.pks_terms.specs.Orders.{literal_cmp}
use Rattle.pks_terms.specs.Views.{literal_of}
use Rattle.pks_pmap_set.proofs.Mapped.{ordered-map}
use Rattle.pks_progress.proofs.ahead.brings_nothing.Goals as goal

pub returns-then-len-clause-ordered : goal.returns-then-len-clause-ordered
returns-then-len-clause-ordered c = ordered-map literal_of literal_cmp c.args.kept.now.kf c.len-known.ensures.ordered

pub returns-else-len-clause-ordered : goal.returns-else-len-clause-ordered
returns-else-len-clause-ordered c = ordered-map literal_of literal_cmp c.args.kept.now.kf c.len-known.ensures.ordered
