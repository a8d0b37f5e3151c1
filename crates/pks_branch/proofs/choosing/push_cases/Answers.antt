use Rattle.pks_terms.specs.Orders.{term_cmp}
use Rattle.pks_terms.specs.Views.{term_of}
use Rattle.pks_pmap_set.proofs.Mapped.{ordered-map}
use Rattle.pks_branch.proofs.choosing.push_cases.Goals as goal

pub returns-in_err-push-clause-ordered : goal.returns-in_err-push-clause-ordered
returns-in_err-push-clause-ordered c = ordered-map term_of term_cmp c.args.kv.now c.items-t-items.ensures.ordered

pub returns-clause-ordered : goal.returns-clause-ordered
returns-clause-ordered c = ordered-map term_of term_cmp c.args.kv.now c.items-t-items.ensures.ordered

pub returns-in_err-may_split-clause-ordered : goal.returns-in_err-may_split-clause-ordered
returns-in_err-may_split-clause-ordered c = ordered-map term_of term_cmp c.args.kv.now c.items-t-items.ensures.ordered
