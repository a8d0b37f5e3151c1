use Rattle.pks_terms.specs.Orders.{conj_cmp}
use Rattle.pks_terms.specs.Views.{conj_of}
use Rattle.pks_pmap_set.proofs.Mapped.{ordered-map}
use Rattle.pks_branch.proofs.choosing.push_branches.Goals as goal

pub returns-in_err-push-clause-ordered : goal.returns-in_err-push-clause-ordered
returns-in_err-push-clause-ordered c = ordered-map conj_of conj_cmp c.args.kw.now c.items-c-items.ensures.ordered

pub returns-clause-ordered : goal.returns-clause-ordered
returns-clause-ordered c = ordered-map conj_of conj_cmp c.args.kw.now c.items-c-items.ensures.ordered
