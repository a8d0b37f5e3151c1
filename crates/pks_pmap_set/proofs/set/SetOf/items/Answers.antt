use Rattle.std.proofs.Common.{subst}
use Rattle.pks_terms.specs.Sets.{IsOrdered}
use Rattle.pks_pmap_set.proofs.Keys.{ordered_keys}
use Rattle.pks_pmap_set.proofs.set.SetOf.items.Goals as goal

pub returns-clause-ordered : goal.returns-clause-ordered
returns-clause-ordered g c = subst (IsOrdered g.T.Ord.cmp) c.self.view_is (ordered_keys g.T.Ord.cmp _ c.iter.ensures.ascending)
