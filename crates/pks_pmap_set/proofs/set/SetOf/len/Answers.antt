use Rattle.std.proofs.Common.{subst, sym, ap, ◌∙◌, length}
use Rattle.pks_terms.specs.Sets.{IsOrdered}
use Rattle.pks_pmap_set.proofs.Keys.{ordered_keys, length-keys}
use Rattle.pks_pmap_set.proofs.set.SetOf.len.Goals as goal

pub returns-clause-count : goal.returns-clause-count
returns-clause-count g c = c.len.ensures.count ∙ sym (length-keys _) ∙ ap length c.self.view_is

pub returns-clause-ordered : goal.returns-clause-ordered
returns-clause-ordered g c = subst (IsOrdered g.T.Ord.cmp) c.self.view_is (ordered_keys g.T.Ord.cmp _ c.len.ensures.ascending)
