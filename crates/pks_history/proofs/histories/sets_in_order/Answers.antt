use Rattle.std.proofs.Common.{◌≡◌, subst}
use Rattle.pks_terms.specs.Orders.{term_cmp, literal_cmp, conj_cmp}
use Rattle.pks_terms.specs.Databases.{AreSets, entry_cmp}
use Rattle.pks_terms.specs.Views.{term_of, literal_of, literals_in, conj_of}
use Rattle.pks_pmap_set.proofs.Mapped.{ordered-map}
use Rattle.pks_lcw.specs.Entries.{entry_of}
use Rattle.pks_query_lookup.specs.Fives.{five_of}
use Rattle.pks_history.proofs.histories.sets_in_order.Goals as goal

pub returns : goal.returns
returns c =
    let d = c.parts-five.result.now in
    subst (λ x. AreSets (five_of x)) c.parts-five.ensures.lent (record {
      known = ordered-map literal_of literal_cmp d.kf c.len-known.ensures.ordered;
      whether = ordered-map conj_of conj_cmp d.kw c.len-whether.ensures.ordered;
      values = ordered-map term_of term_cmp d.kv c.len-values.ensures.ordered;
      groups = ordered-map literals_in conj_cmp d.kx c.len-groups.ensures.ordered;
      regions = ordered-map entry_of entry_cmp d.lcw c.len-regions.ensures.ordered;
    })
