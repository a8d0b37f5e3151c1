use Rattle.pks_terms.specs.Orders.{term_cmp}
use Rattle.pks_terms.specs.Views.{term_of, terms_of}
use Rattle.pks_terms.proofs.SetLaws.{map-set_of}
use Rattle.pks_query_closing.proofs.ranges.applications.Goals as goal

pub returns : goal.returns
returns c =
    map-set_of term_of term_cmp _ _ _ c.in_ok-set.ensures c.in_ok-all.ensures
