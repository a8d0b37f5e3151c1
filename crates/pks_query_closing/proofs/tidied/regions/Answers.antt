use Rattle.std.proofs.Common.{◌∙◌, ap, sym}
use Rattle.pks_terms.specs.Databases.{entry_cmp}
use Rattle.pks_lcw.specs.Entries.{entry_of, entries_of}
use Rattle.pks_terms.proofs.SetLaws.{map-set_of}
use Rattle.pks_terms.specs.Totality.{entry_cmp_total}
use Rattle.pks_query_lookup.specs.declared.five.Five.{Five as DFive}
use Rattle.pks_query_closing.proofs.OwnSets.{set_stays}
use Rattle.pks_query_closing.proofs.tidied.regions.Goals as goal

pub returns-then-are_own_regions : goal.returns-then-are_own_regions
returns-then-are_own_regions c =
    let own = c.are_own_regions.ensures c.if-are_own_regions.true ∙ ap (λ (five : DFive). entries_of five.lcw) (sym c.five.ensures) in
    ap entries_of c.in_ok-same.ensures ∙ set_stays entry_of entry_cmp entry_cmp_total c.five.result.now.lcw c.len-ordered.ensures.ordered _ own

pub returns : goal.returns
returns c =
    map-set_of entry_of entry_cmp _ _ _ c.in_ok-set.ensures c.in_ok-all.ensures
