use Rattle.pks_terms.specs.Databases.{entry_cmp}
use Rattle.pks_terms.specs.Orders.{conj_cmp, literal_cmp, term_cmp}
use Rattle.pks_terms.specs.Problems.{initial}
use Rattle.pks_terms.specs.Views.{conj_of, literal_of, literals_in, term_of}
use Rattle.pks_lcw.specs.Entries.{entry_of}
use Rattle.pks_terms.proofs.SetLaws.{map-set_of}
use Rattle.pks_query.proofs.initial.initial.Goals as goal

pub returns : goal.returns
unfolding initial
returns c =
    let sorted = rw c.as_slice.ensures at c.in_ok-sorted.ensures in
    let known = map-set_of literal_of literal_cmp _ _ _ c.in_ok-kf.ensures sorted.known in
    let listed = rw (c.as_slice-2.ensures.value, sorted.regions, known) at c.in_ok-entries.ensures in
    λ i. record {
      kf = known i;
      kw = map-set_of conj_of conj_cmp _ _ _ c.in_ok-kw.ensures sorted.whether i;
      kv = map-set_of term_of term_cmp _ _ _ c.in_ok-kv.ensures sorted.values i;
      kx = map-set_of literals_in conj_cmp _ _ _ c.in_ok-kx.ensures sorted.groups i;
      lcw = map-set_of entry_of entry_cmp _ _ _ c.in_ok-lcw.ensures listed i;
    }
