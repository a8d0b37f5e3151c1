use Rattle.std.proofs.Common.{◌≡◌, drop}
use Rattle.pks_terms.specs.Views.{atom_of}
use Rattle.pks_lcw.specs.Entries.{entries_of}
use Rattle.pks_query_closing.specs.Listing.{all_pass, spares}
use Rattle.pks_query_closing.proofs.listing.all_spare.Given as goal

abbrev pub invariant-loop-region : goal.invariant-loop-region
invariant-loop-region l = all_pass (spares (atom_of l.a)) (entries_of (drop l.region-index l.kinds)) ≡ all_pass (spares (atom_of l.a)) (entries_of l.kinds)
