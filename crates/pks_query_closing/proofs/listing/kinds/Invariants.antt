use Rattle.std.proofs.Common.{◌≡◌, true, ℕ, Bool, List}
use Rattle.pks_terms.specs.Syntax.{Atom}
use Rattle.pks_lcw.specs.Entries.{entries_of}
use Rattle.pks_query_closing.specs.Listing.{all_pass}
use Rattle.pks_query_closing.proofs.listing.kinds.Given as goal

abbrev pub invariant-loop-region : goal.invariant-loop-region
invariant-loop-region l =
    (test : ℕ → List Atom → Bool)
    → all_pass test (entries_of l.kinds.items) ≡ true
    → all_pass test (entries_of l.region-iterator) ≡ true
    → all_pass test (entries_of l.regions) ≡ true
