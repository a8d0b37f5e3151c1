use Rattle.std.proofs.Common.{◌≡◌, drop, map}
use Rattle.std.specs.List.{list_all}
use Rattle.pks_terms.specs.Views.{term_of}
use Rattle.pks_branch.specs.Early.{term_is_early}
use Rattle.pks_branch.proofs.early.terms_are_early.Given as goal

abbrev pub invariant-loop-t : goal.invariant-loop-t
invariant-loop-t l = list_all (term_is_early l.n) (map term_of (drop l.t-index l.ts)) ≡ list_all (term_is_early l.n) (map term_of l.ts)
