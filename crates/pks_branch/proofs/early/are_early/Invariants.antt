use Rattle.std.proofs.Common.{◌≡◌, drop, map}
use Rattle.std.specs.List.{list_all}
use Rattle.pks_terms.specs.Views.{inner_of}
use Rattle.pks_branch.specs.Early.{inner_is_early}
use Rattle.pks_branch.proofs.early.are_early.Given as goal

abbrev pub invariant-loop-t : goal.invariant-loop-t
invariant-loop-t l = list_all (inner_is_early l.n) (map inner_of (drop l.t-index l.ts)) ≡ list_all (inner_is_early l.n) (map inner_of l.ts)
