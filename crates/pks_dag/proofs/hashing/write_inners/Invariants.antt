use Rattle.std.proofs.Common.{◌≡◌, drop, fold, map}
use Rattle.pks_terms.specs.Views.{inner_of}
use Rattle.pks_dag.specs.Writes.{inners_written}
use Rattle.pks_dag.proofs.hashing.write_inners.Given as goal

abbrev pub invariant-loop-t : goal.invariant-loop-t
invariant-loop-t g l = fold g.H.Hasher.write l.state (inners_written (map inner_of (drop l.t-index l.ts))) ≡ fold g.H.Hasher.write l.fn.state (inners_written (map inner_of l.ts))
