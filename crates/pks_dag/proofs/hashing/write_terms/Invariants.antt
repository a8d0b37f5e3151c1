use Rattle.std.proofs.Common.{◌≡◌, drop, fold}
use Rattle.pks_terms.specs.Views.{terms_of}
use Rattle.pks_dag.specs.Writes.{terms_written}
use Rattle.pks_dag.proofs.hashing.write_terms.Given as goal

abbrev pub invariant-loop-t : goal.invariant-loop-t
invariant-loop-t g l = fold g.H.Hasher.write l.state (terms_written (terms_of (drop l.t-index l.ts))) ≡ fold g.H.Hasher.write l.fn.state (terms_written (terms_of l.ts))
