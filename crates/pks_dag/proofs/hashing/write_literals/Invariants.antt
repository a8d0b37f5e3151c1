use Rattle.std.proofs.Common.{◌≡◌, drop, fold}
use Rattle.pks_terms.specs.Views.{literals_in}
use Rattle.pks_dag.specs.Writes.{literals_written}
use Rattle.pks_dag.proofs.hashing.write_literals.Given as goal

abbrev pub invariant-loop-l : goal.invariant-loop-l
invariant-loop-l g l = fold g.H.Hasher.write l.state (literals_written (literals_in (drop l.l-index l.literals))) ≡ fold g.H.Hasher.write l.fn.state (literals_written (literals_in l.literals))
