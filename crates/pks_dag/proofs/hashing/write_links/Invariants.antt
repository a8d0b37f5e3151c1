use Rattle.std.proofs.Common.{◌≡◌, drop, fold, map}
use Rattle.pks_dag.specs.NodeViews.{link_of}
use Rattle.pks_dag.specs.Writes.{links_written}
use Rattle.pks_dag.proofs.hashing.write_links.Given as goal

abbrev pub invariant-loop-one : goal.invariant-loop-one
invariant-loop-one g l = fold g.H.Hasher.write l.state (links_written (map link_of (drop l.one-index l.cases))) ≡ fold g.H.Hasher.write l.fn.state (links_written (map link_of l.cases))
