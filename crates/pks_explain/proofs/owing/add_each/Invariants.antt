use Rattle.std.proofs.Common.{◌≡◌, ◌++◌, map, drop}
use Rattle.pks_terms.specs.Explained.{at_end}
use Rattle.pks_terms.specs.Views.{literals_in}
use Rattle.pks_proof_lines.specs.ProofViews.{path_of}
use Rattle.pks_explain.specs.EntryViews.{owed_of}
use Rattle.pks_explain.proofs.owing.add_each.Given as goal

abbrev pub invariant-loop-l : goal.invariant-loop-l
invariant-loop-l l = map owed_of l.to.items ++ at_end (path_of l.path) (literals_in (drop l.l-index l.literals)) ≡ map owed_of l.fn.to.items ++ at_end (path_of l.path) (literals_in l.literals)
