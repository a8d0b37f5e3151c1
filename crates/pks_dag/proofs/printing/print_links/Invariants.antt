use Rattle.std.proofs.Common.{◌++◌, ◌≡◌, drop, map}
use Rattle.pks_terms.specs.Views.{names_of}
use Rattle.pks_dag.specs.NodeViews.{link_of}
use Rattle.pks_dag.specs.Lines.{links_text}
use Rattle.pks_dag.proofs.printing.print_links.Given as goal

abbrev pub invariant-loop-one : goal.invariant-loop-one
invariant-loop-one l = l.out.items ++ links_text (names_of l.p) (map link_of (drop l.one-index l.cases)) ≡ l.fn.out.items ++ links_text (names_of l.p) (map link_of l.cases)
