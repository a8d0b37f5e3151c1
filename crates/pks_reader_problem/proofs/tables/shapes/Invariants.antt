use Rattle.std.proofs.Common.{◌≡◌, ◌++◌, map}
use Rattle.std.specs.HashMap.{values}
use Rattle.pks_terms.specs.Sets.{Each}
use Rattle.pks_terms.specs.Views.{shape_of}
use Rattle.pks_reader_problem.specs.Sizes.{IsCounted}
use Rattle.pks_reader_problem.proofs.tables.shapes.Given as goal

abbrev pub invariant-loop-shape : goal.invariant-loop-shape
invariant-loop-shape l = record {
  says : map shape_of l.shapes.items ++ map shape_of l.shape-iterator ≡ map shape_of (values l.table);
  counted : Each IsCounted l.shapes.items;
}
