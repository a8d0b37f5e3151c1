use Rattle.std.proofs.Common.{◌∙◌, ap}
use Rattle.pks_terms.specs.Views.{shape_of}
use Rattle.pks_reader_names.specs.Views.{names_of, seen}
use Rattle.pks_reader_names.proofs.Entries.{declare_seen}
use Rattle.pks_reader_declared.proofs.declaring.declare_shape.Goals as goal

pub returns : goal.returns
returns c = ap (seen shape_of) c.in_ok-declare.ensures ∙ declare_seen shape_of (names_of c.args.table.now) c.args.name.now c.args.shape
