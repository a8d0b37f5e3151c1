use Rattle.pks_terms.specs.Views.{shape_of}
use Rattle.pks_reader_names.specs.Views.{names_of}
use Rattle.pks_reader_names.proofs.Entries.{entry_seen}
use Rattle.pks_reader_names.proofs.scope.Scope.predicate.Goals as goal

pub returns : goal.returns
returns c = entry_seen shape_of c.entry.result (names_of c.args.self.now.declared.now.predicates) c.args.name.now c.entry.ensures
