use Rattle.std.proofs.Common.{◌∙◌}
use Rattle.pks_reader_names.proofs.Entries.{number_view}
use Rattle.pks_reader_names.proofs.scope.number.Goals as goal

pub returns-clause-number : goal.returns-clause-number
returns-clause-number g c = c.get_index_of.ensures.index ∙ number_view (λ k. k.now) (λ x. x) c.args.table.now.entries c.args.name.now
