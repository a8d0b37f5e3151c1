use Rattle.pks_reader_names.proofs.Entries.{lent_view}
use Rattle.pks_reader_names.proofs.scope.entry.Goals as goal

pub returns : goal.returns
returns g c = lent_view (λ k. k.now) (λ x. x) c.args.table.now.entries c.args.name.now c.get.result c.get.ensures.value
