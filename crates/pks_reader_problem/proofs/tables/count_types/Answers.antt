use Rattle.std.proofs.Common.{◌∙◌, sym}
use Rattle.pks_reader_problem.proofs.Seen.{length_shown}
use Rattle.pks_reader_problem.proofs.tables.count_types.Goals as goal

pub returns : goal.returns
returns c = c.len.ensures.len ∙ sym (length_shown c.args.table.now.entries)
