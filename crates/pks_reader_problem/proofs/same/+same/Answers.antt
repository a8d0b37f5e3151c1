use Rattle.pks_reader_names.proofs.Lengths.{unequal_lengths}
use Rattle.pks_reader_problem.proofs.same.+same.Goals as goal

pub same_forms-returns-then-forms-others : goal.same_forms-returns-then-forms-others
same_forms-returns-then-forms-others t c = unequal_lengths c.args.forms.now c.args.others.now c.if-forms-others.true
