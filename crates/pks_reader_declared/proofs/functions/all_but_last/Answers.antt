use Rattle.std.proofs.Common.{◌-◌, length, arith}
use Rattle.pks_reader_declared.proofs.Steps.{front_view}
use Rattle.pks_reader_declared.proofs.functions.all_but_last.Goals as goal

pub returns : goal.returns
returns c = front_view c.args.forms.now (length c.args.forms.now - 1) (omega (arith, c.if-forms-eq0.false))
