use Rattle.std.proofs.Common.{◌-◌, length, arith}
use Rattle.pks_reader_declared.proofs.Steps.{last_view}
use Rattle.pks_reader_declared.proofs.functions.last_of.Goals as goal

pub returns : goal.returns
returns c = last_view c.args.forms.now (length c.args.forms.now - 1) c.index-forms-forms.result (omega (arith, c.if-forms-eq0.false)) c.index-forms-forms.is
