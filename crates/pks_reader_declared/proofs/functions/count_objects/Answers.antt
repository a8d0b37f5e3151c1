use Rattle.std.proofs.Common.{◌∙◌, sym}
use Rattle.pks_reader_declared.proofs.Owning.{owns_length}
use Rattle.pks_reader_declared.proofs.functions.count_objects.Goals as goal

pub returns : goal.returns
returns c = c.len.ensures.len ∙ sym (owns_length c.args.objects.now.entries)
