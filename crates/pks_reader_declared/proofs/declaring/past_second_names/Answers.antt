use Rattle.std.proofs.Common.{◌∙◌, ap, sym, arith}
use Rattle.pks_text.specs.Forms.{Form}
use Rattle.pks_reader_names.specs.Declarations.{second_in, surplus_faults}
use Rattle.pks_reader_names.specs.Meaning.{all_noted}
use Rattle.pks_reader_names.specs.Views.{found_of, names_of}
use Rattle.pks_reader_names.proofs.Past.{past_named, none_named}
use Rattle.pks_reader_declared.proofs.declaring.past_second_names.Goals as goal

pub returns-then-n-forms : goal.returns-then-n-forms
returns-then-n-forms g c =
    let r = found_of c.args.report.now in
    let t = names_of c.args.table.now in
    c.surplus.ensures ∙ ap (λ (w : Form). all_noted r (surplus_faults t w)) c.second_in.ensures ∙ sym (ap (all_noted r) (past_named t second_in c.args.n c.args.forms.now c.index-forms-n.result c.if-n-forms.true c.index-forms-n.is))

pub returns-else-n-forms : goal.returns-else-n-forms
returns-else-n-forms g c = sym (ap (all_noted (found_of c.args.report.now)) (none_named (names_of c.args.table.now) second_in c.args.n c.args.forms.now (λ less. omega (arith, less, c.if-n-forms.false))))
