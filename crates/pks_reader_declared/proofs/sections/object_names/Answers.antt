use Rattle.pks_text.specs.Forms.{Form}
use Rattle.pks_text.specs.FormViews.{forms_view}
use Rattle.pks_reader_names.specs.Declarations.{first_in, no_faults, entries_faults, table_from}
use Rattle.pks_reader_names.specs.Meaning.{all_noted}
use Rattle.pks_reader_names.specs.Views.{found_of, names_of}
use Rattle.pks_reader_names.proofs.Noting.{entries_next, table_next}
use Rattle.pks_reader_declared.proofs.sections.object_names.Goals as goal

pub loop-form-preserved : goal.loop-form-preserved
loop-form-preserved c =
    let said = (λ (f : Form). c.args.own) in
    let faults = no_faults in
    let fs = c.args.forms.now in
    let i = c.loop-form.form-index in
    let x = c.form-item.result in
    record {
      faults = entries_next first_in said faults fs i x (names_of c.loop-form.table) (names_of c.object.new.table) (found_of c.loop-form.report) (found_of c.object.new.report)
          (all_noted (found_of c.args.report.now) (entries_faults first_in said faults (names_of c.args.table.now) (forms_view fs))) c.loop-form-test.true c.form-item.is c.in_ok-object.ensures.table c.in_ok-object.ensures.faults c.loop-form.invariant.faults;
      table = table_next first_in said fs i x (names_of c.loop-form.table) (names_of c.object.new.table) (table_from first_in said (names_of c.args.table.now) (forms_view fs)) c.loop-form-test.true c.form-item.is c.in_ok-object.ensures.table c.loop-form.invariant.table;
    }
