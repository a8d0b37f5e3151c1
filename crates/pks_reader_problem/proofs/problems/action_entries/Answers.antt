use Rattle.std.proofs.Common.{List, sym, subst, map}
use Rattle.pks_terms.specs.Sets.{Each}
use Rattle.pks_terms.specs.Counts.{SchemaCounts}
use Rattle.pks_terms.specs.ValidProblems.{AssignsToPlace}
use Rattle.pks_terms.specs.Views.{schema_of}
use Rattle.pks_terms.specs.declared.schema.Schema.{Schema}
use Rattle.pks_text.specs.Forms.{Form}
use Rattle.pks_text.specs.FormViews.{forms_view}
use Rattle.pks_reader_shape.specs.Files.{Fault}
use Rattle.pks_reader_names.specs.Parts.{behind_head}
use Rattle.pks_reader_names.specs.Declarations.{second_in, nothing, action_faults, entries_faults, table_from}
use Rattle.pks_reader_names.specs.Meaning.{all_noted}
use Rattle.pks_reader_names.specs.Views.{found_of, names_of}
use Rattle.pks_reader_names.proofs.Noting.{entries_next, table_next}
use Rattle.pks_reader_declared.specs.Views.{declared_view}
use Rattle.pks_reader_problem.specs.Spans.{adds_in}
use Rattle.pks_reader_problem.specs.Stated.{all, schema_in, action_name, parameter_names, add_places}
use Rattle.pks_reader_problem.proofs.Growing.{each_pushed}
use Rattle.pks_reader_problem.proofs.Walked.{said_next}
use Rattle.pks_reader_problem.proofs.problems.action_entries.Goals as goal

pub loop-i-preserved : goal.loop-i-preserved
loop-i-preserved c =
    let s = declared_view c.args.declared.now in
    let faults : Form → List Fault = λ f. action_faults s (behind_head f) in
    let fs = c.args.forms.now in
    let whole = forms_view fs in
    let i = c.loop-i.i in
    let f = c.index-forms-i.result in
    let within = c.loop-i-test.true in
    let is = c.index-forms-i.is in
    let one = c.in_ok-one.one in
    let xs = c.loop-i.schemas.items in
    let zs = c.push.new.self.items in
    let grown = c.in_ok-push.ensures.items in
    record {
      faults = entries_next second_in nothing faults fs i f (names_of c.loop-i.table) (names_of c.action.new.table) (found_of c.loop-i.report) (found_of c.action.new.report)
          (all_noted (found_of c.args.report.now) (entries_faults second_in nothing faults (names_of c.args.table.now) whole)) within is c.in_ok-one.ensures.table c.in_ok-one.ensures.faults c.loop-i.invariant.faults;
      table = table_next second_in nothing fs i f (names_of c.loop-i.table) (names_of c.action.new.table) (table_from second_in nothing (names_of c.args.table.now) whole) within is c.in_ok-one.ensures.table c.loop-i.invariant.table;
      says = said_next schema_of (λ (g : Form). schema_in s (behind_head g)) xs zs one.schema fs i f (all (λ (g : Form). schema_in s (behind_head g)) whole) grown within is c.in_ok-one.ensures.says c.loop-i.invariant.says;
      names = said_next (λ (y : Schema). y.name.now) action_name xs zs one.schema fs i f (all action_name whole) grown within is c.in_ok-one.ensures.name c.loop-i.invariant.names;
      parameters = said_next (λ names. map (λ t. t.now) names) (parameter_names s) c.loop-i.params.items c.push-in-loop-i.new.self.items one.params fs i f (all (parameter_names s) whole) c.in_ok-push-2.ensures.items within is c.in_ok-one.ensures.parameters c.loop-i.invariant.parameters;
      counts = subst (Each SchemaCounts) (sym grown) (each_pushed SchemaCounts xs one.schema c.loop-i.invariant.counts c.in_ok-one.ensures.counts);
      places = subst (Each (λ (y : Schema). Each (λ e. AssignsToPlace e.target) y.effects)) (sym grown) (each_pushed (λ (y : Schema). Each (λ e. AssignsToPlace e.target) y.effects) xs one.schema c.loop-i.invariant.places c.in_ok-one.ensures.places);
      spans = said_next adds_in add_places xs zs one.schema fs i f (all add_places whole) grown within is c.in_ok-one.ensures.spans c.loop-i.invariant.spans;
    }
