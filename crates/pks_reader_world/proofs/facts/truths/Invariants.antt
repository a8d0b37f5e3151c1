use Rattle.std.proofs.Common.{◌≡◌, None, drop}
use Rattle.pks_text.specs.FormViews.{forms_view}
use Rattle.pks_reader_names.specs.Parts.{each}
use Rattle.pks_reader_names.specs.Meaning.{all_noted}
use Rattle.pks_reader_names.specs.Views.{found_of, scope_view}
use Rattle.pks_world.specs.Contents.{world_of}
use Rattle.pks_reader_world.specs.Facts.{true_faults}
use Rattle.pks_reader_world.specs.Filling.{with_facts}
use Rattle.pks_reader_world.specs.Typing.{IsReady}
use Rattle.pks_reader_world.proofs.facts.truths.Given as goal

abbrev pub invariant-loop-form : goal.invariant-loop-form
invariant-loop-form l = record {
  faults : all_noted (found_of l.report) (each (true_faults (scope_view l.scope)) (forms_view (drop l.form-index l.forms))) ≡ all_noted (found_of l.fn.report) (each (true_faults (scope_view l.scope)) (forms_view l.forms));
  says : found_of l.report ≡ None → with_facts (scope_view l.scope) (world_of l.world) (forms_view (drop l.form-index l.forms)) ≡ with_facts (scope_view l.scope) (world_of l.fn.world) (forms_view l.forms);
  ready : IsReady (scope_view l.scope) l.world;
}
