use Rattle.std.proofs.Common.{◌≡◌, ◌++◌, map, drop}
use Rattle.pks_terms.specs.Sets.{Each}
use Rattle.pks_terms.specs.Counts.{EffectCounts}
use Rattle.pks_terms.specs.ValidProblems.{AssignsToPlace}
use Rattle.pks_terms.specs.Views.{effect_of}
use Rattle.pks_text.specs.FormViews.{forms_view}
use Rattle.pks_reader_names.specs.Parts.{each}
use Rattle.pks_reader_names.specs.Meaning.{all_noted}
use Rattle.pks_reader_names.specs.Sentences.{parts_faults, effect_faults}
use Rattle.pks_reader_names.specs.Views.{found_of, scope_view}
use Rattle.pks_reader_problem.specs.Stated.{all, effect_in}
use Rattle.pks_reader_problem.proofs.lists.effects.Given as goal

abbrev pub invariant-loop-i : goal.invariant-loop-i
invariant-loop-i l = record {
  faults : all_noted (found_of l.report) (each (effect_faults (scope_view l.scope)) (forms_view (drop l.i l.forms))) ≡ all_noted (found_of l.fn.report) (parts_faults 16 (effect_faults (scope_view l.scope)) (forms_view l.forms));
  says : map effect_of l.effects.items ++ all (effect_in (scope_view l.scope)) (forms_view (drop l.i l.forms)) ≡ all (effect_in (scope_view l.scope)) (forms_view l.forms);
  counts : Each EffectCounts l.effects.items;
  places : Each (λ e. AssignsToPlace e.target) l.effects.items;
}
