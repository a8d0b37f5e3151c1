use Rattle.std.proofs.Common.{◌≡◌, drop}
use Rattle.std.specs.List.{list_any}
use Rattle.pks_terms.specs.Views.{term_of}
use Rattle.pks_postdict_rules.specs.Changes.{signature_in, before_in, some_effects}
use Rattle.pks_postdict_rules.specs.Targets.{assigns_so}
use Rattle.pks_postdict_rules.proofs.undoing.some_assigns_so.Given as goal

abbrev pub invariant-loop-e : goal.invariant-loop-e
invariant-loop-e l = list_any (assigns_so (signature_in l.change) (before_in l.change) (term_of l.place) (term_of l.value)) (some_effects l.change (drop l.e-index l.written)) ≡ list_any (assigns_so (signature_in l.change) (before_in l.change) (term_of l.place) (term_of l.value)) (some_effects l.change l.written)
