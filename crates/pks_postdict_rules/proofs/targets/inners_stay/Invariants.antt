use Rattle.std.proofs.Common.{◌≡◌, drop, map}
use Rattle.std.specs.List.{list_all}
use Rattle.pks_terms.specs.Syntax.{term_of as lifted}
use Rattle.pks_terms.specs.Spoiling.{is_stable}
use Rattle.pks_terms.specs.Views.{inner_of}
use Rattle.pks_postdict_rules.specs.Changes.{signature_in, before_in, effects_by}
use Rattle.pks_postdict_rules.proofs.targets.inners_stay.Given as goal

abbrev pub invariant-loop-t : goal.invariant-loop-t
invariant-loop-t l = list_all (is_stable (signature_in l.change) (before_in l.change) (effects_by l.change)) (map lifted (map inner_of (drop l.t-index l.args))) ≡ list_all (is_stable (signature_in l.change) (before_in l.change) (effects_by l.change)) (map lifted (map inner_of l.args))
