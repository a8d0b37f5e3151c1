use Rattle.std.proofs.Common.{◌≡◌, ◌++◌, drop}
use Rattle.pks_terms.specs.Views.{terms_of, literals_in}
use Rattle.pks_postdict_rules.specs.Changes.{signature_in, before_in, effects_by}
use Rattle.pks_postdict_rules.specs.Targets.{equations_at}
use Rattle.pks_postdict_rules.proofs.targets.put_equations_at.Given as goal

abbrev pub invariant-loop-place : goal.invariant-loop-place
invariant-loop-place l =
    literals_in l.to.items ++ equations_at (signature_in l.change) (before_in l.change) (effects_by l.change) (terms_of (drop l.place-index l.places)) (terms_of l.values)
    ≡ literals_in l.fn.to.items ++ equations_at (signature_in l.change) (before_in l.change) (effects_by l.change) (terms_of l.places) (terms_of l.values)
