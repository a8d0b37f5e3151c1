use Rattle.std.proofs.Common.{◌≡◌, ◌++◌, filter, drop}
use Rattle.pks_terms.specs.Spoiling.{is_stable}
use Rattle.pks_terms.specs.Views.{terms_of}
use Rattle.pks_postdict_rules.specs.Changes.{signature_in, before_in, effects_by}
use Rattle.pks_postdict_rules.proofs.targets.stable_of.Given as goal

abbrev pub invariant-loop-t : goal.invariant-loop-t
invariant-loop-t l =
    let stays = is_stable (signature_in l.change) (before_in l.change) (effects_by l.change) in
    terms_of l.stable.items ++ filter stays (terms_of (drop l.t-index l.terms)) ≡ filter stays (terms_of l.terms)
