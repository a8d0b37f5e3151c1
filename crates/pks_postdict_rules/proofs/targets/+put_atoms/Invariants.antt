use Rattle.std.proofs.Common.{◌≡◌, ◌++◌, ◌+◌, ◌-◌, flat_map, map, take, drop, slice_set}
use Rattle.pks_terms.specs.Syntax.{Named}
use Rattle.pks_terms.specs.Orders.{literal}
use Rattle.pks_terms.specs.Views.{terms_of, literals_in}
use Rattle.pks_postdict_rules.specs.Changes.{signature_in, before_in, effects_by}
use Rattle.pks_postdict_rules.specs.Choosing.{choices_after}
use Rattle.pks_postdict_rules.specs.Targets.{stable_terms}
use Rattle.pks_postdict_rules.proofs.targets.+put_atoms.Given as goal

abbrev pub decreases-put_atoms : goal.decreases-put_atoms
decreases-put_atoms l = 3 - l.at

abbrev pub invariant-loop-t : goal.invariant-loop-t
invariant-loop-t l =
    let forms = stable_terms (signature_in l.change) (before_in l.change) (effects_by l.change) in
    let xs = terms_of (take l.a.n l.args) in
    literals_in l.to.items ++ map (λ ts. literal (Named l.a.pred.0) ts l.positive) (flat_map (λ y. choices_after forms (l.at + 1) (slice_set xs l.at y)) (terms_of (drop l.t-index l.t-items)))
    ≡ literals_in l.fn.to.items ++ map (λ ts. literal (Named l.a.pred.0) ts l.positive) (choices_after forms l.at xs)
