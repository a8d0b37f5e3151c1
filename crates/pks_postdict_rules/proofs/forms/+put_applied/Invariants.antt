use Rattle.std.proofs.Common.{◌≡◌, ◌++◌, ◌+◌, ◌-◌, flat_map, map, drop, slice_set}
use Rattle.pks_terms.specs.Syntax.{Object, Apply}
use Rattle.pks_terms.specs.Settling.{inner_forms}
use Rattle.pks_terms.specs.Views.{object_of, terms_of}
use Rattle.pks_kf.specs.Known.{literals_of}
use Rattle.pks_query_lookup.specs.Reading.{first_inners}
use Rattle.pks_postdict_rules.specs.Choosing.{choices_after}
use Rattle.pks_postdict_rules.proofs.forms.+put_applied.Given as goal

abbrev pub decreases-put_applied : goal.decreases-put_applied
decreases-put_applied l = 2 - l.at

abbrev pub invariant-loop-d : goal.invariant-loop-d
invariant-loop-d l =
    let forms = inner_forms (literals_of l.by.kf) in
    let xs = first_inners l.n l.args in
    terms_of l.to.items ++ map (Apply l.fun.0) (flat_map (λ y. choices_after forms (l.at + 1) (slice_set xs l.at y)) (map Object (map object_of (drop l.d-index l.d-items))))
    ≡ terms_of l.fn.to.items ++ map (Apply l.fun.0) (choices_after forms l.at xs)
