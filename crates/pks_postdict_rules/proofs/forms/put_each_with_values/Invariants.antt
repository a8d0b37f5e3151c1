use Rattle.std.proofs.Common.{◌≡◌, ◌++◌, flat_map, drop}
use Rattle.pks_terms.specs.Views.{terms_of}
use Rattle.pks_kf.specs.Known.{literals_of}
use Rattle.pks_postdict_rules.specs.Choosing.{with_values}
use Rattle.pks_postdict_rules.proofs.forms.put_each_with_values.Given as goal

abbrev pub invariant-loop-t : goal.invariant-loop-t
invariant-loop-t l =
    terms_of l.to.items ++ flat_map (with_values (literals_of l.by.kf)) (terms_of (drop l.t-index l.terms))
    ≡ terms_of l.fn.to.items ++ flat_map (with_values (literals_of l.by.kf)) (terms_of l.terms)
