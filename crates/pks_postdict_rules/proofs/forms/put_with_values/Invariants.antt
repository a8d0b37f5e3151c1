use Rattle.std.proofs.Common.{◌≡◌, ◌++◌, ◌∷◌, map, take}
use Rattle.pks_terms.specs.Syntax.{Object}
use Rattle.pks_terms.specs.Views.{object_of, term_of, terms_of}
use Rattle.pks_postdict_rules.proofs.forms.put_with_values.Given as goal

abbrev pub invariant-loop-d : goal.invariant-loop-d
invariant-loop-d l = terms_of l.to.items ≡ terms_of l.fn.to.items ++ term_of l.t ∷ map Object (map object_of (take l.d-index l.d-items))
