use Rattle.std.proofs.Common.{◌≡◌, ◌++◌, map, take}
use Rattle.pks_terms.specs.Orders.{equation}
use Rattle.pks_terms.specs.Views.{term_of, terms_of, literals_in}
use Rattle.pks_postdict_rules.proofs.targets.put_equations.Given as goal

abbrev pub invariant-loop-value : goal.invariant-loop-value
invariant-loop-value l = literals_in l.to.items ≡ literals_in l.fn.to.items ++ map (equation (term_of l.place)) (terms_of (take l.value-index l.values))
