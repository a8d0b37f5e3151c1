use Rattle.std.proofs.Common.{sym, subst}
use Rattle.pks_terms.specs.Sets.{Each}
use Rattle.pks_search.specs.Shelves.{IsShelved}
use Rattle.pks_search.proofs.Shelving.{each_other}
use Rattle.pks_search.proofs.shelves.part.Goals as goal

pub returns-in-Some-clause-others : goal.returns-in-Some-clause-others
returns-in-Some-clause-others c = λ p k. subst (Each (IsShelved p)) (sym c.remove-own.ensures.items) (each_other (IsShelved p) c.args.shelf.items c.in-Some.n k)
