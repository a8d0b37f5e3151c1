use Rattle.pks_terms.specs.Views.{problem_of}
use Rattle.pks_search.proofs.shelves.take.Goals as goal

pub returns-in-Some-clause-others : goal.returns-in-Some-clause-others
returns-in-Some-clause-others c = c.part-found.ensures.others (problem_of c.args.p.now) c.requires.shelf

pub returns-in-Ok-clause-others : goal.returns-in-Ok-clause-others
returns-in-Ok-clause-others c = c.part-found.ensures.others (problem_of c.args.p.now) c.requires.shelf
