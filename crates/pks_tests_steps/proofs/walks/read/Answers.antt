use Rattle.pks_terms.specs.Views.{problem_of}
use Rattle.pks_laws.proofs.Accepting.{all_justified}
use Rattle.pks_tests_steps.proofs.walks.read.Goals as goal

pub returns-in-Ok-justify-clause-justified : goal.returns-in-Ok-justify-clause-justified
returns-in-Ok-justify-clause-justified c = all_justified (problem_of c.in-Ok.p) c.in-Ok-justify.ensures
