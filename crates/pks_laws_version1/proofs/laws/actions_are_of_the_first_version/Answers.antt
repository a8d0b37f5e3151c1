use Rattle.pks_terms.specs.Problems.{schema_of}
use Rattle.pks_laws.proofs.BelongingSteps.{schema_text}
use Rattle.pks_laws_version1.proofs.Choices.{progress_first, progress_from_first}
use Rattle.pks_laws_version1.proofs.laws.actions_are_of_the_first_version.Goals as goal

pub returns : goal.returns
returns c = λ p d i o v f m fit. let text = schema_text p v i.action in (progress_first p.signature f.parents d m (schema_of p i.action) text i fit.arguments o, progress_from_first p.signature f.parents d m (schema_of p i.action) text i fit.arguments o)
