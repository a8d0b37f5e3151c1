use Rattle.pks_terms.specs.Problems.{schema_of}
use Rattle.pks_laws.proofs.BelongingSteps.{schema_text}
use Rattle.pks_laws.proofs.OneTypeAlong.{progressed_one_typed}
use Rattle.pks_laws.proofs.laws.actions_keep_one_type_at_first.Goals as goal

pub returns : goal.returns
returns c = λ p d i v first m fit. progressed_one_typed p.signature first.parents (schema_of p i.action) (schema_text p v i.action) i.arguments fit.arguments d m
