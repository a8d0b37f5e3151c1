use Rattle.pks_terms.specs.Problems.{schema_of}
use Rattle.pks_terms.specs.Progress.{progressed}
use Rattle.pks_laws.proofs.BelongingSteps.{schema_text}
use Rattle.pks_laws_version1.proofs.Onward.{progressed_first}
use Rattle.pks_laws_version1.proofs.Rounds.{closed_first}
use Rattle.pks_laws_version1.proofs.laws.actions_stay_of_the_first_version.Goals as goal

pub returns : goal.returns
returns c = λ p d e i v f m fit closes. closed_first p.signature f.parents v.signature.values (progressed p.signature d (schema_of p i.action) i.arguments) e (progressed_first p.signature f.parents (schema_of p i.action) (schema_text p v i.action) i.arguments fit.arguments d m) closes
