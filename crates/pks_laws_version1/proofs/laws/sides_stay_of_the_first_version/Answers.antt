use Rattle.pks_terms.specs.Branching.{assumed}
use Rattle.pks_laws_version1.proofs.Choices.{assumed_first}
use Rattle.pks_laws_version1.proofs.Rounds.{closed_first}
use Rattle.pks_laws_version1.proofs.laws.sides_stay_of_the_first_version.Goals as goal

pub returns : goal.returns
returns c = λ p d e choice side v f m i k closes. closed_first p.signature f.parents v.signature.values (assumed p.signature d choice side) e (assumed_first p.signature f.parents d m choice side i k) closes
