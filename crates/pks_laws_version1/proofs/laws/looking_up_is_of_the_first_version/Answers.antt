use Rattle.std.proofs.Common.{◌∙◌}
use Rattle.pks_laws_version1.proofs.Looking.{holds_same, bare_holds}
use Rattle.pks_laws_version1.proofs.laws.looking_up_is_of_the_first_version.Goals as goal

pub returns : goal.returns
returns c = λ p d l f m v. holds_same p.signature f.parents d m l v ∙ bare_holds p.signature d l
