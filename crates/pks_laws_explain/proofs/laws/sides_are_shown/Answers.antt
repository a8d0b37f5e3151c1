use Rattle.pks_terms.specs.Sets.{Each}
use Rattle.std.proofs.Common.{subst}
use Rattle.pks_terms.specs.Branching.{IsMember}
use Rattle.pks_terms.specs.Moments.{IsInOrder}
use Rattle.pks_terms.proofs.ListLaws.{each_in}
use Rattle.pks_laws_explain.proofs.Began.{side_shown}
use Rattle.pks_laws_explain.proofs.laws.sides_are_shown.Goals as goal

pub returns : goal.returns
returns c = λ p path m n d choice side within taken o member s. side_shown p path m within d s choice side (n, taken) (λ b e. each_in (Each IsInOrder) d.kw b o.whether (subst (IsMember d) e member))
