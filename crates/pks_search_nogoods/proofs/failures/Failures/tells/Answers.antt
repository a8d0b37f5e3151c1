use Rattle.std.proofs.Common.{refl}
use Rattle.pks_search_nogoods.proofs.failures.Failures.tells.Goals as goal

pub returns-then-tells_in-clause-told : goal.returns-then-tells_in-clause-told
returns-then-tells_in-clause-told c = λ yes v moments right. c.tells_in.ensures.told c.if-tells_in.true v right.alike moments right.last

pub returns-then-tells_in-clause-right : goal.returns-then-tells_in-clause-right
returns-then-tells_in-clause-right c = λ p right. record { alike = right.alike; last = c.tells_in.ensures.right p right.last; fallen = right.fallen }

pub returns-clause-told : goal.returns-clause-told
returns-clause-told c = λ yes v moments right. c.tells_in-2.ensures.told yes v right.alike moments right.fallen

pub returns-clause-right : goal.returns-clause-right
returns-clause-right c = λ p right. record { alike = right.alike; last = c.tells_in.ensures.right p right.last; fallen = c.tells_in-2.ensures.right p right.fallen }

pub returns-then-tells_in-clause-last : goal.returns-then-tells_in-clause-last
returns-then-tells_in-clause-last c = c.tells_in.ensures.kept

pub returns-then-tells_in-clause-fallen : goal.returns-then-tells_in-clause-fallen
returns-then-tells_in-clause-fallen c = λ m. refl

pub returns-clause-last : goal.returns-clause-last
returns-clause-last c = c.tells_in.ensures.kept

pub returns-clause-fallen : goal.returns-clause-fallen
returns-clause-fallen c = c.tells_in-2.ensures.kept
