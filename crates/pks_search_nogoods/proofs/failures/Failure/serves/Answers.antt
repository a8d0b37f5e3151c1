use Rattle.std.proofs.Common.{◌≤◌, min, arith}
use Rattle.pks_terms.specs.Views.{problem_of}
use Rattle.pks_search_nogoods.proofs.Serving.{served}
use Rattle.pks_search_nogoods.proofs.failures.Failure.serves.Goals as goal

pub returns : goal.returns
returns c = λ yes v kept moments right.
    let self = c.args.self.now in
    let asked = c.args.asked.now in
    let cheap : asked.limit ≤ self.limit = omega (arith, c.if-self-asked.false) in
    let shallow : min asked.n asked.limit ≤ self.depth = omega (arith, c.if-self-min.false, c.min.ensures) in
    served (problem_of c.args.p.now) self.history asked.at.history.now v (c.are_alike.ensures yes kept) moments right.moments c.in_order.ensures c.in_order-2.ensures self.depth self.limit asked.n asked.limit cheap shallow right.none
