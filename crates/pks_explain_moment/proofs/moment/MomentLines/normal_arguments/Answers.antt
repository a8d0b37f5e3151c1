use Rattle.std.proofs.Common.{◌≡◌, length, rules}
use Rattle.pks_terms.specs.Views.{term_of}
use Rattle.pks_terms.proofs.Fronts.{mapped_three}
use Rattle.pks_explain_moment.specs.Standing.{normal}
use Rattle.pks_explain_moment.proofs.moment.MomentLines.normal_arguments.Goals as goal

pub returns-clause-terms : goal.returns-clause-terms
returns-clause-terms c =
    let long : length c.args.given.now.items ≡ 3 = search rules in
    mapped_three term_of (normal c.args.self.now) c.args.given.now.items _ _ _ _ c.args.given.now.n long c.normal.ensures c.normal-2.ensures c.normal-3.ensures
