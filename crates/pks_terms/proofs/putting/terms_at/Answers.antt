use Rattle.std.proofs.Common.{◌≡◌, length, rules}
use Rattle.pks_terms.specs.Actions.{term_at}
use Rattle.pks_terms.specs.Views.{given_of, term_of}
use Rattle.pks_terms.specs.Counts.{TermCounts}
use Rattle.pks_terms.proofs.Fronts.{mapped_three}
use Rattle.pks_terms.proofs.Kept.{kept_three}
use Rattle.pks_terms.proofs.putting.terms_at.Goals as goal

pub returns-clause-says : goal.returns-clause-says
returns-clause-says c =
    let long : length c.args.terms.now ≡ 3 = search rules in
    λ n. mapped_three term_of (term_at (given_of c.args.i.now)) c.args.terms.now _ _ _ _ n long c.at.ensures.says c.at-2.ensures.says c.at-3.ensures.says

pub returns-clause-counts : goal.returns-clause-counts
returns-clause-counts c =
    let long : length c.args.terms.now ≡ 3 = search rules in
    λ n old given. kept_three TermCounts TermCounts c.args.terms.now _ _ _ _ n long (λ h. c.at.ensures.counts h given) (λ h. c.at-2.ensures.counts h given) (λ h. c.at-3.ensures.counts h given) old
