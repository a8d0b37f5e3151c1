use Rattle.std.proofs.Common.{◌≡◌, length, rules}
use Rattle.pks_terms.specs.Views.{term_of}
use Rattle.pks_laws_symmetry.specs.Renamed.{renamed_term}
use Rattle.pks_terms.proofs.Fronts.{mapped_three}
use Rattle.pks_search_symmetry.specs.Renaming.{image_by}
use Rattle.pks_search_symmetry.proofs.renaming.terms.Goals as goal

pub returns : goal.returns
returns c =
    let long : length c.args.ts.now ≡ 3 = search rules in
    λ n. mapped_three term_of (renamed_term (image_by c.args.to.now)) c.args.ts.now _ _ _ _ n long c.term.ensures c.term-2.ensures c.term-3.ensures
