use Rattle.std.proofs.Common.{◌≡◌, length, rules}
use Rattle.pks_terms.specs.Views.{inner_of}
use Rattle.pks_laws_symmetry.specs.Renamed.{renamed_inner}
use Rattle.pks_terms.proofs.Fronts.{mapped_two}
use Rattle.pks_search_symmetry.specs.Renaming.{image_by}
use Rattle.pks_search_symmetry.proofs.renaming.inners.Goals as goal

pub returns : goal.returns
returns c =
    let long : length c.args.ts.now ≡ 2 = search rules in
    λ n. mapped_two inner_of (renamed_inner (image_by c.args.to.now)) c.args.ts.now _ _ _ n long c.inner.ensures c.inner-2.ensures
