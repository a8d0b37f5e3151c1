use Rattle.std.proofs.Common.{◌≡◌, length, rules}
use Rattle.pks_terms.specs.Views.{object_of}
use Rattle.pks_terms.proofs.Fronts.{mapped_two}
use Rattle.pks_search_symmetry.specs.Renaming.{image_by}
use Rattle.pks_search_symmetry.proofs.renaming.objects.Goals as goal

pub returns : goal.returns
returns c =
    let long : length c.args.ds.now ≡ 2 = search rules in
    λ n. mapped_two object_of (image_by c.args.to.now) c.args.ds.now _ _ _ n long c.object.ensures c.object-2.ensures
