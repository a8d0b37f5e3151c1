use Rattle.std.proofs.Common.{◌≡◌, length, rules, option_map}
use Rattle.pks_terms.specs.Views.{term_of}
use Rattle.pks_laws_symmetry.specs.Renamed.{renamed_term}
use Rattle.pks_terms.proofs.Fronts.{mapped_three}
use Rattle.pks_search_symmetry.specs.Renaming.{image_by}
use Rattle.pks_search_symmetry.proofs.renaming.slots.Goals as goal

pub returns : goal.returns
returns c =
    let long : length c.args.slots.now ≡ 3 = search rules in
    λ n. mapped_three (option_map term_of) (option_map (renamed_term (image_by c.args.to.now))) c.args.slots.now _ _ _ _ n long c.slot.ensures c.slot-2.ensures c.slot-3.ensures
