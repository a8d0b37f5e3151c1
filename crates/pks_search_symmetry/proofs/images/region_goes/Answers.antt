use Rattle.std.proofs.Common.{◌∙◌, ap}
use Rattle.pks_terms.specs.Databases.{entry_cmp}
use Rattle.pks_lcw.specs.Entries.{entries_of}
use Rattle.pks_search_symmetry.specs.Going.{is_one_of}
use Rattle.pks_search_symmetry.proofs.Going.{is_region_among}
use Rattle.pks_search_symmetry.proofs.images.region_goes.Goals as goal

pub returns : goal.returns
returns c =
    c.has.ensures ∙ is_region_among c.in_ok-image.image c.args.e.now.lcw ∙ ap (λ x. is_one_of entry_cmp x (entries_of c.args.e.now.lcw)) c.in_ok-image.ensures
