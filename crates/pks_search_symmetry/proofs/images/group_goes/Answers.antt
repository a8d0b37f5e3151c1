use Rattle.std.proofs.Common.{◌∙◌, ap}
use Rattle.pks_terms.specs.Orders.{conj_cmp}
use Rattle.pks_kx.specs.Groups.{groups_of}
use Rattle.pks_search_symmetry.specs.Going.{is_one_of}
use Rattle.pks_search_symmetry.proofs.Going.{is_group_among}
use Rattle.pks_search_symmetry.proofs.images.group_goes.Goals as goal

pub returns : goal.returns
returns c =
    c.has.ensures ∙ is_group_among c.in_ok-image.image c.args.e.now.kx ∙ ap (λ x. is_one_of conj_cmp x (groups_of c.args.e.now.kx)) c.in_ok-image.ensures
