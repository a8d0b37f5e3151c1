use Rattle.std.proofs.Common.{◌∙◌, ap}
use Rattle.pks_terms.specs.Orders.{literal_cmp}
use Rattle.pks_kf.specs.Known.{literals_of}
use Rattle.pks_search_symmetry.specs.Going.{is_one_of}
use Rattle.pks_search_symmetry.proofs.Going.{is_literal_among}
use Rattle.pks_search_symmetry.proofs.images.has_image.Goals as goal

pub returns : goal.returns
returns c =
    c.has.ensures ∙ is_literal_among c.literal.result c.args.e.now.kf ∙ ap (λ x. is_one_of literal_cmp x (literals_of c.args.e.now.kf)) c.literal.ensures
