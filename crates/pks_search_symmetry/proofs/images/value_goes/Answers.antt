use Rattle.std.proofs.Common.{◌∙◌, ap}
use Rattle.pks_terms.specs.Orders.{term_cmp}
use Rattle.pks_terms.specs.Views.{terms_of}
use Rattle.pks_search_symmetry.specs.Going.{is_one_of}
use Rattle.pks_search_symmetry.proofs.Going.{is_value_among}
use Rattle.pks_search_symmetry.proofs.images.value_goes.Goals as goal

pub returns : goal.returns
returns c =
    c.has.ensures ∙ is_value_among c.term.result c.args.e.now.kv ∙ ap (λ x. is_one_of term_cmp x (terms_of c.args.e.now.kv)) c.term.ensures
