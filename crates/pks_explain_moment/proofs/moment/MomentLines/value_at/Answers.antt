use Rattle.std.proofs.Common.{◌∙◌}
use Rattle.pks_terms.specs.Views.{inner_of}
use Rattle.pks_terms.specs.Orders.{inner_cmp}
use Rattle.pks_explain_moment.proofs.Views.{found_get}
use Rattle.pks_explain_moment.proofs.moment.MomentLines.value_at.Goals as goal

pub returns : goal.returns
returns c =
    c.copied.ensures ∙ (c.get.ensures ∙ found_get inner_of inner_cmp c.args.self.now.occurring.values c.args.place.now)
