use Rattle.std.proofs.Common.{map, sym, subst}
use Rattle.pks_terms.specs.Sets.{IsIn}
use Rattle.pks_terms.specs.Views.{aim_of}
use Rattle.pks_search_symmetry.proofs.fixed.has_own_image.Goals as goal

pub returns-then-is_image : goal.returns-then-is_image
returns-then-is_image c = λ e. subst (λ z. IsIn z (map aim_of c.args.goal.now)) (sym (c.is_image.ensures c.if-is_image.true)) c.requires
