use Rattle.std.proofs.Common.{sym, subst}
use Rattle.pks_terms.specs.Moments.{AreMomentsOf}
use Rattle.pks_terms.specs.Settling.{History}
use Rattle.pks_search_nogoods.specs.Failing.{HasNoTree}
use Rattle.pks_search_nogoods.specs.Standing.{AreNoted}
use Rattle.pks_search_nogoods.proofs.failures.Failures.note.Goals as goal

pub returns-in-Ok-clause-right : goal.returns-in-Ok-clause-right
returns-in-Ok-clause-right c = λ p moments none right. c.put.ensures.right p (subst (AreMomentsOf p) (sym c.in-Ok.ensures) moments) (subst (λ h. HasNoTree p h c.args.depth c.args.limit) (sym c.in-Ok.ensures) none) right

pub returns-in-Ok-clause-noted : goal.returns-in-Ok-clause-noted
returns-in-Ok-clause-noted c =
    subst (λ (h : History). AreNoted c.args.key.mark (record { history = h; key = c.args.key; depth = c.args.depth; limit = c.args.limit }) c.args.self.now c.put.new.self) c.in-Ok.ensures c.put.ensures.noted

pub returns-in-Ok-clause-kept : goal.returns-in-Ok-clause-kept
returns-in-Ok-clause-kept c = c.put.ensures.kept
