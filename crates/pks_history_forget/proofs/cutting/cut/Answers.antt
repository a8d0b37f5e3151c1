use Rattle.std.proofs.Common.{sym, subst}
use Rattle.pks_terms.specs.Settling.{History}
use Rattle.pks_terms.specs.Moments.{AreMomentsOf}
use Rattle.pks_terms.specs.Views.{problem_of}
use Rattle.pks_laws_forget.specs.Transparent.{AreSetsAlong}
use Rattle.pks_history_forget.specs.Same.{EndHasSameTrees}
use Rattle.pks_history_forget.proofs.Shorter.{kept_moments, same_without}
use Rattle.pks_history_forget.proofs.cutting.cut.Goals as goal

pub without_unasked-requires-clause-moments : goal.without_unasked-requires-clause-moments
without_unasked-requires-clause-moments c =
    let p = problem_of c.args.p.now in
    subst (AreMomentsOf p) (sym c.in_ok-steps.ensures) (kept_moments p c.args.h.now c.requires.moments c.in_order.ensures).0

pub without_unasked-requires-clause-sets : goal.without_unasked-requires-clause-sets
without_unasked-requires-clause-sets c =
    let p = problem_of c.args.p.now in
    subst AreSetsAlong (sym c.in_ok-steps.ensures) (kept_moments p c.args.h.now c.requires.moments c.in_order.ensures).1

pub returns-then-not-are_now-clause-trees : goal.returns-then-not-are_now-clause-trees
returns-then-not-are_now-clause-trees c =
    let p = problem_of c.args.p.now in
    let rest = c.in_ok-rest.rest in
    same_without p c.args.h.now c.requires.moments c.in_order.ensures rest c.requires.valid.says (subst (λ (g : History). EndHasSameTrees p g rest) c.in_ok-steps.ensures c.in_ok-rest.ensures.trees)

pub without_settled-requires-clause-moments : goal.without_settled-requires-clause-moments
without_settled-requires-clause-moments c =
    let p = problem_of c.args.p.now in
    subst (AreMomentsOf p) (sym c.in_ok-steps.ensures) (kept_moments p c.args.h.now c.requires.moments c.in_order.ensures).0

pub without_settled-requires-clause-sets : goal.without_settled-requires-clause-sets
without_settled-requires-clause-sets c =
    let p = problem_of c.args.p.now in
    subst AreSetsAlong (sym c.in_ok-steps.ensures) (kept_moments p c.args.h.now c.requires.moments c.in_order.ensures).1

pub returns-clause-trees : goal.returns-clause-trees
returns-clause-trees c =
    let p = problem_of c.args.p.now in
    let rest = c.in_ok-rest-2.rest in
    same_without p c.args.h.now c.requires.moments c.in_order.ensures rest c.requires.valid.says (subst (λ (g : History). EndHasSameTrees p g rest) c.in_ok-steps.ensures c.in_ok-rest-2.ensures.trees)
