use Rattle.std.proofs.Common.{sym, ap, ◌∙◌, subst}
use Rattle.pks_terms.specs.ChoiceViews.{choice_of, side_of}
use Rattle.pks_search.specs.Near.{ComeFrom, IsKept, is_so}
use Rattle.pks_search.proofs.Witnessed.{come_more}
use Rattle.pks_search.proofs.nearing.on_side.Goals as goal
use Rattle.pks_search.proofs.nearing.on_side.Goals.{then-is_so+in_ok-share+in_ok-push, else-is_so}

pub loop-x-preserved : goal.loop-x-preserved
loop-x-preserved c =
    let R = IsKept (choice_of c.args.c.now) (side_of c.args.side) in
    elim c.if-is_so.branch [
      | then-is_so+in_ok-share+in_ok-push w ↦
          let next = come_more R c.args.near.now c.loop-x.on.items c.loop-x.x-index c.x-item.result w.in_ok-share.field-0 c.loop-x-test.true c.x-item.is (record { on = sym (c.is_so.ensures ∙ ap (λ v. is_so v (choice_of c.args.c.now) (side_of c.args.side)) c.world.ensures) ∙ w.if-is_so.true; world = w.in_ok-share.ensures.world; needs = w.in_ok-share.ensures.needs }) c.loop-x.invariant in
          subst (λ on. ComeFrom R c.args.near.now on.items) (sym w.on-is) (subst (ComeFrom R c.args.near.now) (sym w.in_ok-push.ensures.items) next)
      | else-is_so w ↦ subst (λ on. ComeFrom R c.args.near.now on.items) (sym w.on-is) c.loop-x.invariant
    ]
