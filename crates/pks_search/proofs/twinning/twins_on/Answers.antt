use Rattle.std.proofs.Common.{sym, ap, ◌∙◌, subst}
use Rattle.pks_terms.specs.ChoiceViews.{choice_of, side_of}
use Rattle.pks_search.specs.Near.{ComeFrom, is_so}
use Rattle.pks_search.specs.Twins.{AreKept}
use Rattle.pks_search.proofs.Witnessed.{come_more}
use Rattle.pks_search.proofs.twinning.twins_on.Goals as goal
use Rattle.pks_search.proofs.twinning.twins_on.Goals.{then-is_so+in_ok-share+in_ok-push, else-is_so}

pub loop-x-preserved : goal.loop-x-preserved
loop-x-preserved c =
    let R = AreKept (choice_of c.args.c.now) (side_of c.args.side) in
    elim c.if-is_so.branch [
      | then-is_so+in_ok-share+in_ok-push w ↦
          let on = sym (c.is_so.ensures ∙ ap (λ v. is_so v (choice_of c.args.c.now) (side_of c.args.side)) c.one.ensures) ∙ w.if-is_so.true in
          let next = come_more R c.args.twins.now c.loop-x.on.items c.loop-x.x-index c.x-item.result w.in_ok-share.field-0 c.loop-x-test.true c.x-item.is (record { on = on; first = w.in_ok-share.ensures.first; second = w.in_ok-share.ensures.second }) c.loop-x.invariant in
          subst (λ on. ComeFrom R c.args.twins.now on.items) (sym w.on-is) (subst (ComeFrom R c.args.twins.now) (sym w.in_ok-push.ensures.items) next)
      | else-is_so w ↦ subst (λ on. ComeFrom R c.args.twins.now on.items) (sym w.on-is) c.loop-x.invariant
    ]
