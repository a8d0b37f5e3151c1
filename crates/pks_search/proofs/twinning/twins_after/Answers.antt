use Rattle.std.proofs.Common.{sym, subst}
use Rattle.std.specs.Prelude.{IfSome}
use Rattle.pks_terms.specs.Views.{instance_of, problem_of}
use Rattle.pks_search.specs.Near.{ComeFrom}
use Rattle.pks_search_witness.specs.Apart.{AreAfter}
use Rattle.pks_search.proofs.Witnessed.{come_more}
use Rattle.pks_search.proofs.twinning.twins_after.Goals as goal
use Rattle.pks_search.proofs.twinning.twins_after.Goals.{in-Some+in_ok-push, in_default}

pub loop-x-preserved : goal.loop-x-preserved
loop-x-preserved c =
    let R = AreAfter (problem_of c.args.p.now) (instance_of c.args.step.now) in
    elim c.match-branch-2.branch [
      | in-Some+in_ok-push w ↦
          let there = subst (λ o. IfSome o (R c.x-item.result)) w.in-Some.is c.in_ok-y.ensures in
          let next = come_more R c.args.twins.now c.loop-x.next.items c.loop-x.x-index c.x-item.result w.in-Some.y c.loop-x-test.true c.x-item.is there c.loop-x.invariant in
          subst (λ on. ComeFrom R c.args.twins.now on.items) (sym w.next-is) (subst (ComeFrom R c.args.twins.now) (sym w.in_ok-push.ensures.items) next)
      | in_default w ↦ subst (λ on. ComeFrom R c.args.twins.now on.items) (sym w.next-is) c.loop-x.invariant
    ]
