use Rattle.std.proofs.Common.{sym, subst}
use Rattle.pks_terms.specs.Views.{instance_of, problem_of}
use Rattle.pks_search.specs.Near.{ComeFrom, Becomes}
use Rattle.pks_search.proofs.Witnessed.{come_more}
use Rattle.pks_search.proofs.nearing.all_after.Goals as goal

pub returns-then-is_far-clause-becomes : goal.returns-then-is_far-clause-becomes
returns-then-is_far-clause-becomes c =
    let R = Becomes (problem_of c.args.p.now) (instance_of c.args.step.now) in
    subst (ComeFrom R c.args.near.now) (sym c.in_ok-push.ensures.items)
    (come_more R c.args.near.now c.loop-x.next.items c.loop-x.x-index c.x-item.result c.in_ok-y.y c.loop-x-test.true c.x-item.is (record { world = c.in_ok-y.ensures.world; counted = c.in_ok-y.ensures.counted }) c.loop-x.invariant.0)

pub loop-x-preserved : goal.loop-x-preserved
loop-x-preserved c =
    let R = Becomes (problem_of c.args.p.now) (instance_of c.args.step.now) in
    let next = come_more R c.args.near.now c.loop-x.next.items c.loop-x.x-index c.x-item.result c.in_ok-y.y c.loop-x-test.true c.x-item.is (record { world = c.in_ok-y.ensures.world; counted = c.in_ok-y.ensures.counted }) c.loop-x.invariant.0 in
    (subst (ComeFrom R c.args.near.now) (sym c.in_ok-push.ensures.items) next, c.in_ok-y.ensures.ground_actions)
