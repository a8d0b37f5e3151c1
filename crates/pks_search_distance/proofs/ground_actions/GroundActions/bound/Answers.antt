use Rattle.std.proofs.Common.{sym, subst}
use Rattle.std.specs.Option.{IfSome}
use Rattle.pks_terms.specs.Views.{problem_of}
use Rattle.pks_world.specs.Contents.{world_of}
use Rattle.pks_world.specs.declared.worlds.World.{World}
use Rattle.pks_search_distance.specs.Levels.{IsBound}
use Rattle.pks_search_distance.proofs.Meeting.{greater_bounds}
use Rattle.pks_search_distance.proofs.Remembering.{beside, with_table}
use Rattle.pks_search_distance.proofs.ground_actions.GroundActions.bound.Goals as goal

pub needs-requires : goal.needs-requires
needs-requires c =
    let w = world_of c.deref-world.result.now in
    beside (problem_of c.args.p.now) c.args.self.now c.tells.new.self w (c.requires.listed w)

pub returns-then-is_enough-clause-bound : goal.returns-then-is_enough-clause-bound
returns-then-is_enough-clause-bound c =
    let p = problem_of c.args.p.now in
    subst (λ (w : World). IsBound p (world_of w) c.few-counted.result) c.deref-world.ensures (c.few-counted.ensures p c.requires)

pub returns-in-Some-clause-bound : goal.returns-in-Some-clause-bound
returns-in-Some-clause-bound c =
    let p = problem_of c.args.p.now in
    subst (λ (w : World). IsBound p (world_of w) c.in-Some.known.needs) c.deref-world.ensures
    (subst (λ o. IfSome o (λ b. IsBound p (world_of c.deref-world.result.now) b.needs)) c.in-Some.is (c.tells.ensures.told p c.requires.counted))

pub returns-in-Some-clause-ground_actions : goal.returns-in-Some-clause-ground_actions
returns-in-Some-clause-ground_actions c =
    let p = problem_of c.args.p.now in
    with_table p c.args.self.now c.tells.new.self c.requires (c.tells.ensures.right p c.requires.counted)

pub returns-clause-bound : goal.returns-clause-bound
returns-clause-bound c =
    let p = problem_of c.args.p.now in
    let w = world_of c.deref-world.result.now in
    let both = subst (IsBound p w) (sym c.greater-needs.ensures) (greater_bounds p w c.few-counted.result c.in_ok-levels.levels (c.few-counted.ensures p c.requires) c.in_ok-levels.ensures) in
    subst (λ (w : World). IsBound p (world_of w) c.greater-needs.result) c.deref-world.ensures both

pub returns-clause-ground_actions : goal.returns-clause-ground_actions
returns-clause-ground_actions c =
    let p = problem_of c.args.p.now in
    let w = world_of c.deref-world.result.now in
    let both = subst (IsBound p w) (sym c.greater-needs.ensures) (greater_bounds p w c.few-counted.result c.in_ok-levels.levels (c.few-counted.ensures p c.requires) c.in_ok-levels.ensures) in
    let holds = subst (λ (w : World). IsBound p (world_of w) c.greater-needs.result) c.deref-world.ensures both in
    with_table p c.args.self.now c.note.new.self c.requires (c.note.ensures p holds (c.tells.ensures.right p c.requires.counted))

pub returns-in_err-levels-clause-ground_actions : goal.returns-in_err-levels-clause-ground_actions
returns-in_err-levels-clause-ground_actions c =
    let p = problem_of c.args.p.now in
    with_table p c.args.self.now c.tells.new.self c.requires (c.tells.ensures.right p c.requires.counted)
