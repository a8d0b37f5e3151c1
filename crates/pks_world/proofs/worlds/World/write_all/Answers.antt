use Rattle.std.proofs.Common.{◌∙◌, ◌∷◌, [], ap}
use Rattle.pks_terms.specs.Actions.{Effect}
use Rattle.pks_terms.specs.Counts.{EffectCounts}
use Rattle.pks_terms.specs.Views.{given_of}
use Rattle.pks_world.specs.Contents.{world_of}
use Rattle.pks_world.specs.Applied.{written_by}
use Rattle.pks_world.proofs.Effects.{written_more, written_all, numbered_at}
use Rattle.pks_world.proofs.Filling.{each_at}
use Rattle.pks_world.proofs.worlds.World.write_all.Goals as goal

pub loop-effect-preserved : goal.loop-effect-preserved
loop-effect-preserved c =
    let w = world_of c.args.old.now in
    let given = given_of c.args.i.now in
    let es = c.args.effects.now in
    record {
      world = λ all.
          written_more w given es c.loop-effect.effect-index _ (world_of c.write_effect.new.self) (world_of c.loop-effect.self) c.loop-effect-test.true
          (c.in_ok-write_effect.ensures.world (numbered_at given es c.loop-effect.effect-index _ c.at.result all c.loop-effect-test.true c.at.ensures.says)
          ∙ ap (λ (e : Effect). written_by w (e ∷ []) (world_of c.loop-effect.self)) c.at.ensures.says)
          ∙ c.loop-effect.invariant.world all;
      places = λ f ds h. c.in_ok-write_effect.ensures.places f ds (c.loop-effect.invariant.places f ds h);
      counts = λ all given each. c.in_ok-write_effect.ensures.counts (c.at.ensures.counts (each_at EffectCounts c.args.effects.now c.loop-effect.effect-index _ all c.loop-effect-test.true) given) (c.loop-effect.invariant.counts all given each);
    }

pub returns-clause-world : goal.returns-clause-world
returns-clause-world c = λ all. written_all (world_of c.args.old.now) (given_of c.args.i.now) c.args.effects.now c.loop-effect.effect-index (world_of c.loop-effect.self) _ c.loop-effect-test.false (c.loop-effect.invariant.world all)

pub returns-clause-counts : goal.returns-clause-counts
returns-clause-counts c = λ all given each. c.loop-effect.invariant.counts all given each
