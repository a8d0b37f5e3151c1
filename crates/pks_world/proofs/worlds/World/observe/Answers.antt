use Rattle.std.proofs.Common.{◌∙◌, map, ap, sym, subst}
use Rattle.pks_terms.specs.Counts.{SenseCounts}
use Rattle.pks_terms.specs.Sets.{Each}
use Rattle.pks_terms.specs.Actions.{sense_at, seen}
use Rattle.pks_terms.specs.declared.schema.Sense as sense
use Rattle.pks_terms.specs.Views.{given_of, instance_of, problem_of, sense_of, signature_of}
use Rattle.pks_terms.proofs.ListLaws.{each_append}
use Rattle.pks_world.specs.Contents.{world_of}
use Rattle.pks_world.specs.Counts.{SeenCounts}
use Rattle.pks_world.specs.Observed.{seen_of, AreGround}
use Rattle.pks_world.proofs.Counted.{one_more}
use Rattle.pks_world.proofs.Filling.{each_at}
use Rattle.pks_world.proofs.Instances.{observed_is}
use Rattle.pks_world.proofs.worlds.World.observe.Goals as goal

pub returns-clause-seen : goal.returns-clause-seen
returns-clause-seen c =
    ap (map seen_of) c.of.ensures ∙ c.loop-sense.invariant.seen
    ∙ observed_is (problem_of c.args.p.now) (world_of c.args.self.now) (instance_of c.args.i.now) c.senses_of-sense-items.result.now c.loop-sense.sense-index c.loop-sense-test.false c.senses_of-sense-items.ensures.says

pub loop-sense-preserved : goal.loop-sense-preserved
loop-sense-preserved c = record {
  seen = ap (map seen_of) c.in_ok-push.ensures.items
      ∙ one_more seen_of (λ (x : sense.Sense). seen (signature_of c.args.p.now.signature) (world_of c.args.self.now) (sense_at (given_of c.args.i.now) (sense_of x))) c.loop-sense.all.items c.senses_of-sense-items.result.now c.loop-sense.sense-index c.in_ok-seen.seen _ c.loop-sense-test.true
      (c.in_ok-seen.ensures.seen ∙ ap (seen (signature_of c.args.p.now.signature) (world_of c.args.self.now)) c.at.ensures.says) c.loop-sense.invariant.seen;
  ground = subst (Each AreGround) (sym c.in_ok-push.ensures.items) (each_append AreGround c.loop-sense.all.items _ c.loop-sense.invariant.ground (c.in_ok-seen.ensures.ground, tt));
  counts = λ p i. subst (Each SeenCounts) (sym c.in_ok-push.ensures.items)
      (each_append SeenCounts c.loop-sense.all.items _ (c.loop-sense.invariant.counts p i) (c.in_ok-seen.ensures.counts (c.at.ensures.counts (each_at SenseCounts c.senses_of-sense-items.result.now c.loop-sense.sense-index _ (c.senses_of-sense-items.ensures.counts p) c.loop-sense-test.true) i), tt));
}

pub returns-clause-counts : goal.returns-clause-counts
returns-clause-counts c = λ p i. subst (Each SeenCounts) (sym c.of.ensures) (c.loop-sense.invariant.counts p i)
