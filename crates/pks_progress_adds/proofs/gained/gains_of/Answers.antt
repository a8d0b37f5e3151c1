use Rattle.std.proofs.Common.{length, ◌<◌}
use Rattle.pks_progress_adds.specs.Deeds.{literals_from, formulas_from, values_from, regions_from}
use Rattle.pks_progress_adds.proofs.Applying.{one_more}
use Rattle.pks_progress_adds.proofs.gained.gains_of.Goals as goal

pub loop-a-preserved : goal.loop-a-preserved
loop-a-preserved c =
    let x = c.args.deed.now in
    let adds = c.args.adds.now in
    let i = c.loop-a.a-index in
    let within : i < length adds = c.loop-a-test.true in (
      one_more literals_from x adds i _ _ _ within c.in_ok-apply.ensures.literals c.loop-a.invariant.0,
      one_more formulas_from x adds i _ _ _ within c.in_ok-apply.ensures.formulas c.loop-a.invariant.1,
      one_more values_from x adds i _ _ _ within c.in_ok-apply.ensures.values c.loop-a.invariant.2,
      one_more regions_from x adds i _ _ _ within c.in_ok-apply.ensures.regions c.loop-a.invariant.3,
    )
