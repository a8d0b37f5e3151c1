use Rattle.pks_terms.specs.declared.ids.ObjId.{ObjId}
use Rattle.pks_world.specs.First.{is_in_row}
use Rattle.pks_world.proofs.Filling.{kept_more, kept_all}
use Rattle.pks_world.proofs.first.keep_rows.Goals as goal

pub loop-first-preserved : goal.loop-first-preserved
loop-first-preserved c =
    let p = λ (d : ObjId). is_in_row c.args.fun.0 c.args.n d c.args.seconds.now in
    record {
      says = kept_more p c.args.firsts.now c.args.d.0 c.args.values.now.entries c.loop-first.first-index _ c.loop-first.values.entries c.keep_row.new.values.entries c.loop-first-test.true c.in_ok-keep_row.ensures.says c.loop-first.invariant.says;
      counts = λ n each. c.in_ok-keep_row.ensures.counts n (c.loop-first.invariant.counts n each);
    }

pub returns-clause-says : goal.returns-clause-says
returns-clause-says c =
    let p = λ (d : ObjId). is_in_row c.args.fun.0 c.args.n d c.args.seconds.now in
    kept_all p c.args.firsts.now c.args.d.0 c.args.values.now.entries c.loop-first.first-index c.loop-first.values.entries c.loop-first-test.false c.loop-first.invariant.says

pub returns-clause-counts : goal.returns-clause-counts
returns-clause-counts c = λ n each. c.loop-first.invariant.counts n each
