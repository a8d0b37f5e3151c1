use Rattle.std.proofs.Common.{◌∙◌}
use Rattle.pks_terms.specs.Printed.{fact_line}
use Rattle.pks_run_bench.proofs.Numbered.{from_more}
use Rattle.pks_run_bench.proofs.facts.put_row.Goals as goal

pub loop-j-preserved : goal.loop-j-preserved
loop-j-preserved c =
    from_more (fact_line c.args.i) c.args.n c.loop-j.j c.loop-j.text.items c.put_fact.new.text.items c.loop-j-test.true c.in_ok-put_fact.ensures ∙ c.loop-j.invariant
