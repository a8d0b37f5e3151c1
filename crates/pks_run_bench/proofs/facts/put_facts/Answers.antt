use Rattle.std.proofs.Common.{◌∙◌}
use Rattle.std.specs.List.{flat_map}
use Rattle.pks_terms.specs.Printed.{fact_line, numbers_from}
use Rattle.pks_run_bench.proofs.Numbered.{from_more}
use Rattle.pks_run_bench.proofs.facts.put_facts.Goals as goal

pub loop-i-preserved : goal.loop-i-preserved
loop-i-preserved c =
    from_more (λ i. flat_map (fact_line i) (numbers_from 1 c.args.n)) c.args.n c.loop-i.i c.loop-i.text.items c.put_row.new.text.items c.loop-i-test.true c.in_ok-put_row.ensures
    ∙ c.loop-i.invariant
