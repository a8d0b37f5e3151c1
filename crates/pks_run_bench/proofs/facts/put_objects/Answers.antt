use Rattle.std.proofs.Common.{◌∙◌, ◌∷◌}
use Rattle.pks_terms.specs.Printed.{numbered_object}
use Rattle.pks_run_bench.proofs.Numbered.{both_appended, from_more}
use Rattle.pks_run_bench.proofs.facts.put_objects.Goals as goal

pub loop-i-preserved : goal.loop-i-preserved
loop-i-preserved c =
    from_more (λ i. 32 ∷ numbered_object i) c.args.n c.loop-i.i c.loop-i.text.items c.put_object.new.text.items c.loop-i-test.true
    (both_appended c.loop-i.text.items c.put.new.text.items c.put_object.new.text.items _ _ c.in_ok-put.ensures c.in_ok-put_object.ensures) ∙ c.loop-i.invariant
