use Rattle.std.proofs.Common.{◌+◌, [], append_assoc}
use Rattle.std.proofs.lemmas.List.{take_rest}
use Rattle.pks_terms.specs.declared.schema.Target.TheVariants.{Set}
use Rattle.pks_postdict_rules.specs.Changes.{some_effects}
use Rattle.pks_postdict_rules.proofs.Effects.{others_start, effects_more}
use Rattle.pks_postdict_rules.proofs.firing.put_all_must_have_fired.Goals as goal

pub loop-k-init : goal.loop-k-init
loop-k-init c = rw (others_start (some_effects c.args.change.now c.args.written.now))

pub loop-k-preserved : goal.loop-k-preserved
loop-k-preserved c =
    let more = effects_more c.args.change.now c.args.written.now c.loop-k.k (record { cond = record { n = 0; literals = [] }; target = Set (record { pred = record { 0 = 0 }; n = 0; args = [] }) }) c.loop-k-test.true in
    let h = rw more at c.loop-k.invariant in
    let rest = take_rest c.args.written.now (c.loop-k.k + 1) in
    rw (c.in_ok-put_must_have_fired.ensures, rest, append_assoc) h
