use Rattle.std.proofs.Common.{◌+◌, [], false, append_assoc}
use Rattle.std.proofs.lemmas.List.{take_rest}
use Rattle.pks_terms.specs.declared.literal.Atom.TheVariants.{Pred}
use Rattle.pks_terms.specs.Views.{literal_of, literals_in}
use Rattle.pks_postdict_rules.proofs.Effects.{others_start, others_more}
use Rattle.pks_postdict_rules.proofs.firing.denied_alone.Goals as goal

pub loop-k-init : goal.loop-k-init
loop-k-init c = rw (c.new-denied.ensures.items, others_start (literals_in c.args.literals.now))

pub loop-k-preserved : goal.loop-k-preserved
loop-k-preserved c =
    let more = others_more literal_of c.args.literals.now c.loop-k.k (record { atom = Pred (record { pred = record { 0 = 0 }; n = 0; args = [] }); positive = false }) c.loop-k-test.true in
    let h = rw more at c.loop-k.invariant in
    let rest = take_rest c.args.literals.now (c.loop-k.k + 1) in
    rw (c.in_ok-put_denied_alone.ensures, rest, append_assoc) h
