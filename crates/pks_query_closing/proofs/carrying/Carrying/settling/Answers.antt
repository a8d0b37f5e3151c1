use Rattle.std.proofs.Common.{sym, subst}
use Rattle.pks_terms.specs.Saturated.{Within}
use Rattle.pks_kf.specs.Known.{literals_of}
use Rattle.pks_query_closing.proofs.ByValue.{within_more}
use Rattle.pks_query_closing.proofs.carrying.Carrying.settling.Goals as goal

pub loop-l-init : goal.loop-l-init
loop-l-init c = subst (λ xs. Within (literals_of xs) (literals_of c.args.self.now.five.kf)) (sym c.new-forms.ensures.items) (λ m i. absurd i)

pub loop-l-preserved : goal.loop-l-preserved
loop-l-preserved c = c.in_ok-put_all_apart.ensures (c.in_ok-put_settling.ensures c.loop-l.invariant)

pub returns : goal.returns
returns c = λ listed.
    let known = literals_of c.args.self.now.five.kf in
    subst (λ xs. Within (literals_of xs) known) (sym c.in_ok-extend_from_slice.ensures.items)
    (within_more known c.in_ok-all.all.items c.as_slice-2.result.now (λ m i. listed m (c.in_ok-all.ensures m i))
    (subst (λ xs. Within (literals_of xs) known) (sym c.as_slice-2.ensures.value) c.loop-l.invariant))
