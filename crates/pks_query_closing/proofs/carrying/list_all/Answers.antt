use Rattle.std.proofs.Common.{refl, sym, subst, inl, inr}
use Rattle.pks_terms.specs.Sets.{IsIn}
use Rattle.pks_terms.specs.Views.{literal_of}
use Rattle.pks_kf.specs.Known.{literals_of}
use Rattle.pks_query_closing.proofs.ByValue.{lists_part}
use Rattle.pks_query_closing.proofs.carrying.list_all.Goals as goal

pub loop-l-preserved : goal.loop-l-preserved
loop-l-preserved c =
    let l = literal_of c.in-Some.l.now in
    let among = c.loop-l.invariant.0 l (subst (λ ls. IsIn l (literals_of ls)) (sym c.in-Some.ensures.steps) (inl refl)) in (
      λ m i. c.loop-l.invariant.0 m (subst (λ ls. IsIn m (literals_of ls)) (sym c.in-Some.ensures.steps) (inr i)),
      lists_part l (literals_of c.args.kf.now) c.args.to.now c.loop-l.to c.list_if.new.self among c.loop-l.invariant.1 c.in_ok-list_if.ensures,
    )
