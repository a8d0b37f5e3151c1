use Rattle.std.proofs.Common.{◌∙◌, ap, sym, subst, inl, inr, refl}
use Rattle.pks_terms.specs.Sets.{IsIn}
use Rattle.pks_terms.specs.Views.{literal_of}
use Rattle.pks_kf.specs.Known.{literals_of}
use Rattle.pks_query_lookup.specs.declared.five.Five.{Five as DFive}
use Rattle.pks_query_closing.proofs.clashing.values_clash.Goals as goal

pub loop-l-init : goal.loop-l-init
loop-l-init c = λ x i.
    subst (λ ls. IsIn x (literals_of ls)) (c.into_iter-l-iterator.ensures.into_iter_gives ∙ c.items-l-items.ensures.members ∙ ap (λ (d : DFive). d.kf) c.five.ensures) i

pub loop-l-preserved : goal.loop-l-preserved
loop-l-preserved c = λ x i. c.loop-l.invariant x (subst (λ ls. IsIn x (literals_of ls)) (sym c.in-Some.ensures.steps) (inr i))

pub returns-then-is_denied_value : goal.returns-then-is_denied_value
returns-then-is_denied_value c = λ _.
    (literal_of c.in-Some.l.now, c.loop-l.invariant (literal_of c.in-Some.l.now) (subst (λ ls. IsIn (literal_of c.in-Some.l.now) (literals_of ls)) (sym c.in-Some.ensures.steps) (inl refl)), c.is_denied_value.ensures c.if-is_denied_value.true)
