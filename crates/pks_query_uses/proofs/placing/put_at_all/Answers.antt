use Rattle.std.proofs.Common.{◌∙◌, ap, subst}
use Rattle.pks_terms.specs.Views.{term_of, terms_of, literal_of}
use Rattle.pks_query_uses.proofs.PlacingLaws.{PutsInBut, placed_none, placed_more, placed_all}
use Rattle.pks_query_uses.proofs.placing.put_at_all.Goals as goal

pub loop-t-init : goal.loop-t-init
loop-t-init c =
    placed_none c.args.index.now (terms_of c.into_iter-t-iterator.result) (terms_of c.args.ts.now) (literal_of c.args.l.now) (ap terms_of (c.into_iter-t-iterator.ensures.into_iter_gives ∙ c.items-t-items.ensures.members))

pub loop-t-preserved : goal.loop-t-preserved
loop-t-preserved c =
    placed_more c.args.index.now c.loop-t.index c.put_at.new.index (term_of c.in-Some.t.now) (terms_of c.next.new.self) (terms_of c.args.ts.now) (literal_of c.args.l.now)
    (subst (λ us. PutsInBut us c.args.index.now c.loop-t.index (terms_of c.args.ts.now) (literal_of c.args.l.now)) (ap terms_of c.in-Some.ensures.steps) c.loop-t.invariant) c.in_ok-put_at.ensures

pub returns : goal.returns
returns c =
    placed_all c.args.index.now c.loop-t.index (terms_of c.args.ts.now) (literal_of c.args.l.now)
    (subst (λ us. PutsInBut us c.args.index.now c.loop-t.index (terms_of c.args.ts.now) (literal_of c.args.l.now)) (ap terms_of c.in-None.ensures.steps.0) c.loop-t.invariant)
