use Rattle.std.proofs.Common.{◌∷◌, [], ◌∙◌, ap, subst}
use Rattle.pks_terms.specs.Views.{term_of, terms_of}
use Rattle.pks_query_uses.specs.Indexes.{Puts}
use Rattle.pks_query_uses.proofs.IndexLaws.{PutsBut, put_none, put_more, put_all}
use Rattle.pks_query_uses.proofs.index.put_at_each.Goals as goal

pub loop-t-init : goal.loop-t-init
loop-t-init g c =
    put_none c.args.index.now (terms_of c.into_iter-t-iterator.result) (terms_of c.args.ts.now) c.args.x.now (ap terms_of (c.into_iter-t-iterator.ensures.into_iter_gives ∙ c.items-t-items.ensures.members))

pub loop-t-preserved : goal.loop-t-preserved
loop-t-preserved g c =
    put_more c.args.index.now c.loop-t.index c.put.new.index (term_of c.in-Some.t.now) (terms_of c.next.new.self) (terms_of c.args.ts.now) c.args.x.now
    (subst (λ us. PutsBut us c.args.index.now c.loop-t.index (terms_of c.args.ts.now) c.args.x.now) (ap terms_of c.in-Some.ensures.steps) c.loop-t.invariant)
    (subst (λ x. Puts c.loop-t.index c.put.new.index (term_of c.in-Some.t.now ∷ []) x) c.in_ok-same.ensures c.in_ok-put.ensures)

pub returns : goal.returns
returns g c =
    put_all c.args.index.now c.loop-t.index (terms_of c.args.ts.now) c.args.x.now
    (subst (λ us. PutsBut us c.args.index.now c.loop-t.index (terms_of c.args.ts.now) c.args.x.now) (ap terms_of c.in-None.ensures.steps.0) c.loop-t.invariant)
