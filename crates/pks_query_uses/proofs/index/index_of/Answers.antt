use Rattle.std.proofs.Common.{subst}
use Rattle.pks_query_uses.proofs.IndexLaws.{IsIndexBut, nothing_yet, one_more, all_in}
use Rattle.pks_query_uses.proofs.index.index_of.Goals as goal

pub loop-x-init : goal.loop-x-init
loop-x-init g c =
    nothing_yet g.T.Indexed.terms c.into_iter-x-iterator.result c.args.items c.new-index.result c.new-index.ensures.empty c.into_iter-x-iterator.ensures.into_iter_gives

pub loop-x-preserved : goal.loop-x-preserved
loop-x-preserved g c =
    one_more g.T.Indexed.terms c.in-Some.x.now c.next.new.self c.args.items c.loop-x.index c.put_item.new.index
    (subst (λ xs. IsIndexBut g.T.Indexed.terms xs c.args.items c.loop-x.index) c.in-Some.ensures.steps c.loop-x.invariant)
    c.in_ok-put_item.ensures

pub returns : goal.returns
returns g c =
    all_in g.T.Indexed.terms c.args.items c.loop-x.index (subst (λ xs. IsIndexBut g.T.Indexed.terms xs c.args.items c.loop-x.index) c.in-None.ensures.steps.0 c.loop-x.invariant)
