use Rattle.pks_terms.specs.Views.{terms_of}
use Rattle.pks_query_uses.proofs.IndexLaws.{put_once}
use Rattle.pks_query_uses.proofs.index.put_item.Goals as goal

pub returns : goal.returns
returns g c =
    put_once c.args.index.now c.put_at_each.new.index (g.T.Indexed.terms c.args.x.now) (terms_of c.in_ok-ts.ts) c.args.x.now c.in_ok-ts.ensures c.in_ok-put_at_each.ensures
