use Rattle.pks_query_closing.proofs.Spared.{put_passes}
use Rattle.pks_query_closing.proofs.listing.put_kind.Goals as goal

pub returns-clause-old : goal.returns-clause-old
returns-clause-old c = (put_passes c.args.to.now.items _ c.in_ok-same.same c.args.region.now c.in_ok-push.ensures.items c.in_ok-same.ensures).0

pub returns-clause-one : goal.returns-clause-one
returns-clause-one c = (put_passes c.args.to.now.items _ c.in_ok-same.same c.args.region.now c.in_ok-push.ensures.items c.in_ok-same.ensures).1
