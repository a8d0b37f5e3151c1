use Rattle.std.proofs.Common.{sym, ◌∙◌}
use Rattle.pks_search_distance.proofs.Stepping.{grows_itself}
use Rattle.pks_world.specs.Contents.{world_of}
use Rattle.pks_search_distance.specs.Gained.{chances_of, new_of}
use Rattle.pks_search_distance.proofs.Growing.{had}
use Rattle.pks_search_distance.proofs.gains.RelaxedFacts.take.Goals as goal

pub returns-then-has-clause-grows : goal.returns-then-has-clause-grows
returns-then-has-clause-grows c = grows_itself (chances_of (world_of c.args.w.now) c.args.self.now)

pub returns-then-has-clause-has : goal.returns-then-has-clause-has
returns-then-has-clause-has c = had (world_of c.args.w.now) c.args.self.now (new_of c.args.x.now) (sym c.has.ensures ∙ c.if-has.true)

pub returns-clause-grows : goal.returns-clause-grows
returns-clause-grows c = c.in_ok-put.ensures.grows (world_of c.args.w.now)

pub returns-clause-has : goal.returns-clause-has
returns-clause-has c = c.in_ok-put.ensures.has (world_of c.args.w.now)
