use Rattle.std.proofs.Common.{sym, subst}
use Rattle.pks_world.specs.Contents.{world_of}
use Rattle.pks_world.specs.declared.worlds.World.{World}
use Rattle.pks_search_distance.specs.Levels.{IsBound}
use Rattle.pks_search_distance.proofs.counted.Counts.note.Goals as goal

pub returns-in-Ok : goal.returns-in-Ok
returns-in-Ok c = λ p holds right. c.put.ensures p (subst (λ (w : World). IsBound p (world_of w) c.args.bound.needs) (sym c.in-Ok.ensures.cases) holds) right
