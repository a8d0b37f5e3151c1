use Rattle.std.proofs.Common.{ap, subst, sym, ◌∙◌}
use Rattle.pks_terms.specs.Worlds.{World}
use Rattle.pks_world.specs.Contents.{world_of}
use Rattle.pks_search_distance.specs.Levels.{IsBound}
use Rattle.pks_search_distance.proofs.counted.Counted.tells.Goals as goal

pub returns-then-same : goal.returns-then-same
returns-then-same c = λ p right. subst (λ (w : World). IsBound p w c.args.self.now.bound.needs) (sym (ap world_of c.deref-own.ensures) ∙ c.same.ensures c.if-same.true) right
