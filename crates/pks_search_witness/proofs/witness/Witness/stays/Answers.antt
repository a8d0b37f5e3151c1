use Rattle.std.proofs.Common.{ap, ◌∙◌}
use Rattle.pks_terms.specs.Knowledge.{grounded}
use Rattle.pks_terms.specs.Views.{instance_of, problem_of}
use Rattle.pks_world.specs.Contents.{world_of}
use Rattle.pks_search_witness.specs.Near.{world_in}
use Rattle.pks_search_witness.specs.Idle.{are_idle}
use Rattle.pks_search_witness.proofs.Idle.{idle_stays}
use Rattle.pks_search_witness.proofs.witness.Witness.stays.Goals as goal

pub returns : goal.returns
returns c =
    let p = problem_of c.args.p.now in
    let w = world_in c.args.self.now in
    let i = instance_of c.args.step.now in
    idle_stays p w (grounded w i) c.is_idle.result
    (c.is_idle.ensures ∙ λ k. are_idle p (world_of (c.deref.ensures k)) ((c.ground_instance.ensures.says ∙ λ m. grounded (world_of (c.deref-2.ensures m)) i) k))
