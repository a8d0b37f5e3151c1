use Rattle.std.proofs.Common.{sym, ap, ◌∙◌}
use Rattle.pks_terms.specs.Views.{instance_of, problem_of}
use Rattle.pks_world.specs.Contents.{world_of}
use Rattle.pks_search_witness.specs.Idle.{are_idle}
use Rattle.pks_search_witness.proofs.Idle.{idle_stays}
use Rattle.pks_search_witness.proofs.twins.world_after.Goals as goal

pub returns-then-is_idle : goal.returns-then-is_idle
returns-then-is_idle c =
    let p = problem_of c.args.p.now in
    let i = instance_of c.args.i.now in
    c.in_ok-same.ensures ∙ sym (idle_stays p (world_of c.args.w.now.value) i c.is_idle.result (c.is_idle.ensures ∙ ap (λ w. are_idle p (world_of w) i) c.deref.ensures) c.if-is_idle.true)
