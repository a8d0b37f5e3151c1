use Rattle.std.proofs.Common.{◌||◌, not, sym, ap, ◌∙◌}
use Rattle.pks_terms.specs.Worlds.{true_in}
use Rattle.pks_terms.specs.Views.{atom_of, problem_of}
use Rattle.pks_world.specs.Contents.{world_of}
use Rattle.pks_world.specs.Few.{few_of}
use Rattle.pks_exec.specs.Instances.{is_listed}
use Rattle.pks_exec.proofs.Listing.{true_of, listed_of}
use Rattle.pks_exec.proofs.compatibility.is_told.Goals as goal

pub returns-then-not-holds : goal.returns-then-not-holds
returns-then-not-holds c =
    let w = world_of c.args.w.now in
    let ds = few_of c.args.objects.now in
    let holds = c.holds.ensures ∙ (ap (true_in w) c.positive_literal.ensures ∙ true_of w c.args.pred.0 ds (atom_of c.atom-a.result) c.atom-a.ensures.says) in
    ap not c.if-not-holds.true ∙ sym (ap (λ b. b || is_listed (problem_of c.args.p.now) w c.args.pred.0 ds) (ap not (sym holds) ∙ ap not c.if-not-holds.true))

pub returns-else-not-holds : goal.returns-else-not-holds
returns-else-not-holds c =
    let w = world_of c.args.w.now in
    let p = problem_of c.args.p.now in
    let ds = few_of c.args.objects.now in
    let holds = c.holds.ensures ∙ (ap (true_in w) c.positive_literal.ensures ∙ true_of w c.args.pred.0 ds (atom_of c.atom-a.result) c.atom-a.ensures.says) in
    c.is_listed.ensures
    ∙ (listed_of p w c.args.pred.0 ds (atom_of c.atom-a.result) c.atom-a.ensures.says
    ∙ sym (ap (λ b. b || is_listed p w c.args.pred.0 ds) (ap not (sym holds) ∙ ap not c.if-not-holds.false)))
