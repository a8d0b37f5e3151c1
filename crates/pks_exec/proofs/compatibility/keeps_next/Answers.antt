use Rattle.std.proofs.Common.{◌≡◌, sym, ap, ◌∙◌, subst}
use Rattle.pks_terms.specs.Answers.{Keeps}
use Rattle.pks_terms.specs.Problems.{StartLcw}
use Rattle.pks_terms.specs.Views.{pattern_of, start_of, problem_of}
use Rattle.pks_world.specs.Contents.{world_of}
use Rattle.pks_exec.proofs.Breaking.{repeated_kept}
use Rattle.pks_exec.proofs.compatibility.keeps_next.Goals as goal

pub returns-then-has_region : goal.returns-then-has_region
returns-then-has_region c = λ world kept.
    let p = problem_of c.args.p.now in
    let w = world_of c.args.w.now in
    let same : start_of c.args.start.now ≡ StartLcw (pattern_of c.in-Lcw.x) = ap start_of c.in-Lcw.is in
    let k = repeated_kept p w (pattern_of c.in-Lcw.x) _ (sym c.has_region.ensures ∙ c.if-has_region.true) kept in
    (λ _. subst (Keeps p w) (sym same) k, λ _. c.if-has_region.true)
