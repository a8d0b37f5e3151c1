use Rattle.std.proofs.Common.{◌≡◌, List, [], option_map, sym, ◌∙◌, subst}
use Rattle.std.proofs.lemmas.Result.{IfOk-weaker}
use Rattle.pks_terms.specs.declared.problem.Aim.{Aim as DAim}
use Rattle.pks_terms.specs.declared.problem.Problem.{Problem as DProblem}
use Rattle.pks_terms.specs.Answers.{unjustified}
use Rattle.pks_terms.specs.Closure.{Next, Closes}
use Rattle.pks_terms.specs.Problems.{initial}
use Rattle.pks_terms.specs.Settling.{History}
use Rattle.pks_terms.specs.Trees.{IsBest}
use Rattle.pks_terms.specs.ValidProblems.{IsValidProblem}
use Rattle.pks_terms.specs.Views.{problem_of, signature_of}
use Rattle.pks_plan.specs.TreeViews.{tree_of}
use Rattle.pks_search.specs.Fewer.{unmet_aims, with_goal}
use Rattle.pks_search.proofs.Unmet.{with_unmet, unmet_is, unmet_valid, unmet_justified, unmet_begins, unmet_best}
use Rattle.pks_search.proofs.searching.best_at_start.Goals as goal

fewer_is : (p fewer : DProblem) (h : History) (goal aims : List DAim) → fewer ≡ with_goal p goal → goal ≡ unmet_aims (signature_of p.signature) h aims → aims ≡ p.goal → fewer ≡ with_unmet p h
fewer_is p fewer h goal aims e a b = e ∙ unmet_is p h goal aims a b

pub best_of_all-requires-2-clause-valid : goal.best_of_all-requires-2-clause-valid
best_of_all-requires-2-clause-valid c =
    let p = c.args.p.now in
    let h = c.args.h.now in
    subst IsValidProblem (sym (fewer_is p c.in_ok-fewer.fewer h _ _ c.in_ok-fewer.ensures c.in_ok-goal.ensures c.as_slice-2.ensures)) (unmet_valid p h c.requires.valid)

pub best_of_all-requires-2-clause-justified : goal.best_of_all-requires-2-clause-justified
best_of_all-requires-2-clause-justified c =
    let p = c.args.p.now in
    let h = c.args.h.now in
    subst (λ q. unjustified (problem_of q) ≡ []) (sym (fewer_is p c.in_ok-fewer.fewer h _ _ c.in_ok-fewer.ensures c.in_ok-goal.ensures c.as_slice-2.ensures)) (unmet_justified p h c.requires.justified)

pub best_of_all-requires-2-clause-start : goal.best_of_all-requires-2-clause-start
best_of_all-requires-2-clause-start c =
    let p = c.args.p.now in
    let h = c.args.h.now in
    subst (λ q. Closes (problem_of q).signature (initial (problem_of q)) (Next h.start)) (sym (fewer_is p c.in_ok-fewer.fewer h _ _ c.in_ok-fewer.ensures c.in_ok-goal.ensures c.as_slice-2.ensures))
    (unmet_begins p h h.start c.requires.start)

pub returns : goal.returns
returns c =
    let p = c.args.p.now in
    let h = c.args.h.now in
    IfOk-weaker c.best_of_all-2.result (λ o. IsBest (problem_of c.in_ok-fewer.fewer) c.args.depth (option_map tree_of o)) (λ o. IsBest (problem_of p) c.args.depth (option_map tree_of o))
    (λ o b.
    unmet_best p h c.requires.valid c.requires.alone c.requires.start c.args.depth (option_map tree_of o)
    (subst (λ q. IsBest (problem_of q) c.args.depth (option_map tree_of o)) (fewer_is p c.in_ok-fewer.fewer h _ _ c.in_ok-fewer.ensures c.in_ok-goal.ensures c.as_slice-2.ensures) b)) c.best_of_all-2.ensures
