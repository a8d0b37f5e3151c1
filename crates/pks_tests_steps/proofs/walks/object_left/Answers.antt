use Rattle.std.proofs.Common.{◌≡◌, ◌<◌, map, length, get_or, sym, ap, ◌∙◌, subst, arith}
use Rattle.pks_terms.specs.Sets.{IsIn}
use Rattle.pks_terms.specs.Branching.{left}
use Rattle.pks_terms.specs.Databases.{Five}
use Rattle.pks_terms.specs.Settling.{last_moment}
use Rattle.pks_terms.specs.Views.{term_of, object_of, problem_of}
use Rattle.pks_terms.proofs.ListLaws.{in_map}
use Rattle.pks_tests_steps.proofs.Walking.{in_list}
use Rattle.pks_tests_steps.proofs.walks.object_left.Goals as goal

pub returns : goal.returns
returns c =
    let s = (problem_of c.args.p.now).signature in
    let d = last_moment c.args.h.now in
    let x = term_of c.args.term.now in
    let objects = c.as_slice.result.now in
    let object = get_or objects c.args.case (record { 0 = 0 }) in
    let all : map object_of objects ≡ left s d x = ap (map object_of) c.as_slice.ensures ∙ (c.in_ok-objects.ensures ∙ ap (λ (e : Five). left s e x) c.last.ensures) in
    let below : c.args.case < length c.in_ok-objects.objects = omega (arith, c.if-len-case.false, c.len.ensures) in
    let few : c.args.case < length objects = subst (λ xs. c.args.case < length xs) (sym c.as_slice.ensures) below in
    subst (IsIn object.0) all (in_map object_of objects object (in_list objects c.args.case (record { 0 = 0 }) few))
