use Rattle.std.proofs.Common.{◌≡◌, ◌++◌, ◌∷◌, option_map, sym, ap, ◌∙◌, subst, append-nil}
use Rattle.pks_terms.specs.Sets.{IsOrdered}
use Rattle.pks_terms.specs.Branching.{choices}
use Rattle.pks_terms.specs.Views.{problem_of}
use Rattle.pks_query_lookup.specs.Fives.{five_of}
use Rattle.pks_terms.specs.ChoiceViews.{choice_of, choices_of}
use Rattle.pks_branch.specs.WalkViews.{left_in}
use Rattle.pks_branch.specs.ChoiceOrder.{choice_cmp}
use Rattle.pks_branch.specs.Walks.{IsNext}
use Rattle.pks_branch.proofs.Onward.{shorter, given_more}
use Rattle.pks_branch.proofs.choosing.choices.Goals as goal

pub each-init : goal.each-init
each-init c = ap (λ xs. choices_of xs ++ left_in (problem_of c.args.p.now) (five_of c.args.d.now) c.in_ok-walk.walk) c.new-all.ensures.items ∙ c.in_ok-walk.ensures.all

pub each-smaller : goal.each-smaller
each-smaller c =
    let left = left_in (problem_of c.args.p.now) (five_of c.args.d.now) in
    let next : left c.each.walk ≡ choice_of c.in-Some.c ∷ left c.next.new.self = subst (λ o. IsNext (left c.each.walk) (left c.next.new.self) (option_map choice_of o)) c.in-Some.is c.in_ok-c.ensures in
    shorter (left c.each.walk) (left c.next.new.self) (choice_of c.in-Some.c) next

pub each-preserved : goal.each-preserved
each-preserved c =
    let left = left_in (problem_of c.args.p.now) (five_of c.args.d.now) in
    let next : left c.each.walk ≡ choice_of c.in-Some.c ∷ left c.next.new.self = subst (λ o. IsNext (left c.each.walk) (left c.next.new.self) (option_map choice_of o)) c.in-Some.is c.in_ok-c.ensures in
    ap (λ xs. choices_of xs ++ left c.next.new.self) c.in_ok-push.ensures.items
    ∙ given_more choice_of c.each.all.items c.in-Some.c (left c.each.walk) (left c.next.new.self) (choices (problem_of c.args.p.now) (five_of c.args.d.now)) next c.each.invariant

pub returns-clause-all : goal.returns-clause-all
returns-clause-all c =
    let left = left_in (problem_of c.args.p.now) (five_of c.args.d.now) in
    let none = subst (λ o. IsNext (left c.each.walk) (left c.next.new.self) (option_map choice_of o)) c.in_default.is c.in_ok-c.ensures in
    let done = choices_of c.each.all.items in
    ap choices_of c.of-2.ensures ∙ sym (append-nil done) ∙ ap (λ ys. done ++ ys) (sym none.0) ∙ c.each.invariant

pub returns-clause-ordered : goal.returns-clause-ordered
returns-clause-ordered c = subst (IsOrdered choice_cmp) (sym (returns-clause-all c)) c.in_ok-walk.ensures.ordered
