use Rattle.std.proofs.Common.{◌≡◌, [], ◌-◌, List, take, Some, None, option_map, refl, sym, ap, ◌∙◌, subst, append-nil}
use Rattle.std.specs.List.{flat_map}
use Rattle.pks_terms.specs.declared.schema.Instance.{Instance as DInstance}
use Rattle.pks_terms.specs.Views.{instance_of, problem_of}
use Rattle.pks_query_lookup.specs.Fives.{five_of}
use Rattle.pks_branch.specs.WalkViews.{beginnings_of}
use Rattle.pks_branch.specs.Walks.{begun, GoesOn}
use Rattle.pks_branch.proofs.Onward.{step_taken}
use Rattle.pks_branch.proofs.walking.next_instance.Goals as goal

pub each-init : goal.each-init
each-init c = refl

pub returns-in-Some-2 : goal.returns-in-Some-2
returns-in-Some-2 c =
    let p = problem_of c.args.p.now in
    let d = five_of c.args.d.now in
    let popped = c.pop.new.self.items in
    let goes = subst (λ o. GoesOn p d (instance_of c.in-Some.given) (beginnings_of popped) (beginnings_of c.go_on.new.to.items) (option_map instance_of o)) c.in-Some-2.is c.in_ok-i.ensures in
    sym c.each.invariant ∙ (step_taken p d c.in-Some.given c.each.beginnings.items popped (beginnings_of c.go_on.new.to.items) (Some (instance_of c.in-Some-2.i)) c.in-Some.ensures.items goes).0

pub each-smaller : goal.each-smaller
each-smaller c =
    let p = problem_of c.args.p.now in
    let d = five_of c.args.d.now in
    let popped = c.pop.new.self.items in
    (step_taken p d c.in-Some.given c.each.beginnings.items popped (beginnings_of c.go_on.new.to.items) (option_map instance_of c.in_ok-i.field-0) c.in-Some.ensures.items c.in_ok-i.ensures).1

pub each-preserved : goal.each-preserved
each-preserved c =
    let p = problem_of c.args.p.now in
    let d = five_of c.args.d.now in
    let popped = c.pop.new.self.items in
    let goes = subst (λ o. GoesOn p d (instance_of c.in-Some.given) (beginnings_of popped) (beginnings_of c.go_on.new.to.items) (option_map instance_of o)) c.in_default-2.is c.in_ok-i.ensures in
    sym (step_taken p d c.in-Some.given c.each.beginnings.items popped (beginnings_of c.go_on.new.to.items) None c.in-Some.ensures.items goes).0 ∙ c.each.invariant

pub returns : goal.returns
returns c =
    let left = λ (xs : List DInstance). flat_map (begun (problem_of c.args.p.now) (five_of c.args.d.now)) (beginnings_of xs) in
    let old = c.each.beginnings.items in
    let none : c.pop.new.self.items ≡ [] = c.in_default.ensures.rest ∙ ap (λ k. take (k - 1) old) c.in_default.ensures.cases.0 in
    let empty : old ≡ [] = c.in_default.ensures.items ∙ append-nil c.pop.new.self.items ∙ none in
    (sym c.each.invariant ∙ ap left empty, ap left none)
