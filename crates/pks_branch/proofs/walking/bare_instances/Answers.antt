use Rattle.std.proofs.Common.{◌≡◌, ◌-◌, ◌∷◌, [], ℕ, List, map, length, drop, sym, ap, ◌∙◌, arith}
use Rattle.std.proofs.lemmas.List.{drop_all}
use Rattle.pks_terms.specs.Syntax.{Inner}
use Rattle.pks_terms.specs.Actions.{Instance}
use Rattle.pks_terms.specs.Branching.{numbered}
use Rattle.pks_terms.specs.Views.{schema_of}
use Rattle.pks_branch.specs.WalkViews.{beginnings_of}
use Rattle.pks_branch.specs.Walks.{bare}
use Rattle.pks_branch.proofs.Onward.{next_first, bare_down}
use Rattle.pks_branch.proofs.walking.bare_instances.Goals as goal

pub down-init : goal.down-init
down-init c =
    let xs = c.args.schemas.now in
    let all = length xs in
    (omega arith, ap beginnings_of c.new-all.ensures.items ∙ sym (ap (λ ys. map bare (numbered all (map schema_of ys))) (drop_all all xs (omega arith))))

pub down-preserved : goal.down-preserved
down-preserved c =
    let xs = c.args.schemas.now in
    let within = c.down.invariant.0 in
    let some = c.down-test.true in
    let one = λ (a : ℕ) (given : List Inner). let i : Instance = record { action = a; arguments = given } in i in (
      omega (arith, within),
      ap beginnings_of c.in_ok-push.ensures.items
          ∙ next_first c.down.all.items c.without_arguments.result
          ∙ (λ i. one (c.without_arguments.ensures.act i) (c.without_arguments.ensures.given i) ∷ beginnings_of c.down.all.items)
          ∙ ap (λ ys. one (c.down.k - 1) [] ∷ ys) c.down.invariant.1
          ∙ sym (bare_down xs c.down.k some within),
    )

pub returns : goal.returns
returns c =
    let none : c.down.k ≡ 0 = omega (arith, c.down-test.false) in
    c.down.invariant.1 ∙ ap (λ n. map bare (numbered n (map schema_of (drop n c.args.schemas.now)))) none
