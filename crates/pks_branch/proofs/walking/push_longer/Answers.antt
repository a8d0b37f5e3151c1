use Rattle.std.proofs.Common.{◌≡◌, ◌-◌, ◌++◌, ◌∷◌, ℕ, List, map, length, get_or, drop, sym, ap, ◌∙◌, arith}
use Rattle.std.proofs.lemmas.List.{drop_all}
use Rattle.pks_terms.specs.Syntax.{Inner}
use Rattle.pks_terms.specs.Actions.{Instance}
use Rattle.pks_terms.specs.Fillers.{inner_filler}
use Rattle.pks_terms.specs.Views.{inner_of, instance_of}
use Rattle.pks_branch.specs.WalkViews.{beginnings_of}
use Rattle.pks_branch.specs.Walks.{longer}
use Rattle.pks_branch.proofs.Onward.{next_first, down_at}
use Rattle.pks_branch.proofs.walking.push_longer.Goals as goal

pub down-init : goal.down-init
down-init c =
    let xs = c.args.list.now in
    let old = beginnings_of c.args.to.now.items in
    (omega arith, sym (ap (λ ys. map (longer (instance_of c.args.given.now)) (map inner_of ys) ++ old) (drop_all (length xs) xs (omega arith))))

pub down-preserved : goal.down-preserved
down-preserved c =
    let xs = c.args.list.now in
    let g = instance_of c.args.given.now in
    let old = beginnings_of c.args.to.now.items in
    let within = c.down.invariant.0 in
    let some = c.down-test.true in
    let here = inner_of (get_or xs (c.down.k - 1) inner_filler) in
    let one = λ (a : ℕ) (given : List Inner). let i : Instance = record { action = a; arguments = given } in i in (
      omega (arith, within),
      ap beginnings_of c.in_ok-push.ensures.items
          ∙ next_first c.down.to.items c.with.result
          ∙ (λ i. one (c.with.ensures.act i) (c.with.ensures.given i) ∷ beginnings_of c.down.to.items)
          ∙ ap (λ ys. longer g here ∷ ys) c.down.invariant.1
          ∙ ap (λ ys. map (longer g) (map inner_of ys) ++ old) (sym (down_at xs c.down.k inner_filler some within)),
    )

pub returns : goal.returns
returns c =
    let none : c.down.k ≡ 0 = omega (arith, c.down-test.false) in
    c.down.invariant.1 ∙ ap (λ n. map (longer (instance_of c.args.given.now)) (map inner_of (drop n c.args.list.now)) ++ beginnings_of c.args.to.now.items) none
