use Rattle.std.proofs.Common.{◌≡◌, ◌+◌, ◌<◌, sym, ap, subst, arith}
use Rattle.pks_terms.specs.Trees.{Do, Branch, Cases}
use Rattle.pks_terms.specs.Views.{term_of, conj_of, instance_of}
use Rattle.pks_plan.specs.TreeViews.{tree_of, chain_of}
use Rattle.pks_history_replay.specs.Walking.{state_of, IsReady, AreReady}
use Rattle.pks_history_replay.proofs.Readiness.{at_it, do_next, branch_yes, branch_no, cases_ready, case_side, case_first, case_rest}
use Rattle.pks_history_replay.proofs.Sizes.{size, size_in}
use Rattle.pks_recall.proofs.leaves.+walking.Goals as goal

pub add_leaves-add_leaves-requires : goal.add_leaves-add_leaves-requires
add_leaves-add_leaves-requires t c =
    let p = c.args.p.now in
    let h = c.history.result.now in
    let i = instance_of c.in-Act.step in
    let next = tree_of c.in-Act.next.value in
    let ready = at_it p (state_of c.args.x) h (Do i next) c.history.ensures (subst (λ y. IsReady p (state_of c.args.x) (tree_of y)) c.in-Act.is c.requires) in
    let whole : size (tree_of c.args.t.now) ≡ size next + 1 = ap (λ y. size (tree_of y)) c.in-Act.is in
    let part : size (tree_of c.deref.result.now) ≡ size next = ap (λ y. size (tree_of y)) c.deref.ensures in
    let less : size (tree_of c.deref.result.now) < t = omega (arith, c.decreases, whole, part) in
    (less, subst (λ y. IsReady p (state_of c.in_ok-y-in-Act.y) (tree_of y)) (sym c.deref.ensures) (do_next p h i next ready (state_of c.in_ok-y-in-Act.y) c.in_ok-y-in-Act.ensures))

pub add_leaves-add_leaves-requires-in-Branch : goal.add_leaves-add_leaves-requires-in-Branch
add_leaves-add_leaves-requires-in-Branch t c =
    let p = c.args.p.now in
    let h = c.history-in-Branch.result.now in
    let test = conj_of c.in-Branch.test in
    let yes' = tree_of c.in-Branch.yes.value in
    let no' = tree_of c.in-Branch.no.value in
    let ready = at_it p (state_of c.args.x) h (Branch test yes' no') c.history-in-Branch.ensures (subst (λ y. IsReady p (state_of c.args.x) (tree_of y)) c.in-Branch.is c.requires) in
    let whole : size (tree_of c.args.t.now) ≡ size yes' + size no' + 1 = ap (λ y. size (tree_of y)) c.in-Branch.is in
    let part : size (tree_of c.deref-in-Branch.result.now) ≡ size yes' = ap (λ y. size (tree_of y)) c.deref-in-Branch.ensures in
    let less : size (tree_of c.deref-in-Branch.result.now) < t = omega (arith, c.decreases, whole, part) in
    (less, subst (λ y. IsReady p (state_of c.in_ok-y-in-Branch.y) (tree_of y)) (sym c.deref-in-Branch.ensures) (branch_yes p h test yes' no' ready (state_of c.in_ok-y-in-Branch.y) c.in_ok-y-in-Branch.ensures))

pub add_leaves-add_leaves-requires-in-Branch-2 : goal.add_leaves-add_leaves-requires-in-Branch-2
add_leaves-add_leaves-requires-in-Branch-2 t c =
    let p = c.args.p.now in
    let h = c.history-in-Branch-2.result.now in
    let test = conj_of c.in-Branch.test in
    let yes' = tree_of c.in-Branch.yes.value in
    let no' = tree_of c.in-Branch.no.value in
    let ready = at_it p (state_of c.args.x) h (Branch test yes' no') c.history-in-Branch-2.ensures (subst (λ y. IsReady p (state_of c.args.x) (tree_of y)) c.in-Branch.is c.requires) in
    let whole : size (tree_of c.args.t.now) ≡ size yes' + size no' + 1 = ap (λ y. size (tree_of y)) c.in-Branch.is in
    let part : size (tree_of c.deref-in-Branch-2.result.now) ≡ size no' = ap (λ y. size (tree_of y)) c.deref-in-Branch-2.ensures in
    let less : size (tree_of c.deref-in-Branch-2.result.now) < t = omega (arith, c.decreases, whole, part) in
    (less, subst (λ y. IsReady p (state_of c.in_ok-z-in-Branch.z) (tree_of y)) (sym c.deref-in-Branch-2.ensures) (branch_no p h test yes' no' ready (state_of c.in_ok-z-in-Branch.z) c.in_ok-z-in-Branch.ensures))

pub add_leaves-add_leaves_of_each-requires : goal.add_leaves-add_leaves_of_each-requires
add_leaves-add_leaves_of_each-requires t c =
    let p = c.args.p.now in
    let h = c.history-in-Cases.result.now in
    let x = term_of c.in-Cases.term in
    let cases = chain_of c.in-Cases.cases.value in
    let ready = at_it p (state_of c.args.x) h (Cases x cases) c.history-in-Cases.ensures (subst (λ y. IsReady p (state_of c.args.x) (tree_of y)) c.in-Cases.is c.requires) in
    let whole : size (tree_of c.args.t.now) ≡ size_in cases + 1 = ap (λ y. size (tree_of y)) c.in-Cases.is in
    let part : size_in (chain_of c.deref-in-Cases.result.now) ≡ size_in cases = ap (λ y. size_in (chain_of y)) c.deref-in-Cases.ensures in
    let less : size_in (chain_of c.deref-in-Cases.result.now) < t = omega (arith, c.decreases, whole, part) in
    (less, subst (λ y. AreReady p h x (chain_of y)) (sym c.deref-in-Cases.ensures) (cases_ready p h x cases ready))

pub add_leaves_of_each-taking-requires-clause-side : goal.add_leaves_of_each-taking-requires-clause-side
add_leaves_of_each-taking-requires-clause-side t c =
    let p = c.args.p.now in
    let h = c.args.h.now in
    let x = term_of c.args.term.now in
    case_side p h x c.in-More.object.0 (tree_of c.in-More.tree) (chain_of c.in-More.rest.value) (subst (λ k. AreReady p h x (chain_of k)) c.in-More.is c.requires)

pub add_leaves_of_each-add_leaves-requires : goal.add_leaves_of_each-add_leaves-requires
add_leaves_of_each-add_leaves-requires t c =
    let p = c.args.p.now in
    let h = c.args.h.now in
    let x = term_of c.args.term.now in
    let tree = tree_of c.in-More.tree in
    let rest = chain_of c.in-More.rest.value in
    let ready = subst (λ k. AreReady p h x (chain_of k)) c.in-More.is c.requires in
    let whole : size_in (chain_of c.args.k.now) ≡ size tree + size_in rest + 1 = ap (λ y. size_in (chain_of y)) c.in-More.is in
    let less : size tree < t = omega (arith, c.decreases, whole) in
    (less, case_first p h x c.in-More.object.0 tree rest ready (state_of c.in_ok-y-in-More.y) c.in_ok-y-in-More.ensures)

pub add_leaves_of_each-add_leaves_of_each-requires : goal.add_leaves_of_each-add_leaves_of_each-requires
add_leaves_of_each-add_leaves_of_each-requires t c =
    let p = c.args.p.now in
    let h = c.args.h.now in
    let x = term_of c.args.term.now in
    let tree = tree_of c.in-More.tree in
    let rest = chain_of c.in-More.rest.value in
    let ready = subst (λ k. AreReady p h x (chain_of k)) c.in-More.is c.requires in
    let whole : size_in (chain_of c.args.k.now) ≡ size tree + size_in rest + 1 = ap (λ y. size_in (chain_of y)) c.in-More.is in
    let part : size_in (chain_of c.deref.result.now) ≡ size_in rest = ap (λ y. size_in (chain_of y)) c.deref.ensures in
    let less : size_in (chain_of c.deref.result.now) < t = omega (arith, c.decreases, whole, part) in
    (less, subst (λ k. AreReady p h x (chain_of k)) (sym c.deref.ensures) (case_rest p h x c.in-More.object.0 tree rest ready))
