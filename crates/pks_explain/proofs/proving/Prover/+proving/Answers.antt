use Rattle.std.proofs.Common.{◌≡◌, ◌+◌, ◌*◌, ◌<◌, sym, ap, subst, arith}
use Rattle.pks_terms.specs.Trees.{Branch}
use Rattle.pks_terms.specs.Branching.{BranchOn, AsTrue, AsFalse}
use Rattle.pks_terms.specs.Views.{term_of, conj_of, instance_of}
use Rattle.pks_plan.specs.TreeViews.{tree_of, chain_of}
use Rattle.pks_history_replay.specs.Walking.{state_of, IsReady, AreReady, IsSideReady}
use Rattle.pks_history_replay.proofs.Readiness.{at_it, do_next, yes_ready, no_ready, case_ready, case_rest}
use Rattle.pks_history_replay.proofs.Sizes.{size, size_in}
use Rattle.pks_explain.proofs.proving.Prover.+proving.Goals as goal

pub prove_act-prove-requires : goal.prove_act-prove-requires
prove_act-prove-requires t c =
    let less : 2 * size (tree_of c.args.next.now) < t = omega (arith, c.decreases) in
    (less, do_next c.args.p.now c.args.h.now (instance_of c.args.i.now) (tree_of c.args.next.now) c.requires (state_of c.in_ok-x.x) c.in_ok-x.ensures)

pub prove_side-prove-requires : goal.prove_side-prove-requires
prove_side-prove-requires t c =
    let less : 2 * size (tree_of c.args.next.now) < t = omega (arith, c.decreases) in
    (less, c.requires.next (state_of c.in_ok-x.x) c.in_ok-x.ensures)

pub prove_cases-prove_side-requires : goal.prove_cases-prove_side-requires
prove_cases-prove_side-requires t c =
    let p = c.args.p.now in
    let tree = tree_of c.in-More.tree in
    let rest = chain_of c.in-More.rest.value in
    let ready = subst (λ k. AreReady p c.args.h.now (term_of c.args.term.now) (chain_of k)) c.in-More.is c.requires in
    let whole : size_in (chain_of c.args.k.now) ≡ size tree + size_in rest + 1 = ap (λ y. size_in (chain_of y)) c.in-More.is in
    let less : 2 * size tree + 1 < t = omega (arith, c.decreases, whole) in
    (less, case_ready p c.args.h.now (term_of c.args.term.now) c.in-More.object.0 tree rest ready)

pub prove_cases-prove_cases-requires : goal.prove_cases-prove_cases-requires
prove_cases-prove_cases-requires t c =
    let p = c.args.p.now in
    let tree = tree_of c.in-More.tree in
    let rest = chain_of c.in-More.rest.value in
    let ready = subst (λ k. AreReady p c.args.h.now (term_of c.args.term.now) (chain_of k)) c.in-More.is c.requires in
    let whole : size_in (chain_of c.args.k.now) ≡ size tree + size_in rest + 1 = ap (λ y. size_in (chain_of y)) c.in-More.is in
    let part : size_in (chain_of c.deref.result.now) ≡ size_in rest = ap (λ y. size_in (chain_of y)) c.deref.ensures in
    let less : 2 * size_in (chain_of c.deref.result.now) < t = omega (arith, c.decreases, whole, part) in
    (less, subst (λ k. AreReady p c.args.h.now (term_of c.args.term.now) (chain_of k)) (sym c.deref.ensures) (case_rest p c.args.h.now (term_of c.args.term.now) c.in-More.object.0 tree rest ready))

pub prove-prove_side-requires : goal.prove-prove_side-requires
prove-prove_side-requires t c =
    let p = c.args.p.now in
    let h = c.history-in-Branch.result.now in
    let test = conj_of c.in-Branch.test in
    let yes' = tree_of c.in-Branch.yes.value in
    let no' = tree_of c.in-Branch.no.value in
    let ready = at_it p (state_of c.args.x.now) h (Branch test yes' no') c.history-in-Branch.ensures (subst (λ y. IsReady p (state_of c.args.x.now) (tree_of y)) c.in-Branch.is c.requires) in
    let whole : size (tree_of c.args.t.now) ≡ size yes' + size no' + 1 = ap (λ y. size (tree_of y)) c.in-Branch.is in
    let part : size (tree_of c.deref-in-Branch.result.now) ≡ size yes' = ap (λ y. size (tree_of y)) c.deref-in-Branch.ensures in
    let less : 2 * size (tree_of c.deref-in-Branch.result.now) + 1 < t = omega (arith, c.decreases, whole, part) in
    (less, subst (λ y. IsSideReady p h (BranchOn test) AsTrue (tree_of y)) (sym c.deref-in-Branch.ensures) (yes_ready p h test yes' no' ready))

pub prove-prove_side-requires-in-Branch : goal.prove-prove_side-requires-in-Branch
prove-prove_side-requires-in-Branch t c =
    let p = c.args.p.now in
    let h = c.history-in-Branch-2.result.now in
    let test = conj_of c.in-Branch.test in
    let yes' = tree_of c.in-Branch.yes.value in
    let no' = tree_of c.in-Branch.no.value in
    let ready = at_it p (state_of c.args.x.now) h (Branch test yes' no') c.history-in-Branch-2.ensures (subst (λ y. IsReady p (state_of c.args.x.now) (tree_of y)) c.in-Branch.is c.requires) in
    let whole : size (tree_of c.args.t.now) ≡ size yes' + size no' + 1 = ap (λ y. size (tree_of y)) c.in-Branch.is in
    let part : size (tree_of c.deref-in-Branch-2.result.now) ≡ size no' = ap (λ y. size (tree_of y)) c.deref-in-Branch-2.ensures in
    let less : 2 * size (tree_of c.deref-in-Branch-2.result.now) + 1 < t = omega (arith, c.decreases, whole, part) in
    (less, subst (λ y. IsSideReady p h (BranchOn test) AsFalse (tree_of y)) (sym c.deref-in-Branch-2.ensures) (no_ready p h test yes' no' ready))
