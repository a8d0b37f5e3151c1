use Rattle.std.proofs.Common.{rules, ◌≡◌, ◌∷◌, ◌++◌, ◌+◌, ◌*◌, ◌<◌, length, true, false, subst, sym, ap, ◌∙◌, arith, IfOk}
use Rattle.std.proofs.lemmas.Result.{IfOk-weaker}
use Rattle.pks_pmap.specs.Entries.{IsAscending}
use Rattle.pks_pmap.proofs.AtFork.{at_fork}
use Rattle.std.specs.Fn.{FnReturnsAt}
use Rattle.std.proofs.lemmas.Fn.{says_at}
use Rattle.pks_pmap.specs.Keeping.{AnswersKey, IsKeeping, TakesKeys}
use Rattle.pks_pmap.proofs.Kept.{takes_right, takes_here, ascending_yes, ascending_no, kept_glued, kept_joined, kept_shared, sides_shorter}
use Rattle.pks_pmap.specs.Sides.{IsJoining}
use Rattle.pks_pmap.proofs.tree.BalancedTree.+kept.Goals as goal
use Rattle.pks_pmap.proofs.tree.BalancedTree.+kept.Goals.{else-len-via-then-len+else-len-2, else-len-via-else-len}

pub kept-requires-2 : goal.kept-requires-2
kept-requires-2 g t c κs within =
    let f = at_fork {R = g.K.Ord.cmp} c.self.view_is c.self.invariant c.in-Fork.is in
    let n = c.in-Fork.node.value in
    let e : n ≡ c.deref-2.result.now = search rules in
    let may = subst (λ m. TakesKeys g.F.Fn c.args.test.now m.right.0) e (takes_right f g.F.Fn c.args.test.now c.requires) in
    let less : 3 * (length c.deref-2.result.now.right.0 + 1) + 0 < t = omega (arith, sides_shorter f, ap (λ m. length m.right.0) e, c.decreases) in
    (less, (within.0, (within.1.0, (within.1.1, may))))

pub test-requires : goal.test-requires
test-requires g t c =
    let f = at_fork {R = g.K.Ord.cmp} c.self.view_is c.self.invariant c.in-Fork.is in
    let n = c.in-Fork.node.value in
    takes_here f g.F.Fn c.args.test.now c.requires _ (ap (λ p. p.0) (c.deref-4.ensures ∙ ap (λ m. m.pair.value) c.deref-3.ensures))

pub glue-requires : goal.glue-requires
glue-requires g t c =
    let f = at_fork {R = g.K.Ord.cmp} c.self.view_is c.self.invariant c.in-Fork.is in
    let n = c.in-Fork.node.value in
    let i : IsKeeping (AnswersKey g.F.Fn c.args.test.now) n.left c.args.steps.now.made c.kept.new.steps.made c.in_ok-left.left = search rules in
    let j : IsKeeping (AnswersKey g.F.Fn c.args.test.now) n.right c.kept.new.steps.made c.kept-2.new.steps.made c.in_ok-right.right = search rules in
    let a : AnswersKey g.F.Fn c.args.test.now n.pair.value false =
    subst (λ k. FnReturnsAt g.F.Fn c.args.test.now k false) (ap (λ p. p.0) (c.deref-4.ensures ∙ ap (λ m. m.pair.value) c.deref-3.ensures)) (says_at g.F.Fn c.test.ensures c.if-not-test.true) in
    ascending_no f (AnswersKey g.F.Fn c.args.test.now) i j a

pub returns-then-not-test : goal.returns-then-not-test
returns-then-not-test g t c =
    let f = at_fork {R = g.K.Ord.cmp} c.self.view_is c.self.invariant c.in-Fork.is in
    let n = c.in-Fork.node.value in
    let i : IsKeeping (AnswersKey g.F.Fn c.args.test.now) n.left c.args.steps.now.made c.kept.new.steps.made c.in_ok-left.left = search rules in
    let j : IsKeeping (AnswersKey g.F.Fn c.args.test.now) n.right c.kept.new.steps.made c.kept-2.new.steps.made c.in_ok-right.right = search rules in
    let a : AnswersKey g.F.Fn c.args.test.now n.pair.value false =
    subst (λ k. FnReturnsAt g.F.Fn c.args.test.now k false) (ap (λ p. p.0) (c.deref-4.ensures ∙ ap (λ m. m.pair.value) c.deref-3.ensures)) (says_at g.F.Fn c.test.ensures c.if-not-test.true) in
    IfOk-weaker c.glue.result _ _ (λ u w. kept_glued f (AnswersKey g.F.Fn c.args.test.now) i j c.glue.new.steps.made u a w.entries) c.glue.ensures.gluing

pub returns-then-len-2 : goal.returns-then-len-2
returns-then-len-2 g t c =
    let f = at_fork {R = g.K.Ord.cmp} c.self.view_is c.self.invariant c.in-Fork.is in
    let n = c.in-Fork.node.value in
    let i : IsKeeping (AnswersKey g.F.Fn c.args.test.now) n.left c.args.steps.now.made c.kept.new.steps.made c.in_ok-left.left = search rules in
    let j : IsKeeping (AnswersKey g.F.Fn c.args.test.now) n.right c.kept.new.steps.made c.kept-2.new.steps.made c.in_ok-right.right = search rules in
    let a : AnswersKey g.F.Fn c.args.test.now n.pair.value true =
    subst (λ k. FnReturnsAt g.F.Fn c.args.test.now k true) (ap (λ p. p.0) (c.deref-4.ensures ∙ ap (λ m. m.pair.value) c.deref-3.ensures)) (says_at g.F.Fn c.test.ensures c.if-not-test.false) in
    let l : c.len.result ≡ length c.in_ok-left.left.0 = search rules in
    let m : c.len-2.result ≡ length n.left.0 = c.len-2.ensures.count ∙ ap (λ z. length z.left.0) c.deref-5.ensures in
    let r : c.len-then-len.result ≡ length c.in_ok-right.right.0 = search rules in
    let s : c.len-then-len-2.result ≡ length n.right.0 = c.len-then-len-2.ensures.count ∙ ap (λ z. length z.right.0) c.deref-then-len.ensures in
    let x : length c.in_ok-left.left.0 ≡ length n.left.0 = sym l ∙ c.if-len.true ∙ m in
    let y : length c.in_ok-right.right.0 ≡ length n.right.0 = sym r ∙ c.if-len-2.true ∙ s in
    IfOk-weaker c.share.result _ _ (λ u w. kept_shared f (AnswersKey g.F.Fn c.args.test.now) i j u a x y w) c.share.ensures

pub join-requires : goal.join-requires
join-requires g t c =
    let f = at_fork {R = g.K.Ord.cmp} c.self.view_is c.self.invariant c.in-Fork.is in
    let n = c.in-Fork.node.value in
    let i : IsKeeping (AnswersKey g.F.Fn c.args.test.now) n.left c.args.steps.now.made c.kept.new.steps.made c.in_ok-left.left = search rules in
    let j : IsKeeping (AnswersKey g.F.Fn c.args.test.now) n.right c.kept.new.steps.made c.kept-2.new.steps.made c.in_ok-right.right = search rules in
    let a : AnswersKey g.F.Fn c.args.test.now n.pair.value true =
    subst (λ k. FnReturnsAt g.F.Fn c.args.test.now k true) (ap (λ p. p.0) (c.deref-4.ensures ∙ ap (λ m. m.pair.value) c.deref-3.ensures)) (says_at g.F.Fn c.test.ensures c.if-not-test.false) in
    let m : n.pair.value ≡ c.in_ok-middle.middle.value = search rules in
    subst (λ z. IsAscending g.K.Ord.cmp (c.in_ok-left.left.0 ++ z ∷ c.in_ok-right.right.0)) m (ascending_yes f (AnswersKey g.F.Fn c.args.test.now) i j a)

pub returns : goal.returns
returns g t c =
    let f = at_fork {R = g.K.Ord.cmp} c.self.view_is c.self.invariant c.in-Fork.is in
    let n = c.in-Fork.node.value in
    let i : IsKeeping (AnswersKey g.F.Fn c.args.test.now) n.left c.args.steps.now.made c.kept.new.steps.made c.in_ok-left.left = search rules in
    let j : IsKeeping (AnswersKey g.F.Fn c.args.test.now) n.right c.kept.new.steps.made c.kept-2.new.steps.made c.in_ok-right.right = search rules in
    let a : AnswersKey g.F.Fn c.args.test.now n.pair.value true =
    subst (λ k. FnReturnsAt g.F.Fn c.args.test.now k true) (ap (λ p. p.0) (c.deref-4.ensures ∙ ap (λ m. m.pair.value) c.deref-3.ensures)) (says_at g.F.Fn c.test.ensures c.if-not-test.false) in
    let m : n.pair.value ≡ c.in_ok-middle.middle.value = search rules in
    let b : IfOk c.join.result (IsJoining c.in_ok-left.left n.pair.value c.in_ok-right.right) = rw m c.join.ensures.joining in
    let l : c.len.result ≡ length c.in_ok-left.left.0 = search rules in
    let o : c.len-2.result ≡ length n.left.0 = c.len-2.ensures.count ∙ ap (λ z. length z.left.0) c.deref-5.ensures in
    let other : length c.in_ok-left.left.0 ≡ length n.left.0 → length c.in_ok-right.right.0 ≡ length n.right.0 → ⊥ =
    elim c.else-len.branch [
      | else-len-via-then-len+else-len-2 w ↦ λ x y. w.if-len-2.false (w.len-then-len.ensures.count ∙ y ∙ sym (w.len-then-len-2.ensures.count ∙ ap (λ z. length z.right.0) w.deref-then-len.ensures))
      | else-len-via-else-len w ↦ λ x y. w.if-len.false (l ∙ x ∙ sym o)
    ]
    in
    IfOk-weaker c.join.result _ _ (λ u w. kept_joined f (AnswersKey g.F.Fn c.args.test.now) i j c.join.new.steps.made u a other w.entries) b
