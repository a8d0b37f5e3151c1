use Rattle.std.proofs.Common.{◌<◌, ◌+◌, Some, map, take, length, inl, inr, refl, sym, ap, ◌∙◌, subst, arith, true≢false}
use Rattle.std.proofs.lemmas.List.{drop_all}
use Rattle.pks_terms.specs.declared.problem.InitItem.{InitItem}
use Rattle.pks_terms.specs.Sets.{Each}
use Rattle.pks_terms.specs.Problems.{Start}
use Rattle.pks_terms.specs.Meaning.{IsWorld}
use Rattle.pks_terms.specs.Answers.{Keeps, IsFirstBroken}
use Rattle.pks_terms.specs.Views.{start_of, problem_of}
use Rattle.pks_world.specs.Contents.{world_of}
use Rattle.pks_laws.proofs.Compatible.{kept_compatible, compatible_kept}
use Rattle.pks_exec.proofs.Breaking.{none_broken, one_broken, kept_further, taken, next_item}
use Rattle.pks_exec.proofs.compatibility.compatible.Goals as goal

abbrev says : InitItem → Start
says item = start_of item.start

pub loop-k-init : goal.loop-k-init
loop-k-init c =
    let p = problem_of c.args.p.now in
    let w = world_of c.args.w.now in
    record {
      kept = λ world k. subst (λ xs. Each (Keeps p w) (map says xs)) c.as_slice-items.ensures k;
      before = λ world. tt;
      broken = λ world n b. subst (λ xs. IsFirstBroken p w (map says xs) 1 n) c.as_slice-items.ensures b;
    }

pub returns-then-not-keeps_next-clause-first : goal.returns-then-not-keeps_next-clause-first
returns-then-not-keeps_next-clause-first c = λ world.
    let p = problem_of c.args.p.now in
    let w = world_of c.args.w.now in
    let items = c.as_slice-items.result.now in
    let k = c.loop-k.k in
    let within : k < length items = omega arith in
    let next = next_item says items k c.index-items-k.result within c.index-items-k.is in
    let breaks = λ (kept : Keeps p w (says c.index-items-k.result)). true≢false (sym ((c.keeps_next.ensures world (c.loop-k.invariant.before world)).1 kept) ∙ c.if-not-keeps_next.true) in
    c.loop-k.invariant.broken world (k + 1) (subst (λ xs. IsFirstBroken p w xs (k + 1) (k + 1)) (sym next) (inl (breaks, refl)))

pub returns-then-not-keeps_next-clause-only : goal.returns-then-not-keeps_next-clause-only
returns-then-not-keeps_next-clause-only c = λ world n broken.
    let p = problem_of c.args.p.now in
    ap Some (one_broken p (world_of c.args.w.now) p.init 1 (c.loop-k.k + 1) n (returns-then-not-keeps_next-clause-first c world) broken)

pub returns-then-not-keeps_next-clause-none : goal.returns-then-not-keeps_next-clause-none
returns-then-not-keeps_next-clause-none c = λ world.
    let p = problem_of c.args.p.now in
    let w = world_of c.args.w.now in
    (λ e. absurd (true≢false e), λ compatible. absurd (none_broken p w p.init 1 (c.loop-k.k + 1) (compatible_kept p w compatible) (returns-then-not-keeps_next-clause-first c world)))

pub loop-k-preserved : goal.loop-k-preserved
loop-k-preserved c =
    let p = problem_of c.args.p.now in
    let w = world_of c.args.w.now in
    let items = c.as_slice-items.result.now in
    let k = c.loop-k.k in
    let within : k < length items = omega arith in
    let next = next_item says items k c.index-items-k.result within c.index-items-k.is in
    let kept = λ (world : IsWorld p.signature w). (c.keeps_next.ensures world (c.loop-k.invariant.before world)).0 c.if-not-keeps_next.false in
    record {
      before = λ world. kept_further p w (map says (take k items)) (map says (take (k + 1) items)) (says c.index-items-k.result) (taken says items k c.index-items-k.result within c.index-items-k.is) (c.loop-k.invariant.before world) (kept world);
      kept = λ world later. c.loop-k.invariant.kept world (subst (Each (Keeps p w)) (sym next) (kept world, later));
      broken = λ world n later. c.loop-k.invariant.broken world n (subst (λ xs. IsFirstBroken p w xs (k + 1) n) (sym next) (inr (kept world, later)));
    }

pub returns-clause-only : goal.returns-clause-only
returns-clause-only c = λ world n broken.
    let p = problem_of c.args.p.now in
    let w = world_of c.args.w.now in
    let kept = c.loop-k.invariant.kept world (subst (λ xs. Each (Keeps p w) (map says xs)) (sym (drop_all c.loop-k.k c.as_slice-items.result.now c.loop-k-test.false)) tt) in
    absurd (none_broken p w p.init 1 n kept broken)

pub returns-clause-none : goal.returns-clause-none
returns-clause-none c = λ world.
    let p = problem_of c.args.p.now in
    let w = world_of c.args.w.now in
    let kept = c.loop-k.invariant.kept world (subst (λ xs. Each (Keeps p w) (map says xs)) (sym (drop_all c.loop-k.k c.as_slice-items.result.now c.loop-k-test.false)) tt) in
    (λ e. kept_compatible p w world kept, λ compatible. refl)
