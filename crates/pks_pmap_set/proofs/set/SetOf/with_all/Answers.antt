use Rattle.std.proofs.Common.{rules, ◌≡◌, [], ◌∷◌, length, sym, ap, ◌∙◌, true, IfOk, subst, arith}
use Rattle.std.specs.Vec.Iter.{into_iter_items}
use Rattle.pks_terms.specs.Sets.{added}
use Rattle.pks_pmap_set.specs.Members.{rises}
use Rattle.pks_pmap_set.proofs.Keys.{none_left}
use Rattle.pks_pmap_set.proofs.Rising.{ordered_of_rises, added_rising}
use Rattle.pks_pmap_set.proofs.set.SetOf.with_all.Goals as goal

pub loop-item-preserved : goal.loop-item-preserved
loop-item-preserved g c =
    let rest = into_iter_items c.next.new.self in
    let steps : into_iter_items c.loop-item.item-iterator ≡ c.in-Some.item ∷ into_iter_items c.next.new.self = c.in-Some.ensures.steps.0 in (
      ap (λ z. added g.T.Ord.cmp z (into_iter_items c.next.new.self)) c.in_ok-set-2.ensures ∙ ap (added g.T.Ord.cmp c.loop-item.set) (sym steps) ∙ c.loop-item.invariant.0,
      let was = c.loop-item.invariant.1 in
          let gone = c.in-Some.ensures.steps.1 in
          let short = ap length steps in
          omega arith,
    )

pub from_ordered-requires : goal.from_ordered-requires
from_ordered-requires g c =
    let rise : rises g.T.Ord.cmp c.args.items.items ≡ true = sym (c.rises.ensures ∙ ap (rises g.T.Ord.cmp) c.as_slice.ensures.value) ∙ c.if-rises.true in
    ordered_of_rises g.T.Ord.cmp g.met.T.Ord.total c.args.items.items rise

pub returns-then-rises : goal.returns-then-rises
returns-then-rises g c =
    let xs = c.args.items.items in
    let rise : rises g.T.Ord.cmp xs ≡ true = sym (c.rises.ensures ∙ ap (rises g.T.Ord.cmp) c.as_slice.ensures.value) ∙ c.if-rises.true in
    let ordered = ordered_of_rises g.T.Ord.cmp g.met.T.Ord.total xs rise in
    let zero : c.len.result ≡ 0 = search rules in
    let empty : c.args.self.now ≡ [] = none_left c.args.self.now (sym c.len.ensures.count ∙ zero) in
    let all : xs ≡ added g.T.Ord.cmp c.args.self.now xs = sym (added_rising g.T.Ord.cmp g.met.T.Ord.total xs ordered) ∙ ap (λ s. added g.T.Ord.cmp s xs) (sym empty) in
    subst (λ ys. IfOk c.from_ordered.result (λ set. set ≡ ys)) all c.from_ordered.ensures

pub returns : goal.returns
returns g c =
    let empty : into_iter_items c.loop-item.item-iterator ≡ [] = none_left _ (sym c.loop-item.invariant.1 ∙ c.in-None.ensures.steps.0) in
    ap (added g.T.Ord.cmp c.loop-item.set) (sym empty) ∙ c.loop-item.invariant.0
