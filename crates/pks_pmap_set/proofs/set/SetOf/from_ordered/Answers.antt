use Rattle.std.proofs.Common.{rules, ◌≡◌, [], ◌∷◌, ◌++◌, length, sym, ap, ◌∙◌, subst, arith, append_assoc, append-nil}
use Rattle.std.specs.Vec.Iter.{into_iter_items}
use Rattle.pks_terms.specs.Sets.{IsOrdered}
use Rattle.pks_pmap_set.specs.Members.{keys}
use Rattle.pks_pmap_set.proofs.Keys.{none_left, keys-append, ascending_of_keys}
use Rattle.pks_pmap_set.proofs.set.SetOf.from_ordered.Goals as goal

pub loop-item-preserved : goal.loop-item-preserved
loop-item-preserved g c =
    let steps : into_iter_items c.loop-item.item-iterator ≡ c.in-Some.item ∷ into_iter_items c.next.new.self = c.in-Some.ensures.steps.0 in
    let more : c.push.new.self.items ≡ c.loop-item.entries.items ++ (c.in-Some.item, tt) ∷ [] = search rules in (
      ap (λ z. keys z ++ into_iter_items c.next.new.self) more ∙ ap (λ z. z ++ into_iter_items c.next.new.self) (keys-append c.loop-item.entries.items ((c.in-Some.item, tt) ∷ []))
          ∙ append_assoc (keys c.loop-item.entries.items) (c.in-Some.item ∷ []) (into_iter_items c.next.new.self) ∙ ap (λ z. keys c.loop-item.entries.items ++ z) (sym steps) ∙ c.loop-item.invariant.0,
      let was = c.loop-item.invariant.1 in
          let gone = c.in-Some.ensures.steps.1 in
          let short = ap length steps in
          omega arith,
    )

pub from_ordered-requires : goal.from_ordered-requires
from_ordered-requires g c =
    let empty : into_iter_items c.loop-item.item-iterator ≡ [] = none_left _ (sym c.loop-item.invariant.1 ∙ c.in-None.ensures.steps.0) in
    let all : keys c.loop-item.entries.items ≡ c.args.items.items = sym (append-nil (keys c.loop-item.entries.items)) ∙ ap (λ z. keys c.loop-item.entries.items ++ z) (sym empty) ∙ c.loop-item.invariant.0 in
    ascending_of_keys g.T.Ord.cmp c.loop-item.entries.items (subst (IsOrdered g.T.Ord.cmp) (sym all) c.requires)

pub returns : goal.returns
returns g c =
    let empty : into_iter_items c.loop-item.item-iterator ≡ [] = none_left _ (sym c.loop-item.invariant.1 ∙ c.in-None.ensures.steps.0) in
    ap keys c.in_ok-entries-2.ensures.entries ∙ sym (append-nil (keys c.loop-item.entries.items)) ∙ ap (λ z. keys c.loop-item.entries.items ++ z) (sym empty) ∙ c.loop-item.invariant.0
