use Rattle.std.proofs.Common.{◌++◌, [], ◌∷◌, ◌∙◌, sym, ap, append-nil, append_assoc}
use Rattle.pks_query_closing.proofs.carrying.group_list.Goals as goal

pub loop-g-init : goal.loop-g-init
loop-g-init c =
    ap (λ xs. xs ++ c.into_iter-g-iterator.result) c.new-all.ensures.items ∙ c.into_iter-g-iterator.ensures.into_iter_gives ∙ c.items-g-items.ensures.members

pub loop-g-preserved : goal.loop-g-preserved
loop-g-preserved c =
    ap (λ xs. xs ++ c.next.new.self) c.in_ok-push.ensures.items
    ∙ append_assoc c.loop-g.all.items (c.in_ok-group.group ∷ []) c.next.new.self
    ∙ ap (λ g. c.loop-g.all.items ++ g ∷ c.next.new.self) c.in_ok-group.ensures
    ∙ ap (λ xs. c.loop-g.all.items ++ xs) (sym c.in-Some.ensures.steps)
    ∙ c.loop-g.invariant

pub returns : goal.returns
returns c =
    sym (append-nil c.loop-g.all.items) ∙ ap (λ xs. c.loop-g.all.items ++ xs) (sym c.in-None.ensures.steps.0) ∙ c.loop-g.invariant
