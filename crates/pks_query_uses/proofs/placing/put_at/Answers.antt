use Rattle.std.proofs.Common.{◌∙◌, ap, subst, sym}
use Rattle.pks_terms.specs.Orders.{literal_cmp}
use Rattle.pks_terms.specs.Sets.{IsOrdered, insert_in}
use Rattle.pks_terms.specs.Views.{literal_of, literals_in}
use Rattle.pks_query_uses.specs.Indexes.{found_items}
use Rattle.pks_query_uses.proofs.PlacingLaws.{placed_at}
use Rattle.pks_query_uses.proofs.placing.put_at.Goals as goal

pub returns : goal.returns
returns c =
    let found = ap literals_in (c.or_none-ls.ensures ∙ ap found_items c.remove-found.ensures.value) in
    placed_at c.args.index.now c.remove-found.new.self c.insert.new.self c.args.t (literal_of c.args.l.now) c.put_in_place.new.ls c.remove-found.ensures.updates.0 c.in_ok-insert.ensures.updates.0
    (λ h. c.in_ok-put_in_place.ensures (subst (IsOrdered literal_cmp) (sym found) h) ∙ ap (insert_in literal_cmp (literal_of c.args.l.now)) found)
