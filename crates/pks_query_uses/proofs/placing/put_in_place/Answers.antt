use Rattle.std.proofs.Common.{◌≡◌, ◌∙◌, ap, sym, true, false}
use Rattle.std.specs.List.{list_any}
use Rattle.pks_terms.specs.Orders.{literal_eq}
use Rattle.pks_terms.specs.Views.{literal_of, literals_in}
use Rattle.pks_query_uses.proofs.PlacingLaws.{there_already, put_there}
use Rattle.pks_query_uses.proofs.placing.put_in_place.Goals as goal

pub returns-then-has : goal.returns-then-has
returns-then-has c =
    let there : list_any (literal_eq (literal_of c.args.l.now)) (literals_in c.args.ls.now.items) ≡ true =
    ap (λ ls. list_any (literal_eq (literal_of c.args.l.now)) (literals_in ls)) (sym c.as_slice.ensures.value) ∙ sym c.has.ensures ∙ c.if-has.true in
    there_already (literal_of c.args.l.now) (literals_in c.args.ls.now.items) there

pub returns : goal.returns
returns c =
    let there : list_any (literal_eq (literal_of c.args.l.now)) (literals_in c.args.ls.now.items) ≡ false =
    ap (λ ls. list_any (literal_eq (literal_of c.args.l.now)) (literals_in ls)) (sym c.as_slice.ensures.value) ∙ sym c.has.ensures ∙ c.if-has.false in
    λ h. c.in_ok-put_in_order.ensures.says ∙ put_there (literal_of c.args.l.now) (literals_in c.args.ls.now.items) there
