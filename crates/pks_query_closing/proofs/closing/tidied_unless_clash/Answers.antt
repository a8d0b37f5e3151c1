use Rattle.std.proofs.Common.{◌≡◌, Option, option_map, subst}
use Rattle.std.specs.Ordering.{on}
use Rattle.pks_terms.specs.Sets.{IsOrdered}
use Rattle.pks_terms.specs.Orders.{literal_cmp}
use Rattle.pks_terms.specs.Closure.{first_clash}
use Rattle.pks_terms.specs.Views.{literal_of, signature_of}
use Rattle.pks_terms.specs.declared.literal.Literal.{Literal as DLiteral}
use Rattle.pks_pmap_set.proofs.Mapped.{ordered-map}
use Rattle.pks_query_lookup.specs.declared.five.Five.{Five as DFive}
use Rattle.pks_query_lookup.specs.Fives.{five_of}
use Rattle.pks_query_closing.proofs.Growing.{some_clashes, ends_fine}
use Rattle.pks_query_closing.proofs.closing.tidied_unless_clash.Goals as goal

pub returns-in-Ok-Some : goal.returns-in-Ok-Some
returns-in-Ok-Some c = λ d ordered worked.
    let s = signature_of c.args.s.now in
    let same = subst (λ (o : Option DLiteral). option_map literal_of o ≡ first_clash s (five_of c.args.last)) c.in-Ok-Some.field-0-is c.in-Ok-Some.ensures in
    some_clashes s c.requires d (five_of c.args.last) c.in-Ok-Some._clash ordered worked.0 same

pub returns-in_ok-d-in-Ok-None : goal.returns-in_ok-d-in-Ok-None
returns-in_ok-d-in-Ok-None c = λ d ordered worked.
    let s = signature_of c.args.s.now in
    let last = five_of c.args.last in
    let here : IsOrdered (on literal_of literal_cmp) c.args.last.kf = subst (λ (d : DFive). IsOrdered (on literal_of literal_cmp) d.kf) c.five.ensures c.len-known.ensures.ordered in
    let same = subst (λ (o : Option DLiteral). option_map literal_of o ≡ first_clash s last) c.in-Ok-None.field-0-is c.in-Ok-None.ensures in
    ends_fine s c.requires d last (five_of c.in_ok-d-in-Ok-None.d) ordered (ordered-map literal_of literal_cmp c.args.last.kf here) worked.0 worked.1 same c.in_ok-d-in-Ok-None.ensures
