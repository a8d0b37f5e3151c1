use Rattle.std.proofs.Common.{rules, ap, ◌∙◌}
use Rattle.std.specs.Ordering.{on}
use Rattle.pks_terms.specs.Sets.{IsOrdered}
use Rattle.pks_terms.specs.Orders.{literal_cmp}
use Rattle.pks_terms.specs.Views.{literal_of, signature_of}
use Rattle.pks_query_lookup.specs.Fives.{five_of}
use Rattle.pks_pmap_set.proofs.Mapped.{ordered-map}
use Rattle.pks_query.proofs.Still.{closes_still}
use Rattle.pks_query.proofs.databases.Db.close_saturated.Goals as goal

pub of_closed-requires-clause-closed : goal.of_closed-requires-clause-closed
of_closed-requires-clause-closed c =
    let ordered : IsOrdered (on literal_of literal_cmp) c.args.derived.kf = search rules in
    record {
      from = five_of c.args.derived;
      closes = closes_still (signature_of c.args.s.now) (five_of c.args.derived) (five_of c.in_ok-whole.whole) (ordered-map literal_of literal_cmp c.args.derived.kf ordered) c.requires.saturated c.requires.fine c.in_ok-whole.ensures;
    }

pub returns : goal.returns
returns c =
    let ordered : IsOrdered (on literal_of literal_cmp) c.args.derived.kf = search rules in
    closes_still (signature_of c.args.s.now) (five_of c.args.derived) (five_of c.in_ok-db.db) (ordered-map literal_of literal_cmp c.args.derived.kf ordered) c.requires.saturated c.requires.fine (ap five_of c.in_ok-db.ensures ∙ c.in_ok-whole.ensures)
