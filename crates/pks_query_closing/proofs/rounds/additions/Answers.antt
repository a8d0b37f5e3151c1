use Rattle.std.proofs.Common.{rules, sym, subst}
use Rattle.std.specs.Ordering.{on}
use Rattle.pks_terms.specs.Sets.{IsOrdered}
use Rattle.pks_terms.specs.Orders.{literal_cmp}
use Rattle.pks_terms.specs.Closure.{additions}
use Rattle.pks_terms.specs.Views.{literal_of, signature_of}
use Rattle.pks_kf.specs.Known.{literals_of}
use Rattle.pks_query_lookup.specs.Fives.{five_of}
use Rattle.pks_pmap_set.proofs.Mapped.{ordered-map}
use Rattle.pks_query_closing.specs.Rounds.{HaveSameMembers}
use Rattle.pks_query_closing.proofs.Alike.{same_additions, same_with_more, same_round}
use Rattle.pks_query_closing.proofs.rounds.additions.Goals as goal

pub returns-clause-members : goal.returns-clause-members
returns-clause-members c =
    let s = signature_of c.args.s.now in
    let d = five_of c.args.d.now in
    subst (λ ls. HaveSameMembers ls (additions s d)) (sym c.in_ok-all.ensures) (same_additions s d)

pub returns-clause-with_more : goal.returns-clause-with_more
returns-clause-with_more c =
    let ordered : IsOrdered (on literal_of literal_cmp) c.args.d.now.kf = search rules in
    same_with_more (signature_of c.args.s.now) (five_of c.args.d.now) (ordered-map literal_of literal_cmp c.args.d.now.kf ordered) (literals_of c.in_ok-all.all.items) c.in_ok-all.ensures

pub returns-clause-round : goal.returns-clause-round
returns-clause-round c =
    let ordered : IsOrdered (on literal_of literal_cmp) c.args.d.now.kf = search rules in
    same_round (signature_of c.args.s.now) (five_of c.args.d.now) (ordered-map literal_of literal_cmp c.args.d.now.kf ordered) (literals_of c.in_ok-all.all.items) c.in_ok-all.ensures
