use Rattle.std.proofs.Common.{ap, sym, subst}
use Rattle.pks_terms.specs.Databases.{Five}
use Rattle.pks_terms.specs.Closure.{Closes, Next}
use Rattle.pks_terms.specs.Views.{signature_of}
use Rattle.pks_laws.proofs.SearchStates.{closed_moment}
use Rattle.pks_query_lookup.specs.Fives.{five_of}
use Rattle.pks_query_closing.specs.Working.{EndsWith}
use Rattle.pks_query.proofs.Sound.{stays_true, does_not_clash}
use Rattle.pks_query.proofs.databases.Db.close_unless_clash.Goals as goal

pub of_closed-requires-clause-closed : goal.of_closed-requires-clause-closed
of_closed-requires-clause-closed c =
    record { from = five_of c.args.five; closes = subst (EndsWith (Closes (signature_of c.args.s.now) (five_of c.args.five))) c.in-Some.is c.in_ok-close_unless_clash.ensures }

pub returns-in_ok-db-in-Some-clause-ends : goal.returns-in_ok-db-in-Some-clause-ends
returns-in_ok-db-in-Some-clause-ends c =
    let s = signature_of c.args.s.now in
    let closes : Closes s (five_of c.args.five) (Next (five_of c.in-Some.derived)) = subst (EndsWith (Closes s (five_of c.args.five))) c.in-Some.is c.in_ok-close_unless_clash.ensures in
    subst (λ (d : Five). Closes s (five_of c.args.five) (Next d)) (sym (ap five_of c.in_ok-db-in-Some.ensures)) closes

pub returns-in_ok-db-in-Some-clause-moment : goal.returns-in_ok-db-in-Some-clause-moment
returns-in_ok-db-in-Some-clause-moment c = λ of ordered.
    let s = signature_of c.args.s.now in
    let closes : Closes s (five_of c.args.five) (Next (five_of c.in-Some.derived)) = subst (EndsWith (Closes s (five_of c.args.five))) c.in-Some.is c.in_ok-close_unless_clash.ensures in
    closed_moment s c.requires.values (five_of c.args.five) (five_of c.in_ok-db-in-Some.db) of ordered (subst (λ (d : Five). Closes s (five_of c.args.five) (Next d)) (sym (ap five_of c.in_ok-db-in-Some.ensures)) closes)

pub returns-in_ok-db-in-Some-clause-keeps_truth : goal.returns-in_ok-db-in-Some-clause-keeps_truth
returns-in_ok-db-in-Some-clause-keeps_truth c = λ w w' m.
    let s = signature_of c.args.s.now in
    let closes : Closes s (five_of c.args.five) (Next (five_of c.in-Some.derived)) = subst (EndsWith (Closes s (five_of c.args.five))) c.in-Some.is c.in_ok-close_unless_clash.ensures in
    stays_true s w w' (five_of c.args.five) (five_of c.in_ok-db-in-Some.db) m (subst (λ (d : Five). Closes s (five_of c.args.five) (Next d)) (sym (ap five_of c.in_ok-db-in-Some.ensures)) closes)

pub returns-in-None-clause-keeps_truth : goal.returns-in-None-clause-keeps_truth
returns-in-None-clause-keeps_truth c = λ w w' m.
    let s = signature_of c.args.s.now in
    let clash = subst (EndsWith (Closes s (five_of c.args.five))) c.in-None.is c.in_ok-close_unless_clash.ensures in
    does_not_clash s w w' (five_of c.args.five) clash.0 m clash.1
