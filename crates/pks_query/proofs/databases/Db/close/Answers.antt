use Rattle.std.proofs.Common.{sym, subst}
use Rattle.std.specs.Option.{IfSome, IsSomeAnd}
use Rattle.pks_terms.specs.Closure.{Closes, Next}
use Rattle.pks_terms.specs.Meaning.{IsTrueOf}
use Rattle.pks_terms.specs.Moments.{AreInOrder, IsMomentOf}
use Rattle.pks_terms.specs.Valid.{AreOf}
use Rattle.pks_terms.specs.Views.{signature_of}
use Rattle.pks_query_lookup.specs.Fives.{five_of}
use Rattle.pks_query_closing.specs.Working.{EndsWith}
use Rattle.pks_query.proofs.databases.Db.close.Goals as goal

pub returns-in-Some-clause-closes : goal.returns-in-Some-clause-closes
returns-in-Some-clause-closes c =
    let s = signature_of c.args.s.now in
    subst (λ d. Closes s d (Next (five_of c.in-Some.db))) c.in_ok-same.ensures (subst (EndsWith (Closes s (five_of c.in_ok-same.same))) c.in-Some.is c.in_ok-db.ensures.ends)

pub returns-in-Some-clause-moment : goal.returns-in-Some-clause-moment
returns-in-Some-clause-moment c = λ of ordered.
    let s = signature_of c.args.s.now in
    subst (λ o. IfSome o (λ db. IsMomentOf s (five_of db))) c.in-Some.is (c.in_ok-db.ensures.moment (subst (AreOf s) (sym c.in_ok-same.ensures) of) (subst AreInOrder (sym c.in_ok-same.ensures) ordered))

pub returns-in-Some-clause-keeps_truth : goal.returns-in-Some-clause-keeps_truth
returns-in-Some-clause-keeps_truth c = λ w w' m.
    let s = signature_of c.args.s.now in
    subst (λ o. IsSomeAnd o (λ db. IsTrueOf s w w' (five_of db))) c.in-Some.is (c.in_ok-db.ensures.keeps_truth w w' (subst (IsTrueOf s w w') (sym c.in_ok-same.ensures) m))
