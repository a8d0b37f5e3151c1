use Rattle.std.proofs.Common.{sym, subst}
use Rattle.pks_terms.specs.Views.{problem_of}
use Rattle.pks_terms.specs.Meaning.{IsTrueOf}
use Rattle.pks_terms.specs.Valid.{AreOf}
use Rattle.pks_terms.specs.Moments.{AreInOrder}
use Rattle.pks_laws.proofs.BelongingSteps.{initial_of}
use Rattle.pks_laws.proofs.SidesInOrder.{initial_ordered}
use Rattle.pks_query.proofs.databases.Db.first.Goals as goal

pub returns-clause-moment : goal.returns-clause-moment
returns-clause-moment c =
    let p = problem_of c.args.p.now in
    c.close.ensures.moment (subst (AreOf p.signature) (sym c.in_ok-five.ensures) (initial_of p c.requires.says)) (subst AreInOrder (sym c.in_ok-five.ensures) (initial_ordered p c.requires.says))

pub returns-clause-no_clash : goal.returns-clause-no_clash
returns-clause-no_clash c =
    let p = problem_of c.args.p.now in
    λ w w' m. c.close.ensures.no_clash w w' (subst (IsTrueOf p.signature w w') (sym c.in_ok-five.ensures) m)
