use Rattle.std.proofs.Common.{sym, subst}
use Rattle.pks_terms.specs.Meaning.{IsTrueOf}
use Rattle.pks_terms.specs.Valid.{AreOf}
use Rattle.pks_terms.specs.Views.{problem_of}
use Rattle.pks_terms.specs.Moments.{AreInOrder}
use Rattle.pks_laws.proofs.Assuming.{so_too, assumed_true}
use Rattle.pks_laws.proofs.BelongingSteps.{assumed_of}
use Rattle.pks_laws.proofs.SidesInOrder.{assumed_ordered}
use Rattle.pks_query_lookup.specs.Fives.{five_of}
use Rattle.pks_terms.specs.ChoiceViews.{choice_of, side_of}
use Rattle.pks_branch.proofs.assuming.assume.Goals as goal

pub returns-clause-moment : goal.returns-clause-moment
returns-clause-moment c =
    let s = (problem_of c.args.p.now).signature in
    let d = five_of c.args.d.now in
    let x = choice_of c.args.c.now in
    let side = side_of c.args.side in
    c.in_ok-step.ensures.moment
    (subst (AreOf s) (sym c.in_ok-five.ensures) (assumed_of s d c.requires.moment.of x side c.requires.member c.requires.side))
    (subst AreInOrder (sym c.in_ok-five.ensures) (assumed_ordered s d c.requires.moment.ordered x side c.requires.member))

pub returns-clause-so_too : goal.returns-clause-so_too
returns-clause-so_too c = λ w w' m so. so_too w w' (five_of c.args.d.now) m (choice_of c.args.c.now) (side_of c.args.side) c.requires.member so

pub returns-clause-keeps_truth : goal.returns-clause-keeps_truth
returns-clause-keeps_truth c = λ w w' m so.
    let s = (problem_of c.args.p.now).signature in
    c.in_ok-step.ensures.keeps_truth w w' (subst (IsTrueOf s w w') (sym c.in_ok-five.ensures) (assumed_true w w' (five_of c.args.d.now) m (choice_of c.args.c.now) (side_of c.args.side) c.requires.member so))
