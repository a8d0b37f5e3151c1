use Rattle.std.proofs.Common.{[], refl, sym, subst}
use Rattle.pks_terms.specs.Explained.{owed, IsExplained}
use Rattle.pks_terms.specs.Views.{problem_of}
use Rattle.pks_plan.specs.TreeViews.{tree_of}
use Rattle.pks_explain.specs.EntryViews.{entries_of}
use Rattle.pks_explain.proofs.Accepted.{explained}
use Rattle.pks_explain.proofs.explaining.explain.Goals as goal

pub returns : goal.returns
returns c =
    let p = problem_of c.args.p.now in
    let t = tree_of c.args.t.now in
    subst (λ es. IsExplained p t (entries_of es)) (sym c.of.ensures) (explained p t (owed p [] t) (entries_of c.in_ok-entries.entries.items) refl c.in_ok-entries.ensures)
