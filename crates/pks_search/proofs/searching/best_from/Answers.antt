use Rattle.std.proofs.Common.{option_map}
use Rattle.std.specs.Option.{IfSome}
use Rattle.std.proofs.lemmas.Result.{IfOk-weaker}
use Rattle.pks_terms.specs.Worlds.{World}
use Rattle.pks_terms.specs.Problems.{IsCompatible}
use Rattle.pks_terms.specs.Trees.{IsBest}
use Rattle.pks_terms.specs.Knowledge.{Good}
use Rattle.pks_terms.specs.Views.{problem_of}
use Rattle.pks_plan.specs.TreeViews.{tree_of}
use Rattle.pks_laws.proofs.Accepting.{best_good}
use Rattle.pks_terms.specs.Remembering.{RemembersPast}
use Rattle.pks_search.proofs.Starting.{best_remembers, if_some}
use Rattle.pks_search.proofs.searching.best_from.Goals as goal

pub returns-clause-good : goal.returns-clause-good
returns-clause-good c =
    let p = problem_of c.args.p.now in
    IfOk-weaker c.best_of_unmet.result (λ o. IsBest p c.args.depth (option_map tree_of o)) (λ o. IfSome o (λ t. (w : World) → IsCompatible p w → Good p (tree_of t) w))
    (λ o b. if_some tree_of (IsBest p c.args.depth) (λ t. (w : World) → IsCompatible p w → Good p (tree_of t) w) (λ t k w compatible. best_good p c.args.depth (tree_of t) w c.requires.justified c.requires.valid.says k compatible) o b) c.best_of_unmet.ensures

pub returns-clause-past : goal.returns-clause-past
returns-clause-past c =
    let p = problem_of c.args.p.now in
    IfOk-weaker c.best_of_unmet.result (λ o. IsBest p c.args.depth (option_map tree_of o)) (λ o. IfSome o (λ t. RemembersPast p (tree_of t)))
    (λ o b. if_some tree_of (IsBest p c.args.depth) (λ t. RemembersPast p (tree_of t)) (λ t k. best_remembers p c.args.depth (tree_of t) c.requires.justified c.requires.valid.says k) o b) c.best_of_unmet.ensures
