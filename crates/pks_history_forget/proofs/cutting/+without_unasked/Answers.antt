use Rattle.std.proofs.Common.{◌≡◌, true, sym, ◌∙◌}
use Rattle.pks_terms.specs.Views.{problem_of}
use Rattle.pks_history_forget.specs.Same.{first_may_go}
use Rattle.pks_history_forget.proofs.Shorter.{same_through, rest_told}
use Rattle.pks_history_forget.proofs.cutting.+without_unasked.Goals as goal

pub returns-clause-trees : goal.returns-clause-trees
returns-clause-trees t c =
    let p = problem_of c.args.p.now in
    let h = c.args.h in
    let later = c.in_ok-later.later in
    let goes : first_may_go p h ≡ true = sym c.in_ok-first_may_go.ensures ∙ c.if-not-branch.false in
    same_through p h later c.in_ok-rest.rest (rest_told p h later c.in_ok-later.ensures c.requires.valid.says c.requires.moments c.requires.sets goes) c.in_ok-rest.ensures.trees
