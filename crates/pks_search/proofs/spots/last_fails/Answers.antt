use Rattle.std.proofs.Common.{◌≡◌, true, map, sym, subst, rules}
use Rattle.pks_terms.specs.Moments.{AreMomentsOf}
use Rattle.pks_terms.specs.Sets.{Each}
use Rattle.pks_terms.specs.Settling.{History}
use Rattle.pks_terms.specs.Versions.{IsNow}
use Rattle.pks_terms.specs.Views.{aim_of, problem_of}
use Rattle.pks_laws.proofs.SearchStates.{last_of_it}
use Rattle.pks_search_nogoods.specs.Failing.{HasNoTree}
use Rattle.pks_search.specs.Straight.{last_alone}
use Rattle.pks_search.proofs.spots.last_fails.Goals as goal

pub returns-clause-fails : goal.returns-clause-fails
returns-clause-fails c = λ k.
    let p = problem_of c.args.spot.now.problem.now in
    let tight : c.args.tight ≡ true = search rules in
    let now : c.are_now.result ≡ true = search rules in
    let h = c.args.spot.now.history.now in
    let alone : AreMomentsOf p (last_alone h) = record { start = last_of_it p c.requires.valid h c.requires.moments; steps = tt } in
    let moments : AreMomentsOf p c.in_ok-only.only = subst (AreMomentsOf p) (sym c.in_ok-only.ensures) alone in
    record {
      tight_is = tight;
      plain = subst (λ xs. Each IsNow (map aim_of xs)) c.as_slice.ensures (c.are_now.ensures.0 now);
      none = subst (λ (g : History). HasNoTree p g c.args.n c.args.limit) c.in_ok-only.ensures (c.tells-fails.ensures.told k c.requires.valid moments c.requires.right);
    }

pub returns-clause-right : goal.returns-clause-right
returns-clause-right c = c.tells-fails.ensures.right (problem_of c.args.spot.now.problem.now) c.requires.right
