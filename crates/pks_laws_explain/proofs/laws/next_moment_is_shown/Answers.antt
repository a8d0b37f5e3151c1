use Rattle.std.proofs.Common.{◌≡◌, ◌+◌, ◌≤◌, suc, subst, arith}
use Rattle.pks_terms.specs.Sets.{Each}
use Rattle.pks_terms.specs.Settling.{forward}
use Rattle.pks_terms.specs.Proofs.{final_moment}
use Rattle.pks_laws_explain.specs.Shown.{IsShownInOrder}
use Rattle.pks_laws_explain.proofs.Stepped.{forward_shown}
use Rattle.pks_laws_explain.proofs.laws.next_moment_is_shown.Goals as goal

pub returns : goal.returns
returns c = λ p path m i d next there s.
    let same : suc m ≡ m + 1 = omega arith in
    let within : suc m ≤ final_moment path = omega (arith, next) in
    subst (λ n. Each (IsShownInOrder p path n) (forward p i d)) same (forward_shown p path m within i there d s)
