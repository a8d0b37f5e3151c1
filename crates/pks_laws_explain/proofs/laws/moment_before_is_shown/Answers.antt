use Rattle.std.proofs.Common.{◌≡◌, ◌+◌, ◌≤◌, suc, subst, arith}
use Rattle.pks_terms.specs.Proofs.{final_moment}
use Rattle.pks_laws_explain.specs.Shown.{AreShown}
use Rattle.pks_laws_explain.proofs.Stepped.{backward_shown}
use Rattle.pks_laws_explain.proofs.laws.moment_before_is_shown.Goals as goal

pub returns : goal.returns
returns c = λ p path m i d after next there s later.
    let same : m + 1 ≡ suc m = omega arith in
    let within : suc m ≤ final_moment path = omega (arith, next) in
    backward_shown p path m within i there d s after (subst (λ n. AreShown p path n after) same later)
