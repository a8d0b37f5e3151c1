use Rattle.std.proofs.Common.{◌≡◌, ◌+◌, ◌≤◌, suc, subst, arith}
use Rattle.pks_terms.specs.Proofs.{final_moment}
use Rattle.pks_terms.specs.Proofs.{FactLcw}
use Rattle.pks_laws_explain.specs.Shown.{IsShown}
use Rattle.pks_laws_explain.proofs.Grown.{region_left}
use Rattle.pks_laws_explain.proofs.laws.regions_left_are_shown.Goals as goal

pub returns : goal.returns
returns c = λ p path m i d r e next there s k h.
    let same : suc m ≡ m + 1 = omega arith in
    let within : suc m ≤ final_moment path = omega (arith, next) in
    subst (λ n. IsShown p path n (FactLcw e)) same (region_left p path m within i there d s r e k (s.listed r k) h).0
