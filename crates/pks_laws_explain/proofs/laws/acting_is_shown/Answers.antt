use Rattle.std.proofs.Common.{◌≡◌, ◌+◌, ◌≤◌, suc, subst, arith}
use Rattle.pks_terms.specs.Proofs.{final_moment}
use Rattle.pks_terms.specs.Problems.{schema_of}
use Rattle.pks_terms.specs.Progress.{progressed}
use Rattle.pks_laws.proofs.Instances.{allowed_instance}
use Rattle.pks_laws_explain.specs.Shown.{AreShown}
use Rattle.pks_laws_explain.proofs.Progressed.{progressed_shown}
use Rattle.pks_laws_explain.proofs.laws.acting_is_shown.Goals as goal

pub returns : goal.returns
returns c = λ p path m i d next there s chosen justified.
    let same : suc m ≡ m + 1 = omega arith in
    let within : suc m ≤ final_moment path = omega (arith, next) in
    subst (λ n. AreShown p path n (progressed p.signature d (schema_of p i.action) i.arguments)) same (progressed_shown p path m within i there d s (allowed_instance p d i chosen).0 justified)
