use Rattle.std.proofs.Common.{◌≡◌, ◌+◌, ◌≤◌, suc, subst, arith}
use Rattle.pks_terms.specs.Proofs.{final_moment}
use Rattle.pks_terms.specs.Proofs.{FactLcw}
use Rattle.std.proofs.Common.{refl}
use Rattle.pks_terms.specs.Progress.{regions_added}
use Rattle.pks_terms.specs.Settling.{effects_of}
use Rattle.pks_terms.proofs.ListLaws.{each_in}
use Rattle.pks_laws_explain.specs.Shown.{IsShown}
use Rattle.pks_laws_explain.proofs.Cleared.{Fine, regions_added_shown}
use Rattle.pks_laws_explain.proofs.laws.cleared_regions_are_shown.Goals as goal

pub returns : goal.returns
returns c = λ p path m i d a e next there s justified k.
    let same : suc m ≡ m + 1 = omega arith in
    let within : suc m ≤ final_moment path = omega (arith, next) in
    let all = regions_added_shown p path m within i there d s a justified a.item refl in
    subst (λ n. IsShown p path n (FactLcw e)) same (each_in (Fine p path m within i there d s) (regions_added p.signature d (effects_of p i) i.arguments a.item) e all k).0
