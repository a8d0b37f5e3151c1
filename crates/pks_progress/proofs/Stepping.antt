-- What the databases after an action are, and what they keep.
use Rattle.std.proofs.Common.{◌≡◌, List, sym, subst, ◌∙◌}
use Rattle.pks_terms.specs.Sets.{IsIn, added}
use Rattle.pks_terms.specs.Syntax.{Term, Literal}
use Rattle.pks_terms.specs.Orders.{term_cmp, literal_cmp, conj_cmp}
use Rattle.pks_terms.specs.Worlds.{World}
use Rattle.pks_terms.specs.Databases.{Entry, entry_cmp, Five}
use Rattle.pks_terms.specs.Meaning.{IsTrueOf}
use Rattle.pks_terms.specs.Closure.{Outcome, Next, Clash, Closes}
use Rattle.pks_terms.specs.Actions.{Instance}
use Rattle.pks_terms.specs.Problems.{Problem, schema_of}
use Rattle.pks_terms.specs.Valid.{IsValid}
use Rattle.pks_terms.specs.Typed.{AreJustified}
use Rattle.pks_terms.specs.Branching.{instances}
use Rattle.pks_terms.specs.Settling.{effects_of}
use Rattle.pks_terms.specs.Knowledge.{grounded, after_action, observations}
use Rattle.pks_terms.specs.Progress.{progressed, Progress}
use Rattle.pks_terms.specs.Moments.{IsMomentOf}
use Rattle.pks_laws.proofs.BelongingSteps.{choice_of}
use Rattle.pks_laws.proofs.SearchStates.{action_moment}
use Rattle.pks_laws.proofs.StepLaws.{action_true}
use Rattle.pks_laws.proofs.Validity.{valid_typed}
use Rattle.pks_query.specs.Steps.{IfNext, IsNextWith}
use Rattle.pks_progress_adds.specs.Gains.{literals_gained, formulas_gained, values_gained, regions_gained}
use Rattle.pks_progress.specs.Kept.{kept_after}
use Rattle.pks_progress.specs.Ahead.{PutsIn}

-- what lasts with what the adds give
pub progressed_from : (p : Problem) (d : Five) (i : Instance) (kept five : Five) (ls : List Literal) (cs : List (List Literal)) (ts : List Term) (rs : List Entry)
    → kept ≡ kept_after p.signature d (effects_of p i)
    → ls ≡ literals_gained p d i
    → cs ≡ formulas_gained p d i
    → ts ≡ values_gained p d i
    → rs ≡ regions_gained p d i
    → five.kf ≡ added literal_cmp kept.kf ls
    → five.kw ≡ added conj_cmp kept.kw cs
    → five.kv ≡ added term_cmp kept.kv ts
    → five.kx ≡ kept.kx
    → five.lcw ≡ added entry_cmp kept.lcw rs
    → five ≡ progressed p.signature d (schema_of p i.action) i.arguments
unfolding progressed
progressed_from p d i kept five ls cs ts rs k l f v r kf kw kv kx lcw = λ j. record {
  kf = (kf ∙ (λ n. added literal_cmp (k n).kf (l n))) j;
  kw = (kw ∙ (λ n. added conj_cmp (k n).kw (f n))) j;
  kv = (kv ∙ (λ n. added term_cmp (k n).kv (v n))) j;
  kx = (kx ∙ (λ n. (k n).kx)) j;
  lcw = (lcw ∙ (λ n. added entry_cmp (k n).lcw (r n))) j;
}

pub put_in_from : (p : Problem) (d : Five) (i : Instance) (kept five : Five) (ls copied : List Literal) (rs : List Entry)
    → kept ≡ kept_after p.signature d (effects_of p i)
    → copied ≡ ls
    → five.kf ≡ added literal_cmp kept.kf ls
    → five.kx ≡ kept.kx
    → five.lcw ≡ added entry_cmp kept.lcw rs
    → PutsIn p.signature d (effects_of p i) kept copied five
put_in_from p d i kept five ls copied rs k c kf kx lcw = record { kept = k; literals = kf ∙ (λ j. added literal_cmp kept.kf (sym c j)); groups = kx; more = rs; regions = lcw }

pub step_progress : (p : Problem) (d five : Five) (i : Instance) (o : Outcome)
    → five ≡ progressed p.signature d (schema_of p i.action) i.arguments
    → Closes p.signature five o
    → Progress p.signature d (schema_of p i.action) i o
step_progress p d five i o same closes = subst (λ f. Closes p.signature f o) same closes

pub step_moment : (p : Problem) (d : Five) (i : Instance) (o : Outcome)
    → IsValid p
    → IsMomentOf p.signature d
    → IsIn i (instances p d)
    → Progress p.signature d (schema_of p i.action) i o
    → IfNext (IsMomentOf p.signature) o
step_moment p d i (Next e) v m chosen progress = action_moment p v d e i m (choice_of p d i m.of chosen) progress
step_moment p d i (Clash l) v m chosen progress = tt

pub step_true : (p : Problem) (d : Five) (i : Instance) (o : Outcome)
    → IsValid p
    → IsIn i (instances p d)
    → AreJustified (schema_of p i.action)
    → Progress p.signature d (schema_of p i.action) i o
    → (w w' : World)
    → IsTrueOf p.signature w w' d
    → observations p (after_action p w (grounded w i)) (grounded w i) ≡ observations p (after_action p w' (grounded w' i)) (grounded w' i)
    → IsNextWith (IsTrueOf p.signature (after_action p w (grounded w i)) (after_action p w' (grounded w' i))) o
step_true p d i o v chosen justified progress w w' m seen =
    let r = action_true p w w' d i o (valid_typed p v) m chosen justified seen progress in
    subst (IsNextWith (IsTrueOf p.signature (after_action p w (grounded w i)) (after_action p w' (grounded w' i)))) (sym r.1) r.2
