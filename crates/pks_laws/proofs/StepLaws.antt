-- The laws on steps of a run, put together.
use Rattle.std.proofs.Common.{◌≡◌, map, sym, ◌∙◌, subst}
use Rattle.pks_terms.specs.Sets.{IsIn}
use Rattle.pks_terms.specs.Signatures.{Signature}
use Rattle.pks_terms.specs.Worlds.{World}
use Rattle.pks_terms.specs.Databases.{Five}
use Rattle.pks_terms.specs.Meaning.{IsWorld, IsTrueOf}
use Rattle.pks_terms.specs.Closure.{Outcome, Next}
use Rattle.pks_terms.specs.Actions.{Instance, sense_at, applied_to, observed}
use Rattle.pks_terms.specs.Progress.{progressed, Progress}
use Rattle.pks_terms.specs.Problems.{Problem, schema_of}
use Rattle.pks_terms.specs.Typed.{IsTyped, AreJustified}
use Rattle.pks_terms.specs.Branching.{instances, Choice, Side, IsSo, IsMember, assumed, Assumes}
use Rattle.pks_terms.specs.Settling.{effects_of}
use Rattle.pks_terms.specs.Knowledge.{grounded, after_action, observations}
use Rattle.pks_laws.proofs.Tidying.{closed_true}
use Rattle.pks_laws.proofs.Deciding.{progressed_true}
use Rattle.pks_laws.proofs.Assuming.{so_too, assumed_true}
use Rattle.pks_laws.proofs.Instances.{allowed_instance, arguments_alike, argument_alike}
use Rattle.pks_laws.proofs.Doing.{effects_do, grounded_alike}
use Rattle.pks_laws.proofs.Staying.{worlds_stay}

-- an action that is a choice, all of whose adds are justified, keeps databases true of two worlds in which the same is seen after it
pub action_true : (p : Problem) (w w' : World) (d : Five) (i : Instance) (o : Outcome) → IsTyped p → IsTrueOf p.signature w w' d → IsIn i (instances p d) → AreJustified (schema_of p i.action)
    → observations p (after_action p w (grounded w i)) (grounded w i) ≡ observations p (after_action p w' (grounded w' i)) (grounded w' i) → Progress p.signature d (schema_of p i.action) i o
    → (e : Five) × (o ≡ Next e) × IsTrueOf p.signature (after_action p w (grounded w i)) (after_action p w' (grounded w' i)) e
unfolding observations
action_true p w w' d i o typed m chosen justified seen progress =
    let args = arguments_alike w w' p d m.values i chosen in
    let same = effects_do p w i in
    let same' = effects_do p w' i in
    let sc = schema_of p i.action in
    let seen_alike = (λ j. observed p.signature (same j) (map (sense_at (grounded w i).arguments) sc.senses)) ∙ seen ∙ (λ j. observed p.signature (sym same' j) (map (sense_at (sym (grounded_alike w w' i args) j).arguments) sc.senses)) in
    let r = closed_true p.signature (applied_to w (effects_of p i)) (applied_to w' (effects_of p i)) (progressed p.signature d sc i.arguments)
    (progressed_true p.signature w w' d m i.arguments sc (argument_alike w w' i.arguments args) (allowed_instance p d i chosen).0 justified
    (subst (IsWorld p.signature) (sym same) (worlds_stay p typed w d i m.first.world m.first chosen)) (subst (IsWorld p.signature) (sym same') (worlds_stay p typed w' d i m.second.world m.second chosen)) seen_alike) o progress in
    (r.0, r.1, subst (λ (v : World). IsTrueOf p.signature v (after_action p w' (grounded w' i)) r.0) same (subst (λ (v : World). IsTrueOf p.signature (applied_to w (effects_of p i)) v r.0) same' r.2))

-- the side that is so in one world is so in the other, and assumed it keeps databases true of both
pub side_true : (s : Signature) (w w' : World) (d : Five) (c : Choice) (side : Side) (o : Outcome) → IsTrueOf s w w' d → IsMember d c → IsSo w c side → Assumes s d c side o → IsSo w' c side × ((e : Five) × (o ≡ Next e) × IsTrueOf s w w' e)
side_true s w w' d c side o m member so a = (so_too w w' d m c side member so, closed_true s w w' (assumed s d c side) (assumed_true w w' d m c side member so) o a)
