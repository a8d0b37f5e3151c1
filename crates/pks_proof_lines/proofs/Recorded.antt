-- What stands in the databases of a history that is true of a world is so in the worlds of its moments.
use Rattle.std.proofs.Common.{◌≡◌, ℕ, zero, suc, List, [], ◌∷◌, ◌++◌, take, map, slice_get, Some, None, refl, subst}
use Rattle.std.specs.Option.{option_map_or}
use Rattle.std.proofs.lemmas.Option.{none-some, same_Some}
use Rattle.pks_terms.specs.Sets.{Each}
use Rattle.pks_terms.specs.Worlds.{World}
use Rattle.pks_terms.specs.Databases.{Five}
use Rattle.pks_terms.specs.Meaning.{IsTrueIn}
use Rattle.pks_terms.specs.Actions.{Instance}
use Rattle.pks_terms.specs.Problems.{Problem}
use Rattle.pks_terms.specs.Settling.{History}
use Rattle.pks_terms.specs.Remembering.{TrueAlong, deeds_of}
use Rattle.pks_terms.proofs.ListLaws.{each_append, each_map}
use Rattle.pks_terms.specs.Proofs.{FactLit, FactKx, FactLcw, IsFactOf}
use Rattle.pks_terms.specs.Knowledge.{grounded, after_action}
use Rattle.pks_proof_lines.proofs.Along.{present}
use Rattle.pks_terms.specs.Judging.{IsRight, facts_in, by_databases}

facts_true : (p : Problem) (w : World) (d : Five) → IsTrueIn p.signature w d → Each (IsFactOf w) (facts_in d)
facts_true p w d m =
    each_append (IsFactOf w) (map FactLit d.kf) (map FactKx d.kx ++ map FactLcw d.lcw) (each_map (IsFactOf w) FactLit d.kf m.known)
    (each_append (IsFactOf w) (map FactKx d.kx) (map FactLcw d.lcw) (each_map (IsFactOf w) FactKx d.kx m.groups) (each_map (IsFactOf w) FactLcw d.lcw m.regions))

moment_true : (p : Problem) (w : World) (d : Five) (steps : List (Instance × Five)) → TrueAlong p w d steps → (m : ℕ) (e : Five) → slice_get (d ∷ map (λ (step : Instance × Five). step.1) steps) m ≡ Some e → IsTrueIn p.signature (present p w (take m (deeds_of steps))) e
moment_true p w d [] t zero e h = subst (IsTrueIn p.signature w) (same_Some d e h) t
moment_true p w d [] t (suc m) e h = absurd (none-some e h)
moment_true p w d (step ∷ steps) t zero e h = subst (IsTrueIn p.signature w) (same_Some d e h) t.0
moment_true p w d (step ∷ steps) t (suc m) e h = moment_true p (after_action p w (grounded w step.0)) step.1 steps t.1 m e h

pub databases_right : (p : Problem) (w : World) (h : History) → TrueAlong p w h.start h.steps → IsRight (by_databases h) (λ m. present p w (take m (deeds_of h.steps)))
databases_right p w h t m =
    elim (slice_get (h.start ∷ map (λ (step : Instance × Five). step.1) h.steps) m) as (λ o. slice_get (h.start ∷ map (λ (step : Instance × Five). step.1) h.steps) m ≡ o → Each (IsFactOf (present p w (take m (deeds_of h.steps)))) (option_map_or facts_in o [])) [
      | None ↦ λ q. tt
      | Some e ↦ λ q. facts_true p (present p w (take m (deeds_of h.steps))) e (moment_true p w h.start h.steps t m e q)
    ] refl
