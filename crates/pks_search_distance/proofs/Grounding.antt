-- The ground actions of a problem are all that may be done.
use Rattle.std.proofs.Common.{◌≡◌, ◌⊎◌, ◌++◌, ◌≤◌, ℕ, zero, suc, List, [], ◌∷◌, map, flat_map, length, slice_get, Some, None, refl, sym, ap, subst, inl, inr, append_assoc, append-nil, arith}
use Rattle.std.specs.Option.{unwrap_or}
use Rattle.std.proofs.lemmas.List.{length-map}
use Rattle.std.proofs.lemmas.Option.{none-some, same_Some}
use Rattle.pks_terms.specs.Sets.{Each, IsIn}
use Rattle.pks_terms.specs.Syntax.{Object, Inner}
use Rattle.pks_terms.specs.Signatures.{Signature, objects_of}
use Rattle.pks_terms.specs.Worlds.{World}
use Rattle.pks_terms.specs.Meaning.{AreOfTypes}
use Rattle.pks_terms.specs.Actions.{Schema, Instance}
use Rattle.pks_terms.specs.Problems.{Problem, schema_of}
use Rattle.pks_terms.specs.Valid.{IsSchemaText}
use Rattle.pks_terms.specs.ValidProblems.{IsValidProblem}
use Rattle.pks_terms.specs.declared.ids.TypeId.{TypeId}
use Rattle.pks_terms.specs.declared.schema.Schema.{Schema as DSchema}
use Rattle.pks_terms.specs.declared.problem.Problem.{Problem as DProblem}
use Rattle.pks_terms.specs.Views.{problem_of}
use Rattle.pks_terms.specs.Views as views
use Rattle.pks_laws.proofs.Least.{in_flat}
use Rattle.pks_search_distance.specs.Runs.{MayBeDone}
use Rattle.pks_search_distance.specs.Relaxed.{ground_action_with, ground_actions_from, all_ground_actions, ground_action_of_instance}

ground_actions_in : (s : Signature) (sc : Schema) (given : List Inner) (tys ds : List ℕ) → AreOfTypes s tys ds → IsIn (ground_action_with sc (given ++ map Object ds)) (ground_actions_from s sc given tys)
ground_actions_in s sc given [] [] k = inl (ap (ground_action_with sc) (sym (append-nil given)))
ground_actions_in s sc given [] (d ∷ ds) k = absurd k
ground_actions_in s sc given (a ∷ tys) [] k = absurd k
ground_actions_in s sc given (a ∷ tys) (d ∷ ds) k =
    in_flat (λ e. ground_actions_from s sc (given ++ Object e ∷ []) tys) (objects_of s a) d (ground_action_with sc (given ++ map Object (d ∷ ds))) k.0
    (subst (λ xs. IsIn (ground_action_with sc xs) (ground_actions_from s sc (given ++ Object d ∷ []) tys)) (append_assoc given (Object d ∷ []) (map Object ds)) (ground_actions_in s sc (given ++ Object d ∷ []) tys ds k.1))

at_place : {X : Type 0} (xs : List X) (k : ℕ) (x : X) → slice_get xs k ≡ Some x → IsIn x xs
at_place [] k x e = absurd (none-some x e)
at_place (y ∷ xs) zero x e = inl (same_Some y x e)
at_place (y ∷ xs) (suc k) x e = inr (at_place xs k x e)

module _ (p : Problem) (v : World) (i : Instance) (m : MayBeDone p v i) where
  abbrev unknown : Schema
  unknown = record { cost = 1; parameters = []; pre = []; effects = []; senses = []; adds = [] }

  abbrev IsDone : Type 0
  IsDone = ((schema_of p i.action).effects ≡ []) ⊎ IsIn (ground_action_of_instance p i) (flat_map (all_ground_actions p.signature) p.schemas)

  declared : (sc : Schema) → slice_get p.schemas i.action ≡ Some sc → IsDone
  declared sc e =
      let same : schema_of p i.action ≡ sc = ap (λ o. unwrap_or o unknown) e in
      let typed : AreOfTypes p.signature sc.parameters m.objects = subst (λ (x : Schema). AreOfTypes p.signature x.parameters m.objects) same m.typed in
      let instance : ground_action_with sc (map Object m.objects) ≡ ground_action_of_instance p i = λ j. ground_action_with (sym same j) (sym m.ground j) in
      inr (in_flat (all_ground_actions p.signature) p.schemas sc (ground_action_of_instance p i) (at_place p.schemas i.action sc e)
      (subst (λ d. IsIn d (all_ground_actions p.signature sc)) instance (ground_actions_in p.signature sc [] sc.parameters m.objects typed)))

  pub done_in : IsDone
  done_in =
      elim (slice_get p.schemas i.action) as (λ o. slice_get p.schemas i.action ≡ o → IsDone) [
        | None ↦ λ e. inl (ap (λ o. (unwrap_or o unknown).effects) e)
        | Some sc ↦ λ e. declared sc e
      ] refl

-- the actions of a valid problem have few parameters
pub few_parameters : (p : DProblem) → IsValidProblem p → Each (λ x. length x.params ≤ 4) p.schemas
few_parameters p v = go p.schemas v.says.schemas.0
  where
    go : (xs : List DSchema) → Each (IsSchemaText (problem_of p).signature) (map views.schema_of xs) → Each (λ x. length x.params ≤ 4) xs
    go [] k = tt
    go (x ∷ xs) k = (
      (let few = k.0.parameters.1 in let counted = length-map x.params (λ (t : TypeId). t.0) in omega arith),
      go xs k.1,
    )
