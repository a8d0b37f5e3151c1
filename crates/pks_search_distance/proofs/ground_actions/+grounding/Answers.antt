use Rattle.std.proofs.Common.{◌≡◌, ◌-◌, ℕ, List, ◌++◌, ◌∷◌, [], map, flat_map, take, drop, get_or, length, sym, ap, ◌∙◌}
use Rattle.pks_terms.specs.declared.ids.ObjId.{ObjId}
use Rattle.pks_terms.specs.declared.ids.TypeId.{TypeId}
use Rattle.pks_terms.specs.Signatures.{objects_of}
use Rattle.pks_terms.specs.Syntax.{Object, Inner}
use Rattle.pks_terms.specs.Views.{object_of, given_of, types_of, schema_of, signature_of}
use Rattle.pks_search_distance.specs.Relaxed.{ground_actions_from}
use Rattle.pks_search_distance.specs.Gained.{ground_action_of}
use Rattle.pks_search_distance.proofs.Lists.{added_more, added_all, first_and_others}
use Rattle.pks_search_distance.proofs.ground_actions.+grounding.Goals as goal

pub add_each_ground_action-loop-d-preserved : goal.add_each_ground_action-loop-d-preserved
add_each_ground_action-loop-d-preserved t c =
    let after = λ (given : List Inner). ground_actions_from (signature_of c.args.s.now) (schema_of c.args.schema.now) given (types_of c.args.params.now) in
    let g = λ (d : ℕ). after (given_of c.args.given.now ++ Object d ∷ []) in
    record {
      says = added_more object_of g c.args.objects.now (map ground_action_of c.args.to.now.items) c.loop-d.d-index _ (map ground_action_of c.loop-d.to.items) (map ground_action_of c.add_ground_actions.new.to.items) c.loop-d-test.true
          (c.in_ok-add_ground_actions.ensures.says ∙ ap (λ given. map ground_action_of c.loop-d.to.items ++ after given) c.with.ensures.given) c.loop-d.invariant.says;
      placed = c.in_ok-add_ground_actions.ensures.placed;
    }

pub add_each_ground_action-returns-clause-says : goal.add_each_ground_action-returns-clause-says
add_each_ground_action-returns-clause-says t c =
    let g = λ (d : ℕ). ground_actions_from (signature_of c.args.s.now) (schema_of c.args.schema.now) (given_of c.args.given.now ++ Object d ∷ []) (types_of c.args.params.now) in
    added_all object_of g c.args.objects.now (map ground_action_of c.args.to.now.items) c.loop-d.d-index (map ground_action_of c.loop-d.to.items) c.loop-d-test.false c.loop-d.invariant.says

pub add_ground_actions-returns-in_ok-add_each_ground_action-in-len1-up-clause-says : goal.add_ground_actions-returns-in_ok-add_each_ground_action-in-len1-up-clause-says
add_ground_actions-returns-in_ok-add_each_ground_action-in-len1-up-clause-says t c =
    let s = signature_of c.args.s.now in
    let sc = schema_of c.args.schema.now in
    let given = given_of c.args.given.now in
    let params = c.args.params.now in
    let first : TypeId = get_or params 0 (record { 0 = 0 }) in
    let rest = types_of (take (length params - 1) (drop 1 params)) in
    let old = map ground_action_of c.args.to.now.items in
    let each : map object_of c.as_slice.result.now ≡ objects_of s first.0 = ap (λ (xs : List ObjId). map object_of xs) c.as_slice.ensures.value ∙ c.in_ok-objects-in-len1-up.ensures in
    let split : types_of params ≡ first.0 ∷ rest = first_and_others (λ (t : TypeId). t.0) params (record { 0 = 0 }) c.in-len1-up.len_at_least in
    c.in_ok-add_each_ground_action-in-len1-up.ensures.says
    ∙ ap (λ (ds : List ℕ). old ++ flat_map (λ d. ground_actions_from s sc (given ++ Object d ∷ []) rest) ds) each
    ∙ ap (λ (tys : List ℕ). old ++ ground_actions_from s sc given tys) (sym split)
