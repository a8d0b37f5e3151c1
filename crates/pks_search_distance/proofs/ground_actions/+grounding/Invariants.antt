use Rattle.std.proofs.Common.{◌+◌, ◌*◌, ◌++◌, ◌∷◌, [], map, length}
use Rattle.pks_terms.specs.Sets.{Each}
use Rattle.pks_terms.specs.Syntax.{Object}
use Rattle.pks_terms.specs.Views.{object_of, given_of, types_of, schema_of, signature_of}
use Rattle.pks_search_distance.specs.Relaxed.{ground_actions_from}
use Rattle.pks_terms.specs.ValidProblems.{ArePlaced}
use Rattle.pks_search_distance.specs.Gained.{ground_action_of}
use Rattle.pks_search_distance.proofs.Lists.{AddedFrom}
use Rattle.pks_search_distance.proofs.ground_actions.+grounding.Given as goal

abbrev pub decreases-add_ground_actions : goal.decreases-add_ground_actions
decreases-add_ground_actions l = 2 * length l.params.now

abbrev pub decreases-add_each_ground_action : goal.decreases-add_each_ground_action
decreases-add_each_ground_action l = 2 * length l.params.now + 1

abbrev pub invariant-add_each_ground_action-loop-d : goal.invariant-add_each_ground_action-loop-d
invariant-add_each_ground_action-loop-d l = record {
  says : AddedFrom object_of (λ d. ground_actions_from (signature_of l.s) (schema_of l.schema) (given_of l.given ++ Object d ∷ []) (types_of l.params)) l.objects (map ground_action_of l.fn.to.items) l.d-index (map ground_action_of l.to.items);
  placed : Each (λ x. ArePlaced x.effects.items) l.to.items;
}
