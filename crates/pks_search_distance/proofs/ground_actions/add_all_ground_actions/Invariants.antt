use Rattle.std.proofs.Common.{◌++◌, ◌≡◌, ◌≤◌, drop, length, map}
use Rattle.std.specs.List.{flat_map}
use Rattle.pks_terms.specs.Sets.{Each}
use Rattle.pks_terms.specs.ValidProblems.{ArePlaced}
use Rattle.pks_terms.specs.Views.{schema_of, signature_of}
use Rattle.pks_search_distance.specs.Relaxed.{all_ground_actions}
use Rattle.pks_search_distance.specs.Gained.{ground_action_of}
use Rattle.pks_search_distance.proofs.ground_actions.add_all_ground_actions.Given as goal

abbrev pub invariant-loop-schema : goal.invariant-loop-schema
invariant-loop-schema l = record {
  few : Each (λ x. length x.params ≤ 4) (drop l.schema-index l.schemas);
  placed : Each (λ x. ArePlaced x.effects) (drop l.schema-index l.schemas);
  old : Each (λ x. ArePlaced x.effects.items) l.to.items;
  says : map ground_action_of l.to.items ++ flat_map (all_ground_actions (signature_of l.s)) (map schema_of (drop l.schema-index l.schemas)) ≡ map ground_action_of l.fn.to.items ++ flat_map (all_ground_actions (signature_of l.s)) (map schema_of l.schemas);
}
