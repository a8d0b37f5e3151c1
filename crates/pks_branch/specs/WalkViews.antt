-- What a walk over the choices has still to give.
use Rattle.std.specs.Prelude.{List, map, ◌++◌, reverse, drop}
use Rattle.std.specs.List.{flat_map}
use Rattle.pks_terms.specs.Branching.{Choice, Act}
use Rattle.pks_terms.specs.Actions.{Instance}
use Rattle.pks_terms.specs.Databases.{Five}
use Rattle.pks_terms.specs.Problems.{Problem}
use Rattle.pks_terms.specs.Views.{instance_of}
use Rattle.pks_terms.specs.declared.schema.Instance.{Instance as DInstance}
use Rattle.pks_terms.specs.ChoiceViews.{choices_of}
use Rattle.pks_branch.specs.Walks.{begun}
use Rattle.pks_branch.specs.declared.taking.Walk.{Walk}

-- the beginnings that are still to be gone through, of which the next one is kept last
abbrev pub beginnings_of : List DInstance → List Instance
beginnings_of is = reverse (map instance_of is)

-- the choices that a walk has still to give, in order
abbrev pub left_in : Problem → Five → Walk → List Choice
left_in p d w = map Act (flat_map (begun p d) (beginnings_of w.beginnings.items)) ++ choices_of (drop w.given w.others.items)
