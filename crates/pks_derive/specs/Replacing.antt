-- Adds in place of an action's own.
use Rattle.std.specs.Prelude.{List}
use Rattle.pks_terms.specs.Actions.{Add, Schema}

-- the action with these adds in place of its own
abbrev pub with_adds : Schema → List Add → Schema
with_adds sc adds = record sc { adds = adds }
