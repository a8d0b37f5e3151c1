-- Dialogues whose answers are what is so in a world.
use Rattle.std.specs.Prelude.{◌≡◌, true, List, ◌++◌}
use Rattle.pks_terms.specs.Sets.{Each}
use Rattle.pks_terms.specs.Worlds.{World}
use Rattle.pks_terms.specs.Problems.{Problem}
use Rattle.pks_terms.specs.Trees.{Tree}
use Rattle.pks_terms.specs.Knowledge.{Ending, Event, run_of}
use Rattle.pks_terms.specs.Printed.{Text, Names}
use Rattle.pks_terms.specs.Talk.{Talked, Over, talk, statements, run_statements, world_answers, is_short}
use Rattle.pks_exec.specs.Runs.{EndsWith}

-- the name of each object may be an answer
abbrev pub AreShort : Names → Type 0
AreShort names = Each (λ name. is_short name ≡ true) names.objects

-- the actions and the end that are told are those of the run, and these answers are left
pub record TellsRun (names : Names) (talked : Talked) (events : List Event) (rest : List Text) : Type 0 where
  pub statements : statements talked ≡ run_statements names events
  pub ends : (x : Ending) × (talked.end ≡ Over x) × EndsWith x events
  pub left : talked.left ≡ rest

-- so in the dialogue of the tree with the answers of the world, whatever answers follow
abbrev pub LeadsAlong : Problem → Names → Tree → World → Type 0
LeadsAlong p names t w = (rest : List Text) → TellsRun names (talk p.signature names t (world_answers p names t w ++ rest)) (run_of p t w) rest
