-- What the program's effects say.
use Rattle.std.specs.Prelude.{List, map}
use Rattle.pks_terms.specs.Actions.{Effect, effect_at}
use Rattle.pks_terms.specs.Views.{effect_of, given_of}
use Rattle.pks_progress_interference.specs.declared.effects.Effects.{Effects}

-- the effects with the arguments put in
abbrev pub effects_in : Effects → List Effect
effects_in es = map (effect_at (given_of es.instance.now)) (map effect_of es.written.now)
