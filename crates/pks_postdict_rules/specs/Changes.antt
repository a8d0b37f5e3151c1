-- What the program's changes say.
use Rattle.std.specs.Prelude.{List, map}
use Rattle.pks_terms.specs.declared.schema.Effect.{Effect as DEffect}
use Rattle.pks_terms.specs.Syntax.{Inner}
use Rattle.pks_terms.specs.Signatures.{Signature}
use Rattle.pks_terms.specs.Databases.{Five}
use Rattle.pks_terms.specs.Actions.{Effect, effect_at}
use Rattle.pks_terms.specs.Views.{effect_of, given_of, signature_of}
use Rattle.pks_query_lookup.specs.Fives.{five_of}
use Rattle.pks_progress_interference.specs.EffectViews.{effects_in}
use Rattle.pks_postdict_rules.specs.declared.change.Change.{Change}

-- the signature
abbrev pub signature_in : Change → Signature
signature_in c = signature_of c.signature.now

-- the databases before
abbrev pub before_in : Change → Five
before_in c = five_of c.before.now

-- the arguments of the instance
abbrev pub given_in : Change → List Inner
given_in c = given_of c.effects.instance.now

-- all effects, the arguments put in
abbrev pub effects_by : Change → List Effect
effects_by c = effects_in c.effects

-- some of the effects, the arguments put in
abbrev pub some_effects : Change → List DEffect → List Effect
some_effects c es = map (effect_at (given_in c)) (map effect_of es)
