-- The program's effects, as the definitions have them.
use Rattle.std.specs.Prelude.{Bool, false, cond, not, ◌||◌, ◌&&◌, List, [], ◌∷◌, map, Option, option_map}
use Rattle.std.specs.List.{list_any, list_all}
use Rattle.pks_terms.specs.declared.term.Inner as inner
use Rattle.pks_terms.specs.declared.term.Term as term
use Rattle.pks_terms.specs.declared.schema.Effect.{Effect as DEffect}
use Rattle.pks_terms.specs.Syntax.{Inner, Term, Literal, negated}
use Rattle.pks_terms.specs.Orders.{literal_eq}
use Rattle.pks_terms.specs.Queries.{Plain}
use Rattle.pks_terms.specs.Justified.{is_given_whether, is_given_either_way}
use Rattle.pks_terms.specs.declared.schema.Sense as sense
use Rattle.pks_terms.specs.Actions.{Effect, Sense}
use Rattle.pks_terms.specs.Views.{inner_of, term_of, effect_of, sense_of}

-- the slots of a pattern
abbrev pub slots_of : List (Option term.Term) → List (Option Term)
slots_of ss = map (option_map term_of) ss

-- the arguments of a place
abbrev pub inners_of : List inner.Inner → List Inner
inners_of ts = map inner_of ts

-- the effects of a list
abbrev pub effects_of : List DEffect → List Effect
effects_of es = map effect_of es

-- the senses of a list
abbrev pub senses_of : List sense.Sense → List Sense
senses_of xs = map sense_of xs

-- the literal is this one or its negation
abbrev pub is_this_or_negation : Literal → Literal → Bool
is_this_or_negation m l = literal_eq m l || literal_eq m (negated l)

-- the condition is given as a whole, or each of its literals either way
abbrev pub knows_condition : List Plain → List Literal → Bool
knows_condition g c = is_given_whether g c || list_all (is_given_either_way g) c

-- one element passes p, and d holds of it
abbrev pub only_one : {X : Type 0} → (X → Bool) → (X → Bool) → List X → Bool
only_one p d [] = false
only_one p d (x ∷ xs) = cond (p x) (not (list_any p xs) && d x) (only_one p d xs)
