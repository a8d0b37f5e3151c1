-- What may be so in a relaxed world, and what actions may make so in it.
use Rattle.std.specs.Prelude.{ℕ, zero, suc, Bool, true, false, ◌==◌, ◌≡◌, List, [], ◌∷◌, ◌++◌, map, if◌then◌else◌}
use Rattle.std.specs.List.{list_any, list_all, flat_map}
use Rattle.std.specs.Option.{option_map_or, option_to_list}
use Rattle.pks_terms.specs.Sets.{IsIn}
use Rattle.pks_terms.specs.Syntax.{Object, Parameter, Apply, Inner, Term, place, Relation, Named, Equality, Literal, Atom}
use Rattle.pks_terms.specs.Signatures.{Signature, objects_of}
use Rattle.pks_terms.specs.Worlds.{World, signed}
use Rattle.pks_terms.specs.Queries.{Query}
use Rattle.pks_terms.specs.Actions.{Target, Set, Unset, Clear, Assign, Effect, Schema, Instance, query_at, effect_at}
use Rattle.pks_terms.specs.Problems.{Aim, Now, AtStart, Always, Once, Problem, schema_of}
use Rattle.pks_terms.specs.Knowledge.{after_action}
use Rattle.pks_world.specs.Contents.{ground}
use Rattle.pks_search_distance.specs.Runs.{asked, MayBeDone}
use Rattle.pks_search_distance.specs.Levels.{Chances}

-- ---- values and truths

-- these objects with, behind them, one value of each of the others
abbrev pub tuples : {A : Type 0} → (A → List ℕ) → List ℕ → List A → List (List ℕ)
tuples values ds [] = ds ∷ []
tuples values ds (t ∷ ts) = flat_map (λ d. tuples values (ds ++ d ∷ []) ts) (values t)

-- the values that an argument may have
abbrev pub inner_values : Chances → Inner → List ℕ
inner_values m (Object d) = d ∷ []
inner_values m (Parameter i) = 0 ∷ []
inner_values m (Apply f ds) = m.values f ds

-- the values that a term may have
abbrev pub term_values : Chances → Term → List ℕ
term_values m (Object d) = d ∷ []
term_values m (Parameter i) = 0 ∷ []
term_values m (Apply f ts) = flat_map (m.values f) (tuples (inner_values m) [] ts)

-- the relation may hold of the terms, or may not
abbrev pub may_relate : Chances → Bool → Relation → List Term → Bool
may_relate m b (Named p) ts = list_any (m.truth b p) (tuples (term_values m) [] ts)
may_relate m b Equality (t ∷ u ∷ []) = list_any (λ d. list_any (λ e. signed b (d == e)) (term_values m u)) (term_values m t)
may_relate m b Equality ts = true

-- the literal may be true
abbrev pub may : Chances → Literal → Bool
may m l = may_relate m l.positive l.relation l.arguments

-- what the query asks for may be so
abbrev pub query_may : Chances → Query → Bool
query_may m q = option_map_or (may m) (asked q) true

-- what an aim of the last moment asks for may be so
abbrev pub aim_may : Chances → Aim → Bool
aim_may m (Now q) = query_may m q
aim_may m (AtStart q) = true
aim_may m (Always q) = true
aim_may m (Once q) = true

-- ---- what actions may make so

-- an atom is true, or false; a place has a value; each atom of a predicate is false
pub data New : Type 0 where
  NewTruth : Bool → Atom → New
  NewValue : Term → ℕ → New
  NewFalse : ℕ → New

-- what making the atom true, or false, may make so
abbrev pub atom_news : Chances → Bool → Atom → List New
atom_news m b a = map (λ ds. NewTruth b (ground a.predicate ds)) (tuples (term_values m) [] a.arguments)

-- what giving f at the arguments the value may make so
abbrev pub place_news : Chances → ℕ → List Inner → Term → List New
place_news m f ts value = flat_map (λ ds. map (NewValue (place f ds)) (term_values m value)) (tuples (inner_values m) [] ts)

-- what the target may make so
abbrev pub news : Chances → Target → List New
news m (Set a) = atom_news m true a
news m (Unset a) = atom_news m false a
news m (Clear x) = NewFalse x.predicate ∷ []
news m (Assign f ts value) = place_news m f ts value

-- what the effect may make so
abbrev pub effect_news : Chances → Effect → List New
effect_news m e = if list_all (may m) e.condition then news m e.target else []

-- a ground action: the literals that it asks for, and its effects
pub record GroundAction : Type 0 where
  pub pre : List Literal
  pub effects : List Effect

-- what the ground action may make so
abbrev pub ground_action_news : Chances → GroundAction → List New
ground_action_news m x = if list_all (may m) x.pre then flat_map (effect_news m) x.effects else []

-- it may be so
abbrev pub IsNewIn : Chances → New → Type 0
IsNewIn m (NewTruth b a) = (p : ℕ) (ds : List ℕ) → a ≡ ground p ds → m.truth b p ds ≡ true
IsNewIn m (NewValue t d) = (f : ℕ) (ds : List ℕ) → t ≡ place f ds → IsIn d (m.values f ds)
IsNewIn m (NewFalse p) = (ds : List ℕ) → m.truth false p ds ≡ true

-- ---- ground actions

-- the literals that the queries ask for, with arguments put in
abbrev pub asked_at : List Inner → List Query → List Literal
asked_at given qs = flat_map (λ q. option_to_list (asked (query_at given q))) qs

-- the action with these arguments
abbrev pub ground_action_with : Schema → List Inner → GroundAction
ground_action_with sc given = record { pre = asked_at given sc.pre; effects = map (effect_at given) sc.effects }

-- those whose arguments begin with these
abbrev pub ground_actions_from : Signature → Schema → List Inner → List ℕ → List GroundAction
ground_actions_from s sc given [] = ground_action_with sc given ∷ []
ground_actions_from s sc given (a ∷ tys) = flat_map (λ d. ground_actions_from s sc (given ++ Object d ∷ []) tys) (objects_of s a)

-- all of the action
abbrev pub all_ground_actions : Signature → Schema → List GroundAction
all_ground_actions s sc = ground_actions_from s sc [] sc.parameters

-- the ground action that an instance is
abbrev pub ground_action_of_instance : Problem → Instance → GroundAction
ground_action_of_instance p i = ground_action_with (schema_of p i.action) i.arguments

-- so many ground actions that may be done one after another lead from the world to the other one
abbrev pub Leads : Problem → World → ℕ → World → Type 0
Leads p w zero v = w ≡ v
Leads p w (suc n) v = (u : World) × (i : Instance) × Leads p w n u × MayBeDone p u i × (after_action p u i ≡ v)
