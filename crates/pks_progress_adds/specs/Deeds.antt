-- An action as it is done, read as the definitions have it.
use Rattle.std.specs.Prelude.{Bool, List, [], map, Option, if◌then◌else◌}
use Rattle.std.specs.List.{cons_option, filter, flat_map}
use Rattle.pks_terms.specs.declared.schema.Adds.{Adds}
use Rattle.pks_terms.specs.Syntax.{Object, Parameter, Apply, Inner, Term, Literal}
use Rattle.pks_terms.specs.Signatures.{Signature}
use Rattle.pks_terms.specs.Databases.{Entry, Five, inner_normal}
use Rattle.pks_terms.specs.Actions.{Add, Effect, Schema, effect_at}
use Rattle.pks_terms.specs.Justified.{case_of}
use Rattle.pks_terms.specs.Progress.{is_applied_in, literals_added, formulas_added, values_added, regions_added}
use Rattle.pks_terms.specs.Views.{given_of, schema_of, signature_of, add_of}
use Rattle.pks_query_lookup.specs.Fives.{five_of}
use Rattle.pks_justify.specs.Places.{AssignToPlaces}
use Rattle.pks_progress_adds.specs.declared.deed.Deed.{Deed}

-- the signature that it is done under
abbrev pub signature_in : Deed → Signature
signature_in x = signature_of x.signature.now

-- the databases before it
abbrev pub five_in : Deed → Five
five_in x = five_of x.before.now

-- its text
abbrev pub schema_in : Deed → Schema
schema_in x = schema_of x.schema.now

-- the arguments as chosen
abbrev pub chosen_in : Deed → List Inner
chosen_in x = given_of x.chosen.now

-- the arguments in normal form
abbrev pub normals_in : Deed → List Inner
normals_in x = given_of x.normal.now

-- the effects, the arguments as chosen put in
abbrev pub effects_in : Deed → List Effect
effects_in x = map (effect_at (chosen_in x)) (schema_in x).effects

-- each assignment is to a function at its arguments
abbrev pub AssignsToPlaces : Deed → Type 0
AssignsToPlaces x = AssignToPlaces x.schema.now.effects

-- what there is, as a list
abbrev pub listed : {X : Type 0} → Option X → List X
listed o = cons_option o []

-- a term with its arguments in normal form
abbrev pub with_normal_arguments : List Literal → Term → Term
with_normal_arguments kf (Object d) = Object d
with_normal_arguments kf (Parameter i) = Parameter i
with_normal_arguments kf (Apply f ts) = Apply f (map (inner_normal kf) ts)

-- the add is applied: its own queries are answered
abbrev pub is_applied : Deed → Add → Bool
is_applied x = is_applied_in (signature_in x) (five_in x) (chosen_in x)

-- the known literals that an add gives, if it is applied
abbrev pub literals_from : Deed → Add → List Literal
literals_from x a = literals_added (signature_in x) (five_in x) (effects_in x) (chosen_in x) (schema_in x) a a.item

-- the formulas that an add gives, if it is applied
abbrev pub formulas_from : Deed → Add → List (List Literal)
formulas_from x a = formulas_added (signature_in x) (five_in x) (effects_in x) (chosen_in x) (normals_in x) (case_of (schema_in x) a) a.item

-- the terms with a known value that an add gives, if it is applied
abbrev pub values_from : Deed → Add → List Term
values_from x a = values_added (signature_in x) (five_in x) (effects_in x) (chosen_in x) (normals_in x) (case_of (schema_in x) a) a.item

-- the closed regions that an add gives, if it is applied
abbrev pub regions_from : Deed → Add → List Entry
regions_from x a = regions_added (signature_in x) (five_in x) (effects_in x) (chosen_in x) a.item

-- what the add gives, or nothing where it isn't applied
abbrev pub if_applied : {X : Type 0} → (Deed → Add → List X) → Deed → Add → List X
if_applied gives x a = if is_applied x a then gives x a else []

-- what the adds give
abbrev pub given_by : {X : Type 0} → (Deed → Add → List X) → Deed → List Adds → List X
given_by gives x adds = flat_map (gives x) (filter (is_applied x) (map add_of adds))
