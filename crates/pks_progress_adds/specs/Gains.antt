-- What the adds of an action give, in the order of the adds.
use Rattle.std.specs.Prelude.{List, [], map}
use Rattle.std.specs.List.{filter, flat_map}
use Rattle.pks_terms.specs.Syntax.{Inner, Term, Literal}
use Rattle.pks_terms.specs.Signatures.{Signature}
use Rattle.pks_terms.specs.Databases.{Entry, Five, inner_normal}
use Rattle.pks_terms.specs.Actions.{Add, Instance, Schema, effect_at}
use Rattle.pks_terms.specs.Problems.{Problem, schema_of}
use Rattle.pks_terms.specs.Justified.{case_of}
use Rattle.pks_terms.specs.Progress.{is_applied_in, literals_added, formulas_added, values_added, regions_added}

-- the adds whose own queries are answered
abbrev pub adds_applied : Signature → Five → Schema → List Inner → List Add
adds_applied s d sc given = filter (is_applied_in s d given) sc.adds

-- the known literals that an action's adds give at these arguments
abbrev pub literals_by : Signature → Five → Schema → List Inner → List Literal
literals_by s d sc given = let es = map (effect_at given) sc.effects in flat_map (λ a. literals_added s d es given sc a a.item) (adds_applied s d sc given)

-- the formulas that an action's adds give at these arguments
abbrev pub formulas_by : Signature → Five → Schema → List Inner → List (List Literal)
formulas_by s d sc given =
    let es = map (effect_at given) sc.effects in
    let normals = map (inner_normal d.kf) given in
    flat_map (λ a. formulas_added s d es given normals (case_of sc a) a.item) (adds_applied s d sc given)

-- the terms that an action's adds give at these arguments
abbrev pub values_by : Signature → Five → Schema → List Inner → List Term
values_by s d sc given =
    let es = map (effect_at given) sc.effects in
    let normals = map (inner_normal d.kf) given in
    flat_map (λ a. values_added s d es given normals (case_of sc a) a.item) (adds_applied s d sc given)

-- the regions that an action's adds give at these arguments
abbrev pub regions_by : Signature → Five → Schema → List Inner → List Entry
regions_by s d sc given = let es = map (effect_at given) sc.effects in flat_map (λ a. regions_added s d es given a.item) (adds_applied s d sc given)

-- what stands for an action that isn't declared
abbrev pub undeclared : Schema
undeclared = record { cost = 1; parameters = []; pre = []; effects = []; senses = []; adds = [] }

-- the known literals that the adds of an instance's action give
abbrev pub literals_gained : Problem → Five → Instance → List Literal
literals_gained p d i = literals_by p.signature d (schema_of p i.action) i.arguments

-- the formulas that the adds of an instance's action give
abbrev pub formulas_gained : Problem → Five → Instance → List (List Literal)
formulas_gained p d i = formulas_by p.signature d (schema_of p i.action) i.arguments

-- the terms that the adds of an instance's action give
abbrev pub values_gained : Problem → Five → Instance → List Term
values_gained p d i = values_by p.signature d (schema_of p i.action) i.arguments

-- the regions that the adds of an instance's action give
abbrev pub regions_gained : Problem → Five → Instance → List Entry
regions_gained p d i = regions_by p.signature d (schema_of p i.action) i.arguments
