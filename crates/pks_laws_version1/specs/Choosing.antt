-- Actions, choices and sides by the rules of the first version: what stands for a parameter is of its very type.
use Rattle.std.specs.Prelude.{ℕ, Bool, false, not, ◌&&◌, ◌==◌, nat_le, length, List, map, ◌++◌, None, if◌then◌else◌}
use Rattle.std.specs.List.{filter, filter_map, flat_map}
use Rattle.std.specs.Option.{option_map_or}
use Rattle.pks_terms.specs.Sets.{choices_from}
use Rattle.pks_terms.specs.Syntax.{Form, Object, Inner, Term, object}
use Rattle.pks_terms.specs.Orders.{inequation}
use Rattle.pks_terms.specs.Signatures.{Signature, type_of}
use Rattle.pks_terms.specs.Databases.{Five, holds}
use Rattle.pks_terms.specs.Closure.{Outcome}
use Rattle.pks_terms.specs.Actions.{Schema, Instance}
use Rattle.pks_terms.specs.Progress.{progressed}
use Rattle.pks_terms.specs.Problems.{Problem}
use Rattle.pks_terms.specs.Branching.{as_inner, is_allowed, numbered, is_undecided, Choice, Act, BranchOn, CasesOn, Side, assumed}
use Rattle.pks_laws_version1.specs.LookingUp.{without_functions}
use Rattle.pks_laws_version1.specs.Closing.{objects_of, range_of, Closes}

-- the databases after an action, closed
abbrev pub Progress : Signature → Five → Schema → Instance → Outcome → Type 0
Progress s d sc i o = Closes s (progressed (without_functions s) d sc i.arguments) o

-- the term is of this type
abbrev pub has_type : {A : Type 0} → Signature → Form A → ℕ → Bool
has_type s t wanted = option_map_or (λ own. own == wanted) (type_of s t) false

-- what may stand for a parameter: the objects of its type, and known values of that type
abbrev pub candidates : Signature → Five → ℕ → List Inner
candidates s d wanted =
    map Object (objects_of s wanted) ++ filter_map (λ t. if has_type s t wanted then as_inner t else None) d.kv

-- the instances of an action whose preconditions are answered, in order
abbrev pub instances_at : Signature → Five → ℕ × Schema → List Instance
instances_at s d a = map (λ given. record { action = a.0; arguments = given }) (filter (is_allowed (without_functions s) d a.1) (choices_from (map (candidates s d) a.1.parameters)))

-- all instances that are choices, by action and then by arguments
abbrev pub instances : Problem → Five → List Instance
instances p d = flat_map (instances_at p.signature d) (numbered 0 p.schemas)

-- the objects left as the value of a term
abbrev pub left : Signature → Five → Term → List ℕ
left s d t = filter (λ e. not (holds (without_functions s) d (inequation t (object e)))) (range_of s t)

-- from 1 to 16 objects are left
abbrev pub may_split : Signature → Five → Term → Bool
may_split s d t = let n = length (left s d t) in nat_le 1 n && nat_le n 16

-- all choices, in the order of trees
abbrev pub choices : Problem → Five → List Choice
choices p d = map Act (instances p d) ++ (map BranchOn (filter (is_undecided (without_functions p.signature) d) d.kw) ++ map CasesOn (filter (may_split p.signature d) d.kv))

-- the databases with a side assumed, closed
abbrev pub Assumes : Signature → Five → Choice → Side → Outcome → Type 0
Assumes s d c side o = Closes s (assumed (without_functions s) d c side) o
