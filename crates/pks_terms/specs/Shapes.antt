-- The knowledge effects that follow from the text of an action.
use Rattle.std.specs.Prelude.{ℕ, Bool, true, false, not, ◌&&◌, is_some, List, [], ◌∷◌, ◌++◌, map, Option, Some, None, codes, unwrap_or, slice_get}
use Rattle.std.specs.List.{filter, flat_map}
use Rattle.std.specs.Option.{option_map_or}
use Rattle.std.specs.Ordering.{is_eq}
use Rattle.std.specs.Cmp.Lexicographic.{pointwise}
use Rattle.pks_terms.specs.Sets.{first_of_each}
use Rattle.pks_terms.specs.Syntax.{Object, Parameter, Apply, Term, Literal, Atom, affirmed}
use Rattle.pks_terms.specs.Orders.{term_eq, literal_eq, conj_cmp, pattern_cmp}
use Rattle.pks_terms.specs.Queries.{Plain, Know, KnowWhether, KnowValue, Query}
use Rattle.pks_terms.specs.Actions.{Target, Set, Unset, Clear, Assign, Effect, Sense, SenseWhether, SenseValue, SenseAll, Item, ItemKf, ItemKw, ItemKv, ItemLcw, Add, Schema}
use Rattle.pks_terms.specs.Justified.{target_literal, case_of}
use Rattle.pks_terms.specs.Problems.{Problem}
use Rattle.pks_terms.specs.Branching.{numbered}
use Rattle.pks_terms.specs.Printed.{Text, Names, name_in, line, add_text}

-- ---- the shapes

-- the query, which isn't denied
abbrev pub asking : Plain → Query
asking q = record { asks = q; denied = false }

-- an item that is added without a query
abbrev pub plainly : Item → Add
plainly x = record { given = []; item = x }

-- what an effect makes so is known where its conditions are
abbrev pub made_known : Effect → List Add
made_known e = option_map_or (λ l. record { given = map (λ c. asking (Know c)) e.condition; item = ItemKf l } ∷ []) (target_literal e.target) []

-- the atom that is set or unset
abbrev pub atom_written : Target → Option Atom
atom_written (Set a) = Some a
atom_written (Unset a) = Some a
atom_written (Clear x) = None
atom_written (Assign f ts value) = None

-- under a condition c an atom is known to be true or false where both were
abbrev pub known_by_condition : List Literal → Atom → List Add
known_by_condition [] a = []
known_by_condition (l ∷ c) a =
    record { given = asking (KnowWhether (l ∷ c)) ∷ asking (KnowWhether (affirmed a ∷ [])) ∷ []; item = ItemKw (affirmed a ∷ []) } ∷ []

-- so it is of a conditional effect that sets or unsets
abbrev pub kept_known : Effect → List Add
kept_known e = option_map_or (known_by_condition e.condition) (atom_written e.target) []

-- the value of an application has to be known
abbrev pub value_known : Term → List Query
value_known (Apply f ts) = asking (KnowValue (Apply f ts)) ∷ []
value_known (Object d) = []
value_known (Parameter i) = []

-- what a target does under no condition: an assigned place has a known value where its new value is known, and no instance of a cleared pattern is true
abbrev pub done_plainly : Target → List Add
done_plainly (Assign f ts value) = record { given = value_known value; item = ItemKv (Apply f ts) } ∷ []
done_plainly (Clear x) = plainly (ItemLcw x) ∷ []
done_plainly (Set a) = []
done_plainly (Unset a) = []

-- so it is of an effect without a condition
abbrev pub without_condition : List Literal → Target → List Add
without_condition [] x = done_plainly x
without_condition (l ∷ c) x = []

-- the shapes of an effect
abbrev pub effect_shapes : Effect → List Add
effect_shapes e = made_known e ++ (kept_known e ++ without_condition e.condition e.target)

-- what is sensed is known: the truth of a conjunction, the value of a term
abbrev pub sense_shapes : Sense → List Add
sense_shapes (SenseWhether c) = plainly (ItemKw c) ∷ []
sense_shapes (SenseValue t) = plainly (ItemKv t) ∷ []
sense_shapes (SenseAll x) = []

-- the shapes of an action: those of its effects, and then those of its senses
unfoldable pub shapes : Schema → List Add
shapes sc = flat_map effect_shapes sc.effects ++ flat_map sense_shapes sc.senses

-- ---- which of them are derived

-- the queries are equal
abbrev pub same_plain : Plain → Plain → Bool
same_plain (Know l) (Know m) = literal_eq l m
same_plain (KnowWhether c) (KnowWhether b) = is_eq (conj_cmp c b)
same_plain (KnowValue t) (KnowValue u) = term_eq t u
same_plain q r = false

-- both or neither
abbrev pub same_truth : Bool → Bool → Bool
same_truth true b = b
same_truth false b = not b

-- the same is asked, and denied in both or in neither
abbrev pub same_query : Query → Query → Bool
same_query q r = same_plain q.asks r.asks && same_truth q.denied r.denied

-- the items are equal
abbrev pub same_item : Item → Item → Bool
same_item (ItemKf l) (ItemKf m) = literal_eq l m
same_item (ItemKw c) (ItemKw b) = is_eq (conj_cmp c b)
same_item (ItemKv t) (ItemKv u) = term_eq t u
same_item (ItemLcw x) (ItemLcw y) = is_eq (pattern_cmp x y)
same_item x y = false

-- the adds are equal, with equal queries in the same order
abbrev pub same_add : Add → Add → Bool
same_add a b = same_item a.item b.item && pointwise same_query a.given b.given

-- the shapes that have a case, none equal to one before it
unfoldable pub derived_adds : Schema → List Add
derived_adds sc = first_of_each same_add [] (filter (λ a. is_some (case_of sc a)) (shapes sc))

-- the action with what is derived in place of its own adds
abbrev pub with_derived_adds : Schema → Schema
with_derived_adds sc = record sc { adds = derived_adds sc }

-- so for each action of a problem
abbrev pub with_all_derived : Problem → Problem
with_all_derived p = record p { schemas = map with_derived_adds p.schemas }

-- ---- what is printed

-- an action's name, and what is derived of it, each add on a line
abbrev pub derived_text : Names → List (List Text) → ℕ × Schema → Text
derived_text names parameters a =
    line (codes "action " ++ name_in names.actions a.0) ++ flat_map (λ x. line (add_text names (unwrap_or (slice_get parameters a.0) []) x)) (derived_adds a.1)

-- so for each action in order. The parameters' names are given for each action
unfoldable pub derive_text : Names → List (List Text) → Problem → Text
derive_text names parameters p = flat_map (derived_text names parameters) (numbered 0 p.schemas)
