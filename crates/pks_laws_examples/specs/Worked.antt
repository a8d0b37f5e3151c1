-- Worked problems: what they state, and the databases and histories that come about in them.
use Rattle.std.specs.Prelude.{ℕ, true, false, List, [], ◌∷◌, Some, None, codes}
use Rattle.pks_terms.specs.Syntax.{Object, Parameter, Apply, Inner, Term, Named, Equality, Literal, Pattern, negated}
use Rattle.pks_terms.specs.Signatures.{Shape, Signature}
use Rattle.pks_terms.specs.Databases.{Five}
use Rattle.pks_terms.specs.Queries.{Know, KnowWhether, Query}
use Rattle.pks_terms.specs.Actions.{Set, Unset, Clear, Effect, Sense, SenseWhether, ItemKf, ItemKw, ItemLcw, Add, Schema, Instance}
use Rattle.pks_terms.specs.Problems.{Start, StartKf, StartKw, StartKx, Aim, Now, Problem}
use Rattle.pks_terms.specs.Settling.{History, State, At}
use Rattle.pks_terms.specs.Trees.{Tree, Goal, Do, Branch}
use Rattle.pks_terms.specs.Nodes.{Node, GoalNode, DoNode, BranchNode}
use Rattle.pks_terms.specs.Printed.{Text, Names}

-- a predicate without arguments as a literal
abbrev pub fact : ℕ → Literal
fact p = record { relation = Named p; arguments = []; positive = true }

-- a predicate with one argument
abbrev pub fact_of : ℕ → Term → Literal
fact_of p t = record { relation = Named p; arguments = t ∷ []; positive = true }

-- an equation
abbrev pub equal : Term → Term → Literal
equal t u = record { relation = Equality; arguments = t ∷ u ∷ []; positive = true }

-- the negation of an equation
abbrev pub unequal : Term → Term → Literal
unequal t u = record { relation = Equality; arguments = t ∷ u ∷ []; positive = false }

-- a name with arguments of these types
abbrev pub shape : List ℕ → Shape
shape tys = record { arguments = tys; result = 0 }

-- predicates without arguments, and nothing else
abbrev pub facts_alone : List Shape → Signature
facts_alone predicates = record { types = 0; parents = []; objects = []; predicates = predicates; functions = [] }

-- databases of which only some known literals and formulas are given
abbrev pub knowing : List Literal → List (List Literal) → Five
knowing kf kw = record { kf = kf; kw = kw; kv = []; kx = []; lcw = [] }

-- the query whether a literal is known
abbrev pub known : Literal → Query
known l = record { asks = Know l; denied = false }

-- the query whether a formula is known to be true or false
abbrev pub known_either_way : List Literal → Query
known_either_way c = record { asks = KnowWhether c; denied = false }

-- an add without queries
abbrev pub adding : Literal → Add
adding l = record { given = []; item = ItemKf l }

-- an action without parameters
abbrev pub action : ℕ → Instance
action n = record { action = n; arguments = [] }

-- the text of such an action, which costs 1: its preconditions, effects, senses and adds
abbrev pub doing : List Query → List Effect → List Sense → List Add → Schema
doing pre effects senses adds = record { cost = 1; parameters = []; pre = pre; effects = effects; senses = senses; adds = adds }

-- a problem of the first version: its signature, actions, initial items and goal
abbrev pub stating : Signature → List Schema → List Start → List Aim → Problem
stating signature schemas init goal = record { version = 1; signature = signature; schemas = schemas; init = init; goal = goal }

-- ---- the lawn: it is alive; poison, of which nothing is known, would kill it where one pours; looking tells whether it is alive; is the can poisoned?

-- the lawn is alive
abbrev pub alive : Literal
alive = fact 0

-- there is poison
abbrev pub poison : Literal
poison = fact 1

-- the action of pouring
abbrev pub pour : Instance
pour = action 0

-- the action of looking
abbrev pub look : Instance
look = action 1

-- the problem of the lawn
abbrev pub lawn : Problem
lawn = stating (facts_alone (shape [] ∷ shape [] ∷ []))
    (doing [] (record { condition = poison ∷ []; target = Unset (record { predicate = 0; arguments = [] }) } ∷ []) [] []
    ∷ doing [] [] (SenseWhether (alive ∷ []) ∷ []) (record { given = []; item = ItemKw (alive ∷ []) } ∷ []) ∷ [])
    (StartKf alive ∷ []) (Now (known_either_way (poison ∷ [])) ∷ [])

-- the lawn before anything is done
abbrev pub lawn_at_first : History
lawn_at_first = record { start = knowing (alive ∷ []) []; steps = [] }

-- the lawn after pouring
abbrev pub lawn_poured : History
lawn_poured = record { start = knowing (alive ∷ []) []; steps = (pour, knowing [] []) ∷ [] }

-- the lawn after pouring and looking
abbrev pub lawn_looked : History
lawn_looked = record { start = knowing (alive ∷ []) []; steps = (pour, knowing [] []) ∷ (look, knowing [] ((alive ∷ []) ∷ [])) ∷ [] }

-- where it was seen dead there was poison at every moment
abbrev pub lawn_dead : History
lawn_dead = record { start = knowing (alive ∷ poison ∷ []) []; steps = (pour, knowing (negated alive ∷ poison ∷ []) []) ∷ (look, knowing (negated alive ∷ poison ∷ []) []) ∷ [] }

-- where it was seen alive there never was poison
abbrev pub lawn_living : History
lawn_living = record { start = knowing (alive ∷ negated poison ∷ []) []; steps = (pour, knowing (alive ∷ negated poison ∷ []) []) ∷ (look, knowing (alive ∷ negated poison ∷ []) []) ∷ [] }

-- pour, look, and either way it is known whether there was poison
abbrev pub lawn_plan : Tree
lawn_plan = Do pour (Do look (Branch (alive ∷ []) Goal Goal))

-- ---- the alias: the key is in the hall; sweeping takes it from a place that may be the hall. The places are hall and den

-- the hall
abbrev pub hall : Term
hall = Object 0

-- the den
abbrev pub den : Term
den = Object 1

-- the key
abbrev pub key : Term
key = Object 2

-- the place that is swept
abbrev pub place_swept : Term
place_swept = Apply 0 []

-- the key is in the hall
abbrev pub key_in_hall : Literal
key_in_hall = record { relation = Named 0; arguments = key ∷ hall ∷ []; positive = true }

-- the sweeping is done
abbrev pub done : Literal
done = fact 1

-- the action of sweeping
abbrev pub sweep : Instance
sweep = action 0

-- the problem of the alias, with these initial items
abbrev pub alias : List Start → Problem
alias init = stating (record { types = 2; parents = None ∷ None ∷ []; objects = 0 ∷ 0 ∷ 1 ∷ []; predicates = shape (1 ∷ 0 ∷ []) ∷ shape [] ∷ []; functions = shape [] ∷ [] })
    (doing [] (record { condition = []; target = Unset (record { predicate = 0; arguments = key ∷ place_swept ∷ [] }) } ∷ record { condition = []; target = Set (record { predicate = 1; arguments = [] }) } ∷ []) [] (adding done ∷ []) ∷ [])
    init (Now (known done) ∷ Now (known key_in_hall) ∷ [])

-- of the place that is swept nothing is known
abbrev pub alias_open : Problem
alias_open = alias (StartKf key_in_hall ∷ [])

-- it is known not to be the hall
abbrev pub alias_elsewhere : Problem
alias_elsewhere = alias (StartKf key_in_hall ∷ StartKf (unequal place_swept hall) ∷ [])

-- what is known of the places then: what isn't the hall is the den
abbrev pub places_known : List Literal
places_known = unequal den hall ∷ equal den den ∷ unequal place_swept hall ∷ equal place_swept den ∷ []

-- ---- the groups: exactly one of r, x, u is true, one of r, y, v, and one of x, y; is r true?

-- r is true
abbrev pub r : Literal
r = fact 0

-- the problem of the groups
abbrev pub groups : Problem
groups = stating (facts_alone (shape [] ∷ shape [] ∷ shape [] ∷ shape [] ∷ shape [] ∷ [])) []
    (StartKx (r ∷ fact 1 ∷ fact 2 ∷ []) ∷ StartKx (r ∷ fact 3 ∷ fact 4 ∷ []) ∷ StartKx (fact 1 ∷ fact 3 ∷ []) ∷ StartKw (r ∷ []) ∷ [])
    (Now (known (negated r)) ∷ [])

-- the groups before anything is assumed
abbrev pub groups_start : Five
groups_start = record { kf = []; kw = (r ∷ []) ∷ []; kv = []; kx = (r ∷ fact 1 ∷ fact 2 ∷ []) ∷ (r ∷ fact 3 ∷ fact 4 ∷ []) ∷ (fact 1 ∷ fact 3 ∷ []) ∷ []; lcw = [] }

-- the groups where r is assumed to be false
abbrev pub groups_denied : Five
groups_denied = record { kf = negated r ∷ []; kw = []; kv = []; kx = (r ∷ fact 1 ∷ fact 2 ∷ []) ∷ (r ∷ fact 3 ∷ fact 4 ∷ []) ∷ (fact 1 ∷ fact 3 ∷ []) ∷ []; lcw = [] }

-- ---- the pair: it is known whether both p and q are true; is q true?

-- p is true
abbrev pub p : Literal
p = fact 0

-- q is true
abbrev pub q : Literal
q = fact 1

-- the problem of the pair, with more initial items
abbrev pub pair : List Start → Problem
pair more = stating (facts_alone (shape [] ∷ shape [] ∷ [])) [] (StartKw (p ∷ q ∷ []) ∷ more) (Now (known_either_way (q ∷ [])) ∷ [])

-- one moment at which these literals and formulas are known
abbrev pub one_moment : List Literal → List (List Literal) → History
one_moment kf kw = record { start = knowing kf kw; steps = [] }

-- ---- the tubs: all may be emptied; splashing, where the second isn't full, fills the first if it is wet

-- the tub is full
abbrev pub full : Term → Literal
full = fact_of 0

-- the first tub
abbrev pub first_tub : Term
first_tub = Object 0

-- the second tub
abbrev pub second_tub : Term
second_tub = Object 1

-- the floor is wet
abbrev pub wet : Literal
wet = fact 1

-- a splash is done
abbrev pub splashed : Literal
splashed = fact 2

-- the action of emptying all tubs
abbrev pub empty_all : Instance
empty_all = action 0

-- the action of splashing
abbrev pub splash : Instance
splash = action 1

-- every tub
abbrev pub any_full : Pattern
any_full = record { predicate = 0; slots = None ∷ [] }

-- the goal is that a splash is done and this tub is known not to be full
abbrev pub tubs : Term → Problem
tubs wanted = stating (record { types = 1; parents = None ∷ []; objects = 0 ∷ 0 ∷ []; predicates = shape (0 ∷ []) ∷ shape [] ∷ shape [] ∷ []; functions = [] })
    (doing [] (record { condition = []; target = Clear any_full } ∷ []) [] (record { given = []; item = ItemLcw any_full } ∷ [])
    ∷ doing (known (negated (full second_tub)) ∷ []) (record { condition = wet ∷ []; target = Set (record { predicate = 0; arguments = first_tub ∷ [] }) } ∷ record { condition = []; target = Set (record { predicate = 2; arguments = [] }) } ∷ []) [] (adding splashed ∷ []) ∷ [])
    [] (Now (known splashed) ∷ Now (known (negated (full wanted))) ∷ [])

-- nothing is known
abbrev pub tubs_start : Five
tubs_start = knowing [] []

-- no tub is full
abbrev pub tubs_emptied : Five
tubs_emptied = record { kf = []; kw = []; kv = []; kx = []; lcw = record { pattern = any_full; listed = [] } ∷ [] }

-- no tub but the first may be full
abbrev pub tubs_splashed : Five
tubs_splashed = record { kf = splashed ∷ []; kw = []; kv = []; kx = []; lcw = record { pattern = any_full; listed = record { predicate = 0; arguments = first_tub ∷ [] } ∷ [] } ∷ [] }

-- no tub is full, after a splash
abbrev pub tubs_emptied_again : Five
tubs_emptied_again = record { kf = splashed ∷ []; kw = []; kv = []; kx = []; lcw = record { pattern = any_full; listed = [] } ∷ record { pattern = any_full; listed = record { predicate = 0; arguments = first_tub ∷ [] } ∷ [] } ∷ [] }

-- ---- the thing in a box: a value that isn't of the function's result type

-- the box in which the thing is
abbrev pub box_in : Term
box_in = Apply 0 []

-- thing is 0 and box, below it, is 1; object 0 is a thing and object 1 a box; the function gives boxes, and the predicate is of boxes
abbrev pub boxes : Signature
boxes = record { types = 2; parents = None ∷ Some 0 ∷ []; objects = 0 ∷ 1 ∷ []; predicates = shape (1 ∷ []) ∷ []; functions = record { arguments = []; result = 1 } ∷ [] }

-- its value is said to be the thing
abbrev pub wrong_value : Five
wrong_value = knowing (fact_of 0 box_in ∷ equal box_in (Object 0) ∷ []) []

-- ---- the crate: thing is 0, box and bag are below it; 0 and 1 are boxes and 2 is a bag; the spot is a box whose value is known

-- the spot
abbrev pub spot : Term
spot = Apply 0 []

-- the signature of the crate
abbrev pub crate_signature : Signature
crate_signature = record { types = 3; parents = None ∷ Some 0 ∷ Some 0 ∷ []; objects = 1 ∷ 1 ∷ 2 ∷ []; predicates = shape (0 ∷ []) ∷ []; functions = record { arguments = []; result = 1 } ∷ [] }

-- the value of the spot is known, and nothing else
abbrev pub crate_known : Five
crate_known = record { kf = []; kw = []; kv = spot ∷ []; kx = []; lcw = [] }

-- ---- the tolls: the actions cost 9, 2 and 1

-- an action that does nothing and costs so much
abbrev pub bare_action : ℕ → Schema
bare_action cost = record { cost = cost; parameters = []; pre = []; effects = []; senses = []; adds = [] }

-- the problem of the tolls
abbrev pub tolls : Problem
tolls = record { version = 2; signature = facts_alone []; schemas = bare_action 9 ∷ bare_action 2 ∷ bare_action 1 ∷ []; init = []; goal = [] }

-- ---- the lawn's names

-- the names of the lawn
abbrev pub lawn_names : Names
lawn_names = record { objects = []; predicates = codes "alive" ∷ codes "poison" ∷ []; functions = []; actions = codes "pour" ∷ codes "look" ∷ [] }

-- ---- the lawn's plan at its ends, and with its equal parts once

-- the lawn's histories at the ends of its plan
abbrev pub lawn_leaves : List State
lawn_leaves = At lawn_living ∷ At lawn_dead ∷ []

-- the nodes of the lawn's plan
abbrev pub lawn_nodes : List Node
lawn_nodes = GoalNode ∷ BranchNode (alive ∷ []) 1 1 ∷ DoNode look 2 ∷ DoNode pour 3 ∷ []

-- an input whose file has six lines, as the lawn's has
abbrev pub six_lines : Text
six_lines = codes "1\n2\n3\n4\n5\n6\n"

-- ---- the safe: reading tells its combination, one of five numbers, and dialling it opens the safe

-- the combination
abbrev pub combo : Inner
combo = Apply 0 []

-- the signature of the safe
abbrev pub safe_signature : Signature
safe_signature = record { types = 1; parents = None ∷ []; objects = 0 ∷ 0 ∷ 0 ∷ 0 ∷ 0 ∷ []; predicates = shape [] ∷ []; functions = shape [] ∷ [] }

-- the names of the safe
abbrev pub safe_names : Names
safe_names = record {
  objects = codes "c1" ∷ codes "c2" ∷ codes "c3" ∷ codes "c4" ∷ codes "c5" ∷ [];
  predicates = codes "open" ∷ [];
  functions = codes "combo" ∷ [];
  actions = codes "read" ∷ codes "dial" ∷ [];
}

-- read, and dial what was read
abbrev pub safe_plan : Tree
safe_plan = Do (action 0) (Do (record { action = 1; arguments = combo ∷ [] }) Goal)

-- dialling a number opens the safe where it is the combination
abbrev pub dial : Schema
dial =
    let right : Literal = equal (Apply 0 []) (Parameter 0) in
    record {
      cost = 1;
      parameters = 0 ∷ [];
      pre = [];
      effects = record { condition = right ∷ []; target = Set (record { predicate = 0; arguments = [] }) } ∷ [];
      senses = [];
      adds = record { given = known right ∷ []; item = ItemKf (fact 0) } ∷ [];
    }
