-- What the program's values say, apart from how they lie in memory.
use Rattle.std.specs.Prelude.{ℕ, true, false, List, [], ◌∷◌, map, take, option_map}
use Rattle.pks_terms.specs.declared.ids.ObjId.{ObjId}
use Rattle.pks_terms.specs.declared.ids.TypeId.{TypeId}
use Rattle.pks_terms.specs.declared.term.Inner as inner
use Rattle.pks_terms.specs.declared.term.Inner.TheVariants as inner_is
use Rattle.pks_terms.specs.declared.term.Term as term
use Rattle.pks_terms.specs.declared.term.Term.TheVariants as term_is
use Rattle.pks_terms.specs.declared.literal.Atom as literal
use Rattle.pks_terms.specs.declared.literal.Atom.TheVariants as atom_is
use Rattle.pks_terms.specs.declared.literal.PredAtom.{PredAtom}
use Rattle.pks_terms.specs.declared.literal.Literal.{Literal as DLiteral}
use Rattle.pks_terms.specs.declared.literal.Conj.{Conj}
use Rattle.pks_terms.specs.declared.literal.Pattern.{Pattern as DPattern}
use Rattle.pks_terms.specs.declared.literal.Arguments.{Arguments}
use Rattle.pks_terms.specs.declared.schema.Query as query
use Rattle.pks_terms.specs.declared.schema.Query.TheVariants as query_is
use Rattle.pks_terms.specs.declared.schema.Instance.{Instance as DInstance}
use Rattle.pks_terms.specs.declared.schema.Target as target
use Rattle.pks_terms.specs.declared.schema.Target.TheVariants as target_is
use Rattle.pks_terms.specs.declared.schema.Effect.{Effect as DEffect}
use Rattle.pks_terms.specs.declared.schema.Sense as sense
use Rattle.pks_terms.specs.declared.schema.Sense.TheVariants as sense_is
use Rattle.pks_terms.specs.declared.schema.Item as item
use Rattle.pks_terms.specs.declared.schema.Item.TheVariants as item_is
use Rattle.pks_terms.specs.declared.schema.Adds.{Adds}
use Rattle.pks_terms.specs.declared.schema.Schema.{Schema as DSchema}
use Rattle.pks_terms.specs.declared.problem.Shape.{Shape as DShape}
use Rattle.pks_terms.specs.declared.problem.Signature.{Signature as DSignature}
use Rattle.pks_terms.specs.declared.problem.Init as init
use Rattle.pks_terms.specs.declared.problem.Init.TheVariants as init_is
use Rattle.pks_terms.specs.declared.problem.Aim as aim
use Rattle.pks_terms.specs.declared.problem.Aim.TheVariants as aim_is
use Rattle.pks_terms.specs.declared.problem.Problem.{Problem as DProblem}
use Rattle.pks_terms.specs.Syntax.{Object, Parameter, Apply, Inner, Term, Relation, Named, Equality, Literal, Atom, Pattern}
use Rattle.pks_terms.specs.Orders.{number_of, arguments_of}
use Rattle.pks_terms.specs.Signatures.{Shape, Signature}
use Rattle.pks_terms.specs.Queries.{Know, KnowWhether, KnowValue, Query}
use Rattle.pks_terms.specs.Actions.{Target, Set, Unset, Clear, Assign, Effect, Sense, SenseWhether, SenseValue, SenseAll, Item, ItemKf, ItemKw, ItemKv, ItemLcw, Add, Schema, Instance}
use Rattle.pks_terms.specs.Problems.{Start, StartKf, StartKw, StartKv, StartKx, StartLcw, Aim, Now, AtStart, Always, Once, Problem}
use Rattle.pks_terms.specs.Printed.{Names}

-- ---- terms

-- an object's number
abbrev pub object_of : ObjId → ℕ
object_of d = d.0

-- an argument
abbrev pub inner_of : inner.Inner → Inner
inner_of (inner_is.Obj d) = Object d.0
inner_of (inner_is.Param i) = Parameter i
inner_of (inner_is.App f n ds) = Apply f.0 (map object_of (take n ds))

-- a term
abbrev pub term_of : term.Term → Term
term_of (term_is.Obj d) = Object d.0
term_of (term_is.Param i) = Parameter i
term_of (term_is.App f n ts) = Apply f.0 (map inner_of (take n ts))

-- the terms of a list
abbrev pub terms_of : List term.Term → List Term
terms_of ts = map term_of ts

-- ---- literals

-- an atom
abbrev pub atom_of : PredAtom → Atom
atom_of a = record { predicate = a.pred.0; arguments = map term_of (take a.n a.args) }

-- the predicate, or equality
abbrev pub relation_of : literal.Atom → Relation
relation_of (atom_is.Pred a) = Named a.pred.0
relation_of (atom_is.Eq t u) = Equality

-- the arguments, or the two sides
abbrev pub sides_of : literal.Atom → List Term
sides_of (atom_is.Pred a) = map term_of (take a.n a.args)
sides_of (atom_is.Eq t u) = term_of t ∷ term_of u ∷ []

-- a literal
abbrev pub literal_of : DLiteral → Literal
literal_of l = record { relation = relation_of l.atom; arguments = sides_of l.atom; positive = l.positive }

-- the literals of a list
abbrev pub literals_in : List DLiteral → List Literal
literals_in ls = map literal_of ls

-- a conjunction
abbrev pub conj_of : Conj → List Literal
conj_of c = map literal_of (take c.n c.literals)

-- a pattern
abbrev pub pattern_of : DPattern → Pattern
pattern_of p = record { predicate = p.pred.0; slots = map (option_map term_of) (take p.n p.args) }

-- arguments taken by themselves
abbrev pub arguments_in : Arguments → List Term
arguments_in a = map term_of (take a.n a.items)

-- how many arguments an atom keeps
abbrev pub places_of : literal.Atom → ℕ
places_of (atom_is.Pred a) = a.n
places_of (atom_is.Eq t u) = 2

-- ---- actions

-- the arguments of an instance
abbrev pub given_of : DInstance → List Inner
given_of i = map inner_of (take i.n i.args)

-- an instance
abbrev pub instance_of : DInstance → Instance
instance_of i = record { action = i.act.0; arguments = given_of i }

-- a query
abbrev pub query_of : query.Query → Query
query_of (query_is.K l) = record { asks = Know (literal_of l); denied = false }
query_of (query_is.Kw c) = record { asks = KnowWhether (conj_of c); denied = false }
query_of (query_is.Kv t) = record { asks = KnowValue (term_of t); denied = false }
query_of (query_is.NotK l) = record { asks = Know (literal_of l); denied = true }
query_of (query_is.NotKw c) = record { asks = KnowWhether (conj_of c); denied = true }
query_of (query_is.NotKv t) = record { asks = KnowValue (term_of t); denied = true }

-- the place of an assignment is an application
abbrev pub target_of : target.Target → Target
target_of (target_is.Set a) = Set (atom_of a)
target_of (target_is.Unset a) = Unset (atom_of a)
target_of (target_is.Clear x) = Clear (pattern_of x)
target_of (target_is.Assign place value) = Assign (number_of (term_of place)) (arguments_of (term_of place)) (term_of value)

-- an effect
abbrev pub effect_of : DEffect → Effect
effect_of e = record { condition = conj_of e.cond; target = target_of e.target }

-- a sense
abbrev pub sense_of : sense.Sense → Sense
sense_of (sense_is.Whether c) = SenseWhether (conj_of c)
sense_of (sense_is.Value t) = SenseValue (term_of t)
sense_of (sense_is.All x) = SenseAll (pattern_of x)

-- an item
abbrev pub item_of : item.Item → Item
item_of (item_is.Kf l) = ItemKf (literal_of l)
item_of (item_is.Kw c) = ItemKw (conj_of c)
item_of (item_is.Kv t) = ItemKv (term_of t)
item_of (item_is.Lcw x) = ItemLcw (pattern_of x)

-- an add
abbrev pub add_of : Adds → Add
add_of a = record { given = map query_of (take a.n a.given); item = item_of a.item }

-- the numbers of types
abbrev pub types_of : List TypeId → List ℕ
types_of ts = map (λ t. t.0) ts

-- an action
abbrev pub schema_of : DSchema → Schema
schema_of x = record {
  cost = x.cost;
  parameters = types_of x.params;
  pre = map query_of x.pre;
  effects = map effect_of x.effects;
  senses = map sense_of x.senses;
  adds = map add_of x.adds;
}

-- ---- problems

-- a shape
abbrev pub shape_of : DShape → Shape
shape_of x = record { arguments = types_of (take x.n x.args); result = x.result.0 }

-- a signature
abbrev pub signature_of : DSignature → Signature
signature_of s = record {
  types = s.types;
  parents = map (option_map (λ t. t.0)) s.parents;
  objects = types_of s.objects;
  predicates = map shape_of s.predicates;
  functions = map shape_of s.functions;
}

-- an initial item
abbrev pub start_of : init.Init → Start
start_of (init_is.Kf l) = StartKf (literal_of l)
start_of (init_is.Kw c) = StartKw (conj_of c)
start_of (init_is.Kv t) = StartKv (term_of t)
start_of (init_is.Kx g) = StartKx (literals_in g)
start_of (init_is.Lcw x) = StartLcw (pattern_of x)

-- an aim
abbrev pub aim_of : aim.Aim → Aim
aim_of (aim_is.Now q) = Now (query_of q)
aim_of (aim_is.AtStart q) = AtStart (query_of q)
aim_of (aim_is.Always q) = Always (query_of q)
aim_of (aim_is.Once q) = Once (query_of q)

-- a problem
abbrev pub problem_of : DProblem → Problem
problem_of p = record {
  version = p.version;
  signature = signature_of p.signature;
  schemas = map schema_of p.schemas;
  init = map (λ i. start_of i.start) p.init;
  goal = map aim_of p.goal;
}

-- the names that are printed
abbrev pub names_of : DProblem → Names
names_of p = record {
  objects = map (λ t. t.now) p.names.objects;
  predicates = map (λ t. t.now) p.names.predicates;
  functions = map (λ t. t.now) p.names.functions;
  actions = map (λ x. x.name.now) p.schemas;
}
