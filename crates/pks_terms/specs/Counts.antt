-- That each count of used places is within its array. Views read at most the whole array, so this is said beside them.
use Rattle.std.specs.Prelude.{◌≤◌, Option, Some, None, take}
use Rattle.pks_terms.specs.declared.term.Inner as inner
use Rattle.pks_terms.specs.declared.term.Inner.TheVariants as inner_is
use Rattle.pks_terms.specs.declared.term.Term as term
use Rattle.pks_terms.specs.declared.term.Term.TheVariants as term_is
use Rattle.pks_terms.specs.declared.literal.Atom as literal
use Rattle.pks_terms.specs.declared.literal.Atom.TheVariants as atom_is
use Rattle.pks_terms.specs.declared.literal.PredAtom.{PredAtom}
use Rattle.pks_terms.specs.declared.literal.Literal.{Literal}
use Rattle.pks_terms.specs.declared.literal.Conj.{Conj}
use Rattle.pks_terms.specs.declared.literal.Pattern.{Pattern}
use Rattle.pks_terms.specs.declared.literal.Arguments.{Arguments}
use Rattle.pks_terms.specs.declared.schema.Query as query
use Rattle.pks_terms.specs.declared.schema.Query.TheVariants as query_is
use Rattle.pks_terms.specs.declared.schema.Instance.{Instance}
use Rattle.pks_terms.specs.declared.schema.Target as target
use Rattle.pks_terms.specs.declared.schema.Target.TheVariants as target_is
use Rattle.pks_terms.specs.declared.schema.Effect.{Effect}
use Rattle.pks_terms.specs.declared.schema.Sense as sense
use Rattle.pks_terms.specs.declared.schema.Sense.TheVariants as sense_is
use Rattle.pks_terms.specs.declared.schema.Item as item
use Rattle.pks_terms.specs.declared.schema.Item.TheVariants as item_is
use Rattle.pks_terms.specs.declared.schema.Adds.{Adds}
use Rattle.pks_terms.specs.declared.schema.Schema.{Schema}
use Rattle.pks_terms.specs.declared.problem.Signature.{Signature}
use Rattle.pks_terms.specs.declared.problem.Init as init
use Rattle.pks_terms.specs.declared.problem.Init.TheVariants as init_is
use Rattle.pks_terms.specs.declared.problem.Aim as aim
use Rattle.pks_terms.specs.declared.problem.Aim.TheVariants as aim_is
use Rattle.pks_terms.specs.declared.problem.Problem.{Problem}
use Rattle.pks_terms.specs.Sets.{Each}

-- of an argument
abbrev pub InnerCounts : inner.Inner → Type 0
InnerCounts (inner_is.Obj d) = Unit {0}
InnerCounts (inner_is.Param i) = Unit {0}
InnerCounts (inner_is.App f n ds) = n ≤ 2

-- of a term
abbrev pub TermCounts : term.Term → Type 0
TermCounts (term_is.Obj d) = Unit {0}
TermCounts (term_is.Param i) = Unit {0}
TermCounts (term_is.App f n ts) = (n ≤ 2) × Each InnerCounts (take n ts)

-- of an atom
abbrev pub AtomCounts : PredAtom → Type 0
AtomCounts a = (a.n ≤ 3) × Each TermCounts (take a.n a.args)

-- of an atom or an equation
abbrev pub RelationCounts : literal.Atom → Type 0
RelationCounts (atom_is.Pred a) = AtomCounts a
RelationCounts (atom_is.Eq t u) = TermCounts t × TermCounts u

-- of arguments taken by themselves
abbrev pub ArgumentCounts : Arguments → Type 0
ArgumentCounts a = (a.n ≤ 3) × Each TermCounts (take a.n a.items)

-- of a literal
abbrev pub LiteralCounts : Literal → Type 0
LiteralCounts l = RelationCounts l.atom

-- of a conjunction
abbrev pub ConjCounts : Conj → Type 0
ConjCounts c = (c.n ≤ 4) × Each LiteralCounts (take c.n c.literals)

-- of a place of a pattern
abbrev pub SlotCounts : Option term.Term → Type 0
SlotCounts None = Unit {0}
SlotCounts (Some t) = TermCounts t

-- of a pattern
abbrev pub PatternCounts : Pattern → Type 0
PatternCounts x = (x.n ≤ 3) × Each SlotCounts (take x.n x.args)

-- of an instance
abbrev pub InstanceCounts : Instance → Type 0
InstanceCounts i = (i.n ≤ 4) × Each InnerCounts (take i.n i.args)

-- of a query
abbrev pub QueryCounts : query.Query → Type 0
QueryCounts (query_is.K l) = LiteralCounts l
QueryCounts (query_is.Kw c) = ConjCounts c
QueryCounts (query_is.Kv t) = TermCounts t
QueryCounts (query_is.NotK l) = LiteralCounts l
QueryCounts (query_is.NotKw c) = ConjCounts c
QueryCounts (query_is.NotKv t) = TermCounts t

-- of a target
abbrev pub TargetCounts : target.Target → Type 0
TargetCounts (target_is.Set a) = AtomCounts a
TargetCounts (target_is.Unset a) = AtomCounts a
TargetCounts (target_is.Clear x) = PatternCounts x
TargetCounts (target_is.Assign place value) = TermCounts place × TermCounts value

-- of an effect
abbrev pub EffectCounts : Effect → Type 0
EffectCounts e = ConjCounts e.cond × TargetCounts e.target

-- of a sense
abbrev pub SenseCounts : sense.Sense → Type 0
SenseCounts (sense_is.Whether c) = ConjCounts c
SenseCounts (sense_is.Value t) = TermCounts t
SenseCounts (sense_is.All x) = PatternCounts x

-- of an item
abbrev pub ItemCounts : item.Item → Type 0
ItemCounts (item_is.Kf l) = LiteralCounts l
ItemCounts (item_is.Kw c) = ConjCounts c
ItemCounts (item_is.Kv t) = TermCounts t
ItemCounts (item_is.Lcw x) = PatternCounts x

-- of an add
abbrev pub AddCounts : Adds → Type 0
AddCounts a = (a.n ≤ 4) × Each QueryCounts (take a.n a.given) × ItemCounts a.item

-- of the text of an action
pub record SchemaCounts (x : Schema) : Type 0 where
  pub pre : Each QueryCounts x.pre
  pub effects : Each EffectCounts x.effects
  pub senses : Each SenseCounts x.senses
  pub adds : Each AddCounts x.adds

-- of a signature: a predicate has at most three arguments, a function at most two
pub record SignatureCounts (s : Signature) : Type 0 where
  pub predicates : Each (λ x. x.n ≤ 3) s.predicates
  pub functions : Each (λ x. x.n ≤ 2) s.functions

-- of an initial item
abbrev pub InitCounts : init.Init → Type 0
InitCounts (init_is.Kf l) = LiteralCounts l
InitCounts (init_is.Kw c) = ConjCounts c
InitCounts (init_is.Kv t) = TermCounts t
InitCounts (init_is.Kx g) = Each LiteralCounts g
InitCounts (init_is.Lcw x) = PatternCounts x

-- of an aim
abbrev pub AimCounts : aim.Aim → Type 0
AimCounts (aim_is.Now q) = QueryCounts q
AimCounts (aim_is.AtStart q) = QueryCounts q
AimCounts (aim_is.Always q) = QueryCounts q
AimCounts (aim_is.Once q) = QueryCounts q

-- of a problem
pub record ProblemCounts (p : Problem) : Type 0 where
  pub signature : SignatureCounts p.signature
  pub schemas : Each SchemaCounts p.schemas
  pub init : Each (λ i. InitCounts i.start) p.init
  pub goal : Each AimCounts p.goal
