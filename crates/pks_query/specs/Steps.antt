-- What the program's steps say.
use Rattle.pks_terms.specs.Databases.{Five}
use Rattle.pks_terms.specs.Closure.{Outcome, Next, Clash}
use Rattle.pks_terms.specs.Views.{literal_of}
use Rattle.pks_query_lookup.specs.Fives.{five_of}
use Rattle.pks_query.specs.declared.databases.Step.{Step}
use Rattle.pks_query.specs.declared.databases.Step.TheVariants as step_is

-- the next databases, or the literal that clashes
abbrev pub outcome_of : Step → Outcome
outcome_of (step_is.Next d) = Next (five_of d)
outcome_of (step_is.Clash l) = Clash (literal_of l)

-- P of the next databases, where there are such
abbrev pub IfNext : (Five → Type 0) → Outcome → Type 0
IfNext P (Next d) = P d
IfNext P (Clash l) = Unit {0}

-- there are next databases, and P holds of them
abbrev pub IsNextWith : (Five → Type 0) → Outcome → Type 0
IsNextWith P (Next d) = P d
IsNextWith P (Clash l) = ⊥
