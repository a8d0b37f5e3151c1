-- From the start of closing to its end.
use Rattle.std.specs.Prelude.{◌≡◌, ◌≤◌, true, List, length, Option, Some, None}
use Rattle.pks_terms.specs.Sets.{Each, IsIn}
use Rattle.pks_terms.specs.Syntax.{Literal, negated}
use Rattle.pks_terms.specs.Signatures.{Signature}
use Rattle.pks_terms.specs.Databases.{Five, holds}
use Rattle.pks_terms.specs.Closure.{round, Outcome, Closes, Next, Clash}
use Rattle.pks_laws_progress.specs.Following.{IsImplied, Follows}
use Rattle.pks_query_lookup.specs.declared.five.Five.{Five as DFive}
use Rattle.pks_query_lookup.specs.Fives.{five_of}

-- closing ends with a clash
abbrev pub Clashes : Signature → Five → Type 0
Clashes s d = (l : Literal) × Closes s d (Clash l)

-- the negation of a known literal holds
abbrev pub SomeDenied : Signature → Five → Type 0
SomeDenied s d = (l : Literal) × IsIn l d.kf × (holds s d (negated l) ≡ true)

-- a has what d has and some literals that this implies
pub record GrowsTo (s : Signature) (d a : Five) : Type 0 where
  pub follows : Follows s d a
  pub longer : length d.kf ≤ length a.kf

-- what grows to d, and implies these literals, grows to e as well
pub record GrowsBy (s : Signature) (ls : List Literal) (d e : Five) : Type 0 where
  pub grows : (start : Five) → GrowsTo s start d → Each (IsImplied s start) ls → GrowsTo s start e

-- what follows by the rules, to which they add nothing; or there is a clash
abbrev pub IsWorked : Signature → Five → Option DFive → Type 0
IsWorked s d None = Clashes s d
IsWorked s d (Some e) = Follows s d (five_of e) × (round s (five_of e) ≡ five_of e)

-- P of the next databases; or of a clash, where there are none
abbrev pub EndsWith : (Outcome → Type 0) → Option DFive → Type 0
EndsWith P None = (l : Literal) × P (Clash l)
EndsWith P (Some e) = P (Next (five_of e))
