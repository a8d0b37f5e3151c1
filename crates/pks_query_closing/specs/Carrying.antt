-- What follows by values, groups and ranges, while it is put in.
use Rattle.std.specs.Prelude.{◌≡◌, ◌⊎◌, List, []}
use Rattle.pks_terms.specs.Sets.{Each, IsIn}
use Rattle.pks_terms.specs.Syntax.{Term, Literal}
use Rattle.pks_terms.specs.Signatures.{Signature, HasValues}
use Rattle.pks_terms.specs.Databases.{Five}
use Rattle.pks_terms.specs.Closure.{applications_in}
use Rattle.pks_terms.specs.Saturated.{Within}
use Rattle.std.specs.List.{flat_map}
use Rattle.pks_laws_progress.specs.Following.{IsImplied}
use Rattle.pks_kf.specs.Known.{literals_of}
use Rattle.pks_kx.specs.Groups.{groups_of}
use Rattle.pks_query_lookup.specs.declared.five.Five.{Five as DFive}
use Rattle.pks_query_lookup.specs.Fives.{five_of}
use Rattle.pks_query_closing.specs.Working.{GrowsTo}
use Rattle.pks_query_closing.specs.declared.carrying.Carrying.{Carrying}

-- d grows to the databases of r, whose groups are d's, and the literals that r lists are known
pub record IsReached (s : Signature) (d : Five) (r : Carrying) : Type 0 where
  pub grown : GrowsTo s d (five_of r.five)
  pub listed : Within (literals_of r.listed.items) (literals_of r.five.kf)
  pub groups : groups_of r.groups.items ≡ d.kx

-- r has these databases, and lists nothing
pub record Starts (five : DFive) (r : Carrying) : Type 0 where
  pub same : r.five ≡ five
  pub groups : r.groups.items ≡ five.kx
  pub none : r.listed.items ≡ []

-- new has the databases of old, and lists what old lists and some of these
pub record Lists (ls : List Literal) (old new : Carrying) : Type 0 where
  pub known : new.five ≡ old.five
  pub groups : new.groups ≡ old.groups
  pub listed : (l : Literal) → IsIn l (literals_of new.listed.items) → IsIn l (literals_of old.listed.items) ⊎ IsIn l ls

-- new has and lists what old does, and lists what else it has; it is reached wherever old is and implies these literals
pub record Puts (ls : List Literal) (old new : Carrying) : Type 0 where
  pub has : Within (literals_of old.five.kf) (literals_of new.five.kf)
  pub lists : Within (literals_of old.listed.items) (literals_of new.listed.items)
  pub put : (l : Literal) → IsIn l (literals_of new.five.kf) → IsIn l (literals_of old.five.kf) ⊎ IsIn l (literals_of new.listed.items)
  pub reached : (s : Signature) (d : Five) → IsReached s d old → Each (IsImplied s d) ls → IsReached s d new

-- new has what old has, and is reached wherever old is and has these literals
pub record Carries (ls : List Literal) (old new : Carrying) : Type 0 where
  pub has : Within (literals_of old.five.kf) (literals_of new.five.kf)
  pub lists : Within (literals_of old.listed.items) (literals_of new.listed.items)
  pub reached : (s : Signature) (d : Five) → HasValues s → IsReached s d old → Within ls (literals_of old.five.kf) → IsReached s d new

-- new is reached by the rules of s wherever old is
pub record GoesOn (s : Signature) (old new : Carrying) : Type 0 where
  pub reached : (d : Five) → HasValues s → IsReached s d old → IsReached s d new

-- the databases from which r is reached imply these literals
pub record GivesBy (s : Signature) (r : Carrying) (ls : List Literal) : Type 0 where
  pub implied : (d : Five) → HasValues s → IsReached s d r → Each (IsImplied s d) ls

-- the term is an application in the literal
abbrev pub IsAmong : Term → Literal → Type 0
IsAmong t l = IsIn t (flat_map applications_in l.arguments)
