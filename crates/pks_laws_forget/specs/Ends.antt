-- What may be so at the last moment of a history, by the families over it.
use Rattle.std.specs.Prelude.{◌≡◌, []}
use Rattle.pks_terms.specs.Sets.{Each, IsIn}
use Rattle.pks_terms.specs.Actions.{Instance, Item, ItemKf, ItemKw, ItemKv, ItemLcw}
use Rattle.pks_terms.specs.Branching.{instances}
use Rattle.pks_terms.specs.Closure.{Next}
use Rattle.pks_terms.specs.Databases.{Five}
use Rattle.pks_terms.specs.Problems.{Problem, schema_of}
use Rattle.pks_terms.specs.Progress.{Progress, entry_terms}
use Rattle.pks_terms.specs.Saturated.{WithinAlong, ClosedAlong}
use Rattle.pks_terms.specs.Settling.{History, last_moment}
use Rattle.pks_laws_forget.specs.Transparent.{AreObjects, IsOfObjects}

-- ---- families

-- a closed family over the history, no moment of which clashes
pub record IsFamilyOver (p : Problem) (h family : History) : Type 0 where
  pub over : WithinAlong h.start h.steps family.start family.steps
  pub closed : ClosedAlong p family.start family.steps

-- each end of the first history, the known literals of the last moment of a family over it, is one of the second
abbrev pub EndsAmong : Problem → History → History → Type 0
EndsAmong p h g = (family : History) → IsFamilyOver p h family → (other : History) × IsFamilyOver p g other × ((last_moment other).kf ≡ (last_moment family).kf)

-- the two histories have the same ends
abbrev pub HaveSameEnds : Problem → History → History → Type 0
HaveSameEnds p h g = EndsAmong p h g × EndsAmong p g h

-- ---- groups and regions that speak of objects alone

-- so of the databases
pub record IsAtObjects (d : Five) : Type 0 where
  pub groups : Each (λ g. Each IsOfObjects g) d.kx
  pub regions : Each (λ r. AreObjects (entry_terms r)) d.lcw

-- databases of a kind speak so, each action leads from such to such, and what is learnt of them leaves them so
pub record KeepsAtObjects (p : Problem) (Fits : Five → Type 0) : Type 0 where
  pub objects : (d : Five) → Fits d → IsAtObjects d
  pub acts : (d : Five) (i : Instance) (x : Five) → IsIn i (instances p d) → Fits d → Progress p.signature d (schema_of p i.action) i (Next x) → Fits x
  pub learnt : (d e : Five) → d.kx ≡ e.kx → d.lcw ≡ e.lcw → Fits d → Fits e

-- each moment is of the kind
pub record IsAlong (Fits : Five → Type 0) (h : History) : Type 0 where
  pub start : Fits h.start
  pub steps : Each (λ step. Fits step.1) h.steps

-- ---- problems without regions

-- what is added is no region
abbrev pub IsNoRegion : Item → Type 0
IsNoRegion (ItemKf l) = Unit {0}
IsNoRegion (ItemKw c) = Unit {0}
IsNoRegion (ItemKv t) = Unit {0}
IsNoRegion (ItemLcw x) = ⊥

-- no action adds a region
abbrev pub AddsNoRegion : Problem → Type 0
AddsNoRegion p = Each (λ sc. Each (λ a. IsNoRegion a.item) sc.adds) p.schemas

-- there is no region, and each group speaks of objects alone
pub record HasObjectGroups (d : Five) : Type 0 where
  pub groups : Each (λ g. Each IsOfObjects g) d.kx
  pub regions : d.lcw ≡ []
