-- Facts that proofs along a path can come to, and the histories to which a path leads.
use Rattle.std.specs.Prelude.{ℕ, suc, ◌≡◌, true, List, [], ◌∷◌, ◌++◌, Some, slice_get}
use Rattle.pks_terms.specs.Syntax.{Literal}
use Rattle.pks_terms.specs.Sets.{Each, IsIn, IsOrdered}
use Rattle.pks_terms.specs.Orders.{atom_cmp}
use Rattle.pks_terms.specs.Databases.{Entry, Five}
use Rattle.pks_terms.specs.Closure.{in_sequence}
use Rattle.pks_terms.specs.Actions.{Instance}
use Rattle.pks_terms.specs.Problems.{Problem}
use Rattle.pks_terms.specs.Settling.{History, last_moment, At}
use Rattle.pks_terms.specs.Branching.{instances, IsMember}
use Rattle.pks_terms.specs.Trees.{Acts, Takes}
use Rattle.pks_laws.specs.OfSignature.{IsSideOf}
use Rattle.pks_terms.specs.Moments.{IsInOrder}
use Rattle.pks_terms.specs.Proofs.{Fact, FactLit, FactKx, FactLcw, Went, Took, Path, deeds, Line, Proof, nth}
use Rattle.pks_terms.specs.Accepting.{are_allowed}

-- a line of the proof has the fact at the moment
pub record HasLine (proof : Proof) (m : ℕ) (f : Fact) : Type 0 where
  pub number : ℕ
  pub line : Line
  pub there : nth proof number ≡ Some line
  pub moment : line.moment ≡ m
  pub fact : line.fact ≡ f

-- lines that may be added to the proof, so that all are allowed and one has the fact at the moment
pub record Extends (p : Problem) (path : Path) (proof : Proof) (m : ℕ) (f : Fact) : Type 0 where
  pub more : Proof
  pub allowed : are_allowed p path (proof ++ more) ≡ true
  pub has : HasLine (proof ++ more) m f

-- the fact is shown at the moment: to any lines that are allowed such lines may be added
abbrev pub IsShown : Problem → Path → ℕ → Fact → Type 0
IsShown p path m f = (proof : Proof) → are_allowed p path proof ≡ true → Extends p path proof m f

-- the literal is shown at the moment, and its sides stand in order
abbrev pub IsShownInOrder : Problem → Path → ℕ → Literal → Type 0
IsShownInOrder p path m l = IsShown p path m (FactLit l) × IsInOrder l

-- what stands in databases is shown at the moment; the sides of equations stand in order, members of a group in sequence, and listed atoms are a set
pub record AreShown (p : Problem) (path : Path) (m : ℕ) (d : Five) : Type 0 where
  pub known : (l : Literal) → IsIn l d.kf → IsShown p path m (FactLit l)
  pub ordered : (l : Literal) → IsIn l d.kf → IsInOrder l
  pub groups : (g : List Literal) → IsIn g d.kx → IsShown p path m (FactKx g)
  pub members : (g : List Literal) → IsIn g d.kx → Each IsInOrder g
  pub sorted : (g : List Literal) → IsIn g d.kx → in_sequence g ≡ g
  pub regions : (e : Entry) → IsIn e d.lcw → IsShown p path m (FactLcw e)
  pub listed : (e : Entry) → IsIn e d.lcw → IsOrdered atom_cmp e.listed

-- so it is at each moment of the steps, the databases d being those of the moment m
abbrev pub AreShownAlong : Problem → Path → ℕ → Five → List (Instance × Five) → Type 0
AreShownAlong p path m d [] = AreShown p path m d
AreShownAlong p path m d (step ∷ steps) = AreShown p path m d × AreShownAlong p path (suc m) step.1 steps

-- the instances of the steps are the actions of the path from the moment m on
abbrev pub AreSteps : Path → ℕ → List (Instance × Five) → Type 0
AreSteps path m [] = Unit {0}
AreSteps path m (step ∷ steps) = (slice_get (deeds path) m ≡ Some step.0) × AreSteps path (suc m) steps

-- the steps of the history are the path's first actions, and what stands in its databases is shown at each moment
abbrev pub IsHistoryShown : Problem → Path → History → Type 0
IsHistoryShown p path h = AreSteps path 0 h.steps × AreShownAlong p path 0 h.start h.steps

-- from the first history the path leads to the second: each action is a choice at the last moment, and each side is one of a choice there
abbrev pub Leads : Problem → History → Path → History → Type 0
Leads p h [] g = h ≡ g
Leads p h (Went i ∷ rest) g = IsIn i (instances p (last_moment h)) × ((k : History) × Acts p h i (At k) × Leads p k rest g)
Leads p h (Took c side ∷ rest) g = IsMember (last_moment h) c × IsSideOf p.signature c side × ((k : History) × Takes p h c side (At k) × Leads p k rest g)
