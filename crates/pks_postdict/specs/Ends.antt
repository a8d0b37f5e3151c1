-- How settling ends.
use Rattle.std.specs.Prelude.{◌≡◌}
use Rattle.pks_terms.specs.Problems.{Problem}
use Rattle.pks_terms.specs.Settling.{History, State, At, Stopped, tidied_history}
use Rattle.pks_terms.specs.Saturated.{WithinAlong, ClosedAlong}
use Rattle.pks_postdict.specs.declared.settling.Settled.{Settled}
use Rattle.pks_postdict.specs.declared.settling.Settled.TheVariants as settled_is

-- a settled history, or a clash
abbrev pub state_of : Settled → State
state_of (settled_is.Whole h) = At h
state_of settled_is.Clash = Stopped

-- P of the history, where there is no clash
abbrev pub IfAt : (History → Type 0) → State → Type 0
IfAt P (At h) = P h
IfAt P Stopped = Unit {0}

-- there is no clash, and P holds of the history
abbrev pub IsAtWith : (History → Type 0) → State → Type 0
IsAtWith P (At h) = P h
IsAtWith P Stopped = ⊥

-- g is what a family without a clash says in normal form that has all of h and is closed under the rules, and that lies within each other such family
pub record IsLeastOver (p : Problem) (h g : History) : Type 0 where
  pub family : History
  pub says : g ≡ tidied_history family
  pub whole : WithinAlong h.start h.steps family.start family.steps
  pub closed : ClosedAlong p family.start family.steps
  pub least : (big : History) → WithinAlong h.start h.steps big.start big.steps → ClosedAlong p big.start big.steps → WithinAlong family.start family.steps big.start big.steps
