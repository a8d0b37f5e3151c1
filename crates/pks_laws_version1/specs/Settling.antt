-- Settling by the rules of the first version.
use Rattle.std.specs.Prelude.{ℕ, zero, suc, ◌≡◌, List, [], ◌∷◌, ◌++◌, if◌then◌else◌}
use Rattle.pks_terms.specs.Sets.{added}
use Rattle.pks_terms.specs.Syntax.{Literal}
use Rattle.pks_terms.specs.Orders.{literal_cmp}
use Rattle.pks_terms.specs.Signatures.{Signature}
use Rattle.pks_terms.specs.Databases.{Five}
use Rattle.pks_terms.specs.Actions.{Instance}
use Rattle.pks_terms.specs.Problems.{Problem}
use Rattle.pks_terms.specs.Settling.{History, forward, from_next, State, At, Stopped, clashes, tidied_history}
use Rattle.pks_laws_version1.specs.LookingUp.{without_functions, nothing_foreign}
use Rattle.pks_laws_version1.specs.Closing.{additions}

-- the databases with what the rules and the other moments add
abbrev pub grown : Signature → Five → List Literal → Five
grown s d news = record d { kf = added literal_cmp d.kf (additions s d ++ news) }

-- the later moments after one round
abbrev pub settled_steps : Problem → Five → List (Instance × Five) → List (Instance × Five)
settled_steps p before [] = []
settled_steps p before (step ∷ steps) =
    (step.0, grown p.signature step.1 (forward (nothing_foreign p) step.0 before ++ from_next (nothing_foreign p) step.1 steps)) ∷ settled_steps p step.1 steps

-- one round over the family
abbrev pub settle_round : Problem → History → History
settle_round p h = record { start = grown p.signature h.start (from_next (nothing_foreign p) h.start h.steps); steps = settled_steps p h.start h.steps }

-- so many rounds
abbrev pub settle_rounds : Problem → ℕ → History → History
settle_rounds p zero h = h
settle_rounds p (suc n) h = settle_round p (settle_rounds p n h)

-- the end of the rounds is the family that a round leaves as it is
pub record Settles (p : Problem) (h : History) (x : State) : Type 0 where
  pub count : ℕ
  pub last : settle_round p (settle_rounds p count h) ≡ settle_rounds p count h
  pub gives : x ≡ (let end = settle_rounds p count h in if clashes (without_functions p.signature) end then Stopped else At (tidied_history end))
