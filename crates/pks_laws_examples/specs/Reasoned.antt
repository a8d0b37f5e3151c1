-- Worked proofs: what is shown by which lines, and an explanation with its text.
use Rattle.std.specs.Prelude.{ℕ, List, [], ◌∷◌, None, codes}
use Rattle.pks_terms.specs.Syntax.{Object, Apply, Term, Literal, Atom, Pattern, affirmed, negated}
use Rattle.pks_terms.specs.Actions.{Target, Effect}
use Rattle.pks_terms.specs.Problems.{Start, StartKf, Now, Problem}
use Rattle.pks_terms.specs.Branching.{BranchOn, Side, AsFalse}
use Rattle.pks_terms.specs.Printed.{Names}
use Rattle.pks_terms.specs.Proofs.{Fact, FactLit, FactKx, FactLcw, Path, Went, Took, Reason, ByGiven, BySide, BySwap, ByOnly, ByOthers, ByRange, ByClosed, ByKeep, ByBack, ByEffect, ByMust, ByCannot, ByClear, Line, Proof}
use Rattle.pks_terms.specs.Explained.{Entry}
use Rattle.pks_laws_examples.specs.Worked.{fact, equal, unequal, shape, facts_alone, known, action, doing, stating, alive, poison, pour, look}

-- a literal at a moment, for a reason that cites these lines
abbrev pub proved : ℕ → Literal → Reason → List ℕ → Line
proved m l r cites = record { moment = m; fact = FactLit l; reason = r; cites = cites }

-- ---- the door: it is open; is it?

-- the door is open
abbrev pub open_door : Literal
open_door = fact 0

-- the problem of the door
abbrev pub door : Problem
door = stating (facts_alone (shape [] ∷ [])) [] (StartKf open_door ∷ []) (Now (known open_door) ∷ [])

-- that it is open by an initial item
abbrev pub door_given : ℕ → Proof
door_given n = proved 0 open_door (ByGiven n) [] ∷ []

-- the one entry that is owed where nothing is done
abbrev pub door_entry : Entry
door_entry = record { path = []; literal = open_door; proof = door_given 1 }

-- the names of the door
abbrev pub door_names : Names
door_names = record { objects = []; predicates = codes "open" ∷ []; functions = []; actions = [] }

-- ---- the lawn

-- poured
abbrev pub poured : Path
poured = Went pour ∷ []

-- poured, looked, and seen alive or dead
abbrev pub seen : Side → Path
seen side = Went pour ∷ Went look ∷ Took (BranchOn (alive ∷ [])) side ∷ []

-- it was alive and so it is, which isn't so where there may have been poison
abbrev pub alive_kept : Proof
alive_kept = proved 0 alive (ByGiven 1) [] ∷ proved 1 alive ByKeep (1 ∷ []) ∷ []

-- seen dead, it was dead after pouring, and alive before: so there was poison, and there still is
abbrev pub poison_found : Proof
poison_found =
    proved 0 alive (ByGiven 1) []
    ∷ proved 2 (negated alive) (BySide 1) []
    ∷ proved 1 (negated alive) ByBack (2 ∷ [])
    ∷ proved 0 poison ByMust (1 ∷ 3 ∷ [])
    ∷ proved 1 poison ByKeep (4 ∷ [])
    ∷ proved 2 poison ByKeep (5 ∷ []) ∷ []

-- seen alive, it was alive after pouring: so there was no poison, and there is none
abbrev pub no_poison_found : Proof
no_poison_found =
    proved 2 alive (BySide 1) []
    ∷ proved 1 alive ByBack (1 ∷ [])
    ∷ proved 0 (negated poison) ByCannot (2 ∷ [])
    ∷ proved 1 (negated poison) ByKeep (3 ∷ [])
    ∷ proved 2 (negated poison) ByKeep (4 ∷ []) ∷ []

-- the entry of the lawn that was seen dead
abbrev pub poison_entry : Entry
poison_entry = record { path = seen AsFalse; literal = poison; proof = poison_found }

-- ---- the shelf: a cup and a pan, each on it or not; one of them is picked; the door beside it is open or not

-- a target that is written whatever is so
abbrev pub always : Target → Effect
always x = record { condition = []; target = x }

-- the cup
abbrev pub cup : Term
cup = Object 0

-- the pan
abbrev pub pan : Term
pan = Object 1

-- what is picked
abbrev pub picked : Term
picked = Apply 0 []

-- the thing is on the shelf
abbrev pub shelved : Term → Atom
shelved t = record { predicate = 0; arguments = t ∷ [] }

-- the door of the shelf is open
abbrev pub door_open : Literal
door_open = fact 1

-- anything is on the shelf
abbrev pub any_shelved : Pattern
any_shelved = record { predicate = 0; slots = None ∷ [] }

-- nothing but what is listed is on the shelf
abbrev pub only_shelved : List Atom → Fact
only_shelved atoms = FactLcw (record { pattern = any_shelved; listed = atoms })

-- what is known at first, and the one action's effects
abbrev pub shelf : List Start → List Effect → Problem
shelf init es =
    stating (record { types = 1; parents = None ∷ []; objects = 0 ∷ 0 ∷ []; predicates = shape (0 ∷ []) ∷ shape [] ∷ []; functions = shape [] ∷ [] }) (doing [] es [] [] ∷ []) init []

-- the one action is done
abbrev pub acted : Path
acted = Went (action 0) ∷ []

-- the pan is on the shelf or the door is open
abbrev pub pan_or_door : List Literal
pan_or_door = affirmed (shelved pan) ∷ door_open ∷ []

-- the shelf is empty: so the door is open
abbrev pub door_by_only : Proof
door_by_only =
    record { moment = 0; fact = only_shelved []; reason = ByGiven 2; cites = [] }
    ∷ proved 0 (negated (affirmed (shelved pan))) ByClosed (1 ∷ [])
    ∷ record { moment = 0; fact = FactKx pan_or_door; reason = ByGiven 1; cites = [] }
    ∷ proved 0 door_open ByOnly (2 ∷ 3 ∷ []) ∷ []

-- the door is open: so the pan isn't on the shelf
abbrev pub pan_by_others : Proof
pan_by_others =
    record { moment = 0; fact = FactKx pan_or_door; reason = ByGiven 1; cites = [] }
    ∷ proved 0 door_open (ByGiven 2) []
    ∷ proved 0 (negated (affirmed (shelved pan))) ByOthers (1 ∷ 2 ∷ []) ∷ []

-- what is picked isn't the pan, so it is the cup; it is on the shelf, so the cup is
abbrev pub cup_by_range : List ℕ → Proof
cup_by_range cites =
    proved 0 (unequal picked pan) (ByGiven 1) []
    ∷ proved 0 (equal picked cup) ByRange cites
    ∷ proved 0 (affirmed (shelved picked)) (ByGiven 2) []
    ∷ proved 0 (affirmed (shelved cup)) BySwap (2 ∷ 3 ∷ []) ∷ []

-- the cup is what is picked, and that is put on the shelf: so the cup is on it, said of the cup or of what is picked
abbrev pub put_by_effect : Term → Proof
put_by_effect t = proved 0 (equal picked cup) (ByGiven 1) [] ∷ proved 1 (affirmed (shelved t)) ByEffect (1 ∷ []) ∷ []

-- the shelf was empty, so only the cup, which is put on it, is there: not the pan
abbrev pub pan_by_grow : Fact → Reason → Proof
pan_by_grow f r =
    record { moment = 0; fact = only_shelved []; reason = ByGiven 2; cites = [] }
    ∷ proved 0 (equal picked cup) (ByGiven 1) []
    ∷ record { moment = 1; fact = f; reason = r; cites = 1 ∷ 2 ∷ [] }
    ∷ proved 1 (negated (affirmed (shelved pan))) ByClosed (3 ∷ []) ∷ []

-- the shelf is emptied, so the pan isn't on it
abbrev pub pan_by_clear : Proof
pan_by_clear =
    record { moment = 1; fact = only_shelved []; reason = ByClear; cites = [] }
    ∷ proved 1 (negated (affirmed (shelved pan))) ByClosed (1 ∷ []) ∷ []

-- the value at first, and that it is kept
abbrev pub cup_by_keep : Proof
cup_by_keep = proved 0 (equal picked cup) (ByGiven 1) [] ∷ proved 1 (equal picked cup) ByKeep (1 ∷ []) ∷ []

-- the names of the shelf
abbrev pub shelf_names : Names
shelf_names = record { objects = codes "cup" ∷ codes "pan" ∷ []; predicates = codes "shelved" ∷ codes "open" ∷ []; functions = codes "picked" ∷ []; actions = [] }
