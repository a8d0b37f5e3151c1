-- The first fault of a text. Tokens alone are counted.
use Rattle.std.specs.Prelude.{◌≡◌, ◌≤◌, ℕ, ◌+◌, nat_lt, List, [], ◌∷◌, length, Option, Some, None, if◌then◌else◌}
use Rattle.pks_text.specs.Gaps.{IsOnlyGap}
use Rattle.pks_text.specs.Tokens.{BeginsBad}
use Rattle.pks_text.specs.Forms.{Mark, Said, Opens, Closes, mark_end, Begins}
use Rattle.pks_text.specs.declared.tree.FormFault.{FormFault}
use Rattle.pks_text.specs.declared.tree.FormFault.TheVariants.{BadByte, Unclosed, Unopened, TooDeep, Memory}

-- The places of the lists that are open behind a token, the innermost first. There are none where the token closes nothing,
-- and where it opens a list within twelve others.
abbrev pub opened : List ℕ → Mark → Option (List ℕ)
opened ps (Said text at) = Some ps
opened ps (Opens at) = if nat_lt (length ps) 12 then Some (at ∷ ps) else None
opened [] (Closes end) = None
opened (p ∷ ps) (Closes end) = Some ps

-- the text that stands at a place, within open lists, begins with the fault
abbrev pub Stops : List ℕ → List ℕ → ℕ → FormFault → Type 0
Stops ps text at (BadByte p) = (n : ℕ) × BeginsBad text n × (p ≡ at + n)
Stops ps text at (Unopened p) = (rest : List ℕ) × Begins text at (Closes (p + 1)) rest × (ps ≡ [])
Stops ps text at (TooDeep p) = (rest : List ℕ) × Begins text at (Opens p) rest × (12 ≤ length ps)
Stops ps text at (Unclosed p) = IsOnlyGap text × ((outer : List ℕ) × (ps ≡ p ∷ outer))
Stops ps text at Memory = ⊥

-- the fault stands behind these tokens, none of which is a fault
abbrev pub StopsAfter : List ℕ → List ℕ → ℕ → List Mark → FormFault → Type 0
StopsAfter ps text at [] fault = Stops ps text at fault
StopsAfter ps text at (m ∷ ms) fault = (rest : List ℕ) × (now : List ℕ) × Begins text at m rest × (opened ps m ≡ Some now) × StopsAfter now rest (mark_end m) ms fault

-- the fault is the first of the text
abbrev pub IsFirstFault : List ℕ → FormFault → Type 0
IsFirstFault text fault = (ms : List Mark) × StopsAfter [] text 0 ms fault

-- an answer in place of forms: the first fault, or want of memory
abbrev pub IsFaultOf : List ℕ → FormFault → Type 0
IsFaultOf text Memory = Unit {0}
IsFaultOf text fault = IsFirstFault text fault

-- the answer to this fault, unless memory ran out
abbrev pub IsAnswered : FormFault → FormFault → Type 0
IsAnswered fault Memory = Unit {0}
IsAnswered fault answer = answer ≡ fault
