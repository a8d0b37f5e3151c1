-- Words and lists at their places in a text, and the tokens that spell them.
use Rattle.std.specs.Prelude.{◌≡◌, ℕ, ◌+◌, List, [], ◌∷◌, ◌++◌, length, codes}
use Rattle.pks_text.specs.Gaps.{IsOnlyGap}
use Rattle.pks_text.specs.Tokens.{IsWord, BeginsWith}

-- A place is a number of bytes from the beginning of the text. A word stands at the place of its first byte.
-- A list stands from its opening parenthesis up to the place behind its closing one.
mutual
  pub data Form : Type 0 where
    Word : (text : List ℕ) → (at : ℕ) → Form
    Listing : (parts : Forms) → (at : ℕ) → (end : ℕ) → Form

  pub data Forms : Type 0 where
    no_forms : Forms
    form : Form → Forms → Forms

-- forms as a list
abbrev pub list_of : Forms → List Form
list_of no_forms = []
list_of (form f fs) = f ∷ list_of fs

-- a list as forms
abbrev pub forms_of : List Form → Forms
forms_of [] = no_forms
forms_of (f ∷ fs) = form f (forms_of fs)

-- where a form stands
abbrev pub place_of : Form → ℕ
place_of (Word text at) = at
place_of (Listing parts at end) = at

-- a token at its place: a word, an opening parenthesis, or a closing one that ends at a place
pub data Mark : Type 0 where
  Said : (text : List ℕ) → (at : ℕ) → Mark
  Opens : (at : ℕ) → Mark
  Closes : (end : ℕ) → Mark

-- the bytes of the token
abbrev pub mark_text : Mark → List ℕ
mark_text (Said text at) = text
mark_text (Opens at) = codes "("
mark_text (Closes end) = codes ")"

-- the place behind the token
abbrev pub mark_end : Mark → ℕ
mark_end (Said text at) = at + length text
mark_end (Opens at) = at + 1
mark_end (Closes end) = end

-- what is called a word has the bytes of one
abbrev pub IsOfClass : Mark → Type 0
IsOfClass (Said text at) = IsWord text
IsOfClass (Opens at) = Unit {0}
IsOfClass (Closes end) = Unit {0}

-- the tokens of forms, in order
abbrev mutual
  pub form_marks : Form → List Mark
  form_marks (Word text at) = Said text at ∷ []
  form_marks (Listing parts at end) = Opens at ∷ (forms_marks parts ++ Closes end ∷ [])

  pub forms_marks : Forms → List Mark
  forms_marks no_forms = []
  forms_marks (form f fs) = form_marks f ++ forms_marks fs

-- a text that stands at a place goes on with this token, and this is left
pub record Begins (text : List ℕ) (at : ℕ) (m : Mark) (rest : List ℕ) : Type 0 where
  pub begins : BeginsWith text (mark_text m) rest
  pub placed : mark_end m ≡ at + (length begins.gap + length (mark_text m))
  pub class : IsOfClass m

-- the text is these tokens in order, with blanks and comments before, between and after
abbrev pub SpellsFrom : List ℕ → ℕ → List Mark → Type 0
SpellsFrom text at [] = IsOnlyGap text
SpellsFrom text at (m ∷ ms) = (rest : List ℕ) × Begins text at m rest × SpellsFrom rest (mark_end m) ms

-- the text is the tokens of these forms
abbrev pub Spells : List ℕ → Forms → Type 0
Spells text fs = SpellsFrom text 0 (forms_marks fs)

-- the text spells no other forms than these
abbrev pub SpellsNoOther : List ℕ → Forms → Type 0
SpellsNoOther text fs = (gs : Forms) → Spells text gs → gs ≡ fs
