-- Forms as they lie in memory.
use Rattle.std.specs.Prelude.{◌≡◌, ◌≤◌, ℕ, ◌+◌, List, [], ◌∷◌, ◌++◌, length, map, codes, bytes_eq, if◌then◌else◌}
use Rattle.std.specs.List.{flat_map, AllByRecursion}
use Rattle.pks_text.specs.Reading.{IsSliceOf}
use Rattle.pks_text.specs.Forms.{Form, Word, Listing, Forms, forms_of, Mark, Said, Opens, Closes, forms_marks}
use Rattle.pks_text.specs.declared.tokens.Token.{Token}
use Rattle.pks_text.specs.declared.tokens.LexFault.{LexFault}
use Rattle.pks_text.specs.declared.tokens.LexFault.TheVariants as lex
use Rattle.pks_text.specs.declared.tree.FormFault.{FormFault}
use Rattle.pks_text.specs.declared.tree.FormFault.TheVariants.{BadByte, Unclosed, Unopened, TooDeep, Memory}
use Rattle.pks_text.specs.declared.tree.Form.{Form as CodeForm, fold-Form}
use Rattle.pks_text.specs.declared.tree.Form.TheOpen.{Form-F}
use Rattle.pks_text.specs.declared.nesting.Open.{Open}
use Rattle.pks_text.specs.declared.nesting.Pile.{Pile}

-- a form, once the parts of a list are known as forms
abbrev pub form_step : Form-F Form → Form
form_step (Form-F.Name token) = Word token.text.now token.span.start
form_step (Form-F.List parts span) = Listing (forms_of parts.items) span.start span.end

-- a form, apart from how it lies in memory
abbrev pub form_view : CodeForm → Form
form_view = fold-Form Form form_step

-- forms, apart from how they lie in memory
abbrev pub forms_view : List CodeForm → Forms
forms_view fs = forms_of (map form_view fs)

-- the words of a form, once those of the parts of a list are known
abbrev pub words_step : Form-F (List Token) → List Token
words_step (Form-F.Name token) = token ∷ []
words_step (Form-F.List parts span) = flat_map (λ ws. ws) parts.items

-- the words of a form, in order
abbrev pub words_in : CodeForm → List Token
words_in = fold-Form (List Token) words_step

-- each word of the forms is the slice of the source at its span
abbrev pub AreSlices : List ℕ → List CodeForm → Type 0
AreSlices source fs = AllByRecursion (λ t. IsSliceOf source t) (flat_map words_in fs)

-- the tokens of what stands before a list that is open, with its parenthesis
abbrev pub pile_marks : List Open → List Mark
pile_marks [] = []
pile_marks (o ∷ os) = forms_marks (forms_view o.parts.items) ++ Opens o.start ∷ pile_marks os

-- the tokens that were read
abbrev pub marks_of : Pile → List Mark
marks_of p = pile_marks p.outer.items ++ forms_marks (forms_view p.parts.items)

-- the words that were read
abbrev pub words_of : Pile → List Token
words_of p = flat_map (λ (o : Open). flat_map words_in o.parts.items) p.outer.items ++ flat_map words_in p.parts.items

-- the places of the lists that are open, behind those that are given
abbrev pub open_places : List ℕ → List Open → List ℕ
open_places ps [] = ps
open_places ps (o ∷ os) = open_places (o.start ∷ ps) os

-- the places of the lists that are open, the innermost first
abbrev pub places_of : Pile → List ℕ
places_of p = open_places [] p.outer.items

-- the token as a word or a parenthesis
abbrev pub mark_of : Token → Mark
mark_of t = if bytes_eq t.text.now (codes "(") then Opens t.span.start else (if bytes_eq t.text.now (codes ")") then Closes (t.span.start + 1) else Said t.text.now t.span.start)

-- the token is a fault within these lists, unless memory ran out
abbrev pub IsTurned : List ℕ → Mark → FormFault → Type 0
IsTurned ps m (Unopened p) = (m ≡ Closes (p + 1)) × (ps ≡ [])
IsTurned ps m (TooDeep p) = (m ≡ Opens p) × (12 ≤ length ps)
IsTurned ps m Memory = Unit {0}
IsTurned ps m (BadByte p) = ⊥
IsTurned ps m (Unclosed p) = ⊥

-- the innermost of these lists is open at the end
abbrev pub IsOpen : List ℕ → FormFault → Type 0
IsOpen ps (Unclosed p) = (outer : List ℕ) × (ps ≡ p ∷ outer)
IsOpen ps (Unopened p) = ⊥
IsOpen ps (TooDeep p) = ⊥
IsOpen ps (BadByte p) = ⊥
IsOpen ps Memory = ⊥

-- a bad byte as a fault of forms
abbrev pub fault_of : LexFault → FormFault
fault_of (lex.BadByte at) = BadByte at

-- the token where it is a word
abbrev pub spoken : Token → List Token
spoken t = if bytes_eq t.text.now (codes "(") then [] else (if bytes_eq t.text.now (codes ")") then [] else t ∷ [])
