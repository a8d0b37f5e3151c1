-- The forms of each sort, by the grammar as it is usually read: a part stands once, may be left out, or stands any number of times.
use Rattle.std.specs.Prelude.{◌≡◌, ◌⊎◌, ℕ, true, false, List, [], ◌∷◌, Some, codes}
use Rattle.pks_terms.specs.Sets.{IsIn}
use Rattle.pks_text.specs.Forms.{Form, Word, Listing, Forms, no_forms, form}
use Rattle.pks_reader_shape.specs.declared.grammar.Version.{Version}
use Rattle.pks_reader_shape.specs.declared.grammar.Sort.{Sort}
use Rattle.pks_reader_shape.specs.declared.grammar.Sort.TheVariants.{Domain, Problem}
use Rattle.pks_reader_shape.specs.declared.grammar.Part.{Part}
use Rattle.pks_reader_shape.specs.declared.grammar.Part.TheVariants.{One, Maybe, Many}
use Rattle.pks_reader_shape.specs.Grammar.{Lists, is_allowed, lists, is_among}
use Rattle.pks_reader_shape.specs.Walk.{head_of, is_headed}
use Rattle.pks_reader_shape.specs.Files.{stated}

-- a list with this head may have these parts
abbrev pub MayHave : Lists → List ℕ → List Part → Type 0
MayHave ls head ps = IsIn (head, ps) ls.fixed ⊎ ((ls.other ≡ Some ps) × (is_among head ls.barred ≡ false))

mutual
  -- the form is of the sort
  pub data IsOf (v : Version) : Sort → Form → Type 0 where
    word : (s : Sort) (text : List ℕ) (at : ℕ) → is_allowed s text ≡ true → IsOf v s (Word text at)
    listing : (s : Sort) (parts : Forms) (at end : ℕ) (ps : List Part) → MayHave (lists v s) (head_of parts) ps → Matches v ps parts → IsOf v s (Listing parts at end)

  -- the forms are these parts in order
  pub data Matches (v : Version) : List Part → Forms → Type 0 where
    nothing : Matches v [] no_forms
    one : (s : Sort) (ps : List Part) (f : Form) (fs : Forms) → IsOf v s f → Matches v ps fs → Matches v (One s ∷ ps) (form f fs)
    left_out : (s : Sort) (ps : List Part) (fs : Forms) → Matches v ps fs → Matches v (Maybe s ∷ ps) fs
    there : (s : Sort) (ps : List Part) (f : Form) (fs : Forms) → IsOf v s f → Matches v ps fs → Matches v (Maybe s ∷ ps) (form f fs)
    no_more : (s : Sort) (ps : List Part) (fs : Forms) → Matches v ps fs → Matches v (Many s ∷ ps) fs
    again : (s : Sort) (ps : List Part) (f : Form) (fs : Forms) → IsOf v s f → Matches v (Many s ∷ ps) fs → Matches v (Many s ∷ ps) (form f fs)

-- nothing, or a list that begins with `world`, whose shape is asked later
abbrev pub MayBeWorld : List Form → Type 0
MayBeWorld [] = Unit {0}
MayBeWorld (w ∷ []) = is_headed (codes "world") w ≡ true
MayBeWorld (w ∷ f ∷ fs) = ⊥

-- a version, a domain and a problem of that version, and then maybe a world
abbrev pub IsFile : List Form → Type 0
IsFile [] = ⊥
IsFile (f ∷ []) = ⊥
IsFile (f ∷ d ∷ []) = ⊥
IsFile (f ∷ d ∷ p ∷ rest) = (v : Version) × (stated f ≡ Some v) × IsOf v Domain d × IsOf v Problem p × MayBeWorld rest
