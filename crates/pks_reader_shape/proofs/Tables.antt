-- What the table of the grammar is like: by a form's head one sees where it stands.
use Rattle.std.proofs.Common.{◌≡◌, ℕ, Bool, true, false, not, ◌&&◌, ◌||◌, map, List, [], ◌∷◌, Option, Some, None, refl}
use Rattle.std.proofs.lemmas.Bool.{false≢true}
use Rattle.pks_reader_shape.specs.declared.grammar.Version.{Version}
use Rattle.pks_reader_shape.specs.declared.grammar.Version.TheVariants.{First, Second}
use Rattle.pks_reader_shape.specs.declared.grammar.Sort.{Sort}
use Rattle.pks_reader_shape.specs.declared.grammar.Sort.TheVariants.{Head, Name, Variable, Number, Kind, Action, Aim, Slot, Term}
use Rattle.pks_reader_shape.specs.declared.grammar.Part.{Part}
use Rattle.pks_reader_shape.specs.declared.grammar.Part.TheVariants.{One, Maybe, Many}
use Rattle.pks_terms.specs.ValidProblems.{is_name}
use Rattle.pks_reader_shape.specs.Grammar.{Lists, is_allowed, lists, is_among, production, head_of_section}

-- ---- what is asked of the parts of a list

abbrev pub is_missing : {X : Type 0} → Option X → Bool
is_missing None = true
is_missing (Some x) = false

-- no list with this head can stand first where these parts are wanted
abbrev pub cannot_begin : Version → List ℕ → List Part → Bool
cannot_begin v h [] = true
cannot_begin v h (One s ∷ ps) = is_missing (production v s h)
cannot_begin v h (Many s ∷ ps) = is_missing (production v s h) && cannot_begin v h ps
cannot_begin v h (Maybe s ∷ ps) = is_missing (production v s h) && cannot_begin v h ps

-- the lists of the sort have one head
abbrev pub has_one_head : Lists → Bool
has_one_head ls = elim ls.fixed [ [] ↦ false | p ∷ ps ↦ elim ps [ [] ↦ is_missing ls.other | q ∷ qs ↦ false ] ]

-- by its head one sees for which of the parts a form stands, and any number of forms stand at the end alone
abbrev pub is_decided : Version → List Part → Bool
is_decided v [] = true
is_decided v (One s ∷ ps) = is_decided v ps
is_decided v (Many s ∷ []) = true
is_decided v (Many s ∷ p ∷ ps) = false
is_decided v (Maybe s ∷ ps) = has_one_head (lists v s) && (cannot_begin v (head_of_section v s) ps && is_decided v ps)

abbrev pub are_decided : Version → List (List ℕ × List Part) → Bool
are_decided v [] = true
are_decided v (p ∷ ps) = is_decided v p.1 && are_decided v ps

abbrev pub is_other_decided : Version → Option (List Part) → Bool
is_other_decided v None = true
is_other_decided v (Some ps) = is_decided v ps

-- ---- the table

-- no word stands where one list is wanted
pub no_words : (s : Sort) (v : Version) → has_one_head (lists v s) ≡ true → (text : List ℕ) → is_allowed s text ≡ false
unfolding is_allowed lists
no_words Head v one text = absurd (false≢true one)
no_words Name v one text = absurd (false≢true one)
no_words Variable v one text = absurd (false≢true one)
no_words Number v one text = absurd (false≢true one)
no_words Kind First one text = absurd (false≢true one)
no_words Kind Second one text = absurd (false≢true one)
no_words Term v one text = absurd (false≢true one)
no_words Slot v one text = absurd (false≢true one)
no_words _ v one text = refl

-- ---- which of its lists a form is, one sees by its head

-- no two lists have one head
abbrev pub are_distinct : List (List ℕ × List Part) → Bool
are_distinct [] = true
are_distinct (p ∷ ps) = not (is_among p.0 (map (λ q. q.0) ps)) && are_distinct ps

abbrev pub begins_with_name : List Part → Bool
begins_with_name (One Name ∷ ps) = true
begins_with_name _ = false

-- a list without a fixed head has none of these
abbrev pub are_no_names : List (List ℕ) → List (List ℕ × List Part) → Bool
are_no_names barred [] = true
are_no_names barred (p ∷ ps) = (is_among p.0 barred || not (is_name p.0)) && are_no_names barred ps

abbrev pub is_empty : List (List ℕ × List Part) → Bool
is_empty [] = true
is_empty (p ∷ ps) = false

abbrev pub is_apart : Lists → Bool
is_apart ls = elim ls.other [ None ↦ true | Some ps ↦ is_empty ls.fixed || (begins_with_name ps && are_no_names ls.barred ls.fixed) ]

-- what the walk rests on
pub record IsSound (v : Version) (ls : Lists) : Type 0 where
  pub fixed : are_decided v ls.fixed ≡ true
  pub other : is_other_decided v ls.other ≡ true
  pub distinct : are_distinct ls.fixed ≡ true
  pub apart : is_apart ls ≡ true

pub lists_sound : (s : Sort) (v : Version) → IsSound v (lists v s)
unfolding lists production head_of_section
lists_sound Kind First = record { fixed = refl; other = refl; distinct = refl; apart = refl }
lists_sound Kind Second = record { fixed = refl; other = refl; distinct = refl; apart = refl }
lists_sound Action First = record { fixed = refl; other = refl; distinct = refl; apart = refl }
lists_sound Action Second = record { fixed = refl; other = refl; distinct = refl; apart = refl }
lists_sound Aim First = record { fixed = refl; other = refl; distinct = refl; apart = refl }
lists_sound Aim Second = record { fixed = refl; other = refl; distinct = refl; apart = refl }
lists_sound _ v = record { fixed = refl; other = refl; distinct = refl; apart = refl }
