-- Where the walk finds no fault, the form is of the sort by the grammar.
use Rattle.std.proofs.Common.{◌≡◌, ℕ, Bool, true, false, ◌||◌, ◌&&◌, cond, List, [], ◌∷◌, length, nat_lt, Option, Some, None, refl, sym, ◌∙◌}
use Rattle.std.proofs.lemmas.Bool.{false≢true, true≢false}
use Rattle.pks_text.specs.Forms.{Form, Word, Listing, Forms, no_forms, form}
use Rattle.pks_reader_shape.specs.declared.grammar.Version.{Version}
use Rattle.pks_reader_shape.specs.declared.grammar.Sort.{Sort}
use Rattle.pks_reader_shape.specs.declared.grammar.Sort.TheVariants.{Nothing}
use Rattle.pks_reader_shape.specs.declared.grammar.Part.{Part}
use Rattle.pks_reader_shape.specs.declared.grammar.Part.TheVariants.{One, Maybe, Many}
use Rattle.pks_reader_shape.specs.Grammar.{is_allowed, lists, production, head_of_section}
use Rattle.pks_reader_shape.specs.Walk.{head_of, is_headed, sort_at, parts_after, is_wanting, lacks, is_fixed, count, is_miscounted, first_of, fault_in, fault_among}
use Rattle.pks_reader_shape.specs.Language.{IsOf, word, listing, Matches, nothing, one, left_out, there, no_more, again}
use Rattle.pks_reader_shape.proofs.Heads.{some_none, may_have, has_parts}

-- what the walk gives at a list, by its production
abbrev pub list_fault : Version → Option (List Part) → Forms → ℕ → Option ℕ
list_fault v o parts at = elim o [ None ↦ Some at | Some ps ↦ cond (is_miscounted v ps parts) (Some at) (fault_among v ps parts) ]

pub word_walk : (v : Version) (s : Sort) (text : List ℕ) (at : ℕ) → fault_in v s (Word text at) ≡ cond (is_allowed s text) None (Some at)
unfolding fault_in
word_walk v s text at = refl

pub list_walk : (v : Version) (s : Sort) (parts : Forms) (at end : ℕ) → fault_in v s (Listing parts at end) ≡ list_fault v (production v s (head_of parts)) parts at
unfolding fault_in
list_walk v s parts at end = refl

pub parts_walk : (v : Version) (ps : List Part) (f : Form) (fs : Forms) → fault_among v ps (form f fs) ≡ first_of (fault_in v (sort_at v ps f) f) (fault_among v (parts_after v ps f) fs)
unfolding fault_among
parts_walk v ps f fs = refl

no_form_of_nothing : (v : Version) (f : Form) → IsOf v Nothing f → ⊥
unfolding is_allowed production lists
no_form_of_nothing v _ (word _ text at allowed) = false≢true allowed
no_form_of_nothing v _ (listing _ parts at end ps may matches) = some_none (sym (has_parts v Nothing parts ps may matches))

stands : (v : Version) (ps : List Part) (f : Form) (fs : Forms) → IsOf v (sort_at v ps f) f → Matches v (parts_after v ps f) fs → Matches v ps (form f fs)
stands v [] f fs is matches = absurd (no_form_of_nothing v f is)
stands v (One s ∷ ps) f fs is matches = one s ps f fs is matches
stands v (Many s ∷ ps) f fs is matches = again s ps f fs is matches
stands v (Maybe s ∷ ps) f fs is matches = by_test (is_headed (head_of_section v s) f) (λ is matches. stands v ps f fs is matches) is matches
  where
    by_test : (b : Bool) → (IsOf v (sort_at v ps f) f → Matches v (parts_after v ps f) fs → Matches v ps (form f fs)) → IsOf v (cond b s (sort_at v ps f)) f → Matches v (cond b ps (parts_after v ps f)) fs → Matches v (Maybe s ∷ ps) (form f fs)
    by_test true later is matches = there s ps f fs is matches
    by_test false later is matches = left_out s ps (form f fs) (later is matches)

at_end : (v : Version) (ps : List Part) → is_wanting ps ≡ false → Matches v ps no_forms
at_end v [] full = nothing
at_end v (One s ∷ ps) full = absurd (true≢false full)
at_end v (Many s ∷ ps) full = no_more s ps no_forms (at_end v ps full)
at_end v (Maybe s ∷ ps) full = left_out s ps no_forms (at_end v ps full)

none_first : (a b : Option ℕ) → first_of a b ≡ None → (a ≡ None) × (b ≡ None)
none_first None b e = (refl, e)
none_first (Some at) b e = absurd (some_none e)

pub passes : {X : Type 0} (b : Bool) (x : X) → cond b None (Some x) ≡ None → b ≡ true
passes true x e = refl
passes false x e = absurd (some_none e)

counted : (a b : Bool) (at : ℕ) (rest : Option ℕ) → cond (a || b) (Some at) rest ≡ None → (a ≡ false) × (rest ≡ None)
counted true b at rest e = absurd (some_none e)
counted false true at rest e = absurd (some_none e)
counted false false at rest e = (refl, e)

listed : (v : Version) (s : Sort) (parts : Forms) (at end : ℕ) (o : Option (List Part)) → production v s (head_of parts) ≡ o → list_fault v o parts at ≡ None
    → ((ps : List Part) → lacks v ps parts ≡ false → fault_among v ps parts ≡ None → Matches v ps parts) → IsOf v s (Listing parts at end)
listed v s parts at end None made e later = absurd (some_none e)
listed v s parts at end (Some ps) made e later =
    let c = counted (lacks v ps parts) (is_fixed ps && nat_lt (length ps) (count parts)) at (fault_among v ps parts) e in
    listing s parts at end ps (may_have v s (head_of parts) ps made) (later ps c.0 c.1)

mutual
  pub walked_form : (v : Version) (s : Sort) (f : Form) → fault_in v s f ≡ None → IsOf v s f
  walked_form v s (Word text at) e = word s text at (passes (is_allowed s text) at (sym (word_walk v s text at) ∙ e))
  walked_form v s (Listing parts at end) e = listed v s parts at end (production v s (head_of parts)) refl (sym (list_walk v s parts at end) ∙ e) (λ ps lacking faultless. walked_parts v ps parts lacking faultless)

  pub walked_parts : (v : Version) (ps : List Part) (fs : Forms) → lacks v ps fs ≡ false → fault_among v ps fs ≡ None → Matches v ps fs
  walked_parts v ps no_forms full e = at_end v ps full
  walked_parts v ps (form f fs) full e =
      let both = none_first (fault_in v (sort_at v ps f) f) (fault_among v (parts_after v ps f) fs) (sym (parts_walk v ps f fs) ∙ e) in
      stands v ps f fs (walked_form v (sort_at v ps f) f both.0) (walked_parts v (parts_after v ps f) fs full both.1)
