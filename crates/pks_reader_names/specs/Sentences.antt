-- The faults of queries, effects, senses, adds, initial items and aims.
use Rattle.std.specs.Prelude.{ℕ, Bool, true, false, ◌||◌, ◌&&◌, List, [], ◌∷◌, ◌++◌, codes, bytes_eq, if◌then◌else◌}
use Rattle.pks_terms.specs.declared.codes.TheConstants.{LITERAL_TWICE}
use Rattle.pks_text.specs.Forms.{Form, Word, Listing, Forms, no_forms, form, place_of}
use Rattle.pks_reader_shape.specs.Walk.{is_headed}
use Rattle.pks_reader_shape.specs.Files.{Fault}
use Rattle.pks_reader_names.specs.Scopes.{Scope}
use Rattle.pks_reader_names.specs.Parts.{parts_of, behind_head, section, first_forms, each, only, past}
use Rattle.pks_reader_names.specs.Terms.{term_faults, assigned_faults, positive_faults, literal_faults, pattern_faults}

-- literals, at most n as written
abbrev pub literals_faults : Scope → ℕ → Forms → List Fault
literals_faults s n fs = past n fs ++ each (literal_faults s) fs

-- `k`, `kw` and `kv`
unfoldable pub plain_faults : Scope → Form → List Fault
plain_faults s f = if is_headed (codes "kv") f then only (term_faults s) (behind_head f) else literals_faults s 4 (behind_head f)

-- one of these, or `not-derived` of it
unfoldable pub query_faults : Scope → Form → List Fault
query_faults s f = if is_headed (codes "not-derived") f then only (plain_faults s) (behind_head f) else plain_faults s f

-- `kf`, `kw`, `kv` and `lcw`
unfoldable pub item_faults : Scope → Form → List Fault
item_faults s f =
    if is_headed (codes "kv") f then only (term_faults s) (behind_head f)
    else (if is_headed (codes "lcw") f then only (pattern_faults s) (behind_head f) else literals_faults s 4 (behind_head f))

-- `set`, `unset`, `clear` and `assign`
unfoldable pub target_faults : Scope → Form → List Fault
target_faults s f =
    if is_headed (codes "assign") f then assigned_faults s (behind_head f)
    else (if is_headed (codes "clear") f then only (pattern_faults s) (behind_head f) else only (positive_faults s) (behind_head f))

-- a condition and a target
abbrev pub conditional_faults : Scope → Forms → List Fault
conditional_faults s (form condition (form target fs)) = literals_faults s 4 (parts_of condition) ++ target_faults s target
conditional_faults s fs = []

-- a target, or `when`
unfoldable pub effect_faults : Scope → Form → List Fault
effect_faults s f = if is_headed (codes "when") f then conditional_faults s (behind_head f) else target_faults s f

-- `sense`, `sense-value` and `sense-all`
unfoldable pub sense_faults : Scope → Form → List Fault
sense_faults s f =
    if is_headed (codes "sense-value") f then only (term_faults s) (behind_head f)
    else (if is_headed (codes "sense-all") f then only (pattern_faults s) (behind_head f) else literals_faults s 4 (behind_head f))

-- at most n parts, each without a fault
abbrev pub parts_faults : ℕ → (Form → List Fault) → Forms → List Fault
parts_faults n faults fs = past n fs ++ each faults fs

-- queries and an item
abbrev pub given_faults : Scope → Forms → List Fault
given_faults s (form given (form item fs)) = parts_faults 4 (query_faults s) (parts_of given) ++ item_faults s item
given_faults s fs = []

-- an item, or `if`
unfoldable pub add_faults : Scope → Form → List Fault
add_faults s f = if is_headed (codes "if") f then given_faults s (behind_head f) else item_faults s f

-- ---- groups

abbrev mutual
  -- two forms have the same words and lists
  pub same_form : Form → Form → Bool
  same_form (Word text at) (Word other at') = bytes_eq text other
  same_form (Word text at) (Listing others at' end') = false
  same_form (Listing parts at end) (Word other at') = false
  same_form (Listing parts at end) (Listing others at' end') = same_forms parts others

  -- they are the same one by one
  pub same_forms : Forms → Forms → Bool
  same_forms no_forms no_forms = true
  same_forms no_forms (form g gs) = false
  same_forms (form f fs) no_forms = false
  same_forms (form f fs) (form g gs) = same_form f g && same_forms fs gs

-- the sides of one equation are those of the other the other way round
abbrev pub same_turned : Forms → Forms → Bool
same_turned (form t (form u fs)) (form v (form w gs)) = same_form t w && same_form u v
same_turned fs gs = false

-- the same atom, or the same equation with its sides in either order
abbrev pub same_positive : Form → Form → Bool
same_positive f g = same_form f g || (is_headed (codes "=") f && (is_headed (codes "=") g && same_turned (behind_head f) (behind_head g)))

-- of lists of one form each
abbrev pub same_only : Forms → Forms → Bool
same_only (form f fs) (form g gs) = same_positive f g
same_only no_forms gs = false
same_only (form f fs) no_forms = false

-- the same literal with the same sign
unfoldable pub same_literal : Form → Form → Bool
same_literal f g = if is_headed (codes "not") f && is_headed (codes "not") g then same_only (behind_head f) (behind_head g) else same_positive f g

-- the same literal comes again
abbrev pub again : Form → Form → List Fault
again f g = if same_literal f g then (place_of g, LITERAL_TWICE) ∷ [] else []

-- a literal that stands twice, at its second place
abbrev pub repeated : Forms → List Fault
repeated no_forms = []
repeated (form f fs) = each (again f) fs ++ repeated fs

-- the literals of a group. Past the sixteenth there is a fault already
abbrev pub group_faults : Scope → Forms → List Fault
group_faults s fs = literals_faults s 16 fs ++ repeated (first_forms 16 fs)

-- ---- the problem

-- an item, or `kx`
unfoldable pub start_faults : Scope → Form → List Fault
start_faults s f = if is_headed (codes "kx") f then group_faults s (behind_head f) else item_faults s f

-- `at-start`, `always` or `once`
abbrev pub is_over_moments : Form → Bool
is_over_moments f = is_headed (codes "at-start") f || (is_headed (codes "always") f || is_headed (codes "once") f)

-- a query, or one of these with a query
unfoldable pub aim_faults : Scope → Form → List Fault
aim_faults s f = if is_over_moments f then only (plain_faults s) (behind_head f) else plain_faults s f

-- the initial items, and the aims, of which there are at most 16
unfoldable pub problem_faults : Scope → Forms → List Fault
problem_faults s fs = each (start_faults s) (section (codes "init") fs) ++ parts_faults 16 (aim_faults s) (section (codes "goal") fs)
