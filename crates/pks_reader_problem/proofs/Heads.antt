-- A form has one head, so what is asked of another head is passed over.
use Rattle.std.proofs.Common.{◌≡◌, ◌∙◌, ℕ, Bool, true, false, cond, List, bytes_eq, codes, refl, ap}
use Rattle.std.proofs.lemmas.Slice.Eq.{bytes_eq-Decides}
use Rattle.pks_text.specs.Forms.{Form, Word, Listing}
use Rattle.pks_reader_shape.specs.Walk.{head_of, is_headed}
use Rattle.pks_reader_shape.specs.Files.{Fault}
use Rattle.pks_reader_names.specs.Parts.{behind_head, only}
use Rattle.pks_reader_names.specs.Scopes.{Scope}
use Rattle.pks_reader_names.specs.Terms.{term_faults, pattern_faults}
use Rattle.pks_reader_names.specs.Sentences.{literals_faults, plain_faults, item_faults, group_faults, start_faults}

other_head : (a b : List ℕ) (f : Form) → bytes_eq a b ≡ false → is_headed a f ≡ true → is_headed b f ≡ false
other_head a b (Word text at) other headed = refl
other_head a b (Listing parts at end) other headed = ap (λ (h : List ℕ). bytes_eq h b) ((bytes_eq-Decides (head_of parts) a).0 headed) ∙ other

passed : (a b : List ℕ) (f : Form) (xs ys : List Fault) → bytes_eq a b ≡ false → is_headed a f ≡ true → cond (is_headed b f) xs ys ≡ ys
passed a b f xs ys other headed = ap (λ (holds : Bool). cond holds xs ys) (other_head a b f other headed)

pub plain_known : (s : Scope) (f : Form) → is_headed (codes "k") f ≡ true → plain_faults s f ≡ literals_faults s 4 (behind_head f)
unfolding plain_faults
plain_known s f = passed (codes "k") (codes "kv") f (only (term_faults s) (behind_head f)) (literals_faults s 4 (behind_head f)) refl

pub item_known : (s : Scope) (f : Form) → is_headed (codes "kf") f ≡ true → item_faults s f ≡ literals_faults s 4 (behind_head f)
unfolding item_faults
item_known s f headed =
    let literals : List Fault = literals_faults s 4 (behind_head f) in
    let pattern : List Fault = only (pattern_faults s) (behind_head f) in
    passed (codes "kf") (codes "kv") f (only (term_faults s) (behind_head f)) (cond (is_headed (codes "lcw") f) pattern literals) refl headed ∙ passed (codes "kf") (codes "lcw") f pattern literals refl headed

-- an initial item with another head than `kx`
start_item : (head : List ℕ) (s : Scope) (f : Form) → bytes_eq head (codes "kx") ≡ false → is_headed head f ≡ true → start_faults s f ≡ item_faults s f
unfolding start_faults
start_item head s f = passed head (codes "kx") f (group_faults s (behind_head f)) (item_faults s f)

pub start_known : (s : Scope) (f : Form) → is_headed (codes "kf") f ≡ true → start_faults s f ≡ literals_faults s 4 (behind_head f)
start_known s f headed = start_item (codes "kf") s f refl headed ∙ item_known s f headed

pub start_value : (s : Scope) (f : Form) → is_headed (codes "kv") f ≡ true → start_faults s f ≡ item_faults s f
start_value s f = start_item (codes "kv") s f refl

pub start_pattern : (s : Scope) (f : Form) → is_headed (codes "lcw") f ≡ true → start_faults s f ≡ item_faults s f
start_pattern s f = start_item (codes "lcw") s f refl
