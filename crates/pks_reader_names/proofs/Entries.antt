-- Looking names up.
use Rattle.std.proofs.Common.{◌≡◌, ℕ, zero, List, [], ◌∷◌, map, Option, Some, None, Bor, refl, ap, sym, ◌∙◌, Bool, true, false, cond, bytes_eq, option_map, option_copied, is_some, position, length, suc, ◌+◌, nat_lt, not, slice_get, ◌++◌}
use Rattle.std.specs.List.{position_or_len}
use Rattle.std.proofs.lemmas.Bool.{false≢true}
use Rattle.indexmap.specs.IndexMap.{insert_entry}
use Rattle.std.specs.Map.{lookup, keys_of}
use Rattle.std.specs.Map.Iter.{deref_pair}
use Rattle.std.proofs.lemmas.Option.{slice_get-map}
use Rattle.pks_reader_names.specs.Tables.{Table, entry_of, entries_of, declare, number_of, too_long}
use Rattle.pks_reader_names.specs.Declarations.{name_of, name_faults, past_names}
use Rattle.pks_text.specs.Forms.{Form, Forms, no_forms, form, place_of}
use Rattle.pks_reader_shape.specs.Files.{Fault}
use Rattle.pks_reader_names.specs.Views.{seen}

pub lookup_view : {K X Y : Type 0} (key : K → List ℕ) (v : X → Y) (es : List (K × X)) (name : List ℕ) → option_map v (lookup (λ k. bytes_eq name (key k)) es) ≡ entry_of (map (λ e. (key e.0, v e.1)) es) name
lookup_view key v [] name = refl
lookup_view {K = K} {X = X} {Y = Y} key v (e ∷ es) name = by_test (bytes_eq name (key e.0)) (lookup_view key v es name)
  where
    by_test : (b : Bool) → option_map v (lookup (λ k. bytes_eq name (key k)) es) ≡ entry_of (map (λ e. (key e.0, v e.1)) es) name
        → option_map v (cond b (Some e.1) (lookup (λ k. bytes_eq name (key k)) es)) ≡ cond b (Some (v e.1)) (entry_of (map (λ e. (key e.0, v e.1)) es) name)
    by_test true later = refl
    by_test false later = later

-- what a lent entry shows
pub lent_view : {K X Y : Type 0} (key : K → List ℕ) (v : X → Y) (es : List (K × X)) (name : List ℕ) (r : Option (Bor X)) → option_copied r ≡ lookup (λ k. bytes_eq name (key k)) es
    → option_map (λ b. v b.now) r ≡ entry_of (map (λ e. (key e.0, v e.1)) es) name
lent_view {X = X} {Y = Y} key v es name r e = shown r ∙ ap (option_map v) e ∙ lookup_view key v es name
  where
    shown : (r : Option (Bor X)) → option_map (λ b. v b.now) r ≡ option_map v (option_copied r)
    shown None = refl
    shown (Some b) = refl

-- a name that is there is declared already
pub declared_already : {X : Type 0} (es : List (List ℕ × X)) (name : List ℕ) (x : X) → is_some (entry_of es name) ≡ true → es ≡ declare es name x
declared_already [] name x there = absurd (false≢true there)
declared_already {X = X} (e ∷ es) name x there = by_test (bytes_eq name e.0) (λ later. declared_already es name x later) there
  where
    by_test : (b : Bool) → (is_some (entry_of es name) ≡ true → es ≡ declare es name x) → is_some (cond b (Some e.1) (entry_of es name)) ≡ true → e ∷ es ≡ cond b (e ∷ es) (e ∷ declare es name x)
    by_test true later there = refl
    by_test false later there = ap (λ (rest : List (List ℕ × X)). e ∷ rest) (later there)

-- a name that is not there goes last
pub inserted_view : {K X : Type 0} (eq : K → K → Bool) (key : K → List ℕ) (es : List (K × X)) (k : K) (x : X) → ((e : K) → eq k e ≡ bytes_eq (key k) (key e)) → is_some (entry_of (map (λ e. (key e.0, e.1)) es) (key k)) ≡ false
    → map (λ e. (key e.0, e.1)) (insert_entry eq es k x) ≡ declare (map (λ e. (key e.0, e.1)) es) (key k) x
inserted_view eq key [] k x same none = refl
inserted_view {K = K} {X = X} eq key (e ∷ es) k x same none =
    let Shown : Type 0 = List (List ℕ × X) in
    let seen : List (K × X) → Shown = λ es. map (λ e. (key e.0, e.1)) es in
    ap (λ (b : Bool). seen (cond b ((e.0, x) ∷ es) (e ∷ insert_entry eq es k x))) (same e.0)
    ∙ by_test (bytes_eq (key k) (key e.0)) (λ none. inserted_view eq key es k x same none) none
  where
    by_test : (b : Bool)
        → (is_some (entry_of (map (λ e. (key e.0, e.1)) es) (key k)) ≡ false → map (λ e. (key e.0, e.1)) (insert_entry eq es k x) ≡ declare (map (λ e. (key e.0, e.1)) es) (key k) x)
        → is_some (cond b (Some e.1) (entry_of (map (λ e. (key e.0, e.1)) es) (key k))) ≡ false
        → map (λ e. (key e.0, e.1)) (cond b ((e.0, x) ∷ es) (e ∷ insert_entry eq es k x)) ≡ cond b ((key e.0, e.1) ∷ map (λ e. (key e.0, e.1)) es) ((key e.0, e.1) ∷ declare (map (λ e. (key e.0, e.1)) es) (key k) x)
    by_test true later none = absurd (false≢true (sym none))
    by_test false later none = ap (λ (rest : List (List ℕ × X)). (key e.0, e.1) ∷ rest) (later none)

place_view : {K X Y : Type 0} (key : K → List ℕ) (v : X → Y) (es : List (K × X)) (name : List ℕ) → position_or_len (λ k. bytes_eq name (key k)) (keys_of es) ≡ position_or_len (bytes_eq name) (keys_of (map (λ e. (key e.0, v e.1)) es))
place_view key v [] name = refl
place_view key v (e ∷ es) name = ap (λ (n : ℕ). cond (not (bytes_eq name (key e.0))) (1 + n) 0) (place_view key v es name)

size_view : {K X Y : Type 0} (key : K → List ℕ) (v : X → Y) (es : List (K × X)) → length (keys_of es) ≡ length (keys_of (map (λ e. (key e.0, v e.1)) es))
size_view key v [] = refl
size_view key v (e ∷ es) = ap suc (size_view key v es)

-- the number of a name
pub number_view : {K X Y : Type 0} (key : K → List ℕ) (v : X → Y) (es : List (K × X)) (name : List ℕ) → position (λ k. bytes_eq name (key k)) (keys_of es) ≡ number_of (map (λ e. (key e.0, v e.1)) es) name
number_view key v es name = λ i. (λ (n m : ℕ). cond (nat_lt n m) (Some n) None) (place_view key v es name i) (size_view key v es i)

-- a view of what is said of names
pub entry_seen : {X Y : Type 0} (v : X → Y) (r : Option (Bor X)) (es : Table X) (name : List ℕ) → option_map (λ a. a.now) r ≡ entry_of es name → option_map (λ x. v x.now) r ≡ entry_of (seen v es) name
entry_seen {X = X} {Y = Y} v r es name e = shown r ∙ ap (option_map v) e ∙ entry es
  where
    shown : (r : Option (Bor X)) → option_map (λ b. v b.now) r ≡ option_map v (option_map (λ a. a.now) r)
    shown None = refl
    shown (Some b) = refl

    entry : (es : Table X) → option_map v (entry_of es name) ≡ entry_of (seen v es) name
    entry [] = refl
    entry (e ∷ es) = by_test (bytes_eq name e.0) (entry es)
      where
        by_test : (b : Bool) → option_map v (entry_of es name) ≡ entry_of (seen v es) name → option_map v (cond b (Some e.1) (entry_of es name)) ≡ cond b (Some (v e.1)) (entry_of (seen v es) name)
        by_test true later = refl
        by_test false later = later

pub number_seen : {X Y : Type 0} (v : X → Y) (es : Table X) (name : List ℕ) → number_of (seen v es) name ≡ number_of es name
number_seen v es name = ap (position (bytes_eq name)) (keys_seen v es)
  where
    keys_seen : {X Y : Type 0} (v : X → Y) (es : Table X) → keys_of (seen v es) ≡ keys_of es
    keys_seen v [] = refl
    keys_seen v (e ∷ es) = ap (λ (ks : List (List ℕ)). e.0 ∷ ks) (keys_seen v es)

-- what is said of the name with a number
pub said_at : {K X : Type 0} (key : K → List ℕ) (es : List (K × X)) → entries_of (map (λ e. (key e.0, e.1)) es) ≡ map (λ e. e.1) es
said_at key [] = refl
said_at {X = X} key (e ∷ es) = ap (λ (xs : List X). e.1 ∷ xs) (said_at key es)

pub said_number : {X : Type 0} (es : List (Bor (List ℕ) × X)) (i : ℕ) (r : Option (Bor (Bor (List ℕ)) × Bor X)) → option_map deref_pair r ≡ slice_get es i → option_map (λ p. p.1.now) r ≡ slice_get (entries_of (map (λ e. (e.0.now, e.1)) es)) i
said_number {X = X} es i r is =
    shown r ∙ ap (option_map (λ (e : Bor (List ℕ) × X). e.1)) is ∙ sym (slice_get-map (λ (e : Bor (List ℕ) × X). e.1) es i) ∙ ap (λ (xs : List X). slice_get xs i) (sym (said_at (λ k. k.now) es))
  where
    shown : (r : Option (Bor (Bor (List ℕ)) × Bor X)) → option_map (λ p. p.1.now) r ≡ option_map (λ e. e.1) (option_map deref_pair r)
    shown None = refl
    shown (Some p) = refl

-- names are known by any view of what is said of them
known_seen : {X Y : Type 0} (v : X → Y) (es : Table X) (name : List ℕ) → is_some (entry_of (seen v es) name) ≡ is_some (entry_of es name)
known_seen v [] name = refl
known_seen {X = X} {Y = Y} v (e ∷ es) name = by_test (bytes_eq name e.0) (known_seen v es name)
  where
    by_test : (b : Bool) → is_some (entry_of (seen v es) name) ≡ is_some (entry_of es name) → is_some (cond b (Some (v e.1)) (entry_of (seen v es) name)) ≡ is_some (cond b (Some e.1) (entry_of es name))
    by_test true later = refl
    by_test false later = later

pub name_seen : {X Y : Type 0} (v : X → Y) (es : Table X) (w : Form) → name_faults (seen v es) w ≡ name_faults es w
name_seen v es w = ap (λ (b : Bool). too_long (name_of w) (place_of w) ++ cond b ((place_of w, 202) ∷ []) []) (known_seen v es (name_of w))

pub past_seen : {X Y : Type 0} (v : X → Y) (es : Table X) (named : Form → Form) (n : ℕ) (fs : Forms) → past_names (seen v es) named n fs ≡ past_names es named n fs
past_seen v es named n no_forms = refl
past_seen v es named zero (form f fs) = ap (λ (faults : List Fault). faults ++ ((place_of (named f), 208) ∷ [])) (name_seen v es (named f))
past_seen v es named (suc n) (form f fs) = past_seen v es named n fs

pub declare_seen : {X Y : Type 0} (v : X → Y) (es : Table X) (name : List ℕ) (x : X) → seen v (declare es name x) ≡ declare (seen v es) name (v x)
declare_seen v [] name x = refl
declare_seen {X = X} {Y = Y} v (e ∷ es) name x = by_test (bytes_eq name e.0) (declare_seen v es name x)
  where
    by_test : (b : Bool) → seen v (declare es name x) ≡ declare (seen v es) name (v x) → seen v (cond b (e ∷ es) (e ∷ declare es name x)) ≡ cond b ((e.0, v e.1) ∷ seen v es) ((e.0, v e.1) ∷ declare (seen v es) name (v x))
    by_test true later = refl
    by_test false later = ap (λ (rest : Table Y). (e.0, v e.1) ∷ rest) later
