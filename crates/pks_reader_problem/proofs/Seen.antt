-- Tables of shapes, as they lie in memory and as they are seen.
use Rattle.std.proofs.Common.{Bor, map, ◌≡◌, ◌∙◌, ℕ, suc, List, [], ◌∷◌, length, Option, refl, ap, sym, unwrap_or}
use Rattle.std.specs.Map.{keys_of}
use Rattle.pks_reader_names.specs.Tables.{Table, number_of, entries_of}
use Rattle.pks_reader_names.specs.Views.{seen}
use Rattle.pks_reader_names.proofs.Entries.{number_seen, said_at}

pub length_seen : {X Y : Type 0} (v : X → Y) (es : Table X) → length (seen v es) ≡ length es
length_seen v [] = refl
length_seen v (e ∷ es) = ap suc (length_seen v es)

pub number_shown : {X Y : Type 0} (v : X → Y) (es : Table X) (name : List ℕ) (n : ℕ) → n ≡ unwrap_or (number_of es name) 0 → n ≡ unwrap_or (number_of (seen v es) name) 0
number_shown v es name n is = is ∙ ap (λ (o : Option ℕ). unwrap_or o 0) (sym (number_seen v es name))

pub keys_shown : {X : Type 0} (es : List (Bor (List ℕ) × X)) → map (λ k. k.now) (map (λ e. e.0) es) ≡ keys_of (map (λ e. (e.0.now, e.1)) es)
keys_shown [] = refl
keys_shown (e ∷ es) = ap (λ (ks : List (List ℕ)). e.0.now ∷ ks) (keys_shown es)

pub entries_shown : {X : Type 0} (es : List (Bor (List ℕ) × X)) → map (λ e. e.1) es ≡ entries_of (map (λ e. (e.0.now, e.1)) es)
entries_shown es = sym (said_at (λ k. k.now) es)

pub shapes_shown : {X Y : Type 0} (v : X → Y) (es : List (Bor (List ℕ) × X)) → map v (map (λ e. e.1) es) ≡ entries_of (seen v (map (λ e. (e.0.now, e.1)) es))
shapes_shown v [] = refl
shapes_shown {Y = Y} v (e ∷ es) = ap (λ (ys : List Y). v e.1 ∷ ys) (shapes_shown v es)

pub length_shown : {X : Type 0} (es : List (Bor (List ℕ) × X)) → length {A = List ℕ × X} (map (λ e. (e.0.now, e.1)) es) ≡ length es
length_shown [] = refl
length_shown (e ∷ es) = ap suc (length_shown es)

-- the names of a table of shapes
pub names_seen : {X Y : Type 0} (v : X → Y) (es : Table X) → keys_of (seen v es) ≡ keys_of es
names_seen v [] = refl
names_seen v (e ∷ es) = ap (λ (ks : List (List ℕ)). e.0 ∷ ks) (names_seen v es)

pub names_shown : {X Y : Type 0} (v : X → Y) (es : Table X) (ks : List (List ℕ)) → ks ≡ keys_of es → ks ≡ keys_of (seen v es)
names_shown v es ks is = is ∙ sym (names_seen v es)
