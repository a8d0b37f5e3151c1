-- What a test on the keys keeps of a map.
use Rattle.std.specs.Prelude.{◌≡◌, ℕ, Bool, cond, List, [], ◌∷◌, length}
use Rattle.std.specs.Fn.{Shared, FnReturnsAt}
use Rattle.std.specs.Borrow.{Bor}
use Rattle.pks_pmap.specs.Entries.{Each}

-- ys has the elements of xs for which R answers true
abbrev pub Keeps : {X : Type 0} → (X → Bool → Type 0) → List X → List X → Type 0
Keeps R [] ys = ys ≡ []
Keeps {X} R (x ∷ xs) ys = (b : Bool) × R x b × (zs : List X) × Keeps R xs zs × (ys ≡ cond b (x ∷ zs) zs)

-- f may be called at a reference to the key of the entry
abbrev pub TakesKey : {F K V R : Type 0} → Shared F (Bor K × Unit {0}) R → F → K × V → Type 0
TakesKey {K = K} g f e = (p : Bor K) → p.now ≡ e.0 → g.pre f (p, tt)

-- f may be called at each key
pub record TakesKeys {F K V R : Type 0} (g : Shared F (Bor K × Unit {0}) R) (f : F) (es : List (K × V)) : Type 0 where
  pub each : Each (TakesKey g f) es

-- f answers b at the key of the entry
abbrev pub AnswersKey : {F K V : Type 0} → Shared F (Bor K × Unit {0}) Bool → F → K × V → Bool → Type 0
AnswersKey g f e b = FnReturnsAt g f e.0 b

-- t has the entries of d that are kept, and where all are kept no node was made
pub record IsKeeping {K V : Type 0} (R : K × V → Bool → Type 0) (d : List (K × V) × ℕ) (old new : ℕ) (t : List (K × V) × ℕ) : Type 0 where
  pub entries : Keeps R d.0 t.0
  pub shared : length t.0 ≡ length d.0 → new ≡ old

-- what may be called at each reference may be called at each key
pub takes_always : {F K V R : Type 0} {g : Shared F (Bor K × Unit {0}) R} {f : F} → ((p : Bor K) → g.pre f (p, tt)) → (es : List (K × V)) → TakesKeys g f es
takes_always {F} {K} {V} {R} {g} {f} may es = record { each = go es }
  where
    go : (es : List (K × V)) → Each (TakesKey g f) es
    go [] = tt
    go (e ∷ es) = (λ p q. may p, go es)
