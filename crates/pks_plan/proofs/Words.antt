-- Words, and lists of texts, that are told from what follows them.
use Rattle.std.proofs.Common.{◌≡◌, ◌<◌, ℕ, zero, suc, Bool, true, false, ◌==◌, ◌||◌, List, [], ◌∷◌, ◌++◌, length, map, append_assoc, refl, sym, ap, ◌∙◌, subst, inl, inr, true≢false, arith}
use Rattle.std.specs.List.{flat_map, list_all}
use Rattle.std.specs.Char.{is_ascii_alphabetic, is_ascii_alphanumeric}
use Rattle.std.specs.Int.{is_in_range}
use Rattle.std.proofs.lemmas.Bool.{and_parts, or_left}
use Rattle.pks_terms.specs.Sets.{Each, IsIn}
use Rattle.pks_terms.specs.Printed.{Text, name_in, listed}
use Rattle.pks_terms.specs.ValidProblems.{is_name_byte, is_name, AreDifferent}

-- the first byte
abbrev pub first : Text → ℕ
first [] = 0
first (b ∷ bs) = b

-- what follows the first byte
abbrev pub rest : Text → Text
rest [] = []
rest (b ∷ bs) = bs

-- the second begins with n, and the first doesn't
pub differ : (n : ℕ) (xs ys : Text) → (first xs == n) ≡ false → (first ys == n) ≡ true → xs ≡ ys → ⊥
differ n xs ys f g e = true≢false (sym g ∙ (ap (λ b. b == n) (ap first (sym e)) ∙ f))

-- a byte of a name, or =
abbrev pub is_word_byte : ℕ → Bool
is_word_byte b = is_name_byte b || (b == 61)

abbrev pub IsWord : Text → Type 0
IsWord bs = Each (λ b. is_word_byte b ≡ true) bs

-- a byte that is of no word comes
abbrev pub Follows : Text → Type 0
Follows [] = ⊥
Follows (b ∷ bs) = is_word_byte b ≡ false

pub word_ends : (xs ys r s : Text) → IsWord xs → IsWord ys → Follows r → Follows s → xs ++ r ≡ ys ++ s → (xs ≡ ys) × (r ≡ s)
word_ends [] [] r s a b f g e = (refl, e)
word_ends [] (y ∷ ys) [] s a b f g e = absurd f
word_ends [] (y ∷ ys) (c ∷ r) s a b f g e = let h : c ≡ y = ap first e in absurd (true≢false (sym b.0 ∙ (ap is_word_byte (sym h) ∙ f)))
word_ends (x ∷ xs) [] r [] a b f g e = absurd g
word_ends (x ∷ xs) [] r (c ∷ s) a b f g e = let h : x ≡ c = ap first e in absurd (true≢false (sym a.0 ∙ (ap is_word_byte h ∙ g)))
word_ends (x ∷ xs) (y ∷ ys) r s a b f g e =
    let h : x ≡ y = ap first e in
    let t : xs ++ r ≡ ys ++ s = ap rest e in
    let p = word_ends xs ys r s a.1 b.1 f g t in
    ((λ i. h i ∷ p.0 i), p.1)

-- ---- names

pub is_word : (bs : Text) → list_all is_name_byte bs ≡ true → IsWord bs
is_word [] h = tt
is_word (b ∷ bs) h = let p = and_parts (is_name_byte b) _ h in (or_left (is_name_byte b) (b == 61) p.0, is_word bs p.1)

letter : (a b d : Bool) → (a || b) ≡ true → ((d || a) || b) ≡ true
letter true b true h = refl
letter true b false h = refl
letter false true true h = refl
letter false true false h = refl
letter false false d h = absurd (true≢false (sym h))

pub name_is_word : (bs : Text) → is_name bs ≡ true → IsWord bs
name_is_word [] h = tt
name_is_word (b ∷ bs) h =
    let p = and_parts (is_ascii_alphabetic b) _ h in
    let named : is_name_byte b ≡ true = or_left (is_ascii_alphanumeric b) ((b == 45) || (b == 95)) (letter (is_in_range 65 90 b) (is_in_range 97 122 b) (is_in_range 48 57 b) p.0) in
    (or_left (is_name_byte b) (b == 61) named, is_word bs p.1)

-- no name begins as a list does
pub name_no_list : (bs r s : Text) → is_name bs ≡ true → bs ++ r ≡ 40 ∷ s → ⊥
name_no_list [] r s h e = true≢false (sym h)
name_no_list (b ∷ bs) r s h e =
    let p = and_parts (is_ascii_alphabetic b) _ h in
    let same : b ≡ 40 = ap first e in
    true≢false (sym p.0 ∙ ap is_ascii_alphabetic same)

pub named : (names : List Text) (n : ℕ) → Each (λ name. is_name name ≡ true) names → n < length names → is_name (name_in names n) ≡ true
named [] n a h = absurd (omega (arith, h))
named (x ∷ xs) zero a h = a.0
named (x ∷ xs) (suc n) a h = named xs n a.1 (omega (arith, h))

pub name_among : (names : List Text) (n : ℕ) → n < length names → IsIn (name_in names n) names
name_among [] n h = absurd (omega (arith, h))
name_among (x ∷ xs) zero h = inl refl
name_among (x ∷ xs) (suc n) h = inr (name_among xs n (omega (arith, h)))

pub same_number : (names : List Text) (m n : ℕ) → AreDifferent names → m < length names → n < length names → name_in names m ≡ name_in names n → m ≡ n
same_number [] m n d h k e = absurd (omega (arith, h))
same_number (x ∷ xs) zero zero d h k e = refl
same_number (x ∷ xs) zero (suc n) d h k e = absurd (d.0 (subst (λ y. IsIn y xs) (sym e) (name_among xs n (omega (arith, k)))))
same_number (x ∷ xs) (suc m) zero d h k e = absurd (d.0 (subst (λ y. IsIn y xs) e (name_among xs m (omega (arith, h)))))
same_number (x ∷ xs) (suc m) (suc n) d h k e = ap suc (same_number xs m n d.1 (omega (arith, h)) (omega (arith, k)) e)

-- ---- lists

-- the text tells the value, before what ends a word
abbrev pub Tells : {A : Type 0} → (A → Type 0) → (A → Text) → Type 0
Tells {A = A} P text = (x y : A) (r s : Text) → P x → P y → Follows r → Follows s → text x ++ r ≡ text y ++ s → (x ≡ y) × (r ≡ s)

-- parts behind blanks, and the byte that ends them
abbrev pub parts : ℕ → List Text → Text → Text
parts z xs r = flat_map (λ part. 32 ∷ part) xs ++ z ∷ r

pub parts_follow : (z : ℕ) → is_word_byte z ≡ false → (xs : List Text) (r : Text) → Follows (parts z xs r)
parts_follow z h [] r = h
parts_follow z h (x ∷ xs) r = refl

pub parts_more : (z : ℕ) (x : Text) (xs : List Text) (r : Text) → parts z (x ∷ xs) r ≡ 32 ∷ (x ++ parts z xs r)
parts_more z x xs r = ap (λ y. 32 ∷ y) (append_assoc x (flat_map (λ part. 32 ∷ part) xs) (z ∷ r))

pub same_parts : {A : Type 0} (P : A → Type 0) (text : A → Text) → Tells P text → (z : ℕ) → is_word_byte z ≡ false → (z == 32) ≡ false → (xs ys : List A) (r s : Text) → Each P xs → Each P ys →
    parts z (map text xs) r ≡ parts z (map text ys) s → (xs ≡ ys) × (r ≡ s)
same_parts P text tells z w n [] [] r s a b e = (refl, ap rest e)
same_parts P text tells z w n [] (y ∷ ys) r s a b e = let h : z ≡ 32 = ap first e in absurd (true≢false (sym (ap (λ b. b == 32) h) ∙ n))
same_parts P text tells z w n (x ∷ xs) [] r s a b e = let h : 32 ≡ z = ap first e in absurd (true≢false (ap (λ b. b == 32) h ∙ n))
same_parts P text tells z w n (x ∷ xs) (y ∷ ys) r s a b e =
    let t : text x ++ parts z (map text xs) r ≡ text y ++ parts z (map text ys) s =
    ap rest (sym (parts_more z (text x) (map text xs) r) ∙ (e ∙ parts_more z (text y) (map text ys) s)) in
    let p = tells x y (parts z (map text xs) r) (parts z (map text ys) s) a.0 b.0 (parts_follow z w (map text xs) r) (parts_follow z w (map text ys) s) t in
    let q = same_parts P text tells z w n xs ys r s a.1 b.1 p.1 in
    ((λ i. p.0 i ∷ q.0 i), q.1)

pub listed_is : (head : Text) (xs : List Text) (r : Text) → listed head xs ++ r ≡ 40 ∷ (head ++ parts 41 xs r)
listed_is head xs r =
    ap (λ y. 40 ∷ y) (append_assoc head (flat_map (λ part. 32 ∷ part) xs ++ 41 ∷ []) r ∙ ap (λ y. head ++ y) (append_assoc (flat_map (λ part. 32 ∷ part) xs) (41 ∷ []) r))

pub same_heads : (h k : Text) (xs ys : List Text) (r s : Text) → IsWord h → IsWord k → listed h xs ++ r ≡ listed k ys ++ s → (h ≡ k) × (parts 41 xs r ≡ parts 41 ys s)
same_heads h k xs ys r s a b e =
    let t : h ++ parts 41 xs r ≡ k ++ parts 41 ys s = ap rest (sym (listed_is h xs r) ∙ (e ∙ listed_is k ys s)) in
    word_ends h k (parts 41 xs r) (parts 41 ys s) a b (parts_follow 41 refl xs r) (parts_follow 41 refl ys s) t
