-- A text goes on with one token at one place.
use Rattle.std.proofs.Common.{◌≡◌, ◌⊎◌, inl, inr, true, false, Bool, cond, ℕ, ◌<◌, ◌+◌, ◌-◌, List, [], ◌∷◌, ◌++◌, length, refl, sym, ◌∙◌, ap, subst, arith, length-append, bytes_eq, codes, if◌then◌else◌}
use Rattle.std.proofs.lemmas.Bool.{both_ways, false_from_ne_true}
use Rattle.std.proofs.lemmas.Bool.Decides.{nat_tests}
use Rattle.std.proofs.lemmas.Slice.Eq.{bytes_eq-Decides}
use Rattle.pks_text.specs.Bytes.{is_paren, is_word_byte}
use Rattle.pks_text.specs.Gaps.{IsOnlyGap}
use Rattle.pks_text.specs.Tokens.{IsWord, IsToken, BeginsWith, BeginsBad}
use Rattle.pks_text.specs.Forms.{Mark, Said, Opens, Closes, mark_text, mark_end, IsOfClass, Begins}
use Rattle.pks_text.proofs.Classes.{Next, at_end, at_bad, at_part, next, next_gap, next_bad, next_part, Means, meant}

-- ---- a token as a mark

abbrev pub as_mark : List ℕ → ℕ → Mark
as_mark text at = if bytes_eq text (codes "(") then Opens at else (if bytes_eq text (codes ")") then Closes (at + 1) else Said text at)

pub record IsMark (text : List ℕ) (at : ℕ) (m : Mark) : Type 0 where
  pub text_is : mark_text m ≡ text
  pub end_is : mark_end m ≡ at + length text
  pub class : IsOfClass m

paren_is : (b : ℕ) → is_paren b ≡ true → (b ≡ 40) ⊎ (b ≡ 41)
paren_is b paren = grind (arith, nat_tests)

not_text : (text : List ℕ) (p : ℕ) → IsWord text → is_word_byte p ≡ false → bytes_eq text (p ∷ []) ≡ false
not_text text p word other = false_from_ne_true _ (λ e. both_ways _ other (subst IsWord ((bytes_eq-Decides text (p ∷ [])).0 e) word).1.0)

word_mark : (text : List ℕ) (at : ℕ) → IsWord text → as_mark text at ≡ Said text at
word_mark text at word =
    ap (λ (t : Bool). cond t (Opens at) (if bytes_eq text (codes ")") then Closes (at + 1) else Said text at)) (not_text text 40 word refl)
    ∙ ap (λ (t : Bool). cond t (Closes (at + 1)) (Said text at)) (not_text text 41 word refl)

pub token_mark : (text rest : List ℕ) (at : ℕ) → IsToken text rest → IsMark text at (as_mark text at)
token_mark text rest at (inl paren) = elim (paren_is paren.0 paren.1) [
  | inl opens ↦ subst (λ (t : List ℕ). IsMark t at (as_mark t at)) (sym (paren.2 ∙ ap (λ (b : ℕ). b ∷ []) opens)) (record { text_is = refl; end_is = refl; class = tt })
  | inr closes ↦ subst (λ (t : List ℕ). IsMark t at (as_mark t at)) (sym (paren.2 ∙ ap (λ (b : ℕ). b ∷ []) closes)) (record { text_is = refl; end_is = refl; class = tt })
]
token_mark text rest at (inr word) = subst (IsMark text at) (sym (word_mark text at word.0)) (record { text_is = refl; end_is = refl; class = word.0 })

-- a mark is that of its text
mark_is : (m : Mark) (at : ℕ) → IsOfClass m → mark_end m ≡ at + length (mark_text m) → as_mark (mark_text m) at ≡ m
mark_is (Said text p) at word ends = let place : at ≡ p = omega (arith, ends) in word_mark text at word ∙ ap (λ (n : ℕ). Said text n) place
mark_is (Opens p) at word ends = let place : at ≡ p = omega (arith, ends) in ap (λ (n : ℕ). Opens n) place
mark_is (Closes end) at word ends = ap (λ (n : ℕ). Closes n) (sym ends)

-- ---- what comes next, as a mark

gap_long : (text token rest : List ℕ) (b : BeginsWith text token rest) → length text - length (token ++ rest) ≡ length b.gap
gap_long text token rest b = omega (arith, ap length b.split, length-append b.gap (token ++ rest))

abbrev pub as_marks : ℕ → ℕ → Next (List ℕ) → Next Mark
as_marks n at at_end = at_end
as_marks n at (at_bad k) = at_bad k
as_marks n at (at_part token rest) = at_part (as_mark token (at + (n - length (token ++ rest)))) rest

-- what comes next in a text at a place
abbrev pub ahead : List ℕ → ℕ → Next Mark
ahead text at = as_marks (length text) at (next text)

pub begins_as : (text token rest : List ℕ) (at : ℕ) (b : BeginsWith text token rest) → Begins text at (as_mark token (at + length b.gap)) rest
begins_as text token rest at b =
    let m = token_mark token rest (at + length b.gap) b.is_token in
    record {
      begins = record {
        gap = b.gap;
        is_gap = b.is_gap;
        split = b.split ∙ ap (λ (t : List ℕ). b.gap ++ (t ++ rest)) (sym m.text_is);
        is_token = subst (λ (t : List ℕ). IsToken t rest) (sym m.text_is) b.is_token;
      };
      placed = omega (arith, m.end_is, ap length m.text_is);
      class = m.class;
    }

module _ (text : List ℕ) (at : ℕ) where
  pub ahead_gap : IsOnlyGap text → ahead text at ≡ at_end
  ahead_gap gap = ap (as_marks (length text) at) (next_gap text gap)

  pub ahead_bad : (n : ℕ) → BeginsBad text n → ahead text at ≡ at_bad n
  ahead_bad n bad = ap (as_marks (length text) at) (next_bad text n bad)

  pub ahead_mark : (m : Mark) (rest : List ℕ) → Begins text at m rest → ahead text at ≡ at_part m rest
  ahead_mark m rest b =
      let place : at + (length text - length (mark_text m ++ rest)) ≡ at + length b.begins.gap = omega (arith, gap_long text (mark_text m) rest b.begins) in
      let ends : mark_end m ≡ (at + length b.begins.gap) + length (mark_text m) = omega (arith, b.placed) in
      ap (as_marks (length text) at) (next_part text (mark_text m) rest b.begins)
      ∙ ap (λ (k : Mark). at_part k rest) (ap (as_mark (mark_text m)) place ∙ mark_is m (at + length b.begins.gap) b.class ends)

  abbrev pub Comes : Next Mark → Type 0
  Comes at_end = IsOnlyGap text
  Comes (at_bad n) = BeginsBad text n
  Comes (at_part m rest) = Begins text at m rest

  comes_from : (n : Next (List ℕ)) → Means text n → Comes (as_marks (length text) at n)
  comes_from at_end gap = gap
  comes_from (at_bad n) bad = bad
  comes_from (at_part token rest) b = subst (λ (n : ℕ). Begins text at (as_mark token (at + n)) rest) (sym (gap_long text token rest b)) (begins_as text token rest at b)

  pub comes : Comes (ahead text at)
  comes = comes_from (next text) (meant text)

-- fewer bytes are left behind a mark
pub shorter : (text : List ℕ) (at : ℕ) (m : Mark) (rest : List ℕ) → Begins text at m rest → length rest < length text
shorter text at m rest b =
    omega (arith, token_long (mark_text m) rest b.begins.is_token, ap length b.begins.split, length-append b.begins.gap (mark_text m ++ rest), length-append (mark_text m) rest)
  where
    token_long : (token after : List ℕ) → IsToken token after → 0 < length token
    token_long token after (inl paren) = omega (arith, ap length paren.2)
    token_long token after (inr word) = word.0.0
