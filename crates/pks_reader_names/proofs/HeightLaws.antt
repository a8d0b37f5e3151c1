-- A term is higher than a number by its height.
use Rattle.std.proofs.Common.{◌≡◌, ℕ, ◌+◌, ◌-◌, ◌==◌, nat_lt, max, Bool, true, false, ◌||◌, ◌&&◌, cond, ap, ◌∙◌, arith}
use Rattle.std.proofs.lemmas.Bool.Decides.{nat_tests}
use Rattle.pks_text.specs.Forms.{Form, Word, Listing, Forms, no_forms, form}
use Rattle.pks_reader_shape.specs.Words.{is_variable}
use Rattle.pks_reader_names.specs.Terms.{height, highest}
use Rattle.pks_reader_names.specs.Heights.{is_higher, one_higher}

word_higher : (n : ℕ) (b : Bool) → ((n == 0) && b) ≡ nat_lt n (cond b 1 0)
word_higher n true = grind (arith, nat_tests)
word_higher n false = grind (arith, nat_tests)

list_higher : (n h : ℕ) → ((n == 0) || nat_lt (n - 1) h) ≡ nat_lt n (h + 1)
list_higher n h = grind (arith, nat_tests)

max_higher : (n a b : ℕ) → (nat_lt n a || nat_lt n b) ≡ nat_lt n (max a b)
max_higher n a b = grind (arith, nat_tests)

none_higher : (n : ℕ) → false ≡ nat_lt n 0
none_higher n = grind (arith, nat_tests)

mutual
  pub is_higher_height : (n : ℕ) (f : Form) → is_higher n f ≡ nat_lt n (height f)
  is_higher_height n (Word text at) = word_higher n (is_variable text)
  is_higher_height n (Listing parts at end) = ap (λ (b : Bool). (n == 0) || b) (one_higher_height (n - 1) parts) ∙ list_higher n (highest parts)

  pub one_higher_height : (n : ℕ) (fs : Forms) → one_higher n fs ≡ nat_lt n (highest fs)
  one_higher_height n no_forms = none_higher n
  one_higher_height n (form f fs) = ap (λ (b : Bool). b || one_higher n fs) (is_higher_height n f) ∙ ap (λ (b : Bool). nat_lt n (height f) || b) (one_higher_height n fs) ∙ max_higher n (height f) (highest fs)
