-- Whether a term is higher than a number. `proofs/HeightLaws.antt` says that this is by its height.
use Rattle.std.specs.Prelude.{ℕ, ◌-◌, ◌==◌, Bool, false, ◌||◌, ◌&&◌}
use Rattle.pks_text.specs.Forms.{Form, Word, Listing, Forms, no_forms, form}
use Rattle.pks_reader_shape.specs.Words.{is_variable}

abbrev mutual
  -- the form is higher than n
  pub is_higher : ℕ → Form → Bool
  is_higher n (Word text at) = (n == 0) && is_variable text
  is_higher n (Listing parts at end) = (n == 0) || one_higher (n - 1) parts

  -- one of the forms is
  pub one_higher : ℕ → Forms → Bool
  one_higher n no_forms = false
  one_higher n (form f fs) = is_higher n f || one_higher n fs
