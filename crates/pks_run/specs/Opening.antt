-- What a text is as an input.
use Rattle.std.specs.Prelude.{◌≡◌, ℕ, []}
use Rattle.pks_terms.specs.Answers.{Place, Reading, ReadAs, Faulty, refusal}
use Rattle.pks_terms.specs.Printed.{Text, refusal_text}
use Rattle.pks_reader.specs.declared.input.InputFile.{InputFile}
use Rattle.pks_reader.specs.Inputs.{IsRead, Reads}
use Rattle.pks_reader.specs.Views.{file_of, IsWhole}
use Rattle.pks_run.specs.declared.answer.Opened.{Opened}
use Rattle.pks_run.specs.declared.answer.Opened.TheVariants as opened_is

-- the text reads as this file alone, whose parts fit together
pub record IsFileOf (text : Text) (f : InputFile) : Type 0 where
  pub whole : IsWhole f
  pub source : f.source.now ≡ text
  pub read : IsRead text (file_of f)
  pub one : (x : Reading) → Reads text x → x ≡ ReadAs (file_of f)

-- the text reads as one fault alone, and the line refuses it
pub record IsRefusalOf (text line : Text) : Type 0 where
  pub at : Place
  pub code : ℕ
  pub faulty : Reads text (Faulty at code)
  pub one : (x : Reading) → Reads text x → x ≡ Faulty at code
  pub says : line ≡ refusal_text (refusal at code [])

-- the text is a file, or is refused
abbrev pub OpensAs : Text → Opened → Type 0
OpensAs text (opened_is.File f) = IsFileOf text f
OpensAs text (opened_is.Refused line) = IsRefusalOf text line.items
