-- The command of a mode and a number, as the parser of command lines sees it.
use Rattle.std.specs.Prelude.{◌≡◌, ℕ, List, [], ◌∷◌, Option, Some, None, true, drop, codes}
use Rattle.std.specs.Borrow.{Bor}
use Rattle.clap.specs.Simple.{App, Shape, on_top, new_app, new_rule, with_rule}
use Rattle.pks_terms.specs.Printed.{Text}
use Rattle.pks_terms.specs.Jobs.{positionals}

-- a required word, and one that may be left out
abbrev pub two_words : App
two_words =
    with_rule (with_rule (on_top (λ (s : Shape). record s { disable_help_flag = true }) (new_app (codes "pks"))) (record (new_rule (codes "mode")) { required = true }))
    (new_rule (codes "number"))

-- the text behind a reference
abbrev pub text_of : Bor (List ℕ) → Text
text_of word = word.now

-- a mode, and a number if there is one
abbrev pub given : Text → Option Text → List Text
given mode None = mode ∷ []
given mode (Some number) = mode ∷ number ∷ []

-- the positional words, behind the program's name, are these
abbrev pub HasWords : List Text → Text → Option Text → Type 0
HasWords words mode number = positionals (drop 1 words) ≡ Some (given mode number)
