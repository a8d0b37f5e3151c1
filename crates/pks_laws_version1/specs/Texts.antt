-- Texts of the first version.
use Rattle.std.specs.Prelude.{◌≡◌}
use Rattle.pks_terms.specs.Printed.{Text}
use Rattle.pks_text.specs.Forms.{Forms, list_of}
use Rattle.pks_reader_shape.specs.declared.grammar.Version.TheVariants.{First}
use Rattle.pks_reader_shape.specs.Files.{version_of}
use Rattle.pks_reader.specs.Texts.{Reads}

-- the forms of the text state no later version
abbrev pub IsOfFirstVersion : Text → Type 0
IsOfFirstVersion text = (forms : Forms) → Reads text forms → version_of (list_of forms) ≡ First
