-- Given places and refusals, as they lie in memory.
use Rattle.std.specs.Prelude.{map, ◌≡◌, Option, Some}
use Rattle.std.specs.BTreeSet.{BTreeSet}
use Rattle.pks_terms.specs.declared.term.Term.{Term}
use Rattle.pks_terms.specs.Views.{term_of}
use Rattle.pks_world.specs.Contents.{has_place}
use Rattle.pks_reader_shape.specs.Files.{Fault}
use Rattle.pks_reader_shape.specs.Refusals.{Turns}
use Rattle.pks_reader_shape.specs.declared.report.Turned.{Turned}
use Rattle.pks_reader_world.specs.Facts.{Given}

-- the places that are kept
abbrev pub given_of : BTreeSet Term → Given
given_of given = has_place (map term_of given.keys)

-- it is the refusal of this fault, which says nothing else, or want of memory
abbrev pub IsRefusal : Option Fault → Turned → Type 0
IsRefusal found turned = Turns (λ f. found ≡ Some f) turned
