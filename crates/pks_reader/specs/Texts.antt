-- What a text states, and when it is refused.
use Rattle.std.specs.Prelude.{◌≡◌, ℕ, List, length, Option, Some, None}
use Rattle.pks_terms.specs.declared.codes.TheConstants.{BAD_BYTE, TOO_DEEP, UNCLOSED, UNOPENED}
use Rattle.pks_terms.specs.Problems.{Problem}
use Rattle.pks_text.specs.Forms.{Forms, list_of, Spells}
use Rattle.pks_text.specs.Faults.{IsFirstFault}
use Rattle.pks_text.specs.declared.tree.FormFault.{FormFault}
use Rattle.pks_text.specs.declared.tree.FormFault.TheVariants.{BadByte, Unclosed, Unopened, TooDeep, Memory}
use Rattle.pks_reader_shape.specs.Files.{Fault}
use Rattle.pks_reader_problem.specs.Stated.{Named}
use Rattle.pks_reader.specs.Files.{AreRefused, FormsState}

-- the text spells these forms, and has no fault of its own
pub record Reads (text : List ℕ) (fs : Forms) : Type 0 where
  pub spelled : Spells text fs
  pub faultless : (fault : FormFault) → IsFirstFault text fault → ⊥

-- the place and the code of a fault of a text; want of memory is none
abbrev pub coded : FormFault → Option Fault
coded (BadByte at) = Some (at, BAD_BYTE)
coded (Unclosed at) = Some (at, UNCLOSED)
coded (Unopened at) = Some (at, UNOPENED)
coded (TooDeep at) = Some (at, TOO_DEEP)
coded Memory = None

-- the text is refused with this fault: the first of the text, or, where it has none, that of its forms
pub data IsRefused (text : List ℕ) (fault : Fault) : Type 0 where
  by_text : (first : FormFault) → IsFirstFault text first → coded first ≡ Some fault → IsRefused text fault
  by_forms : (fs : Forms) → Reads text fs → AreRefused (length text) (list_of fs) fault → IsRefused text fault

-- the text states the problem, with these names and places
pub record States (text : List ℕ) (p : Problem) (n : Named) : Type 0 where
  pub forms : Forms
  pub reads : Reads text forms
  pub states : FormsState (list_of forms) p n
