-- How an input reads: as a file, or with a first fault of length, bytes, text, shape or meaning.
use Rattle.std.specs.Prelude.{◌≡◌, ◌≤◌, ◌<◌, ℕ, zero, suc, nat_lt, List, [], ◌∷◌, length, Option, Some, None, option_map, option_and_then, slice_get, if◌then◌else◌}
use Rattle.std.specs.Option.{option_map_or}
use Rattle.pks_terms.specs.declared.codes.TheConstants.{NOT_ASCII, TOO_MANY_BYTES}
use Rattle.pks_terms.specs.declared.limits.TheConstants.{MOST_BYTES}
use Rattle.pks_terms.specs.Printed.{Text}
use Rattle.pks_terms.specs.Problems.{Problem}
use Rattle.pks_terms.specs.Answers.{Place, Stated, NoWorld, BadWorld, GivenWorld, File, Reading, ReadAs, Faulty}
use Rattle.pks_text.specs.Lines.{line_column_of}
use Rattle.pks_text.specs.Forms.{Form, Forms, list_of, place_of}
use Rattle.pks_reader_shape.specs.Files.{Fault}
use Rattle.pks_reader_problem.specs.Stated.{Bytes, Named}
use Rattle.pks_reader.specs.Files.{FormsState}
use Rattle.pks_reader.specs.Texts.{Reads as Spells, IsRefused}
use Rattle.pks_reader_world.specs.Stated.{world_fault, world_by}

-- the line and the column of a byte
abbrev pub line_and_column : Text → ℕ → Place
line_and_column text at = record { line = (line_column_of text at).0; column = (line_column_of text at).1 }

-- the first byte above 127
abbrev pub first_high : Text → Option ℕ
first_high [] = None
first_high (b ∷ bytes) = if nat_lt 127 b then Some 0 else option_map suc (first_high bytes)

-- ---- what the forms of a file state

-- the world, or its first fault, or that there is none
abbrev pub world_stated : Text → List Form → Option Form → Option Fault → Stated
world_stated text fs None fault = NoWorld
world_stated text fs (Some w) (Some fault) = BadWorld (line_and_column text fault.0) fault.1
world_stated text fs (Some w) None = GivenWorld (world_by fs)

-- where an add begins: the action is counted from 0, and its adds from 1
abbrev pub add_begins : List (List Bytes) → ℕ → ℕ → ℕ
add_begins adds action zero = 0
add_begins adds action (suc n) = option_map_or (λ b. b.0) (option_and_then (λ bs. slice_get bs n) (slice_get adds action)) 0

-- the file, by its forms, and by the problem and the names that they state
abbrev pub file_in : Text → List Form → Problem → Named → File
file_in text fs p n = record {
  problem = p;
  names = record { objects = n.objects; predicates = n.predicates; functions = n.functions; actions = n.actions };
  parameters = n.parameters;
  world = world_stated text fs (slice_get fs 3) (world_fault fs);
  add_at = λ action number. line_and_column text (add_begins n.adds action number);
  init_at = line_and_column text n.init.0;
  problem_at = line_and_column text n.problem.0;
  world_at = line_and_column text (option_map_or place_of (slice_get fs 3) 0);
}

-- ---- inputs

-- the first fault, at a byte: too many bytes, a byte above 127, or one of text, shape or meaning
pub data IsFaulty (input : Text) : Fault → Type 0 where
  too_long : MOST_BYTES < length input → IsFaulty input (0, TOO_MANY_BYTES)
  too_high : length input ≤ MOST_BYTES → (at : ℕ) → first_high input ≡ Some at → IsFaulty input (at, NOT_ASCII)
  refused : length input ≤ MOST_BYTES → first_high input ≡ None → (fault : Fault) → IsRefused input fault → IsFaulty input fault

-- the input is a file without faults up to meaning, and states this
pub record IsRead (input : Text) (f : File) : Type 0 where
  pub short : length input ≤ MOST_BYTES
  pub low : first_high input ≡ None
  pub forms : Forms
  pub spelled : Spells input forms
  pub problem : Problem
  pub named : Named
  pub states : FormsState (list_of forms) problem named
  pub gives : f ≡ file_in input (list_of forms) problem named

-- how an input reads
abbrev pub Reads : Text → Reading → Type 0
Reads input (ReadAs f) = IsRead input f
Reads input (Faulty at code) = (byte : ℕ) × IsFaulty input (byte, code) × (at ≡ line_and_column input byte)
