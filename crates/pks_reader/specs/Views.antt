-- Files that were read, and places, as they lie in memory.
use Rattle.std.specs.Prelude.{◌≡◌, ◌≤◌, ℕ, map, length, Option, Some, None}
use Rattle.pks_terms.specs.declared.limits.TheConstants.{MOST_BYTES}
use Rattle.pks_terms.specs.Answers.{Place, Stated, NoWorld, BadWorld, GivenWorld, File}
use Rattle.pks_terms.specs.Views.{signature_of, problem_of}
use Rattle.pks_terms.specs.ValidProblems.{IsValidProblem}
use Rattle.pks_text.specs.FormViews.{form_view}
use Rattle.pks_reader_names.specs.Scopes.{signature_in}
use Rattle.pks_reader_problem.specs.Spans.{named_of}
use Rattle.pks_reader_shape.specs.Refusals.{Turns}
use Rattle.pks_reader_shape.specs.declared.report.Turned.{Turned}
use Rattle.pks_world.specs.Contents.{world_of}
use Rattle.pks_world.specs.declared.worlds.World.{World}
use Rattle.pks_reader_world.specs.Stated.{declared_by}
use Rattle.pks_reader.specs.declared.input.InputFile.{InputFile}
use Rattle.pks_reader.specs.Inputs.{line_and_column, file_in}

-- what the file states
abbrev pub file_of : InputFile → File
file_of f = file_in f.source.now (map form_view f.forms.top.items) (problem_of f.problem) (named_of f.problem)

-- the text isn't too long, and its forms state the problem, which is valid
pub record IsWhole (f : InputFile) : Type 0 where
  pub short : length f.source.now ≤ MOST_BYTES
  pub valid : IsValidProblem f.problem
  pub declared : signature_of f.problem.signature ≡ signature_in (declared_by (map form_view f.forms.top.items))

-- a line and a column
abbrev pub place_at : ℕ × ℕ → Place
place_at p = record { line = p.0; column = p.1 }

-- a byte of the file's text stands there
abbrev pub IsAt : InputFile → ℕ → Place → Type 0
IsAt f byte place = place ≡ line_and_column f.source.now byte

-- the world, or that there is none
abbrev pub stated_as : Option World → Stated
stated_as None = NoWorld
stated_as (Some w) = GivenWorld (world_of w)

-- it is the refusal of the fault in the file's world, which says nothing else, or want of memory
abbrev pub IsBadWorld : InputFile → Turned → Type 0
IsBadWorld f turned = Turns (λ fault. (file_of f).world ≡ BadWorld (line_and_column f.source.now fault.0) fault.1) turned
