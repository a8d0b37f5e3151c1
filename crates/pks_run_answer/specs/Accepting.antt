-- When a file is accepted for a job, when it is refused, and with which line.
use Rattle.std.specs.Prelude.{◌≡◌, ◌⊎◌, ℕ, [], ◌++◌, Option, Some, None, codes, decimal}
use Rattle.pks_terms.specs.Databases.{Five}
use Rattle.pks_terms.specs.Closure.{Next, Closes}
use Rattle.pks_terms.specs.Problems.{Problem, initial}
use Rattle.pks_terms.specs.Jobs.{Job, Exec, Bench}
use Rattle.pks_terms.specs.Printed as printed
use Rattle.pks_terms.specs.Printed.{Text, Names, name_in}
use Rattle.pks_terms.specs.Answers.{Stated, NoWorld, BadWorld, GivenWorld, File, refusal, unjustified, IsFirstBroken, RefusesAdd, RefusesStart, RefusesWorld, RefusesRun, NoneApplies}
use Rattle.pks_reader_shape.specs.declared.report.Extra.{Extra}
use Rattle.pks_reader_shape.specs.declared.report.Extra.TheVariants.{Plain, Effect, Item}
use Rattle.pks_reader_shape.specs.declared.report.Refusal.{Refusal}
use Rattle.pks_reader_shape.specs.declared.report.Turned.{Turned}
use Rattle.pks_reader_shape.specs.declared.report.Turned.TheVariants.{Refused, Memory}
use Rattle.pks_world.specs.Contents.{world_of}
use Rattle.pks_world.specs.declared.worlds.World.{World}
use Rattle.pks_reader.specs.declared.input.InputFile.{InputFile}
use Rattle.pks_reader.specs.Inputs.{line_and_column}
use Rattle.pks_reader.specs.Views.{file_of}

-- ---- the line of a refusal

-- what it says behind its code
abbrev pub rest_of : Names → Extra → Text
rest_of names Plain = []
rest_of names (Effect action number) = codes " action " ++ (name_in names.actions action.0 ++ (codes " effect " ++ decimal number))
rest_of names (Item item) = codes " item " ++ decimal item.0

-- the refusal of a file as it is printed
abbrev pub printed_of : InputFile → Refusal → printed.Refusal
printed_of f r = refusal (line_and_column f.source.now r.at) r.code (rest_of (file_of f).names r.extra)

-- the answer is want of memory, or a refusal of which P holds as it is printed
abbrev pub IfRefused : InputFile → (printed.Refusal → Type 0) → Turned → Type 0
IfRefused f P (Refused r) = P (printed_of f r)
IfRefused f P Memory = Unit {0}

-- ---- when a file is refused

-- some add has no case, or, where each has one, the first databases clash
abbrev pub RefusesFirst : File → printed.Refusal → Type 0
RefusesFirst f r = RefusesAdd f r ⊎ (NoneApplies (RefusesAdd f) × RefusesStart f r)

-- the stated world has a fault, or a run has no world, or one that breaks an initial item
abbrev pub RefusesAnyRun : File → printed.Refusal → Type 0
RefusesAnyRun f r = RefusesWorld f f.world r ⊎ RefusesRun f f.world r

-- ---- when it isn't

-- each add has a case, and these are the first databases
pub record Begins (p : Problem) (d : Five) : Type 0 where
  pub justified : unjustified p ≡ []
  pub closed : Closes p.signature (initial p) (Next d)

-- the world has no fault
abbrev pub IsFaultless : Stated → Type 0
IsFaultless NoWorld = Unit {0}
IsFaultless (BadWorld at code) = ⊥
IsFaultless (GivenWorld w) = Unit {0}

-- there is a world, and it breaks no initial item
abbrev pub IsUnbroken : Problem → Stated → Type 0
IsUnbroken p NoWorld = ⊥
IsUnbroken p (BadWorld at code) = ⊥
IsUnbroken p (GivenWorld w) = (n : ℕ) → IsFirstBroken p w p.init 1 n → ⊥

-- the job can have the world
abbrev pub IsFit : Job → Problem → Stated → Type 0
IsFit (Exec n) p w = IsUnbroken p w
IsFit (Bench n) p w = Unit {0}
IsFit j p w = IsFaultless w

-- the world that a run is in is the stated one; other jobs ask for none
abbrev pub IsRunIn : Job → Stated → Option World → Type 0
IsRunIn (Exec n) w None = ⊥
IsRunIn (Exec n) w (Some v) = w ≡ GivenWorld (world_of v)
IsRunIn j w v = Unit {0}

-- no refusal applies, these are the first databases, and this is the world of a run
pub record Accepts (j : Job) (f : File) (d : Five) (w : Option World) : Type 0 where
  pub begins : Begins f.problem d
  pub fits : IsFit j f.problem f.world
  pub run : IsRunIn j f.world w
