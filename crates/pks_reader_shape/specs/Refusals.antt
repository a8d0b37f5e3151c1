-- Refusals as they lie in memory.
use Rattle.std.specs.Prelude.{◌≡◌, Option, option_map}
use Rattle.pks_reader_shape.specs.Files.{Fault}
use Rattle.pks_reader_shape.specs.declared.report.Extra.TheVariants.{Plain}
use Rattle.pks_reader_shape.specs.declared.report.Refusal.{Refusal}
use Rattle.pks_reader_shape.specs.declared.report.Turned.{Turned}
use Rattle.pks_reader_shape.specs.declared.report.Turned.TheVariants.{Refused, Memory}

-- the refusal with this place and this code that says nothing else
abbrev pub plain : Fault → Refusal
plain f = record { code = f.1; at = f.0; extra = Plain }

-- it says nothing but its place and its code
abbrev pub IsPlain : Refusal → Type 0
IsPlain r = r.extra ≡ Plain

-- the refusal of the first fault, where there is one
abbrev pub refusing : Option Fault → Option Refusal
refusing found = option_map plain found

-- the answer is want of memory, or a refusal with such a fault that says nothing else
abbrev pub Turns : (Fault → Type 0) → Turned → Type 0
Turns P (Refused r) = P (r.at, r.code) × (r.extra ≡ Plain)
Turns P Memory = Unit {0}
