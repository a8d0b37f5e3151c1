-- The input of a dialogue over a source: a file, and answers behind it.
use Rattle.std.specs.Prelude.{ℕ, ◌≡◌, ◌≤◌, ◌<◌, ◌+◌, ◌-◌, ◌&&◌, nat_eq, Bool, true, false, List, [], ◌∷◌, ◌++◌, length, take, drop, Option, Some, None, option_map, Result, Ok, Err, Vec, if◌then◌else◌}
use Rattle.std.specs.declared.alloc.Global.{Global}
use Rattle.std.specs.Io.KnownBytes.{Consumes, IsAtEnd}
use Rattle.pks_terms.specs.declared.limits.TheConstants.{MOST_BYTES}
use Rattle.pks_io.specs.declared.traits.Failed.{Failed}
use Rattle.pks_io.specs.declared.read.ReadEnd.{ReadEnd}
use Rattle.pks_io.specs.declared.read.ReadEnd.TheVariants as read_end
use Rattle.pks_terms.specs.Printed.{Text}
use Rattle.pks_terms.specs.Talk.{lines_of, file_text, answers_in}
use Rattle.pks_agent.specs.declared.ahead.ReadAhead.{ReadAhead}
use Rattle.pks_agent.specs.declared.files.Scanned.{Scanned}
use Rattle.pks_agent.specs.declared.files.Scanned.TheVariants.{Byte, Dot, Stop, End}

-- ---- bytes to come

-- the bytes that were read and not taken
abbrev pub ahead_of : ReadAhead → Text
ahead_of x = take (x.end - x.at) (drop x.at x.bytes)

-- all that is to come: these, and then what the source has left
abbrev pub coming : ReadAhead → Option Text → Option Text
coming x left = option_map (λ bytes. ahead_of x ++ bytes) left

-- the next byte was taken, or there is none
abbrev pub GivesByte : Option Text → Option Text → Result (Option ℕ) Failed → Type 0
GivesByte old new (Ok (Some b)) = Consumes old new (b ∷ [])
GivesByte old new (Ok None) = Consumes old new [] × IsAtEnd new
GivesByte old new (Err failed) = Unit {0}

-- ---- the file

-- these bytes before the file's
abbrev pub before : Text → Text × Option Text → Text × Option Text
before bytes parts = (bytes ++ parts.0, parts.1)

-- the file's bytes, and those behind the full stop that is a line, if there is one: at the beginning of a line or within it
abbrev mutual
  pub parts_from : Bool → Text → Text × Option Text
  parts_from begins [] = ([], None)
  parts_from begins (b ∷ bytes) = if begins && nat_eq b 46 then parts_at_stop bytes else before (b ∷ []) (parts_from (nat_eq b 10) bytes)

  -- behind a full stop that begins a line
  pub parts_at_stop : Text → Text × Option Text
  parts_at_stop [] = ([], Some [])
  parts_at_stop (b ∷ bytes) = if nat_eq b 10 then ([], Some bytes) else before (46 ∷ b ∷ []) (parts_from false bytes)

-- what stands next: a byte of the file, a full stop and a byte of its line, the line that is a full stop, or nothing
abbrev pub Finds : Bool → Option Text → Option Text → Scanned → Type 0
Finds begins None new found = Unit {0}
Finds begins (Some all) None found = ⊥
Finds begins (Some all) (Some rest) (Byte b) = parts_from begins all ≡ before (b ∷ []) (parts_from (nat_eq b 10) rest)
Finds begins (Some all) (Some rest) (Dot b) = parts_from begins all ≡ before (46 ∷ b ∷ []) (parts_from false rest)
Finds begins (Some all) (Some rest) Stop = parts_from begins all ≡ ([], Some rest)
Finds begins (Some all) (Some rest) End = (parts_from begins all ≡ ([], None)) × (rest ≡ [])

-- so behind a full stop that begins a line
abbrev pub FindsStop : Option Text → Option Text → Scanned → Type 0
FindsStop None new found = Unit {0}
FindsStop (Some all) None found = ⊥
FindsStop (Some all) (Some rest) (Byte b) = ⊥
FindsStop (Some all) (Some rest) (Dot b) = parts_at_stop all ≡ before (46 ∷ b ∷ []) (parts_from false rest)
FindsStop (Some all) (Some rest) Stop = parts_at_stop all ≡ ([], Some rest)
FindsStop (Some all) (Some rest) End = ⊥

-- what was found was appended, and a line begins behind it or doesn't, or the file ends; it has at most 262,144 bytes
abbrev pub Appended : Text → Text → Scanned → Result (Option Bool) ReadEnd → Type 0
Appended old new (Byte b) (Ok (Some begins)) = (new ≡ old ++ b ∷ []) × (begins ≡ nat_eq b 10)
Appended old new (Dot b) (Ok (Some begins)) = (new ≡ old ++ 46 ∷ b ∷ []) × (begins ≡ false)
Appended old new Stop (Ok (Some begins)) = ⊥
Appended old new End (Ok (Some begins)) = ⊥
Appended old new (Byte b) (Ok None) = ⊥
Appended old new (Dot b) (Ok None) = ⊥
Appended old new Stop (Ok None) = new ≡ old
Appended old new End (Ok None) = new ≡ old
Appended old new (Byte b) (Err read_end.TooLong) = MOST_BYTES ≤ length old
Appended old new (Dot b) (Err read_end.TooLong) = MOST_BYTES < length old + 2
Appended old new Stop (Err read_end.TooLong) = ⊥
Appended old new End (Err read_end.TooLong) = ⊥
Appended old new found (Err read_end.Fault) = ⊥
Appended old new found (Err read_end.Memory) = Unit {0}

-- this front of the file was read
abbrev pub HasRead : Option Text → Option Text → Text → Bool → Type 0
HasRead None now text begins = Unit {0}
HasRead (Some all) None text begins = ⊥
HasRead (Some all) (Some rest) text begins = parts_from true all ≡ before text (parts_from begins rest)

-- the file was read, and its answers are to come
pub record HasFile (all : Text) (now : Option Text) (text : Text) : Type 0 where
  pub rest : Text
  pub left : now ≡ Some rest
  pub file : text ≡ file_text all
  pub answers : answers_in all ≡ lines_of rest

-- what reading the file gives: its text, or that it has more bytes than the limit, unless memory runs out or the source fails
abbrev pub ReadsFile : ℕ → Option Text → Result (Vec ℕ Global) ReadEnd → Text → Type 0
ReadsFile limit now (Ok text) all = HasFile all now text.items
ReadsFile limit now (Err read_end.TooLong) all = limit < length (file_text all)
ReadsFile limit now (Err read_end.Fault) all = Unit {0}
ReadsFile limit now (Err read_end.Memory) all = Unit {0}

-- so with what was read ahead
abbrev pub ReadsFront : ℕ → Option Text → Result (Vec ℕ Global × ReadAhead) ReadEnd → Text → Type 0
ReadsFront limit left (Ok r) all = HasFile all (coming r.1 left) r.0.items
ReadsFront limit left (Err read_end.TooLong) all = limit < length (file_text all)
ReadsFront limit left (Err read_end.Fault) all = Unit {0}
ReadsFront limit left (Err read_end.Memory) all = Unit {0}

-- ---- answers

-- no byte is a line feed
abbrev pub has_no_feed : Text → Bool
has_no_feed [] = true
has_no_feed (b ∷ bytes) = if nat_eq b 10 then false else has_no_feed bytes

-- the answers to come, of which the first begins so
abbrev pub answers_behind : Text → Option Text → Option (List Text)
answers_behind begun now = option_map (λ bytes. lines_of (begun ++ bytes)) now

-- the answers to come
abbrev pub answers_coming : Option Text → Option (List Text)
answers_coming now = option_map lines_of now
