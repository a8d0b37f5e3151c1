-- How much is taken from a source.
use Rattle.std.proofs.Common.{◌+◌, ◌≤◌, [], ℕ, Option, Vec, Result, length, arith}
use Rattle.std.specs.declared.alloc.Global.{Global}
use Rattle.std.proofs.KnownBytes.{Consumes-nil}
use Rattle.pks_io.specs.Reading.{Takes}
use Rattle.pks_io.specs.declared.read.ReadEnd.{ReadEnd}
use Rattle.pks_terms.specs.Printed.{Text}
use Rattle.pks_run.specs.Answer.{TakesFew}

-- where an input was read, or given up past its greatest length
pub takes_few : (old new : Option Text) (r : Result (Vec ℕ Global) ReadEnd) → Takes old new 262144 r → TakesFew old new
takes_few old new r t = let few : length t.bytes ≤ 262144 + 1 = t.few in record { bytes = t.bytes; taken = t.taken; few = omega (arith, few) }

-- where nothing was read
pub takes_none : (left : Option Text) → TakesFew left left
takes_none left = record { bytes = []; taken = Consumes-nil left; few = omega arith }
