use Rattle.std.proofs.Common.{◌≡◌, drop}
use Rattle.pks_reader.specs.Inputs.{first_high}
use Rattle.pks_reader.proofs.Lows.{behind}
use Rattle.pks_reader.proofs.input.first_high.Given as goal

abbrev pub invariant-loop-byte : goal.invariant-loop-byte
invariant-loop-byte l = (l.at ≡ l.byte-index) × (behind l.at (first_high (drop l.byte-index l.input)) ≡ first_high l.input)
