use Rattle.std.proofs.Common.{refl, arith}
use Rattle.pks_reader.specs.Inputs.{first_high as high_in}
use Rattle.pks_reader.proofs.Lows.{at_first, found_high, one_more, none_high}
use Rattle.pks_reader.proofs.input.first_high.Goals as goal

pub loop-byte-init : goal.loop-byte-init
loop-byte-init c = (refl, at_first (high_in c.args.input.now))

pub returns-then-byte-gt127 : goal.returns-then-byte-gt127
returns-then-byte-gt127 c = found_high c.args.input.now c.loop-byte.at c.loop-byte.byte-index c.loop-byte.invariant c.loop-byte-test.true c.if-byte-gt127.true

pub overflow_add-at : goal.overflow_add-at
overflow_add-at c = omega (arith, c.loop-byte.invariant.0, c.loop-byte-test.true, c.requires)

pub loop-byte-preserved : goal.loop-byte-preserved
loop-byte-preserved c = one_more c.args.input.now c.loop-byte.at c.loop-byte.byte-index c.loop-byte.invariant c.loop-byte-test.true c.if-byte-gt127.false

pub returns : goal.returns
returns c = none_high c.args.input.now c.loop-byte.at c.loop-byte.byte-index c.loop-byte.invariant c.loop-byte-test.false
