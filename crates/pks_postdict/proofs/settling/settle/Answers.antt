use Rattle.std.proofs.Common.{◌≤◌, length, arith}
use Rattle.pks_terms.specs.Views.{problem_of}
use Rattle.pks_postdict.proofs.Sparing.{none_read}
use Rattle.pks_postdict.proofs.settling.settle.Goals as goal

pub settle_after-requires-clause-read : goal.settle_after-requires-clause-read
settle_after-requires-clause-read c =
    let h = c.args.h.now in
    let all : length h.steps ≤ c.len-moments.result = omega (arith, c.len-moments.ensures.count) in
    none_read (problem_of c.args.p.now) c.len-moments.result h.start h.steps all
