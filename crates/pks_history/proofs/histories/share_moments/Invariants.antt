use Rattle.std.proofs.Common.{◌≡◌, take}
use Rattle.pks_history.specs.Moments.{moments_of}
use Rattle.pks_history.proofs.histories.share_moments.Given as goal

abbrev pub invariant-loop-m : goal.invariant-loop-m
invariant-loop-m l = moments_of l.all.items ≡ moments_of (take l.m-index l.moments)
