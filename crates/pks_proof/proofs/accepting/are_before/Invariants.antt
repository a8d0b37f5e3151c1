use Rattle.std.proofs.Common.{◌≡◌, drop}
use Rattle.pks_terms.specs.Accepting.{are_before}
use Rattle.pks_proof.proofs.accepting.are_before.Given as goal

abbrev pub invariant-loop-c : goal.invariant-loop-c
invariant-loop-c l =
    are_before l.n (drop l.c-index l.cites)
    ≡ are_before l.n l.cites
