use Rattle.std.proofs.Common.{◌≡◌, ◌==◌, drop}
use Rattle.std.specs.List.{list_any}
use Rattle.pks_proof.proofs.accepting.is_among.Given as goal

abbrev pub invariant-loop-c : goal.invariant-loop-c
invariant-loop-c l =
    list_any (λ c. c == l.n) (drop l.c-index l.cites)
    ≡ list_any (λ c. c == l.n) l.cites
