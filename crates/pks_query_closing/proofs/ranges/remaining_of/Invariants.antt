use Rattle.std.proofs.Common.{◌≡◌, ℕ, ◌&&◌, map, drop}
use Rattle.pks_terms.specs.Closure.{is_last_left}
use Rattle.pks_terms.specs.Views.{object_of, term_of, signature_of}
use Rattle.pks_query_lookup.specs.Fives.{five_of}
use Rattle.pks_query_closing.specs.Possible.{may_be}
use Rattle.pks_query_closing.proofs.ranges.remaining_of.Given as goal

abbrev pub invariant-loop-o : goal.invariant-loop-o
invariant-loop-o l =
    (e : ℕ) → (may_be l.left e && is_last_left (signature_of l.s) (five_of l.d) (term_of l.t) (map object_of (drop l.o-index l.objects)) e)
    ≡ is_last_left (signature_of l.s) (five_of l.d) (term_of l.t) (map object_of l.objects) e
