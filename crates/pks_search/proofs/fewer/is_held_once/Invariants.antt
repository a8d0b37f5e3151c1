use Rattle.std.proofs.Common.{◌≡◌, drop}
use Rattle.std.specs.List.{list_any}
use Rattle.pks_terms.specs.Aims.{moments}
use Rattle.pks_terms.specs.Views.{query_of, signature_of}
use Rattle.pks_laws_forget.specs.Fewer.{is_held}
use Rattle.pks_search.proofs.fewer.is_held_once.Given as goal

abbrev pub invariant-loop-moment : goal.invariant-loop-moment
invariant-loop-moment l =
    list_any (λ d. is_held (signature_of l.s) d (query_of l.q)) (drop l.moment (moments l.h))
    ≡ list_any (λ d. is_held (signature_of l.s) d (query_of l.q)) (moments l.h)
