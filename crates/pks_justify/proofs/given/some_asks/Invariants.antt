use Rattle.std.proofs.Common.{◌≡◌, drop, map}
use Rattle.std.specs.List.{list_any}
use Rattle.pks_terms.specs.Views.{query_of}
use Rattle.pks_justify.specs.Asked.{is_asked, asks_for}
use Rattle.pks_justify.proofs.given.some_asks.Given as goal

abbrev pub invariant-loop-q : goal.invariant-loop-q
invariant-loop-q l = list_any (is_asked (asks_for l.fact)) (map query_of (drop l.q-index l.queries)) ≡ list_any (is_asked (asks_for l.fact)) (map query_of l.queries)
