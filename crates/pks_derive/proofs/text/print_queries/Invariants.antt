use Rattle.std.proofs.Common.{◌++◌, ◌∷◌, ◌≡◌, drop, map}
use Rattle.std.specs.List.{flat_map, join_with_byte}
use Rattle.pks_terms.specs.Printed.{query_text}
use Rattle.pks_terms.specs.Views.{names_of, query_of}
use Rattle.pks_derive.proofs.text.print_queries.Given as goal

abbrev pub invariant-loop-query : goal.invariant-loop-query
invariant-loop-query l =
    let text = query_text (names_of l.p) (map (λ t. t.now) l.parameters) in
    l.out.items ++ flat_map (λ part. 32 ∷ part) (map text (map query_of (drop l.query-index l.rest))) ≡ l.fn.out.items ++ join_with_byte 32 (map text (map query_of l.queries))
