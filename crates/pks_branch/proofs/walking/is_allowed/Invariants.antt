use Rattle.std.proofs.Common.{◌≡◌, List, map, drop}
use Rattle.std.specs.List.{list_all}
use Rattle.pks_terms.specs.declared.schema.Query.{Query}
use Rattle.pks_terms.specs.Actions.{query_at}
use Rattle.pks_terms.specs.Queries.{answers}
use Rattle.pks_terms.specs.Views.{given_of, query_of, signature_of}
use Rattle.pks_query_lookup.specs.Fives.{five_of}
use Rattle.pks_branch.proofs.walking.is_allowed.Given as goal

abbrev pub invariant-loop-q : goal.invariant-loop-q
invariant-loop-q l =
    let all = λ (qs : List Query). list_all (λ q. answers (signature_of l.s) (five_of l.d) (query_at (given_of l.i) q)) (map query_of qs) in
    all (drop l.q-index l.pre) ≡ all l.pre
