use Rattle.std.proofs.Common.{◌≡◌, ◌++◌, List, drop, not}
use Rattle.std.specs.List.{filter}
use Rattle.pks_terms.specs.declared.literal.Literal.{Literal}
use Rattle.pks_terms.specs.Databases.{holds}
use Rattle.pks_terms.specs.Views.{literals_in, signature_of}
use Rattle.pks_query_lookup.specs.Fives.{five_of}
use Rattle.pks_branch.proofs.assuming.open_literals.Given as goal

abbrev pub invariant-loop-l : goal.invariant-loop-l
invariant-loop-l l =
    let open_in = λ (ls : List Literal). filter (λ l'. not (holds (signature_of l.s) (five_of l.d) l')) (literals_in ls) in
    literals_in l.unknown.items ++ open_in (drop l.l-index l.ls) ≡ open_in l.ls
