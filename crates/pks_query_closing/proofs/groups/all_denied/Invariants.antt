use Rattle.std.proofs.Common.{◌≡◌, map, drop}
use Rattle.std.specs.List.{list_all}
use Rattle.pks_terms.specs.Syntax.{negated}
use Rattle.pks_terms.specs.Databases.{holds}
use Rattle.pks_terms.specs.Views.{literal_of, signature_of}
use Rattle.pks_query_lookup.specs.Fives.{five_of}
use Rattle.pks_query_closing.proofs.groups.all_denied.Given as goal

abbrev pub invariant-loop-l : goal.invariant-loop-l
invariant-loop-l l = list_all (λ m. holds (signature_of l.s) (five_of l.d) (negated m)) (map literal_of (drop l.l-index l.ls)) ≡ list_all (λ m. holds (signature_of l.s) (five_of l.d) (negated m)) (map literal_of l.ls)
