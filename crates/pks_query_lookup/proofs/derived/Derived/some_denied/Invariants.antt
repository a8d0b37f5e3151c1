use Rattle.std.proofs.Common.{◌≡◌, drop}
use Rattle.std.specs.List.{list_any}
use Rattle.pks_terms.specs.Syntax.{negated}
use Rattle.pks_terms.specs.Databases.{holds}
use Rattle.pks_terms.specs.Views.{literals_in, signature_of}
use Rattle.pks_query_lookup.specs.Fives.{five_of}
use Rattle.pks_query_lookup.proofs.derived.Derived.some_denied.Given as goal

abbrev pub invariant-loop-l : goal.invariant-loop-l
invariant-loop-l at = list_any (λ l. holds (signature_of at.s) (five_of at.self) (negated l)) (literals_in (drop at.l-index at.ls)) ≡ list_any (λ l. holds (signature_of at.s) (five_of at.self) (negated l)) (literals_in at.ls)
