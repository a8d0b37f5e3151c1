use Rattle.std.proofs.Common.{◌≡◌, ◌||◌, drop}
use Rattle.std.specs.List.{list_all}
use Rattle.pks_terms.specs.Databases.{holds}
use Rattle.pks_terms.specs.Syntax.{negated}
use Rattle.pks_terms.specs.Views.{literals_in, signature_of}
use Rattle.pks_query_lookup.specs.Fives.{five_of}
use Rattle.pks_history_forget.proofs.held.are_told.Given as goal

abbrev pub invariant-loop-l : goal.invariant-loop-l
invariant-loop-l l =
    list_all (λ m. holds (signature_of l.s) (five_of l.d) m || holds (signature_of l.s) (five_of l.d) (negated m)) (literals_in (drop l.l-index l.literals))
    ≡ list_all (λ m. holds (signature_of l.s) (five_of l.d) m || holds (signature_of l.s) (five_of l.d) (negated m)) (literals_in l.literals)
