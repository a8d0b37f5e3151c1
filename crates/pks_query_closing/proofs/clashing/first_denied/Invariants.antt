use Rattle.std.proofs.Common.{◌≡◌, find}
use Rattle.pks_terms.specs.Syntax.{negated}
use Rattle.pks_terms.specs.Databases.{holds}
use Rattle.pks_terms.specs.Views.{signature_of}
use Rattle.pks_kf.specs.Known.{literals_of}
use Rattle.pks_query_lookup.specs.Fives.{five_of}
use Rattle.pks_query_closing.proofs.clashing.first_denied.Given as goal

abbrev pub invariant-loop-l : goal.invariant-loop-l
invariant-loop-l l = find (λ m. holds (signature_of l.s) (five_of l.d) (negated m)) (literals_of l.l-iterator) ≡ find (λ m. holds (signature_of l.s) (five_of l.d) (negated m)) (literals_of l.d.kf)
