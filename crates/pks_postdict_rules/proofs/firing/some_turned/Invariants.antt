use Rattle.std.proofs.Common.{◌&&◌, ◌≡◌, drop}
use Rattle.std.specs.List.{list_any}
use Rattle.pks_terms.specs.Databases.{holds}
use Rattle.pks_terms.specs.Syntax.{negated}
use Rattle.pks_terms.specs.Views.{literals_in}
use Rattle.pks_query_lookup.specs.Fives.{five_of}
use Rattle.pks_postdict_rules.specs.Changes.{signature_in, before_in}
use Rattle.pks_postdict_rules.proofs.firing.some_turned.Given as goal

abbrev pub invariant-loop-l : goal.invariant-loop-l
invariant-loop-l l = list_any (λ m. holds (signature_in l.change) (before_in l.change) (negated m) && holds (signature_in l.change) (five_of l.after) m) (literals_in (drop l.l-index l.literals)) ≡ list_any (λ m. holds (signature_in l.change) (before_in l.change) (negated m) && holds (signature_in l.change) (five_of l.after) m) (literals_in l.literals)
