use Rattle.std.proofs.Common.{◌≡◌, drop}
use Rattle.std.specs.List.{list_all}
use Rattle.pks_terms.specs.Databases.{holds}
use Rattle.pks_terms.specs.Views.{literals_in}
use Rattle.pks_postdict_rules.specs.Changes.{signature_in, before_in}
use Rattle.pks_postdict_rules.proofs.change.Change.all_hold.Given as goal

abbrev pub invariant-loop-l : goal.invariant-loop-l
invariant-loop-l l = list_all (holds (signature_in l.self) (before_in l.self)) (literals_in (drop l.l-index l.literals)) ≡ list_all (holds (signature_in l.self) (before_in l.self)) (literals_in l.literals)
