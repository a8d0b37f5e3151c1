use Rattle.std.proofs.Common.{◌≡◌, drop, not}
use Rattle.std.specs.List.{list_all}
use Rattle.pks_terms.specs.Views.{literals_in}
use Rattle.pks_laws_progress.specs.Loose.{is_predicate}
use Rattle.pks_progress.proofs.loose.have_none.Given as goal

abbrev pub invariant-loop-l : goal.invariant-loop-l
invariant-loop-l l = list_all (λ m. not (is_predicate l.p.0 m.relation)) (literals_in (drop l.l-index l.literals)) ≡ list_all (λ m. not (is_predicate l.p.0 m.relation)) (literals_in l.literals)
