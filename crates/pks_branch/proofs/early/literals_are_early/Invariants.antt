use Rattle.std.proofs.Common.{◌≡◌, drop}
use Rattle.std.specs.List.{list_all}
use Rattle.pks_terms.specs.Views.{literals_in}
use Rattle.pks_branch.specs.Early.{literal_is_early}
use Rattle.pks_branch.proofs.early.literals_are_early.Given as goal

abbrev pub invariant-loop-l : goal.invariant-loop-l
invariant-loop-l l = list_all (literal_is_early l.n) (literals_in (drop l.l-index l.ls)) ≡ list_all (literal_is_early l.n) (literals_in l.ls)
