use Rattle.std.proofs.Common.{◌≡◌, drop}
use Rattle.std.specs.List.{list_all}
use Rattle.pks_terms.specs.Views.{literals_in}
use Rattle.pks_terms.specs.Objects.{is_of_objects}
use Rattle.pks_history_forget.proofs.objects.are_of_objects.Given as goal

abbrev pub invariant-loop-l : goal.invariant-loop-l
invariant-loop-l l = list_all is_of_objects (literals_in (drop l.l-index l.ls)) ≡ list_all is_of_objects (literals_in l.ls)
