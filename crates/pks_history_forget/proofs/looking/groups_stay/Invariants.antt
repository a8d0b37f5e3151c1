use Rattle.std.proofs.Common.{◌≡◌}
use Rattle.std.specs.List.{list_all}
use Rattle.pks_kx.specs.Groups.{groups_of}
use Rattle.pks_query_lookup.specs.Fives.{five_of}
use Rattle.pks_laws_forget.specs.Looks.{has_group}
use Rattle.pks_history_forget.proofs.looking.groups_stay.Given as goal

abbrev pub invariant-loop-g : goal.invariant-loop-g
invariant-loop-g l = list_all (has_group (five_of l.after)) (groups_of l.g-iterator) ≡ list_all (has_group (five_of l.after)) (groups_of l.before.kx)
