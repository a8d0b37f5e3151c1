use Rattle.std.proofs.Common.{◌≡◌, map}
use Rattle.std.specs.List.{list_all}
use Rattle.pks_terms.specs.Views.{effect_of}
use Rattle.pks_kx.specs.Groups.{groups_of}
use Rattle.pks_query_lookup.specs.Fives.{five_of}
use Rattle.pks_laws_forget.specs.Testing.{lasts_as_group}
use Rattle.pks_history_forget.proofs.kept.groups_last.Given as goal

abbrev pub invariant-loop-g : goal.invariant-loop-g
invariant-loop-g l =
    list_all (lasts_as_group (five_of l.before) (five_of l.after) (map effect_of l.effects)) (groups_of l.g-iterator)
    ≡ list_all (lasts_as_group (five_of l.before) (five_of l.after) (map effect_of l.effects)) (groups_of l.before.kx)
