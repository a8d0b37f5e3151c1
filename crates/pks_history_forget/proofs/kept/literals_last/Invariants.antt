use Rattle.std.proofs.Common.{◌≡◌, map}
use Rattle.std.specs.List.{list_all}
use Rattle.pks_terms.specs.Views.{effect_of}
use Rattle.pks_kf.specs.Known.{literals_of}
use Rattle.pks_query_lookup.specs.Fives.{five_of}
use Rattle.pks_laws_forget.specs.Testing.{is_kept}
use Rattle.pks_history_forget.proofs.kept.literals_last.Given as goal

abbrev pub invariant-loop-l : goal.invariant-loop-l
invariant-loop-l l =
    list_all (is_kept (five_of l.before) (five_of l.after) (map effect_of l.effects)) (literals_of l.l-iterator)
    ≡ list_all (is_kept (five_of l.before) (five_of l.after) (map effect_of l.effects)) (literals_of l.before.kf)
