use Rattle.std.proofs.Common.{◌≡◌, ◌++◌, take, drop, flat_map}
use Rattle.pks_terms.specs.Settling.{must_have_fired}
use Rattle.pks_terms.specs.Sets.{with_others}
use Rattle.pks_terms.specs.Views.{literals_in}
use Rattle.pks_query_lookup.specs.Fives.{five_of}
use Rattle.pks_postdict_rules.specs.Changes.{signature_in, before_in, effects_by, some_effects}
use Rattle.pks_postdict_rules.specs.Targets.{others_after}
use Rattle.pks_postdict_rules.proofs.firing.put_all_must_have_fired.Given as goal

abbrev pub invariant-loop-k : goal.invariant-loop-k
invariant-loop-k l =
    literals_in l.to.items ++ flat_map (must_have_fired (signature_in l.change) (effects_by l.change) (before_in l.change) (five_of l.after)) (others_after (some_effects l.change (take l.k l.written)) (some_effects l.change (drop l.k l.written)))
    ≡ literals_in l.fn.to.items ++ flat_map (must_have_fired (signature_in l.change) (effects_by l.change) (before_in l.change) (five_of l.after)) (with_others (some_effects l.change l.written))
