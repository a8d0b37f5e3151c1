use Rattle.std.proofs.Common.{◌≡◌, drop, map}
use Rattle.std.specs.List.{list_all}
use Rattle.pks_terms.specs.Views.{effect_of, aim_of, signature_of}
use Rattle.pks_query_lookup.specs.Fives.{five_of}
use Rattle.pks_laws_forget.specs.Staying.{aim_stays}
use Rattle.pks_history_forget.proofs.staying.all_stay.Given as goal

abbrev pub invariant-loop-aim : goal.invariant-loop-aim
invariant-loop-aim l = list_all (aim_stays (signature_of l.s) (map effect_of l.step.effects.now) (five_of l.step.before.now) (five_of l.step.after.now)) (map aim_of (drop l.aim-index l.aims)) ≡ list_all (aim_stays (signature_of l.s) (map effect_of l.step.effects.now) (five_of l.step.before.now) (five_of l.step.after.now)) (map aim_of l.aims)
