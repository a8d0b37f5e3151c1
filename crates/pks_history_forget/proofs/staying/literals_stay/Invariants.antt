use Rattle.std.proofs.Common.{◌≡◌, drop, map}
use Rattle.std.specs.List.{list_all}
use Rattle.pks_terms.specs.Views.{literals_in, effect_of, signature_of}
use Rattle.pks_query_lookup.specs.Fives.{five_of}
use Rattle.pks_laws_forget.specs.Staying.{literal_stays}
use Rattle.pks_history_forget.proofs.staying.literals_stay.Given as goal

abbrev pub invariant-loop-l : goal.invariant-loop-l
invariant-loop-l l = list_all (literal_stays (signature_of l.s) (map effect_of l.step.effects.now) (five_of l.step.before.now) (five_of l.step.after.now)) (literals_in (drop l.l-index l.ls)) ≡ list_all (literal_stays (signature_of l.s) (map effect_of l.step.effects.now) (five_of l.step.before.now) (five_of l.step.after.now)) (literals_in l.ls)
