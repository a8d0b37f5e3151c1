use Rattle.std.proofs.Common.{◌≡◌, map, take}
use Rattle.pks_terms.specs.Views.{effect_of}
use Rattle.pks_terms.specs.ValidProblems.{ArePlaced}
use Rattle.pks_kf.specs.Known.{literals_of}
use Rattle.pks_laws_forget.specs.Transparent.{with_normal}
use Rattle.pks_history_forget.proofs.normal.in_normal_form.Given as goal

abbrev pub invariant-loop-e : goal.invariant-loop-e
invariant-loop-e l = record {
  says : map effect_of l.effects.items ≡ map (with_normal (literals_of l.by.kf)) (map effect_of (take l.e-index l.written));
  placed : ArePlaced l.effects.items;
}
