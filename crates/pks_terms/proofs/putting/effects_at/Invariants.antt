use Rattle.std.proofs.Common.{◌≡◌, map, take}
use Rattle.pks_terms.specs.Actions.{effect_at}
use Rattle.pks_terms.specs.Views.{given_of, effect_of}
use Rattle.pks_terms.specs.ValidProblems.{ArePlaced}
use Rattle.pks_terms.proofs.putting.effects_at.Given as goal

abbrev pub invariant-loop-e : goal.invariant-loop-e
invariant-loop-e l = record {
  says : map effect_of l.effects.items ≡ map (effect_at (given_of l.i)) (map effect_of (take l.e-index l.written));
  placed : ArePlaced l.effects.items;
}
