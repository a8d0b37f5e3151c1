use Rattle.std.proofs.Common.{◌≡◌, drop}
use Rattle.std.specs.List.{list_any}
use Rattle.pks_terms.specs.Justified.{senses_whether}
use Rattle.pks_terms.specs.Views.{conj_of}
use Rattle.pks_justify.specs.Effects.{senses_of}
use Rattle.pks_justify.proofs.fitting.is_found.Given as goal

abbrev pub invariant-loop-sense : goal.invariant-loop-sense
invariant-loop-sense l = list_any (senses_whether (conj_of l.c)) (senses_of (drop l.sense-index l.senses)) ≡ list_any (senses_whether (conj_of l.c)) (senses_of l.senses)
