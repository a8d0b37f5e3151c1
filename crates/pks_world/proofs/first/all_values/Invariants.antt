use Rattle.std.proofs.Common.{◌≤◌, length}
use Rattle.pks_terms.specs.Sets.{Each}
use Rattle.pks_terms.specs.Views.{shape_of, signature_of}
use Rattle.pks_world.specs.Counts.{KeptCounts}
use Rattle.pks_world.specs.First.{AreLeast, AreFilled}
use Rattle.pks_world.proofs.first.all_values.Given as goal

abbrev pub invariant-loop-f : goal.invariant-loop-f
invariant-loop-f l = record {
  least : AreLeast (signature_of l.s) l.values.entries;
  filled : Each (λ x. length (shape_of x).arguments ≤ 2) l.s.functions → AreFilled (signature_of l.s) l.f l.values.entries;
  counts : KeptCounts l.values.entries;
}
