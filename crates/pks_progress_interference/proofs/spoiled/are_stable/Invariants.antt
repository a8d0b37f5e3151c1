use Rattle.std.proofs.Common.{◌≡◌, drop}
use Rattle.pks_terms.specs.Spoiling.{are_stable}
use Rattle.pks_terms.specs.Views.{terms_of, signature_of}
use Rattle.pks_query_lookup.specs.Fives.{five_of}
use Rattle.pks_progress_interference.specs.EffectViews.{effects_in}
use Rattle.pks_progress_interference.proofs.spoiled.are_stable.Given as goal

abbrev pub invariant-loop-t : goal.invariant-loop-t
invariant-loop-t l = are_stable (signature_of l.s) (five_of l.d) (effects_in l.es) (terms_of (drop l.t-index l.ts)) ≡ are_stable (signature_of l.s) (five_of l.d) (effects_in l.es) (terms_of l.ts)
