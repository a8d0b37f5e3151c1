use Rattle.std.proofs.Common.{◌≡◌, drop}
use Rattle.pks_terms.specs.Progress.{is_untouched}
use Rattle.pks_terms.specs.Views.{literals_in, signature_of}
use Rattle.pks_query_lookup.specs.Fives.{five_of}
use Rattle.pks_progress_interference.specs.EffectViews.{effects_in}
use Rattle.pks_progress.proofs.kept.is_untouched.Given as goal

abbrev pub invariant-loop-l : goal.invariant-loop-l
invariant-loop-l l = is_untouched (signature_of l.s) (five_of l.d) (effects_in l.es) (literals_in (drop l.l-index l.literals)) ≡ is_untouched (signature_of l.s) (five_of l.d) (effects_in l.es) (literals_in l.literals)
