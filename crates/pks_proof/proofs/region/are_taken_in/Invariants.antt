use Rattle.std.proofs.Common.{◌≡◌, drop}
use Rattle.std.specs.List.{list_all}
use Rattle.pks_terms.specs.Reasons.{is_taken_in}
use Rattle.pks_lcw.specs.Entries.{entry_of}
use Rattle.pks_proof.specs.Doings.{effects_at, effects_by, before_in, moment_in}
use Rattle.pks_proof.proofs.region.are_taken_in.Given as goal

abbrev pub invariant-loop-e : goal.invariant-loop-e
invariant-loop-e l =
    list_all (is_taken_in (before_in l.d) (moment_in l.d) (effects_by l.d) (entry_of l.r)) (effects_at l.d.instance.now (drop l.e-index l.effects))
    ≡ list_all (is_taken_in (before_in l.d) (moment_in l.d) (effects_by l.d) (entry_of l.r)) (effects_at l.d.instance.now l.effects)
