use Rattle.std.proofs.Common.{◌≡◌, drop}
use Rattle.std.specs.List.{list_any}
use Rattle.pks_terms.specs.Judging.{is_region_that, by_cited}
use Rattle.pks_terms.specs.Reasons.{grows_to}
use Rattle.pks_lcw.specs.Entries.{entry_of}
use Rattle.pks_proof_lines.specs.ProofViews.{lines_of}
use Rattle.pks_proof.specs.Doings.{effects_by, before_in, moment_in}
use Rattle.pks_proof.proofs.region.some_grows_to.Given as goal

abbrev pub invariant-loop-n : goal.invariant-loop-n
invariant-loop-n l =
    list_any (is_region_that (grows_to (before_in l.d) (moment_in l.d) (effects_by l.d) (entry_of l.r))) (by_cited (lines_of l.d.before.lines.now) (drop l.n-index l.numbers) (moment_in l.d))
    ≡ list_any (is_region_that (grows_to (before_in l.d) (moment_in l.d) (effects_by l.d) (entry_of l.r))) (by_cited (lines_of l.d.before.lines.now) l.numbers (moment_in l.d))
