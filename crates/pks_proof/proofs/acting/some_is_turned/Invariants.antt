use Rattle.std.proofs.Common.{◌≡◌, drop, suc}
use Rattle.std.specs.List.{list_any}
use Rattle.pks_terms.specs.Views.{literal_of}
use Rattle.pks_terms.specs.Judging.{is_literal_that, by_cited}
use Rattle.pks_proof_lines.specs.ProofViews.{lines_of}
use Rattle.pks_proof.specs.Doings.{effects_by, before_in, moment_in}
use Rattle.pks_proof.specs.Acts.{is_turned}
use Rattle.pks_proof.proofs.acting.some_is_turned.Given as goal

abbrev pub invariant-loop-n : goal.invariant-loop-n
invariant-loop-n l =
    list_any (is_literal_that (is_turned (before_in l.d) (moment_in l.d) (effects_by l.d) (literal_of l.l))) (by_cited (lines_of l.d.before.lines.now) (drop l.n-index l.numbers) (suc (moment_in l.d)))
    ≡ list_any (is_literal_that (is_turned (before_in l.d) (moment_in l.d) (effects_by l.d) (literal_of l.l))) (by_cited (lines_of l.d.before.lines.now) l.numbers (suc (moment_in l.d)))
