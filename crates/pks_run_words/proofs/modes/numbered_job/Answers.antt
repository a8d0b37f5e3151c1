use Rattle.std.proofs.Common.{◌∙◌, ◌<◌, ◌∷◌, [], decimal, IfSome, sym, subst, true≢false, arith}
use Rattle.pks_run_words.specs.JobViews.{job_of}
use Rattle.pks_run_words.proofs.Spelling.{out_of_bounds}
use Rattle.pks_run_words.proofs.modes.numbered_job.Goals as goal

pub returns-else-is_in_bounds-clause-none : goal.returns-else-is_in_bounds-clause-none
returns-else-is_in_bounds-clause-none c =
    out_of_bounds (c.args.mode.now ∷ decimal c.args.number ∷ []) (job_of c.in_ok-job.job) c.in_ok-job.ensures.found (subst (λ o. IfSome o (λ n. n < 256)) (sym c.in_ok-job.ensures.number) (omega (arith, c.ranges.number.fits)))
    (λ within. true≢false (sym (c.is_in_bounds.ensures.1 within) ∙ c.if-is_in_bounds.false))
