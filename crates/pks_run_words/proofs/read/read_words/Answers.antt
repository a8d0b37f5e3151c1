use Rattle.std.proofs.Common.{map, option_map, string_bytes}
use Rattle.pks_run_words.specs.Command.{text_of}
use Rattle.pks_run_words.specs.JobViews.{job_of}
use Rattle.pks_run_words.proofs.Parsed.{asked, same_error, unasked}
use Rattle.pks_run_words.proofs.read.read_words.Goals as goal

pub returns-in_err-mode-clause-refused : goal.returns-in_err-mode-clause-refused
returns-in_err-mode-clause-refused c = λ refused.
    unasked (map string_bytes c.args.words.now) (c.in_err-mode.ensures.refused (same_error c.from_residual.result c.in_err-mode.field-0.0 c.from_residual.ensures.1 refused))

pub returns-in-Some-clause-ok : goal.returns-in-Some-clause-ok
returns-in-Some-clause-ok c =
    asked (map string_bytes c.args.words.now) c.in_ok-mode.mode.now (option_map text_of c.in_ok-mode.number) (job_of c.in-Some.job) c.in_ok-mode.ensures.ok c.in-Some.ensures.found
