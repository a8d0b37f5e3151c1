use Rattle.std.proofs.Common.{◌∙◌, ap, subst}
use Rattle.pks_terms.specs.Jobs.{Agent}
use Rattle.pks_terms.specs.Printed.{refusal_text}
use Rattle.pks_terms.specs.Answers.{RefusesFile}
use Rattle.pks_query_lookup.specs.Fives.{five_of}
use Rattle.pks_reader.specs.Views.{file_of}
use Rattle.pks_run_answer.specs.Accepting.{printed_of, IfRefused}
use Rattle.pks_run_answer.proofs.Accepting.{none_applies}
use Rattle.pks_run_answer.proofs.leads.lead_about.Goals as goal

pub accepted_lead-requires-clause-fine : goal.accepted_lead-requires-clause-fine
accepted_lead-requires-clause-fine c = none_applies (Agent c.args.depth) (file_of c.args.f.now) (five_of c.in-Ok.accepted.first) c.in-Ok.accepted.world c.in-Ok.ensures.accepts

pub returns-in_ok-file_line-in-Err-Refused : goal.returns-in_ok-file_line-in-Err-Refused
returns-in_ok-file_line-in-Err-Refused c =
    let f = c.args.f.now in
    let r = c.in-Err-Refused.r in
    let refused : RefusesFile (Agent c.args.depth) (file_of f) (printed_of f r) = subst (IfRefused f (RefusesFile (Agent c.args.depth) (file_of f))) c.in-Err-Refused.field-0-is c.in-Err-Refused.ensures.refused in
    (printed_of f r, refused, c.in_ok-file_line-in-Err-Refused.ensures ∙ ap (λ x. refusal_text (printed_of f x)) c.in-Err-Refused.r-is)
