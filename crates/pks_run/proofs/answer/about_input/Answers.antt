use Rattle.std.proofs.Common.{◌∙◌, subst}
use Rattle.pks_run_words.specs.JobViews.{job_of}
use Rattle.pks_run.specs.Opening.{OpensAs}
use Rattle.pks_run.proofs.Replying.{fault_replied}
use Rattle.pks_run.proofs.answer.about_input.Goals as goal

pub about_file-requires-clause-whole : goal.about_file-requires-clause-whole
about_file-requires-clause-whole c = (subst (OpensAs c.args.input.now) c.in-File.is c.requires.opens).whole

pub about_file-requires-clause-source : goal.about_file-requires-clause-source
about_file-requires-clause-source c = (subst (OpensAs c.args.input.now) c.in-File.is c.requires.opens).source

pub about_file-requires-clause-read : goal.about_file-requires-clause-read
about_file-requires-clause-read c = (subst (OpensAs c.args.input.now) c.in-File.is c.requires.opens).read

pub about_file-requires-clause-one : goal.about_file-requires-clause-one
about_file-requires-clause-one c = (subst (OpensAs c.args.input.now) c.in-File.is c.requires.opens).one

pub returns-in_ok-text-in-Refused : goal.returns-in_ok-text-in-Refused
returns-in_ok-text-in-Refused c = λ given about.
    let refused = subst (OpensAs c.args.input.now) c.in-Refused.is c.requires.opens in
    fault_replied (job_of c.args.job) given c.args.input.now about refused.at refused.code refused.faulty refused.one c.in_ok-text-in-Refused.text.items (c.in_ok-text-in-Refused.ensures ∙ (c.as_slice.ensures.value ∙ refused.says))
