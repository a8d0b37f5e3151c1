use Rattle.std.proofs.Common.{◌≡◌, ◌∙◌, [], refl, sym, ap, subst}
use Rattle.pks_terms.specs.Answers.{refusal}
use Rattle.pks_terms.specs.Printed.{refusal_text}
use Rattle.pks_reader_shape.specs.Refusals.{Turns}
use Rattle.pks_reader_shape.specs.declared.report.Refusal.{Refusal}
use Rattle.pks_reader.specs.Inputs.{line_and_column, IsFaulty}
use Rattle.pks_reader.specs.Views.{file_of}
use Rattle.pks_run.proofs.Reading.{one_file, one_fault, isnt_memory}
use Rattle.pks_run.proofs.answer.open.Goals as goal

pub returns-in-Ok : goal.returns-in-Ok
returns-in-Ok c = record {
  whole = c.in-Ok.ensures.whole;
  source = c.in-Ok.ensures.source;
  read = c.in-Ok.ensures.reads;
  one = one_file c.args.text.now (file_of c.in-Ok.file) (λ g read. sym (c.in-Ok.ensures.only_read g read).0) (λ fault is. (c.in-Ok.ensures.only_faulty fault is).0 refl);
}

pub returns-in_ok-refusal_of-in-Err-Refused : goal.returns-in_ok-refusal_of-in-Err-Refused
returns-in_ok-refusal_of-in-Err-Refused c =
    let r = c.in-Err-Refused.r in
    let text = c.args.text.now in
    let faulty : IsFaulty text (r.at, r.code) = (subst (λ e. Turns (IsFaulty text) e) c.in-Err-Refused.field-0-is c.in-Err-Refused.ensures.faulty).0 in
    record {
      at = line_and_column text r.at;
      code = r.code;
      faulty = (r.at, faulty, refl);
      one = one_fault text (r.at, r.code) (λ g read. isnt_memory r (sym c.in-Err-Refused.field-0-is) (c.in-Err-Refused.ensures.only_read g read).1)
          (λ other is. sym (subst (Turns (λ f. f ≡ other)) c.in-Err-Refused.field-0-is (c.in-Err-Refused.ensures.only_faulty other is).1).0);
      says = c.in_ok-refusal_of-in-Err-Refused.ensures ∙ ap (λ (x : Refusal). refusal_text (refusal (line_and_column text x.at) x.code [])) c.in-Err-Refused.r-is;
    }
