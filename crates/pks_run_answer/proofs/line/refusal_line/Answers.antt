use Rattle.std.proofs.Common.{◌∙◌, ◌++◌, Bor, refl, ap, decimal}
use Rattle.std.specs.List.{flat_map}
use Rattle.pks_terms.specs.Printed.{Text}
use Rattle.pks_terms.specs.Answers.{refusal}
use Rattle.pks_reader.specs.Inputs.{line_and_column}
use Rattle.pks_run_answer.proofs.line.refusal_line.Goals as goal

pub returns : goal.returns
returns c =
    let r = refusal (line_and_column c.args.input.now c.args.r.at) c.args.r.code c.args.rest.now in
    let line = c.format.ensures.text ∙ ap (λ p. decimal p.line) c.place-line.ensures in
    let column = c.format-2.ensures.text ∙ ap (λ p. decimal p.column) c.place-line.ensures in
    let parts = c.refusal_parts-parts.ensures r line column c.format-3.ensures.text refl in
    c.in_ok-add_parts.ensures ∙ ap (λ (t : Text). t ++ flat_map (λ (part : Bor Text). part.now) c.refusal_parts-parts.result) c.new-text.ensures.items ∙ parts
