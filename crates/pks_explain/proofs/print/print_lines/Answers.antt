use Rattle.std.proofs.Common.{◌≡◌, ◌+◌, ◌<◌, ◌++◌, ◌∙◌, length, Some, option_map, refl, ap, arith}
use Rattle.std.specs.List.{flat_map, slice_get}
use Rattle.std.proofs.lemmas.Option.{slice_get-map, slice_get_read}
use Rattle.pks_terms.specs.Branching.{numbered}
use Rattle.pks_terms.specs.Explained.{proof_line_text}
use Rattle.pks_terms.specs.Printed.{line}
use Rattle.pks_terms.specs.Proofs.{Line}
use Rattle.pks_terms.specs.Views.{names_of}
use Rattle.std.specs.Prelude.{ℕ, List}
use Rattle.pks_proof_lines.specs.ProofViews.{line_of, lines_of}
use Rattle.pks_explain.proofs.Texts.{one_told}
use Rattle.pks_explain.proofs.print.print_lines.Goals as goal

pub loop-i-preserved : goal.loop-i-preserved
loop-i-preserved c =
    let text : ℕ × Line → List ℕ = λ q. line (proof_line_text (names_of c.args.p.now) q.0 q.1) in
    let all = lines_of c.args.lines.now in
    let same : 1 + c.loop-i.i ≡ c.loop-i.i + 1 = omega arith in
    let within : c.loop-i.i < length c.args.lines.now = omega (arith, c.loop-i-test.true) in
    let there : slice_get all c.loop-i.i ≡ Some (line_of c.index-lines-i.result) =
    slice_get-map line_of c.args.lines.now c.loop-i.i ∙ ap (option_map line_of) (slice_get_read c.args.lines.now (length c.args.lines.now) c.loop-i.i c.index-lines-i.result refl within c.index-lines-i.is) in
    one_told text 1 all c.loop-i.i (c.loop-i.i + 1) (line_of c.index-lines-i.result) c.loop-i.out.items c.print_line.new.out.items (c.args.out.now.items ++ flat_map text (numbered 1 all)) same there c.in_ok-print_line.ensures c.loop-i.invariant
