use Rattle.std.proofs.Common.{◌≡◌, ◌∙◌, true, false, decimal, IfNone, Option, Some, None, arith, sym, ap}
use Rattle.std.specs.Result.{result_ok}
use Rattle.std.specs.Str.{bytes_eq}
use Rattle.std.proofs.lemmas.Fmt.{parse-decimal}
use Rattle.std.proofs.lemmas.Slice.Eq.{bytes_eq-Decides}
use Rattle.pks_run_words.proofs.number.number_of.Goals as goal

at_none : {A : Type 0} (o : Option A) (P : Type 0) → P → IfNone o P
at_none None P h = h
at_none (Some x) P h = tt

pub returns-in_err-number-clause-none : goal.returns-in_err-number-clause-none
returns-in_err-number-clause-none c =
    at_none c.from_residual.result _ (λ n small e.
    let is = parse-decimal 8 n c.args.word.now c.parse.result (omega (arith, small)) (omega (arith, small)) e c.parse.ensures.value.0 in
    let none : None ≡ Some n = c.in_err-number.ensures.value ∙ ap result_ok is in
    cc)

pub returns-else-eq-clause-none : goal.returns-else-eq-clause-none
returns-else-eq-clause-none c = λ n small e.
    let is = parse-decimal 8 n c.args.word.now c.parse.result (omega (arith, small)) (omega (arith, small)) e c.parse.ensures.value.0 in
    let some : Some c.in_ok-number.number ≡ Some n = c.in_ok-number.ensures.value ∙ ap result_ok is in
    let number : c.in_ok-number.number ≡ n = cc in
    let same : c.format.result.now ≡ c.args.word.now = c.format.ensures.text ∙ (ap decimal number ∙ sym e) in
    let yes : bytes_eq c.format.result.now c.args.word.now ≡ true = (bytes_eq-Decides c.format.result.now c.args.word.now).1 same in
    let no : bytes_eq c.format.result.now c.args.word.now ≡ false = sym c.eq.ensures ∙ c.if-eq.false in
    let bad : true ≡ false = sym yes ∙ no in
    cc
