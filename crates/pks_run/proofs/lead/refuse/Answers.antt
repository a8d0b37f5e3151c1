use Rattle.std.proofs.Common.{List, [], ℕ, refl, sym, subst, arith}
use Rattle.std.specs.Io.KnownBytes.{Appends}
use Rattle.std.proofs.lemmas.Fmt.{decimal_digit}
use Rattle.pks_io.specs.Writing.{AppendsFront}
use Rattle.pks_run.proofs.lead.refuse.Goals as goal

pub returns-in-Ok : goal.returns-in-Ok
returns-in-Ok g c =
    let line = c.refusal_parts-parts.ensures (record { line = c.args.line; column = 1; code = c.args.code; rest = [] }) c.format.ensures.text (sym (decimal_digit 1 (omega arith))) c.format-2.ensures.text refl in
    (subst (λ (t : List ℕ). Appends (g.K.Sink.written c.args.sink.now) (g.K.Sink.written c.write_parts.new.sink) t) line c.in-Ok.ensures.ok, c.in-Ok.ensures.quiet)

pub returns-in-Err : goal.returns-in-Err
returns-in-Err g c =
    let line = c.refusal_parts-parts.ensures (record { line = c.args.line; column = 1; code = c.args.code; rest = [] }) c.format.ensures.text (sym (decimal_digit 1 (omega arith))) c.format-2.ensures.text refl in (
      subst (λ (t : List ℕ). AppendsFront (g.K.Sink.written c.args.sink.now) (g.K.Sink.written c.write_parts.new.sink) t) line c.in-Err.ensures.err,
      c.in-Err.ensures.cause.failed,
      c.in-Err.ensures.cause.later,
    )
