use Rattle.std.proofs.Common.{arith, ap, sym, lt_of_lt_of_le}
use Rattle.pks_terms.specs.Views.{signature_of, types_of}
use Rattle.pks_search_symmetry.proofs.Texts.{renaming_taken, taken_more}
use Rattle.pks_search_symmetry.proofs.alike.takes_back.Goals as goal

pub loop-place-init : goal.loop-place-init
loop-place-init c = λ d h. absurd (omega (arith, h))

pub loop-place-preserved : goal.loop-place-preserved
loop-place-preserved c = taken_more c.loop-place.place c.loop-place.invariant (c.is_taken_back.ensures c.if-not-is_taken_back.false)

pub returns : goal.returns
returns c = λ e.
    renaming_taken
    c.as_slice-types.result.now
    c.args.to.now
    c.args.back.now
    c.if-to-types.false
    c.if-back-types.false
    (λ d h. c.loop-place.invariant d (lt_of_lt_of_le h c.loop-place-test.false))
    (signature_of c.args.p.now.signature)
    (ap types_of (sym c.as_slice-types.ensures))
