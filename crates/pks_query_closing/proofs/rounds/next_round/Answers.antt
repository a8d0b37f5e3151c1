use Rattle.std.proofs.Common.{◌≡◌, ◌∙◌, ◌<◌, ◌≤◌, ◌^◌, ap, sym, subst, length, arith}
use Rattle.pks_terms.specs.Views.{signature_of}
use Rattle.pks_query_closing.proofs.LastRounds.{next_longer, next_same, next_five}
use Rattle.pks_query_closing.proofs.rounds.next_round.Goals as goal

pub returns-then-len : goal.returns-then-len
returns-then-len c =
    let own : length c.five-five.result.now.kf ≡ length c.args.d.now.kf = ap (λ five. length five.kf) c.five-five.ensures in
    let same : length c.in_ok-kf.kf ≡ length c.args.d.now.kf = omega (arith, c.if-len.true, own) in
    next_same (signature_of c.args.s.now) c.args.d.now c.in_ok-kf.kf c.in_ok-kf.ensures same

pub returns : goal.returns
returns c =
    let s = signature_of c.args.s.now in
    let d = c.args.d.now in
    let kf = c.in_ok-kf.kf in
    let own : length c.five-five.result.now.kf ≡ length d.kf = ap (λ five. length five.kf) c.five-five.ensures in
    let longer : length d.kf ≤ length kf = next_longer s d kf c.in_ok-kf.ensures in
    let fits : length kf < 2 ^ 64 = omega arith in
    let less : length d.kf < length kf = omega (arith, c.if-len.false, own) in
    let known : kf ≡ c.in_ok-next.next.kf = sym c.in_ok-next.ensures.known in
    (c.in_ok-next.ensures.five ∙ next_five s c.five-five.result.now d kf c.five-five.ensures c.in_ok-kf.ensures, subst (λ ls. length d.kf < length ls) known less, subst (λ ls. length ls < 2 ^ 64) known fits)
