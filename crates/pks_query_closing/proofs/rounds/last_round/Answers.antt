use Rattle.std.proofs.Common.{◌≡◌, ◌∙◌, ◌<◌, ◌^◌, suc, ap, subst, length, arith}
use Rattle.pks_terms.specs.Closure.{round}
use Rattle.pks_terms.specs.Views.{signature_of}
use Rattle.pks_query_lookup.specs.Fives.{five_of}
use Rattle.pks_query_closing.specs.Rounds.{IsNextRound}
use Rattle.pks_query_closing.proofs.rounds.last_round.Goals as goal

pub rounds-smaller : goal.rounds-smaller
rounds-smaller c =
    let step : (five_of c.in-Ok-Some.next ≡ round (signature_of c.args.s.now) (five_of c.rounds.d)) × (length c.rounds.d.kf < length c.in-Ok-Some.next.kf) × (length c.in-Ok-Some.next.kf < 2 ^ 64) =
    subst (IsNextRound (signature_of c.args.s.now) c.rounds.d) c.in-Ok-Some.field-0-is c.in-Ok-Some.ensures in
    let own : length c.in_ok-d-in-Ok-Some.d.kf ≡ length c.in-Ok-Some.next.kf = ap (λ five. length five.kf) c.in_ok-d-in-Ok-Some.ensures in
    omega (arith, step.1, step.2, own)

pub rounds-preserved : goal.rounds-preserved
rounds-preserved c =
    let step : (five_of c.in-Ok-Some.next ≡ round (signature_of c.args.s.now) (five_of c.rounds.d)) × (length c.rounds.d.kf < length c.in-Ok-Some.next.kf) × (length c.in-Ok-Some.next.kf < 2 ^ 64) =
    subst (IsNextRound (signature_of c.args.s.now) c.rounds.d) c.in-Ok-Some.field-0-is c.in-Ok-Some.ensures in
    (suc c.rounds.invariant.0, ap five_of c.in_ok-d-in-Ok-Some.ensures ∙ step.0 ∙ ap (round (signature_of c.args.s.now)) c.rounds.invariant.1)
