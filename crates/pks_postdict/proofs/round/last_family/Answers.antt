use Rattle.std.proofs.Common.{◌≡◌, ◌||◌, true, false, suc, sym, ap, ◌∙◌}
use Rattle.pks_terms.specs.Settling.{settle_round}
use Rattle.pks_terms.specs.Views.{problem_of}
use Rattle.pks_postdict.specs.Growing.{some_grew}
use Rattle.pks_postdict.proofs.Sparing.{spared_after}
use Rattle.pks_postdict.proofs.Rooms.{family_smaller, family_same}
use Rattle.pks_postdict.proofs.round.last_family.Goals as goal

pub returns-then-not-grew-clause-last : goal.returns-then-not-grew-clause-last
returns-then-not-grew-clause-last c =
    let none : c.in_ok-next.next.start.grew || some_grew c.in_ok-next.next.later.items ≡ false = cc (c.grew.ensures) in
    let next = c.in_ok-next.ensures in
    record {
      count = c.rounds.invariant.count;
      reached = c.rounds.invariant.reached;
      last = sym next.round ∙ family_same c.rounds.now c.in_ok-next.next next.start next.later none;
    }

pub rounds-smaller : goal.rounds-smaller
rounds-smaller c =
    let some : c.in_ok-next.next.start.grew || some_grew c.in_ok-next.next.later.items ≡ true = cc (c.grew.ensures) in
    let next = c.in_ok-next.ensures in
    family_smaller c.rounds.now c.in_ok-next.next next.start next.later some

pub rounds-preserved : goal.rounds-preserved
rounds-preserved c =
    let p = problem_of c.args.p.now in
    let next = c.in_ok-next.ensures in
    record {
      count = suc c.rounds.invariant.count;
      reached = next.round ∙ ap (settle_round p) c.rounds.invariant.reached;
      spared = spared_after p c.rounds.now c.in_ok-next.next c.rounds.invariant.spared next.round next.start next.later;
    }
