use Rattle.std.proofs.Common.{sym, ap, ◌∙◌, option_map}
use Rattle.pks_terms.specs.Views.{literal_of, signature_of}
use Rattle.pks_laws.proofs.SearchStates.{closed_moment}
use Rattle.pks_query_lookup.specs.Fives.{five_of}
use Rattle.pks_query_closing.proofs.LastRounds.{closes_next, closes_clash}
use Rattle.pks_query_closing.proofs.Truth.{closed_keeps_truth, clash_true_of_none}
use Rattle.pks_query_closing.proofs.closing.close.Goals as goal

pub returns-in-Some-clause-true_of_none : goal.returns-in-Some-clause-true_of_none
returns-in-Some-clause-true_of_none c =
    let s = signature_of c.args.s.now in
    let closes = closes_clash s (five_of c.args.five) (five_of c.in_ok-last.last) (literal_of c.in-Some.l) c.in_ok-last.ensures (sym (ap (option_map literal_of) (sym c.in-Some.is) ∙ c.in_ok-clash.ensures)) in
    clash_true_of_none s (five_of c.args.five) (literal_of c.in-Some.l) closes

pub returns-in_ok-d-in-None-clause-keeps_truth : goal.returns-in_ok-d-in-None-clause-keeps_truth
returns-in_ok-d-in-None-clause-keeps_truth c =
    let s = signature_of c.args.s.now in
    let d = five_of c.in_ok-d-in-None.d in
    let closes = closes_next s (five_of c.args.five) (five_of c.in_ok-last.last) d c.in_ok-last.ensures (sym (ap (option_map literal_of) (sym c.in-None.is) ∙ c.in_ok-clash.ensures)) c.in_ok-d-in-None.ensures in
    closed_keeps_truth s (five_of c.args.five) d closes

pub returns-in_ok-d-in-None-clause-moment : goal.returns-in_ok-d-in-None-clause-moment
returns-in_ok-d-in-None-clause-moment c =
    let s = signature_of c.args.s.now in
    let d = five_of c.in_ok-d-in-None.d in
    let closes = closes_next s (five_of c.args.five) (five_of c.in_ok-last.last) d c.in_ok-last.ensures (sym (ap (option_map literal_of) (sym c.in-None.is) ∙ c.in_ok-clash.ensures)) c.in_ok-d-in-None.ensures in
    λ inhabited of ordered. closed_moment s inhabited (five_of c.args.five) d of ordered closes
