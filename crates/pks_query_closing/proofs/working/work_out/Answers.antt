use Rattle.std.proofs.Common.{◌≡◌, ◌<◌, ◌≤◌, ◌^◌, sym, subst, length, rules, arith}
use Rattle.std.specs.Ordering.{on}
use Rattle.std.proofs.lemmas.List.{length-map}
use Rattle.pks_terms.specs.Sets.{IsOrdered}
use Rattle.pks_terms.specs.Orders.{literal_cmp}
use Rattle.pks_terms.specs.Closure.{round}
use Rattle.pks_terms.specs.Views.{literal_of, signature_of}
use Rattle.pks_laws_progress.specs.Following.{Follows}
use Rattle.pks_pmap_set.proofs.Mapped.{ordered-map}
use Rattle.pks_query_lookup.specs.Fives.{five_of}
use Rattle.pks_query_closing.specs.Rounds.{IsNextRound}
use Rattle.pks_query_closing.proofs.Growing.{follows_itself, follows_on, round_follows, denied_clashes}
use Rattle.pks_query_closing.proofs.working.work_out.Goals as goal

pub rounds-init : goal.rounds-init
rounds-init c = subst (λ d. Follows (signature_of c.args.s.now) (five_of c.args.five) (five_of d)) (sym c.in_ok-d.ensures) (follows_itself (signature_of c.args.s.now) (five_of c.args.five))

pub rounds-preserved : goal.rounds-preserved
rounds-preserved c =
    let s = signature_of c.args.s.now in
    let step : (five_of c.in-Ok-Some.next ≡ round s (five_of c.rounds.d)) × (length c.rounds.d.kf < length c.in-Ok-Some.next.kf) × (length c.in-Ok-Some.next.kf < 2 ^ 64) =
    subst (IsNextRound s c.rounds.d) c.in-Ok-Some.field-0-is c.in-Ok-Some.ensures in
    follows_on s (five_of c.args.five) (five_of c.in-Ok-Some.next) (five_of c.in_ok-d-in-Ok-Some.d)
    (subst (Follows s (five_of c.args.five)) (sym step.0) (round_follows s c.requires.values (five_of c.args.five) (five_of c.rounds.d) c.rounds.invariant))
    c.in_ok-d-in-Ok-Some.ensures.follows

pub rounds-smaller : goal.rounds-smaller
rounds-smaller c =
    let s = signature_of c.args.s.now in
    let step : (five_of c.in-Ok-Some.next ≡ round s (five_of c.rounds.d)) × (length c.rounds.d.kf < length c.in-Ok-Some.next.kf) × (length c.in-Ok-Some.next.kf < 2 ^ 64) =
    subst (IsNextRound s c.rounds.d) c.in-Ok-Some.field-0-is c.in-Ok-Some.ensures in
    let longer : length c.in-Ok-Some.next.kf ≤ length c.in_ok-d-in-Ok-Some.d.kf = simp length-map at c.in_ok-d-in-Ok-Some.ensures.longer in
    omega (arith, step.1, step.2, longer)

pub returns-then-values_clash : goal.returns-then-values_clash
returns-then-values_clash c =
    let s = signature_of c.args.s.now in
    let ordered : IsOrdered (on literal_of literal_cmp) c.args.five.kf = search rules in
    denied_clashes s c.requires.values (five_of c.args.five) (five_of c.rounds.d) (ordered-map literal_of literal_cmp c.args.five.kf ordered) c.rounds.invariant (c.values_clash.ensures c.if-values_clash.true)
