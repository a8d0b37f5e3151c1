use Rattle.std.proofs.Common.{◌≡◌, ◌<◌, ◌^◌, length, sym, ap, ◌∙◌, true≢false, arith}
use Rattle.pks_query_lookup.specs.Fives.{five_of}
use Rattle.pks_postdict.specs.Families.{held_of}
use Rattle.pks_postdict.proofs.Lengthening.{known_ordered, same_added, five_added, longer_added}
use Rattle.pks_postdict.proofs.Sparing.{still_read}
use Rattle.pks_postdict.proofs.round.with_news.Goals as goal

pub returns-then-len-clause-known : goal.returns-then-len-clause-known
returns-then-len-clause-known c =
    let five = c.five-five.result.now in
    let d = held_of c.args.place.now.held in
    let lent : five_of five ≡ d = ap five_of c.five-five.ensures ∙ c.lookup.ensures in
    let count : length c.in_ok-kf.kf ≡ length five.kf = sym c.len.ensures.count ∙ c.if-len.true ∙ c.len-2.ensures.count in
    c.in_ok-held.ensures.says ∙ same_added five d lent c.in_ok-kf.kf c.args.news.items c.in_ok-kf.ensures count

pub returns-then-len-clause-growth : goal.returns-then-len-clause-growth
returns-then-len-clause-growth c = record {
  longer = λ h. absurd (true≢false (sym h));
  same = λ h. c.in_ok-held.ensures.says;
  read = still_read c.in_ok-held.held;
  fine = λ s f. c.in_ok-held.ensures.fine s f;
}

pub returns-then-len-clause-ordered : goal.returns-then-len-clause-ordered
returns-then-len-clause-ordered c =
    let five = c.five-five.result.now in
    let d = held_of c.args.place.now.held in
    let lent : five_of five ≡ d = ap five_of c.five-five.ensures ∙ c.lookup.ensures in
    known_ordered five d lent c.len-2.ensures.ordered

pub returns-clause-known : goal.returns-clause-known
returns-clause-known c =
    let five = c.five-five.result.now in
    let d = held_of c.args.place.now.held in
    let lent : five_of five ≡ d = ap five_of c.five-five.ensures ∙ c.lookup.ensures in
    c.in_ok-held-2.ensures.says ∙ c.in_ok-next.ensures.five ∙ five_added five d lent c.in_ok-kf.kf c.args.news.items c.in_ok-kf.ensures

pub returns-clause-growth : goal.returns-clause-growth
returns-clause-growth c =
    let five = c.five-five.result.now in
    let d = held_of c.args.place.now.held in
    let lent : five_of five ≡ d = ap five_of c.five-five.ensures ∙ c.lookup.ensures in
    let whole = c.in_ok-held-2.ensures.says ∙ c.in_ok-next.ensures.five ∙ five_added five d lent c.in_ok-kf.kf c.args.news.items c.in_ok-kf.ensures in
    let other : length c.in_ok-kf.kf ≡ length five.kf → ⊥ = λ e. c.if-len.false (c.len.ensures.count ∙ e ∙ sym c.len-2.ensures.count) in
    let fits : length c.in_ok-kf.kf < 2 ^ 64 = omega (arith, c.len.ensures.count) in
    record {
      longer = λ h. longer_added five d lent c.in_ok-kf.kf c.args.news.items c.in_ok-kf.ensures (held_of c.in_ok-held-2.held) whole other fits;
      same = λ h. absurd (true≢false h);
      read = c.in_ok-held-2.ensures.unread;
      fine = λ s f. c.in_ok-held-2.ensures.fine s;
    }

pub returns-clause-ordered : goal.returns-clause-ordered
returns-clause-ordered c =
    let five = c.five-five.result.now in
    let d = held_of c.args.place.now.held in
    let lent : five_of five ≡ d = ap five_of c.five-five.ensures ∙ c.lookup.ensures in
    known_ordered five d lent c.len-2.ensures.ordered
