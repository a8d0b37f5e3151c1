use Rattle.std.proofs.Common.{◌≡◌, ◌≤◌, ℕ, true, false, length, refl, sym, ◌∙◌, subst, arith}
use Rattle.std.proofs.lemmas.List.{length-map}
use Rattle.pks_terms.specs.Settling.{At, Stopped, with_last, clashes, Settles}
use Rattle.pks_terms.specs.Views.{problem_of}
use Rattle.pks_laws.proofs.SearchStates.{settled_history_of, with_last_of}
use Rattle.pks_query_lookup.specs.Fives.{five_of}
use Rattle.pks_postdict.specs.Families.{link_of, family_of}
use Rattle.pks_postdict.proofs.Ending.{read_settled, settles_by, settles_at, closed_start, closed_later, least_over, as_many, no_clash_where_true, settled_where_true}
use Rattle.pks_postdict.proofs.Sparing.{fine_start, fine_later, read_fewer}
use Rattle.pks_postdict.proofs.settling.settle_after.Goals as goal
use Rattle.pks_postdict.proofs.settling.settle_after.Goals.{then-unread-eq0, else-unread-eq0}

pub returns-then-clashes-clause-keeps_truth : goal.returns-then-clashes-clause-keeps_truth
returns-then-clashes-clause-keeps_truth c =
    let p = problem_of c.args.p.now in
    let h = with_last c.args.h.now (five_of c.args.d) in
    let f = family_of c.in_ok-family.family in
    let g = family_of c.in_ok-last.last in
    let some : true ≡ clashes p.signature g = cc (c.clashes.ensures) in
    λ w w' t. no_clash_where_true p w w' h t (settles_by p h f g c.in_ok-family.ensures.moments c.in_ok-last.ensures.last true some Stopped refl)

pub last_family-requires-clause-spared : goal.last_family-requires-clause-spared
last_family-requires-clause-spared c =
    let p = problem_of c.args.p.now in
    let h = c.args.h.now in
    let n : ℕ = c.if-unread-eq0.late in
    let both : (1 ≤ n) × (c.args.unread ≤ n) =
    elim c.if-unread-eq0.branch [
      | then-unread-eq0 w ↦ (omega (arith, w.late-is, w.if-unread-eq0.true), omega (arith, w.late-is, w.if-unread-eq0.true))
      | else-unread-eq0 w ↦ (omega (arith, w.late-is, w.if-unread-eq0.false), omega (arith, w.late-is))
    ] in
    c.in_ok-family.ensures.spared p c.requires.valid.says c.requires.moments c.requires.moment both.0 (read_fewer p c.args.unread n h.start h.steps both.1 c.requires.read)

pub clashes-requires-clause-start : goal.clashes-requires-clause-start
clashes-requires-clause-start c = fine_start (problem_of c.args.p.now) c.in_ok-last.last.start c.in_ok-last.last.later.items c.in_ok-last.ensures.spared

pub clashes-requires-clause-later : goal.clashes-requires-clause-later
clashes-requires-clause-later c = fine_later (problem_of c.args.p.now) c.in_ok-last.last.start c.in_ok-last.last.later.items c.in_ok-last.ensures.spared

pub whole-requires-clause-start : goal.whole-requires-clause-start
whole-requires-clause-start c =
    let p = problem_of c.args.p.now in
    let h = with_last c.args.h.now (five_of c.args.d) in
    let f = family_of c.in_ok-family.family in
    let g = family_of c.in_ok-last.last in
    let none : clashes p.signature g ≡ false = cc (c.clashes.ensures) in
    closed_start p h f g c.in_ok-family.ensures.moments c.in_ok-last.ensures.last none

pub whole-requires-clause-later : goal.whole-requires-clause-later
whole-requires-clause-later c =
    let p = problem_of c.args.p.now in
    let h = with_last c.args.h.now (five_of c.args.d) in
    let f = family_of c.in_ok-family.family in
    let g = family_of c.in_ok-last.last in
    let none : clashes p.signature g ≡ false = cc (c.clashes.ensures) in
    closed_later p h f g c.in_ok-family.ensures.moments c.in_ok-last.ensures.last none

pub whole-requires-clause-few : goal.whole-requires-clause-few
whole-requires-clause-few c =
    let p = problem_of c.args.p.now in
    let f = family_of c.in_ok-family.family in
    let g = family_of c.in_ok-last.last in
    let many : length c.in_ok-last.last.later.items ≡ length c.args.h.now.steps =
    sym (length-map c.in_ok-last.last.later.items link_of) ∙ as_many p c.args.h.now f g (five_of c.args.d) c.in_ok-family.ensures.moments c.in_ok-last.ensures.last in
    omega (arith, many, c.len-moments.ensures.count, c.len-moments.ensures.few)

pub returns-clause-moments : goal.returns-clause-moments
returns-clause-moments c =
    let p = problem_of c.args.p.now in
    let v = c.requires.valid.says in
    let d = five_of c.args.d in
    let h = with_last c.args.h.now d in
    let f = family_of c.in_ok-family.family in
    let g = family_of c.in_ok-last.last in
    let none : clashes p.signature g ≡ false = cc (c.clashes.ensures) in
    let settles : Settles p h (At c.in_ok-all.all) = subst (λ (k : Rattle.pks_terms.specs.Settling.History). Settles p h (At k)) (sym c.in_ok-all.ensures) (settles_at p h f g c.in_ok-family.ensures.moments c.in_ok-last.ensures.last none) in
    settled_history_of p v h c.in_ok-all.all (with_last_of p v c.args.h.now d c.requires.moments c.requires.moment) settles

pub returns-clause-keeps_truth : goal.returns-clause-keeps_truth
returns-clause-keeps_truth c =
    let p = problem_of c.args.p.now in
    let h = with_last c.args.h.now (five_of c.args.d) in
    let f = family_of c.in_ok-family.family in
    let g = family_of c.in_ok-last.last in
    let none : clashes p.signature g ≡ false = cc (c.clashes.ensures) in
    let settles : Settles p h (At c.in_ok-all.all) = subst (λ (k : Rattle.pks_terms.specs.Settling.History). Settles p h (At k)) (sym c.in_ok-all.ensures) (settles_at p h f g c.in_ok-family.ensures.moments c.in_ok-last.ensures.last none) in
    λ w w' t. settled_where_true p w w' h c.in_ok-all.all t settles

pub returns-clause-least : goal.returns-clause-least
returns-clause-least c =
    let p = problem_of c.args.p.now in
    let h = with_last c.args.h.now (five_of c.args.d) in
    let f = family_of c.in_ok-family.family in
    let g = family_of c.in_ok-last.last in
    let none : clashes p.signature g ≡ false = cc (c.clashes.ensures) in
    least_over p h f g c.in_ok-family.ensures.moments c.in_ok-last.ensures.last c.requires.valid.says.signature.values none c.in_ok-all.all c.in_ok-all.ensures

pub returns-clause-read : goal.returns-clause-read
returns-clause-read c =
    let p = problem_of c.args.p.now in
    let h = with_last c.args.h.now (five_of c.args.d) in
    let f = family_of c.in_ok-family.family in
    let g = family_of c.in_ok-last.last in
    let none : clashes p.signature g ≡ false = cc (c.clashes.ensures) in
    read_settled p h f g c.in_ok-family.ensures.moments c.in_ok-last.ensures.last c.requires.valid.says.signature.values none c.in_ok-all.all c.in_ok-all.ensures
