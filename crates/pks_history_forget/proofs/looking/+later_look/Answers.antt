use Rattle.std.proofs.Common.{◌≡◌, ◌+◌, ◌||◌, false, length, sym, ap, ◌∙◌, subst, arith}
use Rattle.pks_terms.specs.Views.{instance_of, problem_of}
use Rattle.pks_query_lookup.specs.Fives.{five_of}
use Rattle.pks_history_forget.specs.Looking.{later_look}
use Rattle.pks_history_forget.proofs.Unlooking.{no_look_behind, look_there}
use Rattle.pks_history_forget.proofs.looking.+later_look.Goals as goal

pub returns-then-moment-moments : goal.returns-then-moment-moments
returns-then-moment-moments t c =
    let p = problem_of c.args.p.now in
    let h = c.args.h.now in
    let last : c.args.moment ≡ length h.steps = omega (arith, c.if-moment-moments.true, c.len-moments.ensures.count) in
    sym (subst (λ n. later_look p h.start h.steps n ≡ false) (sym last) (no_look_behind p h.start h.steps))

pub returns-then-is_look : goal.returns-then-is_look
returns-then-is_look t c =
    let p = problem_of c.args.p.now in
    let h = c.args.h.now in
    let there = look_there p h c.args.moment (five_of c.at.result.now) (instance_of c.step.result.now) (five_of c.at-2.result.now) c.at.ensures c.step.ensures c.at-2.ensures in
    c.if-is_look.true ∙ sym (there ∙ ap (λ b. b || later_look p h.start h.steps (c.args.moment + 1)) (sym c.is_look.ensures ∙ c.if-is_look.true))

pub returns-else-is_look : goal.returns-else-is_look
returns-else-is_look t c =
    let p = problem_of c.args.p.now in
    let h = c.args.h.now in
    let there = look_there p h c.args.moment (five_of c.at.result.now) (instance_of c.step.result.now) (five_of c.at-2.result.now) c.at.ensures c.step.ensures c.at-2.ensures in
    c.later_look.ensures ∙ sym (there ∙ ap (λ b. b || later_look p h.start h.steps (c.args.moment + 1)) (sym c.is_look.ensures ∙ c.if-is_look.false))
