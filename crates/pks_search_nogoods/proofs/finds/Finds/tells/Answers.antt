use Rattle.std.proofs.Common.{nat_eq, Contains, ap, subst, sym, ◌∙◌}
use Rattle.lru.proofs.CallerLemmas.{Contains-promoted, Contains-lookup}
use Rattle.std.specs.Option.{option_copied}
use Rattle.pks_search_nogoods.proofs.finds.Finds.tells.Goals as goal

pub returns-in-Some-clause-told : goal.returns-in-Some-clause-told
returns-in-Some-clause-told c = λ p v right.
    let mark = c.own_mark-mark.result in
    let found = Contains-lookup (nat_eq mark) c.promote.new.self.entries c.in-Some.find.now (sym c.peek.ensures ∙ ap option_copied c.in-Some.is) in
    let before = Contains-promoted (nat_eq mark) c.args.self.now.table.entries (found.0, c.in-Some.find.now) (subst (λ y. Contains y.entries (found.0, c.in-Some.find.now)) c.promote.ensures.entries found.1) in
    c.answer.ensures p v (right found.0 c.in-Some.find.now before)

pub returns-in-Some-clause-found : goal.returns-in-Some-clause-found
returns-in-Some-clause-found c = λ p right mark x there.
    right mark x (Contains-promoted (nat_eq c.own_mark-mark.result) c.args.self.now.table.entries (mark, x) (subst (λ y. Contains y.entries (mark, x)) c.promote.ensures.entries there))

pub returns-in-None-clause-found : goal.returns-in-None-clause-found
returns-in-None-clause-found c = λ p right mark x there.
    right mark x (Contains-promoted (nat_eq c.own_mark-mark.result) c.args.self.now.table.entries (mark, x) (subst (λ y. Contains y.entries (mark, x)) c.promote.ensures.entries there))
