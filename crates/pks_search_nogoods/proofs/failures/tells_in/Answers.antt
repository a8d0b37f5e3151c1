use Rattle.std.proofs.Common.{ℕ, nat_eq, Contains, ap, subst, sym, ◌∙◌}
use Rattle.lru.proofs.CallerLemmas.{Contains-promoted, Contains-lookup}
use Rattle.std.specs.Option.{option_copied}
use Rattle.lru.specs.LruCache.{LruCache}
use Rattle.pks_search_nogoods.specs.Standing.{at_mark}
use Rattle.pks_search_nogoods.specs.declared.failures.Failure.{Failure}
use Rattle.pks_search_nogoods.proofs.Standing.{promoted_alike}
use Rattle.pks_search_nogoods.proofs.failures.tells_in.Goals as goal

pub returns-in-Some-clause-told : goal.returns-in-Some-clause-told
returns-in-Some-clause-told c = λ yes v kept moments right.
    let mark = c.args.asked.now.at.key.now.mark in
    let found = Contains-lookup (nat_eq mark) c.promote.new.self.entries c.in-Some.failure.now (sym c.peek.ensures ∙ ap option_copied c.in-Some.is) in
    let before = Contains-promoted (nat_eq mark) c.args.table.now.entries (found.0, c.in-Some.failure.now) (subst (λ y. Contains y.entries (found.0, c.in-Some.failure.now)) c.promote.ensures.entries found.1) in
    c.serves.ensures yes v kept moments (right found.0 c.in-Some.failure.now before)

pub returns-in-Some-clause-right : goal.returns-in-Some-clause-right
returns-in-Some-clause-right c = λ p right mark x there.
    right mark x (Contains-promoted (nat_eq c.args.asked.now.at.key.now.mark) c.args.table.now.entries (mark, x) (subst (λ y. Contains y.entries (mark, x)) c.promote.ensures.entries there))

pub returns-in-None-clause-right : goal.returns-in-None-clause-right
returns-in-None-clause-right c = λ p right mark x there.
    right mark x (Contains-promoted (nat_eq c.args.asked.now.at.key.now.mark) c.args.table.now.entries (mark, x) (subst (λ y. Contains y.entries (mark, x)) c.promote.ensures.entries there))

pub returns-in-Some-clause-kept : goal.returns-in-Some-clause-kept
returns-in-Some-clause-kept c = λ m.
    ap (λ (t : LruCache ℕ Failure). at_mark t m) c.promote.ensures.entries ∙ promoted_alike c.args.asked.now.at.key.now.mark c.args.table.now.entries m

pub returns-in-None-clause-kept : goal.returns-in-None-clause-kept
returns-in-None-clause-kept c = λ m.
    ap (λ (t : LruCache ℕ Failure). at_mark t m) c.promote.ensures.entries ∙ promoted_alike c.args.asked.now.at.key.now.mark c.args.table.now.entries m
