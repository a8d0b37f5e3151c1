use Rattle.std.proofs.Common.{◌≡◌, ◌∙◌, ℕ, nat_eq, inl, inr, refl, ap}
use Rattle.lru.specs.LruCache.{LruCache, lru_cache, put_entries}
use Rattle.pks_search_nogoods.specs.Standing.{at_mark}
use Rattle.pks_search_nogoods.specs.declared.failures.Failure.{Failure}
use Rattle.pks_search_nogoods.proofs.Serving.{either}
use Rattle.pks_search_nogoods.proofs.Standing.{put_keeps, put_loses_none}
use Rattle.pks_search_nogoods.proofs.Tables.{right_put, right_fallen}
use Rattle.pks_search_nogoods.proofs.failures.put_in.Goals as goal

pub returns-in-Ok-clause-right : goal.returns-in-Ok-clause-right
returns-in-Ok-clause-right c = λ p is right.
    let table = c.args.table.now in
    right_put p table c.args.mark c.args.failure right is c.push.new.self
    (either c.push.result (c.push.new.self ≡ lru_cache (put_entries nat_eq table c.args.mark c.args.failure) table.cap) (c.push.new.self ≡ table) c.push.ensures.entries c.push.ensures.err)

pub returns-clause-right : goal.returns-clause-right
returns-clause-right c = λ p is right.
    let table = c.args.table.now in
    right_put p table c.args.mark c.args.failure right is c.push.new.self
    (either c.push.result (c.push.new.self ≡ lru_cache (put_entries nat_eq table c.args.mark c.args.failure) table.cap) (c.push.new.self ≡ table) c.push.ensures.entries c.push.ensures.err)

pub returns-in-Ok-clause-fallen : goal.returns-in-Ok-clause-fallen
returns-in-Ok-clause-fallen c = λ p right. right_fallen p c.args.table.now c.args.mark c.args.failure right c.in-Ok.fallen c.in-Ok.ensures.old

pub returns-in-Ok-clause-puts : goal.returns-in-Ok-clause-puts
returns-in-Ok-clause-puts c = inr (c.in-Ok.ensures.entries, c.in-Ok.ensures.old)

pub returns-clause-puts : goal.returns-clause-puts
returns-clause-puts c = inl (c.in-Err.ensures.err, refl)

pub returns-in-Ok-clause-kept : goal.returns-in-Ok-clause-kept
returns-in-Ok-clause-kept c = λ room m apart.
    ap (λ (t : LruCache ℕ Failure). at_mark t m) c.in-Ok.ensures.entries ∙ put_keeps c.args.table.now c.args.mark c.args.failure room m apart

pub returns-clause-kept : goal.returns-clause-kept
returns-clause-kept c = λ room m apart. ap (λ (t : LruCache ℕ Failure). at_mark t m) c.in-Err.ensures.err

pub returns-in-Ok-clause-lost : goal.returns-in-Ok-clause-lost
returns-in-Ok-clause-lost c = λ m y there. elim (put_loses_none c.args.table.now c.args.mark c.args.failure c.within.ensures m y there) [
  | inl stands ↦ inl (ap (λ (t : LruCache ℕ Failure). at_mark t m) c.in-Ok.ensures.entries ∙ stands)
  | inr out ↦ inr (c.in-Ok.ensures.old ∙ out)
]

pub returns-clause-lost : goal.returns-clause-lost
returns-clause-lost c = λ m y there. inl (ap (λ (t : LruCache ℕ Failure). at_mark t m) c.in-Err.ensures.err ∙ there)
