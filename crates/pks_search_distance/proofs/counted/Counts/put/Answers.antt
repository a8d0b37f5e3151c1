use Rattle.std.proofs.Common.{◌≡◌, nat_eq, Contains, subst, sym, ⊎_elim}
use Rattle.lru.specs.LruCache.{lru_cache, put_entries}
use Rattle.lru.proofs.CallerLemmas.{Contains-put_entries}
use Rattle.pks_search_distance.specs.Remembered.{IsRight}
use Rattle.pks_search_distance.specs.declared.counted.Counted.{Counted}
use Rattle.pks_search_distance.proofs.Remembering.{either}
use Rattle.pks_search_distance.proofs.counted.Counts.put.Goals as goal

pub returns : goal.returns
returns c = λ p holds right mark x there.
    let new : Counted = record { world = c.args.world; bound = c.args.bound } in
    let old = c.args.self.now.table in
    let key = c.args.mark in
    ⊎_elim
    (λ put. ⊎_elim (λ was. right mark x was) (λ is. subst (IsRight p) (sym is.0) holds)
    (Contains-put_entries nat_eq old key new (mark, x) (subst (λ y. Contains y.entries (mark, x)) put there)))
    (λ same. right mark x (subst (λ y. Contains y.entries (mark, x)) same there))
    (either c.put.result (c.put.new.self ≡ lru_cache (put_entries nat_eq old key new) old.cap) (c.put.new.self ≡ old) c.put.ensures.entries c.put.ensures.err)
