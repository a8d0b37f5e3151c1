-- What a put into the first table does to both.
use Rattle.std.proofs.Common.{◌≡◌, ◌⊎◌, ℕ, nat_eq, Option, Some, None, refl, sym, ap, ◌∙◌, inl, inr}
use Rattle.std.proofs.lemmas.Option.{none-some}
use Rattle.lru.specs.LruCache.{displaced}
use Rattle.pks_search_nogoods.specs.Standing.{Table, at_mark, HasRoom, with_put, IsPut, IsPutBehind, KeepsOthers}
use Rattle.pks_search_nogoods.specs.declared.failures.Failure.{Failure}
use Rattle.pks_search_nogoods.proofs.Standing.{put_out_stood}

module _ (mark : ℕ) (x : Failure) (last last_new : Table) (out : Option (ℕ × Failure)) (puts : IsPut mark x last last_new out) (fallen fallen_new : Table) where
  -- both as they were, or both as they are where the failure stands
  abbrev pub Both : Type 0
  Both = ((last_new ≡ last) × (fallen_new ≡ fallen)) ⊎ ((last_new ≡ with_put last mark x) × IsPutBehind (displaced nat_eq last mark x) fallen fallen_new)

  -- where nothing was put out, nothing is done behind
  pub none_behind : out ≡ None → fallen_new ≡ fallen → Both
  none_behind none same = elim puts [
    | inl left ↦ inl (left.0, same)
    | inr put ↦ inr (put.0, inl same)
  ]

  module _ (m : ℕ) (y : Failure) (is : out ≡ Some (m, y)) (o : Option (ℕ × Failure)) (behind : IsPut m y fallen fallen_new o) where
    -- what was put out is put in behind
    pub some_behind : Both
    some_behind = elim puts [
      | inl left ↦ absurd (none-some (m, y) (sym left.1 ∙ is))
      | inr put ↦ inr (
        put.0,
        elim behind [
          | inl left ↦ inl left.0
          | inr next ↦ inr (m, y, sym put.1 ∙ is, next.0)
        ],
      )
    ]

    -- and what stands there under marks that the first doesn't have stays
    pub kept_behind : KeepsOthers m fallen fallen_new → HasRoom fallen → (n : ℕ) → at_mark last n ≡ None → at_mark fallen_new n ≡ at_mark fallen n
    kept_behind kept room n none = elim puts [
      | inl left ↦ absurd (none-some (m, y) (sym left.1 ∙ is))
      | inr put ↦ kept room n (λ same. put_out_stood last mark x m y (sym put.1 ∙ is) (ap (at_mark last) (sym same) ∙ none))
    ]
