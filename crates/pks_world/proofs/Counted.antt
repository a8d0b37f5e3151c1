-- Counts of used places stay within their arrays where one key comes or goes.
use Rattle.std.proofs.Common.{◌≡◌, ◌<◌, ◌+◌, ◌∙◌, ℕ, Bool, true, false, cond, List, [], ◌∷◌, ◌++◌, length, map, take, get_or, ap, sym}
use Rattle.std.proofs.lemmas.List.{take_more, map_push}
use Rattle.std.specs.BTreeMap.{insert_entry}
use Rattle.std.specs.BTreeSet.{insert_key}
use Rattle.std.specs.Set.{remove_key}
use Rattle.std.specs.Ordering.{match_ordering}
use Rattle.std.specs.Map.{keys_of}
use Rattle.std.specs.declared.cmp.Ordering.{Ordering}
use Rattle.std.specs.declared.cmp.Ordering.TheVariants.{Less, Equal, Greater}
use Rattle.pks_terms.specs.Sets.{Each}

module _ {K : Type 0} (P : K → Type 0) where
  -- one more entry
  pub each_entry : {V : Type 0} (cmp : K → K → Ordering) (es : List (K × V)) (k : K) (v : V) → P k → Each P (keys_of es) → Each P (keys_of (insert_entry cmp es k v))
  each_entry cmp [] k v here each = (here, tt)
  each_entry {V} cmp (e ∷ es) k v here each = elim (cmp k e.0) as (λ o. Each P (keys_of (match_ordering o ((k, v) ∷ e ∷ es) ((e.0, v) ∷ es) (e ∷ insert_entry cmp es k v)))) [
    | Less ↦ (here, each)
    | Equal ↦ each
    | Greater ↦ (each.0, each_entry cmp es k v here each.1)
  ]

  -- one more key
  pub each_key : (cmp : K → K → Ordering) (ks : List K) (k : K) → P k → Each P ks → Each P (insert_key cmp ks k)
  each_key cmp [] k here each = (here, tt)
  each_key cmp (e ∷ es) k here each = elim (cmp k e) as (λ o. Each P (match_ordering o (k ∷ e ∷ es) (e ∷ es) (e ∷ insert_key cmp es k))) [
    | Less ↦ (here, each)
    | Equal ↦ each
    | Greater ↦ (each.0, each_key cmp es k here each.1)
  ]

  -- one key less
  pub each_left : (test : K → Bool) (ks : List K) → Each P ks → Each P (remove_key test ks)
  each_left test [] each = tt
  each_left test (e ∷ es) each = elim (test e) as (λ b. Each P (cond b es (e ∷ remove_key test es))) [
    | true ↦ each.1
    | false ↦ (each.0, each_left test es each.1)
  ]

-- one item more, which is what the next place gives
pub one_more : {X Y Z : Type 0} (f : X → Z) (g : Y → Z) (xs : List X) (ys : List Y) (k : ℕ) (x : X) (d : Y) → k < length ys → f x ≡ g (get_or ys k d) → map f xs ≡ map g (take k ys) → map f (xs ++ x ∷ []) ≡ map g (take (k + 1) ys)
one_more f g xs ys k x d less same front = map_push f xs x ∙ (λ i. front i ++ same i ∷ []) ∙ sym (map_push g (take k ys) (get_or ys k d)) ∙ ap (map g) (sym (take_more ys k d less))
