-- Lists of entries in strict order of their keys.
use Rattle.std.proofs.Common.{◌≡◌, true, false, cond, List, [], ◌∷◌, ◌++◌, refl, sym, ap, ◌∙◌, subst, append_assoc, Ordering, Less, Equal, Greater, Option, Some, None}
use Rattle.std.specs.Ordering.{match_ordering, ordering_reverse, is_gt}
use Rattle.std.specs.Cmp.{IsTotalOrder}
use Rattle.std.specs.Option.{option_map, option_or, is_some}
use Rattle.pks_pmap.specs.Entries.{Each, IsAscending, get, first_from, insert, remove}

pub each_map : {X : Type 0} (P Q : X → Type 0) → ((x : X) → P x → Q x) → (xs : List X) → Each P xs → Each Q xs
each_map P Q f [] a = tt
each_map P Q f (x ∷ xs) a = (f x a.0, each_map P Q f xs a.1)

pub each_front : {X : Type 0} (P : X → Type 0) (l m : List X) → Each P (l ++ m) → Each P l
each_front P [] m a = tt
each_front P (x ∷ l) m a = (a.0, each_front P l m a.1)

pub each_back : {X : Type 0} (P : X → Type 0) (l m : List X) → Each P (l ++ m) → Each P m
each_back P [] m a = a
each_back P (x ∷ l) m a = each_back P l m a.1

pub none_where : {X Y : Type 0} (f : X → Y) (r : Option X) → is_some r ≡ false → option_map f r ≡ None
none_where f None e = refl
none_where f (Some x) e = absurd (cc)

module _ {K V : Type 0} (R : K → K → Ordering) where
  pub ascending_front : (l m : List (K × V)) → IsAscending R (l ++ m) → IsAscending R l
  ascending_front [] m a = tt
  ascending_front (x ∷ l) m a = (each_front (λ f. R x.0 f.0 ≡ Less) l m a.0, ascending_front l m a.1)

  pub ascending_back : (l m : List (K × V)) → IsAscending R (l ++ m) → IsAscending R m
  ascending_back [] m a = a
  ascending_back (x ∷ l) m a = ascending_back l m a.1

  pub all_before : (l : List (K × V)) (e : K × V) (r : List (K × V)) → IsAscending R (l ++ e ∷ r) → Each (λ f. R f.0 e.0 ≡ Less) l
  all_before [] e r a = tt
  all_before (x ∷ l) e r a = ((each_back (λ f. R x.0 f.0 ≡ Less) l (e ∷ r) a.0).0, all_before l e r a.1)

  pub all_after : (l : List (K × V)) (e : K × V) (r : List (K × V)) → IsAscending R (l ++ e ∷ r) → Each (λ f. R e.0 f.0 ≡ Less) r
  all_after l e r a = (ascending_back l (e ∷ r) a).0

  -- the entries below a rotation, grouped the other way
  pub regroup : (x : List (K × V)) (j : K × V) (y : List (K × V)) (k : K × V) (z : List (K × V)) → (x ++ j ∷ y) ++ k ∷ z ≡ x ++ j ∷ (y ++ k ∷ z)
  regroup x j y k z = append_assoc x (j ∷ y) (k ∷ z)

  -- those below a rotation of the middle to the top: of the left side's right one, and of the right side's left one
  pub regroup_left : (x : List (K × V)) (j : K × V) (y : List (K × V)) (k : K × V) (z : List (K × V)) (l : K × V) (u : List (K × V)) → (x ++ j ∷ (y ++ k ∷ z)) ++ l ∷ u ≡ (x ++ j ∷ y) ++ k ∷ (z ++ l ∷ u)
  regroup_left x j y k z l u = ap (λ v. v ++ l ∷ u) (sym (regroup x j y k z)) ∙ regroup (x ++ j ∷ y) k z l u

  pub regroup_right : (x : List (K × V)) (j : K × V) (y : List (K × V)) (k : K × V) (z : List (K × V)) (l : K × V) (u : List (K × V)) → x ++ j ∷ ((y ++ k ∷ z) ++ l ∷ u) ≡ (x ++ j ∷ y) ++ k ∷ (z ++ l ∷ u)
  regroup_right x j y k z l u = ap (λ v. x ++ j ∷ v) (regroup y k z l u) ∙ sym (regroup x j y k (z ++ l ∷ u))

  pub ascending_inner_right : (x : List (K × V)) (j : K × V) (y : List (K × V)) (k : K × V) (z : List (K × V)) → IsAscending R ((x ++ j ∷ y) ++ k ∷ z) → IsAscending R (y ++ k ∷ z)
  ascending_inner_right x j y k z a = (ascending_back x (j ∷ (y ++ k ∷ z)) (subst (IsAscending R) (regroup x j y k z) a)).1

  pub ascending_inner_left : (x : List (K × V)) (j : K × V) (y : List (K × V)) (k : K × V) (z : List (K × V)) → IsAscending R (x ++ j ∷ (y ++ k ∷ z)) → IsAscending R (x ++ j ∷ y)
  ascending_inner_left x j y k z a = ascending_front (x ++ j ∷ y) (k ∷ z) (subst (IsAscending R) (sym (regroup x j y k z)) a)

  module _ (o : IsTotalOrder R) where
    -- what a key is above, it passes over
    above : (k : K) (l : List (K × V)) (e : K × V) (r : List (K × V)) → IsAscending R (l ++ e ∷ r) → R k e.0 ≡ Greater → Each (λ f. R k f.0 ≡ Greater) l
    above k l e r a g =
        each_map (λ f. R f.0 e.0 ≡ Less) (λ f. R k f.0 ≡ Greater) (λ f h. o.antisymm k f.0 ∙ ap ordering_reverse (o.trans f.0 e.0 k h (o.antisymm e.0 k ∙ ap ordering_reverse g))) l (all_before l e r a)

    above_equal : (k : K) (l : List (K × V)) (e : K × V) (r : List (K × V)) → IsAscending R (l ++ e ∷ r) → R k e.0 ≡ Equal → Each (λ f. R k f.0 ≡ Greater) l
    above_equal k l e r a q =
        each_map (λ f. R f.0 e.0 ≡ Less) (λ f. R k f.0 ≡ Greater) (λ f h. o.congr k e.0 f.0 q ∙ o.antisymm e.0 f.0 ∙ ap ordering_reverse h) l (all_before l e r a)

    below : (k : K) (l : List (K × V)) (e : K × V) (r : List (K × V)) → IsAscending R (l ++ e ∷ r) → R k e.0 ≡ Less → Each (λ f. R k f.0 ≡ Less) r
    below k l e r a g = each_map (λ f. R e.0 f.0 ≡ Less) (λ f. R k f.0 ≡ Less) (λ f h. o.trans k e.0 f.0 g h) r (all_after l e r a)

    get_past : (k : K) (l m : List (K × V)) → Each (λ f. R k f.0 ≡ Greater) l → get R k (l ++ m) ≡ get R k m
    get_past k [] m a = refl
    get_past k (f ∷ l) m a = ap (λ r. match_ordering r (get R k (l ++ m)) (Some f.1) (get R k (l ++ m))) a.0 ∙ get_past k l m a.1

    get_short : (k : K) (m : List (K × V)) → Each (λ f. R k f.0 ≡ Less) m → get R k m ≡ None
    get_short k [] a = refl
    get_short k (f ∷ m) a = ap (λ r. match_ordering r (get R k m) (Some f.1) (get R k m)) a.0 ∙ get_short k m a.1

    get_front : (k : K) (l m : List (K × V)) → get R k m ≡ None → get R k (l ++ m) ≡ get R k l
    get_front k [] m e = e
    get_front k (f ∷ l) m e = ap (λ z. match_ordering (R k f.0) z (Some f.1) z) (get_front k l m e)

    pub get_left : (k : K) (l : List (K × V)) (e : K × V) (r : List (K × V)) → IsAscending R (l ++ e ∷ r) → R k e.0 ≡ Less → get R k (l ++ e ∷ r) ≡ get R k l
    get_left k l e r a g = get_front k l (e ∷ r) (get_short k (e ∷ r) (g, below k l e r a g))

    pub get_middle : (k : K) (l : List (K × V)) (e : K × V) (r : List (K × V)) → IsAscending R (l ++ e ∷ r) → R k e.0 ≡ Equal → get R k (l ++ e ∷ r) ≡ Some e.1
    get_middle k l e r a q = get_past k l (e ∷ r) (above_equal k l e r a q) ∙ ap (λ o. match_ordering o (get R k r) (Some e.1) (get R k r)) q

    pub get_right : (k : K) (l : List (K × V)) (e : K × V) (r : List (K × V)) → IsAscending R (l ++ e ∷ r) → R k e.0 ≡ Greater → get R k (l ++ e ∷ r) ≡ get R k r
    get_right k l e r a g = get_past k l (e ∷ r) (above k l e r a g) ∙ ap (λ o. match_ordering o (get R k r) (Some e.1) (get R k r)) g

    -- a key below e: what it finds before e, or else e
    pub first_from_left : (k : K) (l : List (K × V)) (e : K × V) (r : List (K × V)) → R k e.0 ≡ Less → first_from R k (l ++ e ∷ r) ≡ option_or (first_from R k l) (Some e)
    first_from_left k [] e r g = ap (λ z. cond (is_gt z) (first_from R k r) (Some e)) g
    first_from_left k (f ∷ l) e r g =
        elim (is_gt (R k f.0)) as (λ b. cond b (first_from R k (l ++ e ∷ r)) (Some f) ≡ option_or (cond b (first_from R k l) (Some f)) (Some e)) [
          | true ↦ first_from_left k l e r g
          | false ↦ refl
        ]

    first_from_past : (k : K) (l m : List (K × V)) → Each (λ f. R k f.0 ≡ Greater) l → first_from R k (l ++ m) ≡ first_from R k m
    first_from_past k [] m a = refl
    first_from_past k (f ∷ l) m a = ap (λ z. cond (is_gt z) (first_from R k (l ++ m)) (Some f)) a.0 ∙ first_from_past k l m a.1

    pub first_from_middle : (k : K) (l : List (K × V)) (e : K × V) (r : List (K × V)) → IsAscending R (l ++ e ∷ r) → R k e.0 ≡ Equal → first_from R k (l ++ e ∷ r) ≡ Some e
    first_from_middle k l e r a q = first_from_past k l (e ∷ r) (above_equal k l e r a q) ∙ ap (λ z. cond (is_gt z) (first_from R k r) (Some e)) q

    pub first_from_right : (k : K) (l : List (K × V)) (e : K × V) (r : List (K × V)) → IsAscending R (l ++ e ∷ r) → R k e.0 ≡ Greater → first_from R k (l ++ e ∷ r) ≡ first_from R k r
    first_from_right k l e r a g = first_from_past k l (e ∷ r) (above k l e r a g) ∙ ap (λ z. cond (is_gt z) (first_from R k r) (Some e)) g

    insert_past : (x : K × V) (l m : List (K × V)) → Each (λ f. R x.0 f.0 ≡ Greater) l → insert R x (l ++ m) ≡ l ++ insert R x m
    insert_past x [] m a = refl
    insert_past x (f ∷ l) m a =
        ap (λ r. match_ordering r (x ∷ f ∷ (l ++ m)) (x ∷ (l ++ m)) (f ∷ insert R x (l ++ m))) a.0 ∙ ap (λ z. f ∷ z) (insert_past x l m a.1)

    pub insert_left : (x : K × V) (l : List (K × V)) (e : K × V) (r : List (K × V)) → R x.0 e.0 ≡ Less → insert R x (l ++ e ∷ r) ≡ insert R x l ++ e ∷ r
    insert_left x [] e r g = ap (λ o. match_ordering o (x ∷ e ∷ r) (x ∷ r) (e ∷ insert R x r)) g
    insert_left x (f ∷ l) e r g =
        elim (R x.0 f.0) as (λ o. match_ordering o (x ∷ f ∷ (l ++ e ∷ r)) (x ∷ (l ++ e ∷ r)) (f ∷ insert R x (l ++ e ∷ r)) ≡ match_ordering o (x ∷ f ∷ l) (x ∷ l) (f ∷ insert R x l) ++ e ∷ r) [
          | Less ↦ refl
          | Equal ↦ refl
          | Greater ↦ ap (λ z. f ∷ z) (insert_left x l e r g)
        ]

    pub insert_middle : (x : K × V) (l : List (K × V)) (e : K × V) (r : List (K × V)) → IsAscending R (l ++ e ∷ r) → R x.0 e.0 ≡ Equal → insert R x (l ++ e ∷ r) ≡ l ++ x ∷ r
    insert_middle x l e r a q = insert_past x l (e ∷ r) (above_equal x.0 l e r a q) ∙ ap (λ o. l ++ match_ordering o (x ∷ e ∷ r) (x ∷ r) (e ∷ insert R x r)) q

    pub insert_right : (x : K × V) (l : List (K × V)) (e : K × V) (r : List (K × V)) → IsAscending R (l ++ e ∷ r) → R x.0 e.0 ≡ Greater → insert R x (l ++ e ∷ r) ≡ l ++ e ∷ insert R x r
    insert_right x l e r a g = insert_past x l (e ∷ r) (above x.0 l e r a g) ∙ ap (λ o. l ++ match_ordering o (x ∷ e ∷ r) (x ∷ r) (e ∷ insert R x r)) g

    each_insert : (P : K × V → Type 0) (x : K × V) (es : List (K × V)) → P x → Each P es → Each P (insert R x es)
    each_insert P x [] p a = (p, tt)
    each_insert P x (f ∷ es) p a =
        elim (R x.0 f.0) as (λ o. Each P (match_ordering o (x ∷ f ∷ es) (x ∷ es) (f ∷ insert R x es))) [
          | Less ↦ (p, a)
          | Equal ↦ (p, a.1)
          | Greater ↦ (a.0, each_insert P x es p a.1)
        ]

    pub ascending_insert : (x : K × V) (es : List (K × V)) → IsAscending R es → IsAscending R (insert R x es)
    ascending_insert x [] a = (tt, tt)
    ascending_insert x (f ∷ es) a =
        elim (R x.0 f.0) as (λ r. R x.0 f.0 ≡ r → IsAscending R (match_ordering r (x ∷ f ∷ es) (x ∷ es) (f ∷ insert R x es))) [
          | Less ↦ λ q. ((q, each_map (λ g. R f.0 g.0 ≡ Less) (λ g. R x.0 g.0 ≡ Less) (λ g h. o.trans x.0 f.0 g.0 q h) es a.0), a)
          | Equal ↦ λ q. (each_map (λ g. R f.0 g.0 ≡ Less) (λ g. R x.0 g.0 ≡ Less) (λ g h. o.congr x.0 f.0 g.0 q ∙ h) es a.0, a.1)
          | Greater ↦ λ q. (each_insert (λ g. R f.0 g.0 ≡ Less) x es (o.antisymm f.0 x.0 ∙ ap ordering_reverse q) a.0, ascending_insert x es a.1)
        ] refl

    remove_past : (k : K) (l m : List (K × V)) → Each (λ f. R k f.0 ≡ Greater) l → remove R k (l ++ m) ≡ l ++ remove R k m
    remove_past k [] m a = refl
    remove_past k (f ∷ l) m a =
        ap (λ r. match_ordering r (f ∷ (l ++ m)) (l ++ m) (f ∷ remove R k (l ++ m))) a.0 ∙ ap (λ z. f ∷ z) (remove_past k l m a.1)

    pub remove_left : (k : K) (l : List (K × V)) (e : K × V) (r : List (K × V)) → R k e.0 ≡ Less → remove R k (l ++ e ∷ r) ≡ remove R k l ++ e ∷ r
    remove_left k [] e r g = ap (λ o. match_ordering o (e ∷ r) r (e ∷ remove R k r)) g
    remove_left k (f ∷ l) e r g =
        elim (R k f.0) as (λ o. match_ordering o (f ∷ (l ++ e ∷ r)) (l ++ e ∷ r) (f ∷ remove R k (l ++ e ∷ r)) ≡ match_ordering o (f ∷ l) l (f ∷ remove R k l) ++ e ∷ r) [
          | Less ↦ refl
          | Equal ↦ refl
          | Greater ↦ ap (λ z. f ∷ z) (remove_left k l e r g)
        ]

    pub remove_middle : (k : K) (l : List (K × V)) (e : K × V) (r : List (K × V)) → IsAscending R (l ++ e ∷ r) → R k e.0 ≡ Equal → remove R k (l ++ e ∷ r) ≡ l ++ r
    remove_middle k l e r a q = remove_past k l (e ∷ r) (above_equal k l e r a q) ∙ ap (λ o. l ++ match_ordering o (e ∷ r) r (e ∷ remove R k r)) q

    pub remove_right : (k : K) (l : List (K × V)) (e : K × V) (r : List (K × V)) → IsAscending R (l ++ e ∷ r) → R k e.0 ≡ Greater → remove R k (l ++ e ∷ r) ≡ l ++ e ∷ remove R k r
    remove_right k l e r a g = remove_past k l (e ∷ r) (above k l e r a g) ∙ ap (λ o. l ++ match_ordering o (e ∷ r) r (e ∷ remove R k r)) g

    each_remove : (P : K × V → Type 0) (k : K) (es : List (K × V)) → Each P es → Each P (remove R k es)
    each_remove P k [] a = tt
    each_remove P k (f ∷ es) a =
        elim (R k f.0) as (λ o. Each P (match_ordering o (f ∷ es) es (f ∷ remove R k es))) [
          | Less ↦ a
          | Equal ↦ a.1
          | Greater ↦ (a.0, each_remove P k es a.1)
        ]

    pub ascending_remove : (k : K) (es : List (K × V)) → IsAscending R es → IsAscending R (remove R k es)
    ascending_remove k [] a = tt
    ascending_remove k (f ∷ es) a =
        elim (R k f.0) as (λ o. IsAscending R (match_ordering o (f ∷ es) es (f ∷ remove R k es))) [
          | Less ↦ a
          | Equal ↦ a.1
          | Greater ↦ (each_remove (λ g. R f.0 g.0 ≡ Less) k es a.0, ascending_remove k es a.1)
        ]

    -- a key that isn't there
    pub remove_missing : (k : K) (es : List (K × V)) → get R k es ≡ None → remove R k es ≡ es
    remove_missing k [] n = refl
    remove_missing k (f ∷ es) n =
        elim (R k f.0) as (λ o. match_ordering o (get R k es) (Some f.1) (get R k es) ≡ None → match_ordering o (f ∷ es) es (f ∷ remove R k es) ≡ f ∷ es) [
          | Less ↦ λ q. refl
          | Equal ↦ λ q. absurd (cc)
          | Greater ↦ λ q. ap (λ z. f ∷ z) (remove_missing k es q)
        ] n
