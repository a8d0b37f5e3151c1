-- Lists of the same elements, each as often, in whichever order.
use Rattle.std.proofs.Common.{◌≡◌, ◌&&◌, ◌||◌, suc, Bool, true, false, cond, List, [], ◌∷◌, ◌++◌, map, filter, length, append-nil, Ordering, Less, Equal, Greater, is_eq, refl, sym, ap, ◌∙◌, subst, inl, inr, ⊎_elim, true≢false}
use Rattle.std.specs.List.{list_any, list_all}
use Rattle.std.specs.Ordering.{ordering_reverse}
use Rattle.std.proofs.lemmas.Cmp.{tied_itself}
use Rattle.pks_terms.specs.Sets.{IsIn, IsOrdered, with_others, insert_in, added, set_of}
use Rattle.pks_terms.specs.Syntax.{Literal}
use Rattle.pks_terms.specs.Orders.{literal_cmp}
use Rattle.pks_terms.specs.Closure.{put_in, all_put_in, in_sequence}
use Rattle.pks_terms.specs.Totality.{literal_cmp_total}
use Rattle.pks_terms.proofs.ListLaws.{each_in, or_swapped, in_map, in_mapped}
use Rattle.pks_terms.proofs.OrderLaws.{literal_cmp_tells}
use Rattle.pks_terms.proofs.SetLaws.{in_inserted}

-- the second list is the first in some order
pub data Permuted {X : Type 0} : List X → List X → Type 0 where
  none : Permuted [] []
  same : (x : X) (xs ys : List X) → Permuted xs ys → Permuted (x ∷ xs) (x ∷ ys)
  turn : (x y : X) (xs : List X) → Permuted (x ∷ y ∷ xs) (y ∷ x ∷ xs)
  then : (xs ys zs : List X) → Permuted xs ys → Permuted ys zs → Permuted xs zs

pub permuted_turned : {X : Type 0} (xs ys : List X) → Permuted xs ys → Permuted ys xs
permuted_turned _ _ none = none
permuted_turned _ _ (same x xs ys p) = same x ys xs (permuted_turned xs ys p)
permuted_turned _ _ (turn x y xs) = turn y x xs
permuted_turned _ _ (then xs ys zs p q) = then zs ys xs (permuted_turned ys zs q) (permuted_turned xs ys p)

pub permuted_map : {X Y : Type 0} (f : X → Y) (xs ys : List X) → Permuted xs ys → Permuted (map f xs) (map f ys)
permuted_map f _ _ none = none
permuted_map f _ _ (same x xs ys p) = same (f x) (map f xs) (map f ys) (permuted_map f xs ys p)
permuted_map f _ _ (turn x y xs) = turn (f x) (f y) (map f xs)
permuted_map f _ _ (then xs ys zs p q) = then (map f xs) (map f ys) (map f zs) (permuted_map f xs ys p) (permuted_map f ys zs q)

pub permuted_itself : {X : Type 0} (xs : List X) → Permuted xs xs
permuted_itself [] = none
permuted_itself (x ∷ xs) = same x xs xs (permuted_itself xs)

pub permuted_filter : {X : Type 0} (q : X → Bool) (xs ys : List X) → Permuted xs ys → Permuted (filter q xs) (filter q ys)
permuted_filter q _ _ none = none
permuted_filter q _ _ (same x xs ys p) =
    elim (q x) as (λ b. Permuted (cond b (x ∷ filter q xs) (filter q xs)) (cond b (x ∷ filter q ys) (filter q ys))) [
      | true ↦ same x (filter q xs) (filter q ys) (permuted_filter q xs ys p)
      | false ↦ permuted_filter q xs ys p
    ]
permuted_filter q _ _ (turn x y xs) = both (q x) (q y)
  where
    both : (a b : Bool) → Permuted (cond a (x ∷ cond b (y ∷ filter q xs) (filter q xs)) (cond b (y ∷ filter q xs) (filter q xs))) (cond b (y ∷ cond a (x ∷ filter q xs) (filter q xs)) (cond a (x ∷ filter q xs) (filter q xs)))
    both true true = turn x y (filter q xs)
    both true false = permuted_itself (x ∷ filter q xs)
    both false true = permuted_itself (y ∷ filter q xs)
    both false false = permuted_itself (filter q xs)
permuted_filter q _ _ (then xs ys zs p r) = then (filter q xs) (filter q ys) (filter q zs) (permuted_filter q xs ys p) (permuted_filter q ys zs r)

pub permuted_in : {X : Type 0} (xs ys : List X) → Permuted xs ys → (x : X) → IsIn x xs → IsIn x ys
permuted_in _ _ none z i = i
permuted_in _ _ (same x xs ys p) z i = ⊎_elim (λ e. inl e) (λ j. inr (permuted_in xs ys p z j)) i
permuted_in _ _ (turn x y xs) z i = ⊎_elim (λ e. inr (inl e)) (λ j. ⊎_elim (λ e. inl e) (λ k. inr (inr k)) j) i
permuted_in _ _ (then xs ys zs p q) z i = permuted_in ys zs q z (permuted_in xs ys p z i)

pub permuted_all : {X : Type 0} (q : X → Bool) (xs ys : List X) → Permuted xs ys → list_all q xs ≡ list_all q ys
permuted_all q _ _ none = refl
permuted_all q _ _ (same x xs ys p) = ap (λ b. q x && b) (permuted_all q xs ys p)
permuted_all q _ _ (turn x y xs) = and_swapped (q x) (q y) (list_all q xs)
  where
    and_swapped : (a b c : Bool) → (a && (b && c)) ≡ (b && (a && c))
    and_swapped true b c = refl
    and_swapped false true c = refl
    and_swapped false false c = refl
permuted_all q _ _ (then xs ys zs p r) = permuted_all q xs ys p ∙ permuted_all q ys zs r

pub permuted_any : {X : Type 0} (q : X → Bool) (xs ys : List X) → Permuted xs ys → list_any q xs ≡ list_any q ys
permuted_any q _ _ none = refl
permuted_any q _ _ (same x xs ys p) = ap (λ b. q x || b) (permuted_any q xs ys p)
permuted_any q _ _ (turn x y xs) = or_swapped (q x) (q y) (list_any q xs)
permuted_any q _ _ (then xs ys zs p r) = permuted_any q xs ys p ∙ permuted_any q ys zs r

pub permuted_length : {X : Type 0} (xs ys : List X) → Permuted xs ys → length xs ≡ length ys
permuted_length _ _ none = refl
permuted_length _ _ (same x xs ys p) = ap suc (permuted_length xs ys p)
permuted_length _ _ (turn x y xs) = refl
permuted_length _ _ (then xs ys zs p q) = permuted_length xs ys p ∙ permuted_length ys zs q

-- ---- each element with the others

-- the pair with one element more among the others
abbrev beside : {X : Type 0} → X → X × List X → X × List X
beside x p = (p.0, x ∷ p.1)

-- a pair of the list with the same element and the same others in some order
abbrev HasOthers : {X : Type 0} → List X → X × List X → Type 0
HasOthers {X} ys q = (r : X × List X) × IsIn r (with_others ys) × (r.0 ≡ q.0) × Permuted q.1 r.1

-- each element with the others, of the one list and of the other
pub permuted_others : {X : Type 0} (xs ys : List X) → Permuted xs ys → (q : X × List X) → IsIn q (with_others xs) → (r : X × List X) × IsIn r (with_others ys) × (r.0 ≡ q.0) × Permuted q.1 r.1
permuted_others _ _ none q i = absurd i
permuted_others {X} _ _ (same x xs ys p) q (inl e) = subst (HasOthers (x ∷ ys)) e ((x, ys), inl refl, refl, p)
permuted_others {X} _ _ (same x xs ys p) q (inr i) =
    let o = in_mapped (beside x) (with_others xs) q i in
    let r = permuted_others xs ys p o.0 o.1 in
    subst (HasOthers (x ∷ ys)) o.2 (beside x r.0, inr (in_map (beside x) (with_others ys) r.0 r.1), r.2, same x o.0.1 r.0.1 r.3)
permuted_others {X} _ _ (turn x y xs) q (inl e) = subst (HasOthers (y ∷ x ∷ xs)) e ((x, y ∷ xs), inr (inl refl), refl, permuted_itself (y ∷ xs))
permuted_others {X} _ _ (turn x y xs) q (inr (inl e)) = subst (HasOthers (y ∷ x ∷ xs)) e ((y, x ∷ xs), inl refl, refl, permuted_itself (x ∷ xs))
permuted_others {X} _ _ (turn x y xs) q (inr (inr i)) =
    let o = in_mapped (beside x) (map (beside y) (with_others xs)) q i in
    let u = in_mapped (beside y) (with_others xs) o.0 o.1 in
    subst (HasOthers (y ∷ x ∷ xs)) (ap (beside x) u.2 ∙ o.2)
    (beside y (beside x u.0), inr (inr (in_map (beside y) (map (beside x) (with_others xs)) (beside x u.0) (in_map (beside x) (with_others xs) u.0 u.1))), refl, turn x y u.0.1)
permuted_others {X} _ _ (then xs ys zs p r) q i =
    let a = permuted_others xs ys p q i in
    let b = permuted_others ys zs r a.0 a.1 in
    (b.0, b.1, b.2 ∙ a.2, then q.1 a.0.1 b.0.1 a.3 b.3)

-- ---- literals in order

put_permuted : (l : Literal) (ms : List Literal) → Permuted (l ∷ ms) (put_in l ms)
put_permuted l [] = permuted_itself (l ∷ [])
put_permuted l (m ∷ ms) =
    elim (literal_cmp l m) as (λ o. Permuted (l ∷ m ∷ ms) (elim o [ Less ↦ l ∷ m ∷ ms | Equal ↦ l ∷ m ∷ ms | Greater ↦ m ∷ put_in l ms ])) [
      | Less ↦ permuted_itself (l ∷ m ∷ ms)
      | Equal ↦ permuted_itself (l ∷ m ∷ ms)
      | Greater ↦ then (l ∷ m ∷ ms) (m ∷ l ∷ ms) (m ∷ put_in l ms) (turn l m ms) (same m (l ∷ ms) (put_in l ms) (put_permuted l ms))
    ]

-- one element from before a list to behind its first ones
moved : {X : Type 0} (x : X) (xs ys : List X) → Permuted (x ∷ (xs ++ ys)) (xs ++ x ∷ ys)
moved x [] ys = permuted_itself (x ∷ ys)
moved x (z ∷ xs) ys = then (x ∷ z ∷ (xs ++ ys)) (z ∷ x ∷ (xs ++ ys)) (z ∷ (xs ++ x ∷ ys)) (turn x z (xs ++ ys)) (same z (x ∷ (xs ++ ys)) (xs ++ x ∷ ys) (moved x xs ys))

behind : {X : Type 0} (xs ys zs : List X) → Permuted ys zs → Permuted (xs ++ ys) (xs ++ zs)
behind [] ys zs p = p
behind (x ∷ xs) ys zs p = same x (xs ++ ys) (xs ++ zs) (behind xs ys zs p)

all_put_permuted : (ls ms : List Literal) → Permuted (ls ++ ms) (all_put_in ms ls)
all_put_permuted [] ms = permuted_itself ms
all_put_permuted (l ∷ ls) ms =
    then (l ∷ (ls ++ ms)) (ls ++ l ∷ ms) (all_put_in (put_in l ms) ls) (moved l ls ms)
    (then (ls ++ l ∷ ms) (ls ++ put_in l ms) (all_put_in (put_in l ms) ls) (behind ls (l ∷ ms) (put_in l ms) (put_permuted l ms)) (all_put_permuted ls (put_in l ms)))

-- what is put in order is the same list in some order, and depends on nothing else
pub sequence_permuted : (ls : List Literal) → Permuted ls (in_sequence ls)
sequence_permuted ls = subst (λ ks. Permuted ks (in_sequence ls)) (append-nil ls) (all_put_permuted ls [])

-- a literal at its place, as it compares with the first of a list
abbrev placed : Ordering → Literal → Literal → List Literal → List Literal
placed o l m ms = elim o [ Less ↦ l ∷ m ∷ ms | Equal ↦ l ∷ m ∷ ms | Greater ↦ m ∷ put_in l ms ]

put_as : (l m : Literal) (ms : List Literal) (o : Ordering) → literal_cmp l m ≡ o → put_in l (m ∷ ms) ≡ placed o l m ms
put_as l m ms o e = ap (λ o. placed o l m ms) e

less_swapped : (l m : Literal) → literal_cmp l m ≡ Less → (ks : List Literal) → put_in l (put_in m ks) ≡ put_in m (put_in l ks)
less_swapped l m e [] = put_as l m [] Less e ∙ sym (put_as m l [] Greater (literal_cmp_total.antisymm m l ∙ ap ordering_reverse e))
less_swapped l m e (k ∷ ks) =
    let after : literal_cmp m l ≡ Greater = literal_cmp_total.antisymm m l ∙ ap ordering_reverse e in
    let front : (o : Ordering) → literal_cmp l k ≡ o → placed o l k ks ≡ l ∷ k ∷ ks → put_in m (put_in l (k ∷ ks)) ≡ l ∷ put_in m (k ∷ ks) =
    λ o f same. ap (put_in m) (put_as l k ks o f ∙ same) ∙ put_as m l (k ∷ ks) Greater after in
    let first : literal_cmp l k ≡ Less → put_in m (k ∷ ks) ≡ m ∷ k ∷ ks → put_in l (put_in m (k ∷ ks)) ≡ put_in m (put_in l (k ∷ ks)) =
    λ f same. ap (put_in l) same ∙ put_as l m (k ∷ ks) Less e ∙ sym (front Less f refl ∙ ap (λ ns. l ∷ ns) same) in
    let second : (o : Ordering) → literal_cmp m k ≡ Greater → literal_cmp l k ≡ o → placed o l k ks ≡ l ∷ k ∷ ks → placed o l k (put_in m ks) ≡ l ∷ k ∷ put_in m ks → put_in l (put_in m (k ∷ ks)) ≡ put_in m (put_in l (k ∷ ks)) =
    λ o g f same more. ap (put_in l) (put_as m k ks Greater g) ∙ put_as l k (put_in m ks) o f ∙ more ∙ sym (front o f same ∙ ap (λ ns. l ∷ ns) (put_as m k ks Greater g)) in
    elim (literal_cmp m k) as (λ o. literal_cmp m k ≡ o → put_in l (put_in m (k ∷ ks)) ≡ put_in m (put_in l (k ∷ ks))) [
      | Less ↦ λ g. first (literal_cmp_total.trans l m k e g) (put_as m k ks Less g)
      | Equal ↦ λ g. first (ap (literal_cmp l) (sym (literal_cmp_tells m k g)) ∙ e) (put_as m k ks Equal g)
      | Greater ↦ λ g. elim (literal_cmp l k) as (λ o. literal_cmp l k ≡ o → put_in l (put_in m (k ∷ ks)) ≡ put_in m (put_in l (k ∷ ks))) [
        | Less ↦ λ f. second Less g f refl refl
        | Equal ↦ λ f. second Equal g f refl refl
        | Greater ↦ λ f.
            ap (put_in l) (put_as m k ks Greater g) ∙ put_as l k (put_in m ks) Greater f ∙ ap (λ ns. k ∷ ns) (less_swapped l m e ks)
            ∙ sym (ap (put_in m) (put_as l k ks Greater f) ∙ put_as m k (put_in l ks) Greater g)
      ] refl
    ] refl

put_swapped : (l m : Literal) (ks : List Literal) → put_in l (put_in m ks) ≡ put_in m (put_in l ks)
put_swapped l m ks =
    elim (literal_cmp l m) as (λ o. literal_cmp l m ≡ o → put_in l (put_in m ks) ≡ put_in m (put_in l ks)) [
      | Less ↦ λ e. less_swapped l m e ks
      | Equal ↦ λ e. let s = literal_cmp_tells l m e in λ i. put_in (s i) (put_in (sym s i) ks)
      | Greater ↦ λ e. sym (less_swapped m l (literal_cmp_total.antisymm m l ∙ ap ordering_reverse e) ks)
    ] refl

all_put_same : (ls ms : List Literal) → Permuted ls ms → (ks : List Literal) → all_put_in ks ls ≡ all_put_in ks ms
all_put_same _ _ none ks = refl
all_put_same _ _ (same l ls ms p) ks = all_put_same ls ms p (put_in l ks)
all_put_same _ _ (turn l m ls) ks = ap (λ ns. all_put_in ns ls) (put_swapped m l ks)
all_put_same _ _ (then ls ms ns p q) ks = all_put_same ls ms p ks ∙ all_put_same ms ns q ks

pub permuted_sequence : (ls ms : List Literal) → Permuted ls ms → in_sequence ls ≡ in_sequence ms
permuted_sequence ls ms p = all_put_same ls ms p []

-- ---- sets of literals

insert_permuted : (l : Literal) (ms : List Literal) → (IsIn l ms → ⊥) → Permuted (l ∷ ms) (insert_in literal_cmp l ms)
insert_permuted l [] new = permuted_itself (l ∷ [])
insert_permuted l (m ∷ ms) new =
    elim (literal_cmp l m) as (λ o. literal_cmp l m ≡ o → Permuted (l ∷ m ∷ ms) (elim o [ Less ↦ l ∷ m ∷ ms | Equal ↦ m ∷ ms | Greater ↦ m ∷ insert_in literal_cmp l ms ])) [
      | Less ↦ λ e. permuted_itself (l ∷ m ∷ ms)
      | Equal ↦ λ e. absurd (new (inl (sym (literal_cmp_tells l m e))))
      | Greater ↦ λ e. then (l ∷ m ∷ ms) (m ∷ l ∷ ms) (m ∷ insert_in literal_cmp l ms) (turn l m ms) (same m (l ∷ ms) (insert_in literal_cmp l ms) (insert_permuted l ms (λ i. new (inr i))))
    ] refl

-- no literal stands twice
abbrev AreApart : List Literal → Type 0
AreApart [] = Unit {0}
AreApart (l ∷ ls) = (IsIn l ls → ⊥) × AreApart ls

added_permuted : (ls ms : List Literal) → AreApart ls → ((l : Literal) → IsIn l ls → IsIn l ms → ⊥) → Permuted (ls ++ ms) (added literal_cmp ms ls)
added_permuted [] ms apart new = permuted_itself ms
added_permuted (l ∷ ls) ms apart new =
    let more = insert_in literal_cmp l ms in
    let whole = added literal_cmp more ls in
    then (l ∷ (ls ++ ms)) (ls ++ l ∷ ms) whole (moved l ls ms)
    (then (ls ++ l ∷ ms) (ls ++ more) whole (behind ls (l ∷ ms) more (insert_permuted l ms (new l (inl refl))))
    (added_permuted ls more apart.1 (λ k i j. ⊎_elim (λ e. apart.0 (subst (λ x. IsIn x ls) (sym e) i)) (λ n. new k (inr i) n) (in_inserted literal_cmp_total literal_cmp_tells l ms k j))))

not_below_itself : (l : Literal) → literal_cmp l l ≡ Less → ⊥
not_below_itself l e = true≢false (sym (ap is_eq (tied_itself literal_cmp_total l)) ∙ ap is_eq e)

mapped_apart : (h : Literal → Literal) (c : List Literal) → IsOrdered literal_cmp c → ((k l : Literal) → IsIn k c → IsIn l c → h k ≡ h l → k ≡ l) → AreApart (map h c)
mapped_apart h [] o one = tt
mapped_apart h (l ∷ c) o one = (
  λ i. let r = in_mapped h c (h l) i in
      not_below_itself l (each_in (λ m. literal_cmp l m ≡ Less) c l o.0 (subst (λ x. IsIn x c) (one r.0 l (inr r.1) (inl refl) r.2) r.1)),
  mapped_apart h c o.1 (λ k m i j e. one k m (inr i) (inr j) e),
)

-- the set of a map of a set by what takes different members to different ones
pub set_permuted : (h : Literal → Literal) (c : List Literal) → IsOrdered literal_cmp c → ((k l : Literal) → IsIn k c → IsIn l c → h k ≡ h l → k ≡ l) → Permuted (map h c) (set_of literal_cmp (map h c))
set_permuted h c o one =
    subst (λ ks. Permuted ks (set_of literal_cmp (map h c))) (append-nil (map h c)) (added_permuted (map h c) [] (mapped_apart h c o one) (λ l i j. j))
