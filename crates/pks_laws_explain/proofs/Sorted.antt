-- A group with its members in normal form is shown where it is.
use Rattle.std.proofs.Common.{◌≡◌, ◌&&◌, ◌≤◌, ℕ, Bool, true, not, List, [], ◌∷◌, ◌++◌, append_assoc, map, Less, Equal, Greater, Ordering, is_gt, is_eq, refl, sym, ap, ◌∙◌, subst, inl, inr, true≢false}
use Rattle.std.specs.List.{list_any, list_all}
use Rattle.std.specs.Ordering.{ordering_reverse}
use Rattle.std.proofs.lemmas.Cmp.{tied_itself}
use Rattle.std.proofs.lemmas.Bool.{and_parts, and_from, or_left}
use Rattle.pks_terms.specs.Sets.{Each, IsIn, with_others}
use Rattle.pks_terms.specs.Syntax.{Term, Relation, Literal}
use Rattle.pks_terms.specs.Orders.{literal_cmp, conj_cmp, literal, equation}
use Rattle.pks_terms.specs.Totality.{literal_cmp_total, conj_cmp_total}
use Rattle.pks_terms.specs.Closure.{put_in, all_put_in, in_sequence, normal_group}
use Rattle.pks_terms.specs.Databases.{Five, normal, normal_literal}
use Rattle.pks_terms.specs.Problems.{Problem}
use Rattle.pks_terms.proofs.ListLaws.{any_in, in_map}
use Rattle.pks_terms.proofs.OrderLaws.{literal_cmp_tells}
use Rattle.pks_terms.specs.Moments.{IsInOrder}
use Rattle.pks_terms.specs.Proofs.{Fact, FactLit, FactKx, Path, final_moment, BySwap}
use Rattle.pks_terms.specs.Judging.{Judge}
use Rattle.pks_terms.specs.Rewriting.{is_equation, swaps_term, are_in_order, swaps_literal, swaps_group, swaps}
use Rattle.pks_laws_explain.specs.Shown.{IsShown}
use Rattle.pks_laws_explain.proofs.Growing.{shown_within}
use Rattle.pks_laws_explain.proofs.Equal.{cited_in, Same, AllSame, normals_shown, literal_swaps, swapped_there}
use Rattle.pks_laws_explain.proofs.Derived.{made_ordered}
use Rattle.pks_laws.proofs.Least.{term_eq_itself}

-- the first isn't above the second
up_to : Literal → Literal → Bool
up_to l k = not (is_gt (literal_cmp l k))

through : (l k n : Literal) → up_to l k ≡ true → up_to k n ≡ true → up_to l n ≡ true
unfolding up_to
through l k n a b =
    elim (literal_cmp l k) as (λ o. literal_cmp l k ≡ o → not (is_gt o) ≡ true → not (is_gt (literal_cmp l n)) ≡ true) [
      | Equal ↦ λ e h. subst (λ x. not (is_gt (literal_cmp x n)) ≡ true) (sym (literal_cmp_tells l k e)) b
      | Greater ↦ λ e h. absurd (true≢false (sym h))
      | Less ↦ λ e h. elim (literal_cmp k n) as (λ o. literal_cmp k n ≡ o → not (is_gt o) ≡ true → not (is_gt (literal_cmp l n)) ≡ true) [
        | Equal ↦ λ f i. subst (λ x. not (is_gt (literal_cmp l x)) ≡ true) (literal_cmp_tells k n f) (ap (λ o. not (is_gt o)) e)
        | Greater ↦ λ f i. absurd (true≢false (sym i))
        | Less ↦ λ f i. ap (λ o. not (is_gt o)) (literal_cmp_total.trans l k n e f)
      ] refl b
    ] refl a

above : (l k : Literal) → literal_cmp l k ≡ Greater → up_to k l ≡ true
unfolding up_to
above l k e = ap (λ o. not (is_gt o)) (literal_cmp_total.antisymm k l ∙ ap ordering_reverse e)

below : (l k : Literal) (o : Ordering) → literal_cmp l k ≡ o → not (is_gt o) ≡ true → up_to l k ≡ true
unfolding up_to
below l k o e h = ap (λ o. not (is_gt o)) e ∙ h

all_through : (l k : Literal) (ls : List Literal) → up_to l k ≡ true → list_all (up_to k) ls ≡ true → list_all (up_to l) ls ≡ true
all_through l k [] a h = refl
all_through l k (n ∷ ls) a h = let q = and_parts (up_to k n) _ h in and_from _ _ (through l k n a q.0) (all_through l k ls a q.1)

all_put : (t : Literal → Bool) (l : Literal) (ls : List Literal) → t l ≡ true → list_all t ls ≡ true → list_all t (put_in l ls) ≡ true
all_put t l [] a h = and_from _ _ a refl
all_put t l (k ∷ ls) a h =
    let q = and_parts (t k) _ h in
    elim (literal_cmp l k) as (λ o. list_all t (elim o [ Less ↦ l ∷ k ∷ ls | Equal ↦ l ∷ k ∷ ls | Greater ↦ k ∷ put_in l ls ]) ≡ true) [ Less ↦ and_from _ _ a h | Equal ↦ and_from _ _ a h | Greater ↦ and_from _ _ q.0 (all_put t l ls a q.1) ]

pub put_ordered : (l : Literal) (ls : List Literal) → are_in_order ls ≡ true → are_in_order (put_in l ls) ≡ true
unfolding up_to
put_ordered l [] h = refl
put_ordered l (k ∷ ls) h =
    let q = and_parts (list_all (up_to k) ls) _ h in
    elim (literal_cmp l k) as (λ o. literal_cmp l k ≡ o → are_in_order (elim o [ Less ↦ l ∷ k ∷ ls | Equal ↦ l ∷ k ∷ ls | Greater ↦ k ∷ put_in l ls ]) ≡ true) [
      | Less ↦ λ e. let a = below l k Less e refl in and_from _ _ (and_from _ _ a (all_through l k ls a q.0)) h
      | Equal ↦ λ e. let a = below l k Equal e refl in and_from _ _ (and_from _ _ a (all_through l k ls a q.0)) h
      | Greater ↦ λ e. and_from _ _ (all_put (up_to k) l ls (above l k e) q.0) (put_ordered l ls q.1)
    ] refl

all_ordered : (ms ls : List Literal) → are_in_order ms ≡ true → are_in_order (all_put_in ms ls) ≡ true
all_ordered ms [] h = h
all_ordered ms (l ∷ ls) h = all_ordered (put_in l ms) ls (put_ordered l ms h)

pub sequence_ordered : (ls : List Literal) → are_in_order (in_sequence ls) ≡ true
sequence_ordered ls = all_ordered [] ls refl

-- ---- a member taken out of a sequence leaves the sequence of the others

abbrev Pair : Type 0
Pair = Literal × List Literal

put_there : (k : Literal) (ls : List Literal) → IsIn (k, ls) (with_others (put_in k ls))
put_there k [] = inl refl
put_there k (l ∷ ls) =
    elim (literal_cmp k l) as (λ o. IsIn (k, l ∷ ls) (with_others (elim o [ Less ↦ k ∷ l ∷ ls | Equal ↦ k ∷ l ∷ ls | Greater ↦ l ∷ put_in k ls ]))) [
      | Less ↦ inl refl
      | Equal ↦ inl refl
      | Greater ↦ inr (in_map (λ (q : Pair). let s : Pair = (q.0, l ∷ q.1) in s) (with_others (put_in k ls)) (k, ls) (put_there k ls))
    ]

-- what is below all of a sequence comes before them
put_first : (y : Literal) (ls : List Literal) → list_all (up_to y) ls ≡ true → put_in y ls ≡ y ∷ ls
unfolding up_to
put_first y [] h = refl
put_first y (l ∷ ls) h =
    elim (literal_cmp y l) as (λ o. not (is_gt o) ≡ true → elim o as (λ _. List Literal) [ Less ↦ y ∷ l ∷ ls | Equal ↦ y ∷ l ∷ ls | Greater ↦ l ∷ put_in y ls ] ≡ y ∷ l ∷ ls) [
      | Less ↦ λ k. refl
      | Equal ↦ λ k. refl
      | Greater ↦ λ k. absurd (true≢false (sym k))
    ] (and_parts (not (is_gt (literal_cmp y l))) _ h).0

put_other : (y k : Literal) (ls ms : List Literal) → are_in_order ms ≡ true → IsIn (k, ls) (with_others ms) → IsIn (k, put_in y ls) (with_others (put_in y ms))
unfolding up_to
put_other y k ls [] o i = absurd i
put_other y k ls (a ∷ ms) o (inl e) =
    let q = and_parts (list_all (up_to a) ms) _ o in
    let head : a ≡ k = ap (λ (r : Pair). r.0) e in
    let tail : ms ≡ ls = ap (λ (r : Pair). r.1) e in
    subst (λ (r : Pair). IsIn (r.0, put_in y r.1) (with_others (put_in y (a ∷ ms)))) e
    (elim (literal_cmp y a) as (λ c. literal_cmp y a ≡ c → IsIn (a, put_in y ms) (with_others (elim c [ Less ↦ y ∷ a ∷ ms | Equal ↦ y ∷ a ∷ ms | Greater ↦ a ∷ put_in y ms ]))) [
      | Less ↦ λ f. subst (λ ns. IsIn (a, ns) (with_others (y ∷ a ∷ ms))) (sym (put_first y ms (all_through y a ms (below y a Less f refl) q.0))) (inr (inl refl))
      | Equal ↦ λ f. subst (λ ns. IsIn (a, ns) (with_others (y ∷ a ∷ ms))) (sym (put_first y ms (all_through y a ms (below y a Equal f refl) q.0))) (inr (inl refl))
      | Greater ↦ λ f. inl refl
    ] refl)
put_other y k ls (a ∷ ms) o (inr i) =
    let r = Rattle.pks_terms.proofs.ListLaws.in_mapped (λ (q : Pair). let s : Pair = (q.0, a ∷ q.1) in s) (with_others ms) (k, ls) i in
    let later = put_other y r.0.0 r.0.1 ms (and_parts (list_all (up_to a) ms) _ o).1 r.1 in
    subst (λ (q : Pair). IsIn (q.0, put_in y q.1) (with_others (put_in y (a ∷ ms)))) r.2
    (elim (literal_cmp y a) as (λ c. IsIn (r.0.0, elim c as (λ _. List Literal) [ Less ↦ y ∷ a ∷ r.0.1 | Equal ↦ y ∷ a ∷ r.0.1 | Greater ↦ a ∷ put_in y r.0.1 ]) (with_others (elim c [ Less ↦ y ∷ a ∷ ms | Equal ↦ y ∷ a ∷ ms | Greater ↦ a ∷ put_in y ms ]))) [
      | Less ↦ inr (in_map (λ (q : Pair). let s : Pair = (q.0, y ∷ q.1) in s) (with_others (a ∷ ms)) (r.0.0, a ∷ r.0.1) (inr (in_map (λ (q : Pair). let s : Pair = (q.0, a ∷ q.1) in s) (with_others ms) r.0 r.1)))
      | Equal ↦ inr (in_map (λ (q : Pair). let s : Pair = (q.0, y ∷ q.1) in s) (with_others (a ∷ ms)) (r.0.0, a ∷ r.0.1) (inr (in_map (λ (q : Pair). let s : Pair = (q.0, a ∷ q.1) in s) (with_others ms) r.0 r.1)))
      | Greater ↦ inr (in_map (λ (q : Pair). let s : Pair = (q.0, a ∷ q.1) in s) (with_others (put_in y ms)) (r.0.0, put_in y r.0.1) later)
    ])

rest_there : (k : Literal) (ls ms ys : List Literal) → are_in_order ms ≡ true → IsIn (k, ls) (with_others ms) → IsIn (k, all_put_in ls ys) (with_others (all_put_in ms ys))
rest_there k ls ms [] o i = i
rest_there k ls ms (y ∷ ys) o i = rest_there k (put_in y ls) (put_in y ms) ys (put_ordered y ms o) (put_other y k ls ms o i)

all_put-append : (ms xs ys : List Literal) → all_put_in ms (xs ++ ys) ≡ all_put_in (all_put_in ms xs) ys
all_put-append ms [] ys = refl
all_put-append ms (x ∷ xs) ys = all_put-append (put_in x ms) xs ys

pub member_there : (xs : List Literal) (k : Literal) (ys : List Literal) → IsIn (k, in_sequence (xs ++ ys)) (with_others (in_sequence (xs ++ k ∷ ys)))
member_there xs k ys =
    let base = all_put_in [] xs in
    let there = rest_there k base (put_in k base) ys (put_ordered k base (all_ordered [] xs refl)) (put_there k base) in
    subst (λ ls. IsIn (k, ls) (with_others (in_sequence (xs ++ k ∷ ys)))) (sym (all_put-append [] xs ys)) (subst (λ ms. IsIn (k, all_put_in base ys) (with_others ms)) (sym (all_put-append [] xs (k ∷ ys))) there)

module _ (p : Problem) (path : Path) (m : ℕ) (within : m ≤ final_moment path) where
  abbrev Kx : List Literal → Type 0
  Kx g = IsShown p path m (FactKx g)

  -- one term of one member replaced
  member_swapped : (xs ys : List Literal) (k l : Literal) (t u : Term) → Kx (in_sequence (xs ++ k ∷ ys)) → Same p path m within t u → ((j : Judge) → is_equation j m t u ≡ true → swaps_literal j m k l ≡ true) → Kx (in_sequence (xs ++ l ∷ ys))
  member_swapped xs ys k l t u shown same swap =
      let g = in_sequence (xs ++ k ∷ ys) in
      let h = in_sequence (xs ++ l ∷ ys) in
      let rest = in_sequence (xs ++ ys) in
      let fs : List Fact = FactKx g ∷ FactLit (equation t u) ∷ [] in
      shown_within p path fs m (shown, (same, tt)) (FactKx h) BySwap within (λ j e.
      ap (list_any (λ c. swaps j m c (FactKx h))) e
      ∙ or_left (swaps_group j m g h) _ (and_from _ _ (sequence_ordered (xs ++ l ∷ ys))
      (any_in (λ q. list_any (λ r. swaps_literal j m q.0 r.0 && is_eq (conj_cmp q.1 r.1)) (with_others h)) (with_others g) (k, rest) (member_there xs k ys)
      (any_in (λ r. swaps_literal j m k r.0 && is_eq (conj_cmp rest r.1)) (with_others h) (l, rest) (member_there xs l ys)
      (and_from _ _ (swap j (cited_in j m fs (equation t u) e (inr (inl refl)))) (ap is_eq (tied_itself conj_cmp_total rest)))))))

  member_one : (xs ys : List Literal) (r : Relation) (b : Bool) (ts us : List Term) (t u : Term) → Same p path m within t u → Kx (in_sequence (xs ++ literal r (ts ++ t ∷ us) b ∷ ys)) → Kx (in_sequence (xs ++ literal r (ts ++ u ∷ us) b ∷ ys))
  member_one xs ys r b ts us t u same shown =
      member_swapped xs ys (literal r (ts ++ t ∷ us) b) (literal r (ts ++ u ∷ us) b) t u shown same (λ j e.
      literal_swaps j m r (ts ++ t ∷ us) (ts ++ u ∷ us) b (swapped_there Rattle.pks_terms.specs.Orders.term_eq (swaps_term j m) (λ t. term_eq_itself t t refl) ts us t u (or_left (is_equation j m t u) _ e)))

  member_rest : (xs ys : List Literal) (r : Relation) (b : Bool) (front ts us : List Term) → AllSame p path m within ts us → Kx (in_sequence (xs ++ literal r (front ++ ts) b ∷ ys)) → Kx (in_sequence (xs ++ literal r (front ++ us) b ∷ ys))
  member_rest xs ys r b front [] [] a shown = shown
  member_rest xs ys r b front (t ∷ ts) (u ∷ us) a shown =
      subst (λ vs. Kx (in_sequence (xs ++ literal r vs b ∷ ys))) (append_assoc front (u ∷ []) us)
      (member_rest xs ys r b (front ++ u ∷ []) ts us a.1 (subst (λ vs. Kx (in_sequence (xs ++ literal r vs b ∷ ys))) (sym (append_assoc front (u ∷ []) ts)) (member_one xs ys r b front ts t u a.0 shown)))
  member_rest xs ys r b front [] (u ∷ us) a shown = absurd a
  member_rest xs ys r b front (t ∷ ts) [] a shown = absurd a

  module _ (d : Five) (known : (l : Literal) → IsIn l d.kf → IsShown p path m (FactLit l)) where
    member_normal : (xs ys : List Literal) (k : Literal) → IsInOrder k → Kx (in_sequence (xs ++ k ∷ ys)) → Kx (in_sequence (xs ++ normal_literal d.kf k ∷ ys))
    unfolding normal_literal
    member_normal xs ys k o shown =
        member_rest xs ys k.relation k.positive [] k.arguments (map (normal d.kf) k.arguments) (normals_shown p path m within d.kf known k.arguments) (subst (λ l. Kx (in_sequence (xs ++ l ∷ ys))) (sym (made_ordered k o)) shown)

    members_normal : (xs ys : List Literal) → Each IsInOrder ys → Kx (in_sequence (xs ++ ys)) → Kx (in_sequence (xs ++ map (normal_literal d.kf) ys))
    members_normal xs [] o shown = shown
    members_normal xs (k ∷ ys) o shown =
        subst (λ g. Kx (in_sequence g)) (append_assoc xs (normal_literal d.kf k ∷ []) (map (normal_literal d.kf) ys))
        (members_normal (xs ++ normal_literal d.kf k ∷ []) ys o.1 (subst (λ g. Kx (in_sequence g)) (sym (append_assoc xs (normal_literal d.kf k ∷ []) ys)) (member_normal xs ys k o.0 shown)))

    -- a group in sequence, with its members in normal form
    pub group_normal_shown : (g : List Literal) → Each IsInOrder g → in_sequence g ≡ g → Kx g → Kx (normal_group d.kf g)
    group_normal_shown g o sorted shown = members_normal [] g o (subst Kx (sym sorted) shown)
