-- What holds in a closed database held at the end of its rounds, so it has no clash, and the rules add nothing to it.
use Rattle.std.proofs.Common.{◌≡◌, ◌&&◌, ◌||◌, ◌==◌, ◌++◌, ℕ, Bool, true, false, not, cond, find, is_lt, List, [], ◌∷◌, map, filter, flat_map, append-nil, Option, Some, None, option_map, Less, Equal, Greater, refl, sym, ap, ◌∙◌, subst, inl, inr, ⊎_elim}
use Rattle.std.specs.List.{list_any, list_all}
use Rattle.std.proofs.lemmas.Bool.{and_from, and_parts}
use Rattle.pks_terms.specs.Sets.{Each, IsIn, with_others, set_of}
use Rattle.pks_terms.specs.Syntax.{Object, Parameter, Apply, Term, object, Relation, Named, Equality, Literal, Atom, negated}
use Rattle.pks_terms.specs.Orders.{term_cmp, term_eq, literal_cmp, literal_eq, conj_cmp, atom_cmp, in_order, literal, equation, inequation}
use Rattle.pks_terms.specs.Totality.{term_cmp_total, conj_cmp_total}
use Rattle.pks_terms.specs.Signatures.{Signature, HasValues, range_of}
use Rattle.pks_terms.specs.Databases.{Entry, entry_cmp, Five, values_at, normal, normal_literal, is_known, is_evident, is_plain, differ, some_differ, fits, is_shut_out, is_closed_off, holds}
use Rattle.pks_terms.specs.Closure.{by_value, by_member, by_group, applications_in, is_last_left, by_range, additions, rounds, put_in, all_put_in, in_sequence, normal_group, normal_atom, normal_entry, tidied, first_clash, IsClosed}
use Rattle.pks_terms.specs.Saturated.{Within, IsSaturated}
use Rattle.pks_terms.proofs.ListLaws.{each_in, all_set_of, any_set_of, all_alike, any_alike, map-map, map_alike, in_map, in_mapped, in_appended, in_flat_mapped}
use Rattle.pks_terms.proofs.OrderLaws.{term_cmp_tells, conj_cmp_tells, atom_cmp_tells, entry_cmp_tells}
use Rattle.pks_terms.proofs.SetLaws.{in_set_of}
use Rattle.pks_laws.proofs.Holding.{eqb_comm}
use Rattle.pks_laws.proofs.Least.{in_left, in_right, in_flat, in_order-map, one_value, addition_in}
use Rattle.pks_laws.proofs.NormalMembers.{eq_turned, literal_again, term_again, normal_in, closed_one_value}
use Rattle.pks_laws.proofs.Belonging.{saturated_end, end_of}
use Rattle.pks_terms.specs.Moments.{IsInOrder}

module _ (s : Signature) where
  -- it doesn't matter which side stands first
  evident_swapped : (t u : Term) (b : Bool) → is_evident s Equality (t ∷ u ∷ []) b ≡ is_evident s Equality (u ∷ t ∷ []) b
  unfolding term_eq
  evident_swapped t u true = eq_turned term_cmp term_cmp_total term_cmp_tells t u
  evident_swapped (Object d) (Object e) false = ap (λ b. not b) (eqb_comm d e)
  evident_swapped (Object d) (Parameter e) false = refl
  evident_swapped (Object d) (Apply f us) false = refl
  evident_swapped (Parameter d) (Object e) false = refl
  evident_swapped (Parameter d) (Parameter e) false = refl
  evident_swapped (Parameter d) (Apply f us) false = refl
  evident_swapped (Apply f us) (Object d) false = refl
  evident_swapped (Apply f us) (Parameter d) false = refl
  evident_swapped (Apply f us) (Apply g vs) false = refl

  evident-in_order : (f : Term → Term) (r : Relation) (ts : List Term) (b : Bool) → is_evident s r (map f (in_order r ts)) b ≡ is_evident s r (map f ts) b
  evident-in_order f Equality (t ∷ u ∷ []) b =
      elim (is_lt (term_cmp t u)) as (λ c. is_evident s Equality (map f (cond c (u ∷ t ∷ []) (t ∷ u ∷ []))) b ≡ is_evident s Equality (f t ∷ f u ∷ []) b) [ true ↦ evident_swapped (f u) (f t) b | false ↦ refl ]
  evident-in_order f Equality [] b = refl
  evident-in_order f Equality (t ∷ []) b = refl
  evident-in_order f Equality (t ∷ u ∷ v ∷ ts) b = refl
  evident-in_order f (Named p) ts b = refl

  module _ (kf : List Literal) (one : (f : ℕ) (ds : List ℕ) (e e' : ℕ) → IsIn e (values_at kf f ds) → IsIn e' (values_at kf f ds) → e ≡ e') where
    normals_again : (ts : List Term) → map (normal kf) (map (normal kf) ts) ≡ map (normal kf) ts
    normals_again ts = map-map (normal kf) (normal kf) ts ∙ map_alike (λ t. normal kf (normal kf t)) (normal kf) (term_again s kf one) ts

    plain-normal : (l : Literal) → is_plain s kf (normal_literal kf l) ≡ is_plain s kf l
    unfolding is_plain is_known normal_literal literal
    plain-normal l = λ i.
        list_any (λ k. literal_eq (normal_literal kf k) (literal_again s kf one l i)) kf
        || (evident-in_order (normal kf) l.relation (map (normal kf) l.arguments) l.positive ∙ ap (λ ts. is_evident s l.relation ts l.positive) (normals_again l.arguments)) i

    -- what is plain is so by the normal form
    plain_alike : (l m : Literal) → normal_literal kf l ≡ normal_literal kf m → is_plain s kf l ≡ is_plain s kf m
    plain_alike l m e = sym (plain-normal l) ∙ ap (is_plain s kf) e ∙ plain-normal m

    normal_of_literal : (r : Relation) (ts : List Term) (b : Bool) → normal_literal kf (literal r ts b) ≡ literal r (map (normal kf) ts) b
    unfolding normal_literal literal
    normal_of_literal r ts b = λ i. record { relation = r; arguments = in_order-map (normal kf) r ts i; positive = b }

    differ_alike : (t u t' u' : Term) → normal kf t ≡ normal kf t' → normal kf u ≡ normal kf u' → differ s kf t u ≡ differ s kf t' u'
    unfolding differ
    differ_alike t u t' u' e f =
        plain_alike (inequation t u) (inequation t' u')
        (normal_of_literal Equality (t ∷ u ∷ []) false ∙ (λ i. literal Equality (e i ∷ f i ∷ []) false) ∙ sym (normal_of_literal Equality (t' ∷ u' ∷ []) false))

    some_differ-normal : (vs ts : List Term) → some_differ s kf (map (normal kf) vs) ts ≡ some_differ s kf vs ts
    some_differ-normal (t ∷ vs) (u ∷ us) = λ i. differ_alike (normal kf t) u t u (term_again s kf one t) refl i || some_differ-normal vs us i
    some_differ-normal [] us = refl
    some_differ-normal (t ∷ vs) [] = refl

    some_differ-normals : (vs ts : List Term) → some_differ s kf vs (map (normal kf) ts) ≡ some_differ s kf vs ts
    some_differ-normals (t ∷ vs) (u ∷ us) = λ i. differ_alike t (normal kf u) t u refl (term_again s kf one u) i || some_differ-normals vs us i
    some_differ-normals [] us = refl
    some_differ-normals (t ∷ vs) [] = refl

    fits-normal : (ss : List (Option Term)) (ts : List Term) → fits kf (map (option_map (normal kf)) ss) ts ≡ fits kf ss ts
    fits-normal [] [] = refl
    fits-normal [] (t ∷ ts) = refl
    fits-normal (None ∷ ss) [] = refl
    fits-normal (None ∷ ss) (t ∷ ts) = fits-normal ss ts
    fits-normal (Some u ∷ ss) [] = refl
    fits-normal (Some u ∷ ss) (t ∷ ts) = λ i. term_eq (term_again s kf one u i) (normal kf t) && fits-normal ss ts i

    fits-normals : (ss : List (Option Term)) (ts : List Term) → fits kf ss (map (normal kf) ts) ≡ fits kf ss ts
    fits-normals [] [] = refl
    fits-normals [] (t ∷ ts) = refl
    fits-normals (None ∷ ss) [] = refl
    fits-normals (None ∷ ss) (t ∷ ts) = fits-normals ss ts
    fits-normals (Some u ∷ ss) [] = refl
    fits-normals (Some u ∷ ss) (t ∷ ts) = λ i. term_eq (normal kf u) (term_again s kf one t i) && fits-normals ss ts i

    listed-normal : (es : List Atom) (ts : List Term) → list_all (λ a. some_differ s kf a.arguments ts) (set_of atom_cmp (map (normal_atom kf) es)) ≡ list_all (λ a. some_differ s kf a.arguments ts) es
    listed-normal es ts =
        all_set_of atom_cmp atom_cmp_tells (λ a. some_differ s kf a.arguments ts) (map (normal_atom kf) es)
        ∙ all_alike (λ a. some_differ s kf a.arguments ts) (λ a. some_differ s kf a.arguments ts) (normal_atom kf) (λ a. some_differ-normal a.arguments ts) es

    shut_out-normal : (p : ℕ) (ts : List Term) (e : Entry) → is_shut_out s kf p ts (normal_entry kf e) ≡ is_shut_out s kf p ts e
    shut_out-normal p ts e = λ i. (e.pattern.predicate == p) && (fits-normal e.pattern.slots ts i && listed-normal e.listed ts i)

    all_differ-normals : (es : List Atom) (ts : List Term) → list_all (λ a. some_differ s kf a.arguments (map (normal kf) ts)) es ≡ list_all (λ a. some_differ s kf a.arguments ts) es
    all_differ-normals [] ts = refl
    all_differ-normals (a ∷ es) ts = λ i. some_differ-normals a.arguments ts i && all_differ-normals es ts i

    shut_out-normals : (p : ℕ) (ts : List Term) (es : List Entry) → list_any (is_shut_out s kf p (map (normal kf) ts)) es ≡ list_any (is_shut_out s kf p ts) es
    shut_out-normals p ts [] = refl
    shut_out-normals p ts (e ∷ es) = λ i. ((e.pattern.predicate == p) && (fits-normals e.pattern.slots ts i && all_differ-normals e.listed ts i)) || shut_out-normals p ts es i

  module _ (d : Five) (one : (f : ℕ) (ds : List ℕ) (e e' : ℕ) → IsIn e (values_at d.kf f ds) → IsIn e' (values_at d.kf f ds) → e ≡ e') where
    -- a literal holds where its normal form does
    pub holds-normal : (l : Literal) → holds s d (normal_literal d.kf l) ≡ holds s d l
    unfolding holds normal_literal literal
    holds-normal l = λ i. plain-normal d.kf one l i || off l.relation l.arguments l.positive i
      where
        off : (r : Relation) (ts : List Term) (b : Bool) → is_closed_off s d r (in_order r (map (normal d.kf) ts)) b ≡ is_closed_off s d r ts b
        off (Named p) ts false = shut_out-normals d.kf one p ts d.lcw
        off (Named p) ts true = refl
        off Equality ts b = refl

    -- the same holds with the other sets in normal form
    pub holds-tidied : (l : Literal) → holds s (tidied d) l ≡ holds s d l
    unfolding holds tidied
    holds-tidied l = λ i. is_plain s d.kf l || off l.relation l.arguments l.positive i
      where
        off : (r : Relation) (ts : List Term) (b : Bool) → is_closed_off s (tidied d) r ts b ≡ is_closed_off s d r ts b
        off (Named p) ts false =
            any_set_of entry_cmp entry_cmp_tells (is_shut_out s d.kf p ts) (map (normal_entry d.kf) d.lcw)
            ∙ any_alike (is_shut_out s d.kf p ts) (is_shut_out s d.kf p ts) (normal_entry d.kf) (shut_out-normal d.kf one p ts) d.lcw
        off (Named p) ts true = refl
        off Equality ts b = refl

-- ---- the members of a group in another order

-- one member and the others, in two lists: the same member, and the same others
pub record SameOthers (q r : Literal × List Literal) : Type 0 where
  pub member : q.0 ≡ r.0
  pub into : Within q.1 r.1
  pub back : Within r.1 q.1

one_later : {X : Type 0} (x : X) (xs ys : List X) → Within xs ys → Within (x ∷ xs) (x ∷ ys)
one_later x xs ys w y = ⊎_elim (λ e. inl e) (λ i. inr (w y i))

two_turned : {X : Type 0} (x y : X) (xs : List X) → Within (x ∷ y ∷ xs) (y ∷ x ∷ xs)
two_turned x y xs z (inl e) = inr (inl e)
two_turned x y xs z (inr (inl e)) = inl e
two_turned x y xs z (inr (inr i)) = inr (inr i)

within_through : {X : Type 0} (xs ys zs : List X) → Within xs ys → Within ys zs → Within xs zs
within_through xs ys zs f g x i = g x (f x i)

same_itself : (q : Literal × List Literal) → SameOthers q q
same_itself q = record { member = refl; into = λ x i. i; back = λ x i. i }

same_through : (q r t : Literal × List Literal) → SameOthers q r → SameOthers r t → SameOthers q t
same_through q r t a b = record { member = a.member ∙ b.member; into = within_through q.1 r.1 t.1 a.into b.into; back = within_through t.1 r.1 q.1 b.back a.back }

-- each member of the first has its like in the second
abbrev Likes : List Literal → List Literal → Type 0
Likes xs ys = Within xs ys × Within ys xs × ((q : Literal × List Literal) → IsIn q (with_others xs) → (r : Literal × List Literal) × IsIn r (with_others ys) × SameOthers q r)

likes_itself : (xs : List Literal) → Likes xs xs
likes_itself xs = (λ x i. i, λ x i. i, λ q i. (q, i, same_itself q))

likes_through : (xs ys zs : List Literal) → Likes xs ys → Likes ys zs → Likes xs zs
likes_through xs ys zs a b = (
  within_through xs ys zs a.0 b.0,
  within_through zs ys xs b.1 a.1,
  λ q i. let r = a.2 q i in let t = b.2 r.0 r.1 in (t.0, t.1, same_through q r.0 t.0 r.2 t.2),
)

-- with one more in front of both
likes_later : (l : Literal) (xs ys : List Literal) → Likes xs ys → Likes (l ∷ xs) (l ∷ ys)
likes_later l xs ys a = (
  one_later l xs ys a.0,
  one_later l ys xs a.1,
  λ q i.
      ⊎_elim
      (λ e. ((l, ys), inl refl, record { member = ap (λ (x : Literal × List Literal). x.0) (sym e); into = subst (λ (x : Literal × List Literal). Within x.1 ys) e a.0; back = subst (λ (x : Literal × List Literal). Within ys x.1) e a.1 }))
      (λ j.
      let r = in_mapped (λ (p : Literal × List Literal). let x : Literal × List Literal = (p.0, l ∷ p.1) in x) (with_others xs) q j in
      let t = a.2 r.0 r.1 in (
        (t.0.0, l ∷ t.0.1),
        inr (in_map (λ (p : Literal × List Literal). let x : Literal × List Literal = (p.0, l ∷ p.1) in x) (with_others ys) t.0 t.1),
        subst (λ (x : Literal × List Literal). SameOthers x (t.0.0, l ∷ t.0.1)) r.2 (record { member = t.2.member; into = one_later l r.0.1 t.0.1 t.2.into; back = one_later l t.0.1 r.0.1 t.2.back }),
      ))
      i,
)

-- the first two turned round
likes_turned : (l m : Literal) (xs : List Literal) → Likes (l ∷ m ∷ xs) (m ∷ l ∷ xs)
likes_turned l m xs = (two_turned l m xs, two_turned m l xs, like)
  where
    like : (q : Literal × List Literal) → IsIn q (with_others (l ∷ m ∷ xs)) → (r : Literal × List Literal) × IsIn r (with_others (m ∷ l ∷ xs)) × SameOthers q r
    like q (inl e) = ((l, m ∷ xs), inr (inl refl), subst (λ (x : Literal × List Literal). SameOthers x (l, m ∷ xs)) e (same_itself (l, m ∷ xs)))
    like q (inr (inl e)) = ((m, l ∷ xs), inl refl, subst (λ (x : Literal × List Literal). SameOthers x (m, l ∷ xs)) e (same_itself (m, l ∷ xs)))
    like q (inr (inr i)) =
        let first : Literal → Literal × List Literal → Literal × List Literal = λ l p. (p.0, l ∷ p.1) in
        let a = in_mapped (first l) (map (first m) (with_others xs)) q i in
        let b = in_mapped (first m) (with_others xs) a.0 a.1 in
        let here : Literal × List Literal = (b.0.0, m ∷ l ∷ b.0.1) in (
          here,
          inr (inr (in_map (first m) (map (first l) (with_others xs)) (b.0.0, l ∷ b.0.1) (in_map (first l) (with_others xs) b.0 b.1))),
          subst (λ (x : Literal × List Literal). SameOthers x here) a.2 (subst (λ (x : Literal × List Literal). SameOthers (x.0, l ∷ x.1) here) b.2 (record { member = refl; into = two_turned l m b.0.1; back = two_turned m l b.0.1 })),
        )

likes_put : (l : Literal) (ms : List Literal) → Likes (put_in l ms) (l ∷ ms)
likes_put l [] = likes_itself (l ∷ [])
likes_put l (m ∷ ms) =
    elim (literal_cmp l m) as (λ o. Likes (elim o [ Less ↦ l ∷ m ∷ ms | Equal ↦ l ∷ m ∷ ms | Greater ↦ m ∷ put_in l ms ]) (l ∷ m ∷ ms)) [
      | Less ↦ likes_itself (l ∷ m ∷ ms)
      | Equal ↦ likes_itself (l ∷ m ∷ ms)
      | Greater ↦ likes_through (m ∷ put_in l ms) (m ∷ l ∷ ms) (l ∷ m ∷ ms) (likes_later m (put_in l ms) (l ∷ ms) (likes_put l ms)) (likes_turned m l ms)
    ]

likes_moved : (ls ms : List Literal) (l : Literal) → Likes (ls ++ l ∷ ms) (l ∷ (ls ++ ms))
likes_moved [] ms l = likes_itself (l ∷ ms)
likes_moved (k ∷ ls) ms l = likes_through (k ∷ (ls ++ l ∷ ms)) (k ∷ l ∷ (ls ++ ms)) (l ∷ k ∷ (ls ++ ms)) (likes_later k (ls ++ l ∷ ms) (l ∷ (ls ++ ms)) (likes_moved ls ms l)) (likes_turned k l (ls ++ ms))

likes_after : (ls xs ys : List Literal) → Likes xs ys → Likes (ls ++ xs) (ls ++ ys)
likes_after [] xs ys a = a
likes_after (k ∷ ls) xs ys a = likes_later k (ls ++ xs) (ls ++ ys) (likes_after ls xs ys a)

likes_all_put : (ls ms : List Literal) → Likes (all_put_in ms ls) (ls ++ ms)
likes_all_put [] ms = likes_itself ms
likes_all_put (l ∷ ls) ms =
    likes_through (all_put_in (put_in l ms) ls) (ls ++ put_in l ms) (l ∷ (ls ++ ms)) (likes_all_put ls (put_in l ms))
    (likes_through (ls ++ put_in l ms) (ls ++ l ∷ ms) (l ∷ (ls ++ ms)) (likes_after ls (put_in l ms) (l ∷ ms) (likes_put l ms)) (likes_moved ls ms l))

likes_in_sequence : (ls : List Literal) → Likes (in_sequence ls) ls
likes_in_sequence ls = subst (Likes (in_sequence ls)) (append-nil ls) (likes_all_put ls [])

others_mapped : (f : Literal → Literal) (xs : List Literal) (q : Literal × List Literal) → IsIn q (with_others (map f xs)) → (r : Literal × List Literal) × IsIn r (with_others xs) × ◌≡◌ {A = Literal × List Literal} (f r.0, map f r.1) q
others_mapped f [] q i = absurd i
others_mapped f (x ∷ xs) q (inl e) = ((x, xs), inl refl, e)
others_mapped f (x ∷ xs) q (inr i) =
    let a = in_mapped (λ (p : Literal × List Literal). let z : Literal × List Literal = (p.0, f x ∷ p.1) in z) (with_others (map f xs)) q i in
    let b = others_mapped f xs a.0 a.1 in (
      (b.0.0, x ∷ b.0.1),
      inr (in_map (λ (p : Literal × List Literal). let z : Literal × List Literal = (p.0, x ∷ p.1) in z) (with_others xs) b.0 b.1),
      ap (λ (p : Literal × List Literal). let z : Literal × List Literal = (p.0, f x ∷ p.1) in z) b.2 ∙ a.2,
    )

-- ---- closed databases

find_alike : {X : Type 0} (p q : X → Bool) → ((x : X) → p x ≡ q x) → (xs : List X) → find p xs ≡ find q xs
find_alike p q h [] = refl
find_alike p q h (x ∷ xs) = λ i. cond (h x i) (Some x) (find_alike p q h xs i)

filter_alike : {X : Type 0} (p q : X → Bool) → ((x : X) → p x ≡ q x) → (xs : List X) → filter p xs ≡ filter q xs
filter_alike p q h [] = refl
filter_alike p q h (x ∷ xs) = λ i. cond (h x i) (x ∷ filter_alike p q h xs i) (filter_alike p q h xs i)

all_pointwise : {X : Type 0} (p q : X → Bool) → ((x : X) → p x ≡ q x) → (xs : List X) → list_all p xs ≡ list_all q xs
all_pointwise p q h [] = refl
all_pointwise p q h (x ∷ xs) = λ i. h x i && all_pointwise p q h xs i

all_within : {X : Type 0} (p : X → Bool) (xs ys : List X) → Within xs ys → list_all p ys ≡ true → list_all p xs ≡ true
all_within p [] ys w h = refl
all_within {X} p (x ∷ xs) ys w h = and_from (p x) (list_all p xs) (of ys (w x (inl refl)) h) (all_within p xs ys (λ z i. w z (inr i)) h)
  where
    of : (ys : List X) → IsIn x ys → list_all p ys ≡ true → p x ≡ true
    of [] i k = absurd i
    of (y ∷ ys) (inl e) k = ap p (sym e) ∙ (and_parts (p y) (list_all p ys) k).0
    of (y ∷ ys) (inr i) k = of ys i (and_parts (p y) (list_all p ys) k).1

-- what is in a list that is there under a test
in_cond : {X : Type 0} (b : Bool) (xs : List X) (x : X) → IsIn x (cond b xs []) → (b ≡ true) × IsIn x xs
in_cond true xs x i = (refl, i)
in_cond false xs x i = absurd i

into_cond : {X : Type 0} (b : Bool) (xs : List X) (x : X) → b ≡ true → IsIn x xs → IsIn x (cond b xs [])
into_cond b xs x e i = subst (λ c. IsIn x (cond c xs [])) (sym e) i

module _ (s : Signature) (end : Five) (one : (f : ℕ) (ds : List ℕ) (e e' : ℕ) → IsIn e (values_at end.kf f ds) → IsIn e' (values_at end.kf f ds) → e ≡ e') (saturated : IsSaturated s end) (member_normal : (l : Literal) → IsIn l end.kf → IsIn (normal_literal end.kf l) end.kf) where
  abbrev after : Five
  after = tidied end

  abbrev norm : Literal → Literal
  norm = normal_literal end.kf

  -- a normal form holds after tidying where the literal held before
  holds_both : (l : Literal) → holds s after (norm l) ≡ holds s end l
  holds_both l = holds-tidied s end one (norm l) ∙ holds-normal s end one l

  negated_normal : (l : Literal) → negated (norm l) ≡ norm (negated l)
  unfolding normal_literal literal
  negated_normal l = refl

  denied_both : (l : Literal) → holds s after (negated (norm l)) ≡ holds s end (negated l)
  denied_both l = ap (holds s after) (negated_normal l) ∙ holds_both (negated l)

  group_in : (g : List Literal) → IsIn g end.kx → (l : Literal) → IsIn l (by_group s end g) → IsIn l end.kf
  unfolding additions
  group_in g i l j = saturated l (in_right (flat_map (by_value end.kf) end.kf) _ l (in_left (flat_map (by_group s end) end.kx) _ l (in_flat (by_group s end) end.kx g l i j)))

  member_in : (g : List Literal) → IsIn g end.kx → (q : Literal × List Literal) → IsIn q (with_others (normal_group end.kf g)) → (l : Literal) → IsIn l (by_member s after q) → IsIn l end.kf
  unfolding by_group
  member_in g i q j l k =
      let a = (likes_in_sequence (map norm g)).2 q j in
      let b = others_mapped norm g a.0 a.1 in
      let y = b.0.0 in
      let rest = b.0.1 in
      let first : norm y ≡ q.0 = ap (λ (p : Literal × List Literal). p.0) b.2 ∙ sym a.2.member in
      let others : map norm rest ≡ a.0.1 = ap (λ (p : Literal × List Literal). p.1) b.2 in
      let given : (x : Literal) → IsIn x (by_member s end b.0) → IsIn x end.kf = λ x u. group_in g i x (in_flat (by_member s end) (with_others g) b.0 x b.1 u) in
      ⊎_elim
      (λ u.
      let c = in_cond (list_all (λ m. holds s after (negated m)) q.1) (q.0 ∷ []) l u in
      let all : list_all (λ m. holds s end (negated m)) rest ≡ true =
      sym (all_alike (λ m. holds s after (negated m)) (λ m. holds s end (negated m)) norm denied_both rest) ∙ ap (list_all (λ m. holds s after (negated m))) others ∙ all_within (λ m. holds s after (negated m)) a.0.1 q.1 a.2.back c.0 in
      let there : IsIn y end.kf = given y (in_left (cond (list_all (λ m. holds s end (negated m)) rest) (y ∷ []) []) (cond (holds s end y) (map negated rest) []) y (into_cond (list_all (λ m. holds s end (negated m)) rest) (y ∷ []) y all (inl refl))) in
      subst (λ x. IsIn x end.kf) (first ∙ only q.0 l c.1) (member_normal y there))
      (λ u.
      let c = in_cond (holds s after q.0) (map negated q.1) l u in
      let m = in_mapped negated q.1 l c.1 in
      let n = in_mapped norm rest m.0 (subst (IsIn m.0) (sym others) (a.2.into m.0 m.1)) in
      let holds_y : holds s end y ≡ true = sym (holds_both y) ∙ ap (holds s after) first ∙ c.0 in
      let there : IsIn (negated n.0) end.kf =
      given (negated n.0) (in_right (cond (list_all (λ m. holds s end (negated m)) rest) (y ∷ []) []) (cond (holds s end y) (map negated rest) []) (negated n.0) (into_cond (holds s end y) (map negated rest) (negated n.0) holds_y (in_map negated rest n.0 n.1))) in
      subst (λ x. IsIn x end.kf) (sym (negated_normal n.0) ∙ ap negated n.2 ∙ m.2) (member_normal (negated n.0) there))
      (in_appended (cond (list_all (λ m. holds s after (negated m)) q.1) (q.0 ∷ []) []) (cond (holds s after q.0) (map negated q.1) []) l k)
    where
      only : (x l : Literal) → IsIn l (x ∷ []) → x ≡ l
      only x l (inl e) = e
      only x l (inr i) = absurd i

  range_same : (t : Term) → by_range s after t ≡ by_range s end t
  unfolding by_range
  range_same t =
      ap (map (λ e. equation t (object e)))
      (filter_alike (is_last_left s after t (range_of s t)) (is_last_left s end t (range_of s t))
      (λ e. all_pointwise (λ o. (o == e) || holds s after (inequation t (object o))) (λ o. (o == e) || holds s end (inequation t (object o))) (λ o. ap (λ b. (o == e) || b) (holds-tidied s end one (inequation t (object o)))) (range_of s t)) (range_of s t))

  -- the rules add nothing
  after_saturated : IsSaturated s after
  unfolding additions by_group tidied
  after_saturated l i =
      ⊎_elim
      (λ j. saturated l (in_left (flat_map (by_value end.kf) end.kf) _ l j))
      (λ j. ⊎_elim
      (λ k.
      let a = in_flat_mapped (λ g. flat_map (by_member s after) (with_others g)) (set_of conj_cmp (map (normal_group end.kf) end.kx)) l k in
      let b = in_mapped (normal_group end.kf) end.kx a.0 (in_set_of conj_cmp_total conj_cmp_tells (map (normal_group end.kf) end.kx) a.0 a.1) in
      let c = in_flat_mapped (by_member s after) (with_others a.0) l a.2 in
      member_in b.0 b.1 c.0 (subst (λ g. IsIn c.0 (with_others g)) (sym b.2) c.1) l c.2)
      (λ k.
      let a = in_flat_mapped (λ l. flat_map (by_range s after) (flat_map applications_in l.arguments)) end.kf l k in
      let b = in_flat_mapped (by_range s after) (flat_map applications_in a.0.arguments) l a.2 in
      saturated l (in_right (flat_map (by_value end.kf) end.kf) _ l (in_right (flat_map (λ g. flat_map (by_member s end) (with_others g)) end.kx) _ l
      (in_flat (λ l. flat_map (by_range s end) (flat_map applications_in l.arguments)) end.kf a.0 l a.1 (in_flat (by_range s end) (flat_map applications_in a.0.arguments) b.0 l b.1 (subst (IsIn l) (range_same b.0) b.2))))))
      (in_appended (flat_map (λ g. flat_map (by_member s after) (with_others g)) (set_of conj_cmp (map (normal_group end.kf) end.kx))) _ l j))
      (in_appended (flat_map (by_value end.kf) end.kf) _ l i)

module _ (s : Signature) (inhabited : HasValues s) (d : Five) (closed : IsClosed s d) where
  abbrev last : Five
  last = rounds s closed.closes.count closed.from

  at_end : (d ≡ tidied last) × (first_clash s last ≡ None) × IsSaturated s last
  at_end = let e = end_of s closed.from d closed.closes in (e.1, e.0, saturated_end s last closed.closes.last)

  one_at_last : (f : ℕ) (ds : List ℕ) (e e' : ℕ) → IsIn e (values_at last.kf f ds) → IsIn e' (values_at last.kf f ds) → e ≡ e'
  one_at_last = one_value s last inhabited at_end.2 at_end.1

  -- closed databases don't clash
  pub closed_fine : first_clash s d ≡ None
  unfolding first_clash tidied
  closed_fine =
      ap (λ (x : Five). find (λ l. holds s x (negated l)) x.kf) at_end.0
      ∙ find_alike (λ l. holds s (tidied last) (negated l)) (λ l. holds s last (negated l)) (λ l. holds-tidied s last one_at_last (negated l)) last.kf ∙ at_end.1

  -- the rules add nothing to them
  pub closed_saturated : Each IsInOrder d.kf → IsSaturated s d
  unfolding tidied
  closed_saturated ordered =
      let there : Each IsInOrder last.kf = subst (λ (x : Five). Each IsInOrder x.kf) at_end.0 ordered in
      subst (IsSaturated s) (sym at_end.0)
      (after_saturated s last one_at_last at_end.2
      (λ l i. normal_in last.kf (addition_in s last inhabited at_end.2 at_end.1) l (each_in IsInOrder last.kf l there i) i))

  pub closed_holds : (l : Literal) → holds s d (normal_literal d.kf l) ≡ holds s d l
  closed_holds = holds-normal s d (closed_one_value s inhabited d closed)
