-- Words on lists and tests.
use Rattle.std.proofs.Common.{◌≡◌, ◌⊎◌, ◌||◌, Bool, true, false, not, cond, find, List, [], ◌∷◌, map, Some, None, refl, sym, ap, ◌∙◌, subst, inl, inr, ⊎_elim}
use Rattle.std.specs.List.{list_any}
use Rattle.std.proofs.lemmas.Bool.{false_from_ne_true, not-true}
use Rattle.pks_terms.specs.Sets.{Each, IsIn, one_replaced, with_others}
use Rattle.pks_terms.specs.Syntax.{Literal, negated}
use Rattle.pks_terms.proofs.ListLaws.{found_in, any_in, in_appended, in_map, in_mapped}
use Rattle.pks_laws.proofs.Least.{in_left, in_right}
use Rattle.pks_laws_forget.specs.Looks.{are_alike}

pub not_twice : (b : Bool) → not (not b) ≡ b
not_twice true = refl
not_twice false = refl

pub negated_twice : (l : Literal) → negated (negated l) ≡ l
negated_twice l = λ i. record l { positive = not_twice l.positive i }

-- what is in a list that is there under a test
pub in_cond : {X : Type 0} (b : Bool) (xs : List X) (x : X) → IsIn x (cond b xs []) → (b ≡ true) × IsIn x xs
in_cond true xs x i = (refl, i)
in_cond false xs x i = absurd i

pub into_cond : {X : Type 0} (b : Bool) (xs : List X) (x : X) → b ≡ true → IsIn x xs → IsIn x (cond b xs [])
into_cond b xs x e i = subst (λ c. IsIn x (cond c xs [])) (sym e) i

pub nothing_found : {X : Type 0} (p : X → Bool) (xs : List X) → ((x : X) → IsIn x xs → p x ≡ true → ⊥) → find p xs ≡ None
nothing_found p [] f = refl
nothing_found {X} p (x ∷ xs) f = ap (λ b. cond b (Some x) (find p xs)) (false_from_ne_true _ (f x (inl refl))) ∙ nothing_found p xs (λ y i. f y (inr i))

pub any_each : {X : Type 0} (p q : X → Bool) (xs : List X) → ((x : X) → IsIn x xs → p x ≡ q x) → list_any p xs ≡ list_any q xs
any_each p q [] f = refl
any_each p q (x ∷ xs) f = λ i. f x (inl refl) i || any_each p q xs (λ y j. f y (inr j)) i

pub any_more : {X : Type 0} (q r : X → Bool) (xs : List X) → ((x : X) → IsIn x xs → q x ≡ true → r x ≡ true) → list_any q xs ≡ true → list_any r xs ≡ true
any_more q r xs f h = let c = found_in q xs h in any_in r xs c.0 c.1 (f c.0 c.1 c.2)

-- an element is the one, or among the others
pub self_or_other : {X : Type 0} (fs : List X) (q : X × List X) → IsIn q (with_others fs) → (e : X) → IsIn e fs → (q.0 ≡ e) ⊎ IsIn e q.1
self_or_other [] q i e j = absurd i
self_or_other {X} (f ∷ fs) q (inl t) e (inl u) = inl (ap (λ (r : X × List X). r.0) (sym t) ∙ u)
self_or_other {X} (f ∷ fs) q (inl t) e (inr j) = inr (subst (IsIn e) (ap (λ (r : X × List X). r.1) t) j)
self_or_other {X} (f ∷ fs) q (inr i) e j =
    let o = in_mapped (λ (p : X × List X). let r : X × List X = (p.0, f ∷ p.1) in r) (with_others fs) q i in
    let head : o.0.0 ≡ q.0 = ap (λ (r : X × List X). r.0) o.2 in
    let tail : f ∷ o.0.1 ≡ q.1 = ap (λ (r : X × List X). r.1) o.2 in
    ⊎_elim (λ t. inr (subst (IsIn e) tail (inl t)))
    (λ k. ⊎_elim (λ t. inl (sym head ∙ t)) (λ r. inr (subst (IsIn e) tail (inr r))) (self_or_other fs o.0 o.1 e k)) j

-- replacing by something with the same n keeps the list of n
pub replaced_alike : {X Y : Type 0} (step : X → List X) (n : X → Y) → ((x y : X) → IsIn y (step x) → n y ≡ n x) → (xs ys : List X) → IsIn ys (one_replaced step xs) → map n ys ≡ map n xs
replaced_alike step n f [] ys i = absurd i
replaced_alike {X} {Y} step n f (x ∷ xs) ys i =
    ⊎_elim
    (λ j. let r = in_mapped (λ y. y ∷ xs) (step x) ys j in ap (map n) (sym r.2) ∙ (λ k. f x r.0 r.1 k ∷ map n xs))
    (λ j. let r = in_mapped (λ zs. x ∷ zs) (one_replaced step xs) ys j in ap (map n) (sym r.2) ∙ (λ k. n x ∷ replaced_alike step n f xs r.0 r.1 k))
    (in_appended (map (λ y. y ∷ xs) (step x)) (map (λ zs. x ∷ zs) (one_replaced step xs)) ys i)

-- what replaces by one step replaces by the other, and P stays
pub replaced_too : {X : Type 0} (P : X → Type 0) (step other : X → List X) → ((x y : X) → P x → IsIn y (step x) → IsIn y (other x) × P y) → (xs ys : List X) → Each P xs → IsIn ys (one_replaced step xs) → IsIn ys (one_replaced other xs) × Each P ys
replaced_too P step other f [] ys a i = absurd i
replaced_too {X} P step other f (x ∷ xs) ys a i =
    ⊎_elim
    (λ j.
    let r = in_mapped (λ y. y ∷ xs) (step x) ys j in
    let q = f x r.0 a.0 r.1 in
    (in_left (map (λ y. y ∷ xs) (other x)) (map (λ zs. x ∷ zs) (one_replaced other xs)) ys (subst (λ zs. IsIn zs (map (λ y. y ∷ xs) (other x))) r.2 (in_map (λ y. y ∷ xs) (other x) r.0 q.0)), subst (Each P) r.2 (q.1, a.1)))
    (λ j.
    let r = in_mapped (λ zs. x ∷ zs) (one_replaced step xs) ys j in
    let q = replaced_too P step other f xs r.0 a.1 r.1 in
    (in_right (map (λ y. y ∷ xs) (other x)) (map (λ zs. x ∷ zs) (one_replaced other xs)) ys (subst (λ zs. IsIn zs (map (λ zs. x ∷ zs) (one_replaced other xs))) r.2 (in_map (λ zs. x ∷ zs) (one_replaced other xs) r.0 q.0)), subst (Each P) r.2 (a.0, q.1)))
    (in_appended (map (λ y. y ∷ xs) (step x)) (map (λ zs. x ∷ zs) (one_replaced step xs)) ys i)

-- ---- tests that come to the same

pub both_ways : (a b : Bool) → (a ≡ true → b ≡ true) → (b ≡ true → a ≡ true) → a ≡ b
both_ways true b f g = sym (f refl)
both_ways false true f g = g refl
both_ways false false f g = refl

pub alike_same : (a b : Bool) → are_alike a b ≡ true → a ≡ b
alike_same true b h = sym h
alike_same false b h = sym (not-true b h)
