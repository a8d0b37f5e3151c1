-- The list of an initial region: what the items say of its predicate.
use Rattle.std.proofs.Common.{◌≡◌, ◌&&◌, ◌||◌, ◌==◌, ℕ, Bool, true, false, not, cond, List, [], ◌∷◌, map, Some, None, refl, sym, ap, ◌∙◌, subst, inl, inr}
use Rattle.std.specs.List.{list_any, list_all, filter_map}
use Rattle.std.specs.Option.{option_map_or, option_and_then}
use Rattle.std.specs.declared.cmp.Ordering.{Ordering}
use Rattle.std.specs.declared.cmp.Ordering.TheVariants.{Less}
use Rattle.std.specs.Ordering.{on, is_eq}
use Rattle.std.specs.Cmp.Lexicographic.{slice_cmp}
use Rattle.std.specs.FinMap.{slice_cmp-IsAntisymmetric}
use Rattle.std.proofs.lemmas.Bool.{and_parts, and_from, or_left, or_right, eqb-true, eq-eqb}
use Rattle.std.specs.Cmp.{Equal-is}
use Rattle.std.proofs.lemmas.Cmp.{tied_itself, lists_total}
use Rattle.std.proofs.lemmas.Option.{none-some, same_Some, option_and_then_some}
use Rattle.pks_terms.specs.Sets.{IsIn, IsOrdered, set_of}
use Rattle.pks_terms.specs.Syntax.{Relation, Named, Equality, Literal, Atom, Pattern}
use Rattle.pks_terms.specs.Orders.{literal_cmp, atom_cmp, pattern_cmp}
use Rattle.pks_terms.specs.Totality.{literal_cmp_total, atom_cmp_total}
use Rattle.pks_terms.specs.Databases.{Entry, entry_cmp}
use Rattle.pks_terms.specs.Problems.{Start, Problem, initial, initial_entry, known_start, atom_on}
use Rattle.pks_terms.specs.Reasons.{is_listed}
use Rattle.pks_terms.proofs.ListLaws.{each_map, found_in}
use Rattle.pks_terms.proofs.OrderLaws.{literal_cmp_tells, atom_cmp_tells}
use Rattle.pks_terms.proofs.SetLaws.{ordered_set_of, in_set_of, set_of_in, same_members}
use Rattle.pks_terms.proofs.Types.{both_ways}
use Rattle.pks_laws.proofs.Least.{in_filter_mapped, in_filter_map}
use Rattle.pks_proof_cited.specs.Givens.{positive_atom, atom_said, says, is_said, is_taken}
use Rattle.pks_proof_cited.proofs.Exchanging.{eq_then}
use Rattle.pks_proof_lines.proofs.Within.{with_nth}

same_atom : (a b : Atom) → is_eq (atom_cmp a b) ≡ true → a ≡ b
same_atom a b h = atom_cmp_tells a b ((Equal-is (atom_cmp a b)).0 h)

itself : (a : Atom) → is_eq (atom_cmp a a) ≡ true
itself a = ap is_eq (tied_itself atom_cmp_total a)

any_in : {X : Type 0} (p : X → Bool) (xs : List X) (x : X) → IsIn x xs → p x ≡ true → list_any p xs ≡ true
any_in p [] x i h = absurd i
any_in p (y ∷ ys) x (inl e) h = or_left (p y) _ (ap p e ∙ h)
any_in p (y ∷ ys) x (inr i) h = or_right (p y) _ (any_in p ys x i h)

all_in : {X : Type 0} (p : X → Bool) (xs : List X) → ((x : X) → IsIn x xs → p x ≡ true) → list_all p xs ≡ true
all_in p [] h = refl
all_in p (x ∷ xs) h = and_from (p x) (list_all p xs) (h x (inl refl)) (all_in p xs (λ y i. h y (inr i)))

in_all : {X : Type 0} (p : X → Bool) (xs : List X) → list_all p xs ≡ true → (x : X) → IsIn x xs → p x ≡ true
in_all p (y ∷ ys) h x (inl e) = ap p (sym e) ∙ (and_parts (p y) _ h).0
in_all p (y ∷ ys) h x (inr i) = in_all p ys (and_parts (p y) _ h).1 x i
in_all p [] h x i = absurd i

listed_in : (bs : List Atom) (a : Atom) → is_listed bs a ≡ true → IsIn a bs
listed_in bs a h = let x = found_in (λ b. is_eq (atom_cmp b a)) bs h in subst (λ z. IsIn z bs) (same_atom x.0 a x.2) x.1

in_listed : (bs : List Atom) (a : Atom) → IsIn a bs → is_listed bs a ≡ true
in_listed bs a i = any_in (λ b. is_eq (atom_cmp b a)) bs a i (itself a)

module _ (q : ℕ) where
  -- the atom of a literal, and that the predicate is the one that is asked for
  on_positive : (l : Literal) (a : Atom) → a.predicate ≡ q → positive_atom l ≡ Some a → atom_on q l ≡ Some a
  on_positive l a p =
      elim l.relation as (λ (r : Relation). elim r [ Named k ↦ cond l.positive (Some (record { predicate = k; arguments = l.arguments })) None | Equality ↦ None ] ≡ Some a → elim r [ Named k ↦ cond ((k == q) && l.positive) (Some (record { predicate = k; arguments = l.arguments })) None | Equality ↦ None ] ≡ Some a) [
        | Named k ↦ λ e. by_sign k l.positive e
        | Equality ↦ λ e. e
      ]
    where
      by_sign : (k : ℕ) (b : Bool) → cond b (Some (record { predicate = k; arguments = l.arguments })) None ≡ Some a → cond ((k == q) && b) (Some (record { predicate = k; arguments = l.arguments })) None ≡ Some a
      by_sign k true e = let same : k ≡ q = ap (λ (z : Atom). z.predicate) (same_Some _ a e) ∙ p in ap (λ b. cond (b && true) (Some (record { predicate = k; arguments = l.arguments })) None) (eq-eqb k q same) ∙ e
      by_sign k false e = absurd (none-some a e)

  positive_on : (l : Literal) (a : Atom) → atom_on q l ≡ Some a → (positive_atom l ≡ Some a) × (a.predicate ≡ q)
  positive_on l a =
      elim l.relation as (λ (r : Relation). elim r [ Named k ↦ cond ((k == q) && l.positive) (Some (record { predicate = k; arguments = l.arguments })) None | Equality ↦ None ] ≡ Some a → (elim r [ Named k ↦ cond l.positive (Some (record { predicate = k; arguments = l.arguments })) None | Equality ↦ None ] ≡ Some a) × (a.predicate ≡ q)) [
        | Named k ↦ λ e. by_both k (k == q) l.positive refl e
        | Equality ↦ λ e. absurd (none-some a e)
      ]
    where
      by_both : (k : ℕ) (c b : Bool) → (k == q) ≡ c → cond (c && b) (Some (record { predicate = k; arguments = l.arguments })) None ≡ Some a → (cond b (Some (record { predicate = k; arguments = l.arguments })) None ≡ Some a) × (a.predicate ≡ q)
      by_both k true true s e = (e, sym (ap (λ (z : Atom). z.predicate) (same_Some _ a e)) ∙ eqb-true k q s)
      by_both k true false s e = absurd (none-some a e)
      by_both k false b s e = absurd (none-some a e)

  module _ (xs : List Start) where
    abbrev kf : List Literal
    kf = set_of literal_cmp (filter_map known_start xs)

    abbrev listed : List Atom
    listed = set_of atom_cmp (filter_map (atom_on q) kf)

    -- what an item says of the predicate is in the list
    item_in : (x : Start) (a : Atom) → IsIn x xs → atom_said x ≡ Some a → a.predicate ≡ q → IsIn a listed
    item_in x a i e p =
        option_and_then_some positive_atom (known_start x) a e (λ l k f.
        set_of_in atom_cmp_total atom_cmp_tells (filter_map (atom_on q) kf) a
        (in_filter_map (atom_on q) kf l a (set_of_in literal_cmp_total literal_cmp_tells (filter_map known_start xs) l (in_filter_map known_start xs x l i k)) (on_positive l a p f)))

    -- and what is in the list an item says of the predicate
    in_item : (a : Atom) → IsIn a listed → (a.predicate ≡ q) × ((x : Start) × IsIn x xs × (atom_said x ≡ Some a))
    in_item a i =
        let l = in_filter_mapped (atom_on q) kf a (in_set_of atom_cmp_total atom_cmp_tells (filter_map (atom_on q) kf) a i) in
        let p = positive_on l.0 a l.2 in
        let x = in_filter_mapped known_start xs l.0 (in_set_of literal_cmp_total literal_cmp_tells (filter_map known_start xs) l.0 l.1) in
        (p.1, (x.0, x.1, ap (λ o. option_and_then positive_atom o) x.2 ∙ p.0))

    said_in : (a : Atom) → a.predicate ≡ q → is_said xs a ≡ true → IsIn a listed
    said_in a p h =
        let x = found_in (λ x. says x a) xs h in
        let b = with_nth (λ b. is_eq (atom_cmp b a)) (atom_said x.0) x.2 in
        item_in x.0 a x.1 (b.1 ∙ ap Some (same_atom b.0 a b.2)) p

    in_said : (a : Atom) → IsIn a listed → is_said xs a ≡ true
    in_said a i =
        let x = (in_item a i).1 in
        any_in (λ x. says x a) xs x.0 x.1 (ap (λ o. option_map_or (λ b. is_eq (atom_cmp b a)) o false) x.2 ∙ itself a)

    taken_has : (bs : List Atom) (x : Start) (a : Atom) → atom_said x ≡ Some a → a.predicate ≡ q → is_taken q bs x ≡ true → is_listed bs a ≡ true
    taken_has bs x a e p h =
        let k : (not (a.predicate == q) || is_listed bs a) ≡ true = sym (ap (λ o. option_map_or (λ (a : Atom). not (a.predicate == q) || is_listed bs a) o true) e) ∙ h in
        let f : (not true || is_listed bs a) ≡ true = ap (λ b. not b || is_listed bs a) (sym (eq-eqb a.predicate q p)) ∙ k in
        f

    taken_from : (bs : List Atom) (x : Start) → ((a : Atom) → atom_said x ≡ Some a → a.predicate ≡ q → is_listed bs a ≡ true) → is_taken q bs x ≡ true
    taken_from bs x h =
        elim (atom_said x) as (λ o. atom_said x ≡ o → option_map_or (λ (a : Atom). not (a.predicate == q) || is_listed bs a) o true ≡ true) [
          | None ↦ λ e. refl
          | Some a ↦ λ e. elim (a.predicate == q) as (λ b. (a.predicate == q) ≡ b → (not b || is_listed bs a) ≡ true) [ true ↦ λ s. h a e (eqb-true a.predicate q s) | false ↦ λ s. refl ] refl
        ] refl

    -- the list has exactly what the items say of the predicate
    is_list : (bs : List Atom) → IsOrdered atom_cmp bs → is_eq (slice_cmp atom_cmp listed bs) ≡ (list_all (λ a. (a.predicate == q) && is_said xs a) bs && list_all (is_taken q bs) xs)
    is_list bs ordered =
        both_ways (is_eq (slice_cmp atom_cmp listed bs)) (list_all (λ a. (a.predicate == q) && is_said xs a) bs && list_all (is_taken q bs) xs)
        (λ h. let same : listed ≡ bs = slice_cmp-IsAntisymmetric atom_cmp_tells listed bs ((Equal-is (slice_cmp atom_cmp listed bs)).0 h) in
        and_from (list_all (λ a. (a.predicate == q) && is_said xs a) bs) (list_all (is_taken q bs) xs)
        (all_in (λ a. (a.predicate == q) && is_said xs a) bs (λ a i. let j = subst (λ zs. IsIn a zs) (sym same) i in and_from (a.predicate == q) (is_said xs a) (eq-eqb a.predicate q (in_item a j).0) (in_said a j)))
        (all_in (is_taken q bs) xs (λ x i. taken_from bs x (λ a e p. in_listed bs a (subst (λ zs. IsIn a zs) same (item_in x a i e p))))))
        (λ h. let c = and_parts (list_all (λ a. (a.predicate == q) && is_said xs a) bs) _ h in
        let same : listed ≡ bs =
        same_members atom_cmp_total atom_cmp_tells listed bs (ordered_set_of atom_cmp_total atom_cmp_tells (filter_map (atom_on q) kf)) ordered
        (λ a i. let x = in_item a i in listed_in bs a (taken_has bs x.1.0 a x.1.2 x.0 (in_all (is_taken q bs) xs c.1 x.1.0 x.1.1)))
        (λ a i. let r = and_parts (a.predicate == q) _ (in_all (λ a. (a.predicate == q) && is_said xs a) bs c.0 a i) in said_in a (eqb-true a.predicate q r.0) r.1) in
        ap (λ zs. is_eq (slice_cmp atom_cmp zs bs)) same ∙ ap is_eq (tied_itself (lists_total atom_cmp_total) bs))

-- a region with the pattern of an initial item, and what the items say of its predicate as its list
pub initial_list : (p : Problem) (x : Pattern) (e : Entry) → IsOrdered atom_cmp e.listed
    → is_eq (entry_cmp (initial_entry (initial p).kf x) e) ≡ (is_eq (pattern_cmp x e.pattern) && (list_all (λ a. (a.predicate == x.predicate) && is_said p.init a) e.listed && list_all (is_taken x.predicate e.listed) p.init))
unfolding initial
initial_list p x e ordered = eq_then (pattern_cmp x e.pattern) (slice_cmp atom_cmp (initial_entry (initial p).kf x).listed e.listed) ∙ ap (λ b. is_eq (pattern_cmp x e.pattern) && b) (is_list x.predicate p.init e.listed ordered)

-- of three tests in a row, where the first two are passed, and where the second isn't
pub third_of : (a b c x A B C : Bool) → x ≡ (A && (B && C)) → a ≡ A → a ≡ true → b ≡ B → b ≡ true → c ≡ C → c ≡ x
third_of a b c x A B C e f g h k l = l ∙ ap (λ z. z && C) (sym k ∙ h) ∙ ap (λ z. z && (B && C)) (sym g ∙ f) ∙ sym e

pub second_of : (a b x A B C : Bool) → x ≡ (A && (B && C)) → a ≡ A → a ≡ true → b ≡ B → b ≡ false → b ≡ x
second_of a b x A B C e f g h k = k ∙ ap (λ z. z && C) (sym k ∙ h) ∙ ap (λ z. z && (B && C)) (sym g ∙ f) ∙ sym e

-- what is in order by what it says is in order as said
pub ordered_viewed : {X Y : Type 0} (v : X → Y) (R : Y → Y → Ordering) (xs : List X) → IsOrdered (on v R) xs → IsOrdered R (map v xs)
ordered_viewed v R [] h = tt
ordered_viewed v R (x ∷ xs) h = (each_map (λ y. R (v x) y ≡ Less) v xs h.0, ordered_viewed v R xs h.1)
