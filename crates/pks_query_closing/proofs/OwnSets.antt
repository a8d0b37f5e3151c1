-- A set of members that are their own normal forms is the set of these.
use Rattle.std.proofs.Common.{◌≡◌, true, cond, not, List, [], ◌∷◌, ◌++◌, map, filter, Ordering, Less, Equal, Greater, refl, sym, ap, ◌∙◌, subst, true≢false, append_assoc, append-nil}
use Rattle.std.proofs.lemmas.Bool.{and_parts}
use Rattle.std.specs.List.{list_all}
use Rattle.std.specs.Cmp.{IsTotalOrder, Equal-is}
use Rattle.std.specs.Ordering.{on, is_gt, ordering_reverse}
use Rattle.pks_terms.specs.Sets.{Each, IsOrdered, set_of}
use Rattle.pks_terms.specs.Syntax.{Object, Parameter, Apply, Term, Literal, Atom}
use Rattle.pks_terms.specs.Orders.{literal_cmp, term_eq, atom_cmp, pattern_cmp}
use Rattle.pks_terms.specs.Totality.{literal_cmp_total, atom_cmp_total}
use Rattle.pks_terms.specs.Databases.{Entry, normal, normal_literal}
use Rattle.pks_terms.specs.Closure.{is_application, put_in, all_put_in, in_sequence, normal_conj, normal_group, normal_atom, normal_pattern, normal_entry}
use Rattle.pks_terms.proofs.OrderLaws.{literal_cmp_tells, same_literal, same_term, pattern_cmp_tells}
use Rattle.pks_pmap_set.specs.Members.{rises}
use Rattle.pks_pmap_set.proofs.Mapped.{ordered-map}
use Rattle.pks_pmap_set.proofs.Rising.{added_rising, ordered_of_rises}
use Rattle.pks_query_lookup.specs.Forms.{is_normal}
use Rattle.pks_query_closing.specs.Own.{never_falls_from, never_falls, is_own_formula, is_own_group, is_own_application, is_own_pattern, is_own_term, is_own_atom}

-- the set of what a set says
pub set_stays : {X Y : Type 0} (v : X → Y) (R : Y → Y → Ordering) → IsTotalOrder R → (xs : List X) → IsOrdered (on v R) xs → (ys : List Y) → ys ≡ map v xs → map v xs ≡ set_of R ys
set_stays v R o xs h ys e = sym (ap (set_of R) e ∙ added_rising R o (map v xs) (ordered-map v R xs h))

-- the set of literals that rise
conj_stays : (ls ms : List Literal) → ms ≡ ls → rises literal_cmp ls ≡ true → set_of literal_cmp ms ≡ ls
conj_stays ls ms e h = ap (set_of literal_cmp) e ∙ added_rising literal_cmp literal_cmp_total ls (ordered_of_rises literal_cmp literal_cmp_total ls h)

-- l is not above m
abbrev NotAbove : Literal → Literal → Type 0
NotAbove l m = not (is_gt (literal_cmp l m)) ≡ true

abbrev InSequence : List Literal → Type 0
InSequence [] = Unit {0}
InSequence (l ∷ ls) = Each (NotAbove l) ls × InSequence ls

not_above_through : (l m n : Literal) → NotAbove l m → NotAbove m n → NotAbove l n
not_above_through l m n a b =
    elim (literal_cmp l m) as (λ r. literal_cmp l m ≡ r → NotAbove l n) [
      | Less ↦ λ e. elim (literal_cmp m n) as (λ r. literal_cmp m n ≡ r → NotAbove l n) [
        | Less ↦ λ k. ap (λ r. not (is_gt r)) (literal_cmp_total.trans l m n e k)
        | Equal ↦ λ k. subst (NotAbove l) (literal_cmp_tells m n k) a
        | Greater ↦ λ k. absurd (true≢false (sym (sym (ap (λ r. not (is_gt r)) k) ∙ b)))
      ] refl
      | Equal ↦ λ e. subst (λ x. NotAbove x n) (sym (literal_cmp_tells l m e)) b
      | Greater ↦ λ e. absurd (true≢false (sym (sym (ap (λ r. not (is_gt r)) e) ∙ a)))
    ] refl

not_above_all : (l m : Literal) (ns : List Literal) → NotAbove l m → Each (NotAbove m) ns → Each (NotAbove l) ns
not_above_all l m [] a each = tt
not_above_all l m (n ∷ ns) a each = (not_above_through l m n a each.0, not_above_all l m ns a each.1)

in_sequence_from : (l : Literal) (ls : List Literal) → never_falls_from l ls ≡ true → InSequence (l ∷ ls)
in_sequence_from l [] h = (tt, tt)
in_sequence_from l (m ∷ ms) h =
    let parts = and_parts (not (is_gt (literal_cmp l m))) (never_falls_from m ms) h in
    let later : InSequence (m ∷ ms) = in_sequence_from m ms parts.1 in
    ((parts.0, not_above_all l m ms parts.0 later.0), later)

in_sequence_of : (ls : List Literal) → never_falls ls ≡ true → InSequence ls
in_sequence_of [] h = tt
in_sequence_of (l ∷ ls) h = in_sequence_from l ls h

put_first : (l : Literal) (ms : List Literal) → Each (NotAbove l) ms → l ∷ ms ≡ put_in l ms
put_first l [] each = refl
put_first l (m ∷ ms) each =
    elim (literal_cmp l m) as (λ r. not (is_gt r) ≡ true → l ∷ m ∷ ms ≡ elim r as (λ _. List Literal) [ Less ↦ l ∷ m ∷ ms | Equal ↦ l ∷ m ∷ ms | Greater ↦ m ∷ put_in l ms ]) [
      | Less ↦ λ a. refl
      | Equal ↦ λ a. refl
      | Greater ↦ λ a. absurd (true≢false (sym a))
    ] each.0

last_not_below : (m : Literal) (s : List Literal) (l : Literal) (ls : List Literal) → Each (NotAbove m) (s ++ l ∷ ls) → NotAbove m l
last_not_below m [] l ls each = each.0
last_not_below m (n ∷ s) l ls each = last_not_below m s l ls each.1

front_not_below : (m : Literal) (s ls : List Literal) → Each (NotAbove m) (s ++ ls) → Each (NotAbove m) s
front_not_below m [] ls each = tt
front_not_below m (n ∷ s) ls each = (each.0, front_not_below m s ls each.1)

put_last : (s : List Literal) (l : Literal) (ls : List Literal) → InSequence (s ++ l ∷ ls) → put_in l s ≡ s ++ l ∷ []
put_last [] l ls h = refl
put_last (m ∷ s) l ls h =
    let later : put_in l s ≡ s ++ l ∷ [] = put_last s l ls h.1 in
    let below : NotAbove m l = last_not_below m s l ls h.0 in
    elim (literal_cmp l m) as (λ r. literal_cmp l m ≡ r → elim r as (λ _. List Literal) [ Less ↦ l ∷ m ∷ s | Equal ↦ l ∷ m ∷ s | Greater ↦ m ∷ put_in l s ] ≡ m ∷ (s ++ l ∷ [])) [
      | Less ↦ λ e. absurd (true≢false (sym (sym (ap (λ r. not (is_gt r)) (literal_cmp_total.antisymm m l ∙ ap ordering_reverse e)) ∙ below)))
      | Equal ↦ λ e.
          let same : l ≡ m = literal_cmp_tells l m e in
          let first : l ∷ s ≡ put_in l s = put_first l s (subst (λ x. Each (NotAbove x) s) (sym same) (front_not_below m s (l ∷ ls) h.0)) in
          (λ i. same i ∷ sym same i ∷ s) ∙ ap (λ zs. m ∷ zs) (first ∙ later)
      | Greater ↦ λ e. ap (λ zs. m ∷ zs) later
    ] refl

put_after : (s ls : List Literal) → InSequence (s ++ ls) → all_put_in s ls ≡ s ++ ls
put_after s [] h = sym (append-nil s)
put_after s (l ∷ ls) h =
    let same : (s ++ l ∷ []) ++ ls ≡ s ++ l ∷ ls = append_assoc s (l ∷ []) ls in
    ap (λ zs. all_put_in zs ls) (put_last s l ls h) ∙ put_after (s ++ l ∷ []) ls (subst InSequence (sym same) h) ∙ same

-- literals in sequence, none of which is above the next
group_stays : (ls ms : List Literal) → ms ≡ ls → never_falls ls ≡ true → in_sequence ms ≡ ls
group_stays ls ms e h = ap in_sequence e ∙ put_after [] ls (in_sequence_of ls h)

module _ (kf : List Literal) where
  own_literals : (ls : List Literal) → list_all (is_normal kf) ls ≡ true → map (normal_literal kf) ls ≡ ls
  own_literals [] h = refl
  own_literals (l ∷ ls) h =
      let parts = and_parts (is_normal kf l) (list_all (is_normal kf) ls) h in
      λ i. same_literal (normal_literal kf l) l parts.0 i ∷ own_literals ls parts.1 i

  pub own_formulas : (cs : List (List Literal)) → list_all (is_own_formula kf) cs ≡ true → map (normal_conj kf) cs ≡ cs
  own_formulas [] h = refl
  own_formulas (c ∷ cs) h =
      let parts = and_parts (is_own_formula kf c) (list_all (is_own_formula kf) cs) h in
      let own = and_parts (list_all (is_normal kf) c) (rises literal_cmp c) parts.0 in
      λ i. conj_stays c (map (normal_literal kf) c) (own_literals c own.0) own.1 i ∷ own_formulas cs parts.1 i

  pub own_groups : (gs : List (List Literal)) → list_all (is_own_group kf) gs ≡ true → map (normal_group kf) gs ≡ gs
  own_groups [] h = refl
  own_groups (g ∷ gs) h =
      let parts = and_parts (is_own_group kf g) (list_all (is_own_group kf) gs) h in
      let own = and_parts (list_all (is_normal kf) g) (never_falls g) parts.0 in
      λ i. group_stays g (map (normal_literal kf) g) (own_literals g own.0) own.1 i ∷ own_groups gs parts.1 i

  pub own_values : (ts : List Term) → list_all (is_own_application kf) ts ≡ true → filter is_application (map (normal kf) ts) ≡ ts
  own_values [] h = refl
  own_values (t ∷ ts) h =
      let parts = and_parts (is_own_application kf t) (list_all (is_own_application kf) ts) h in
      let own = and_parts (is_application t) (term_eq (normal kf t) t) parts.0 in
      ap (λ u. filter is_application (u ∷ map (normal kf) ts)) (same_term (normal kf t) t own.1) ∙ (λ i. cond (own.0 i) (t ∷ own_values ts parts.1 i) (own_values ts parts.1 i))

  own_term : (t : Term) → is_own_term kf t ≡ true → normal kf t ≡ t
  unfolding normal
  own_term (Object d) h = refl
  own_term (Parameter i) h = same_term (normal kf (Parameter i)) (Parameter i) h
  own_term (Apply f ts) h = same_term (normal kf (Apply f ts)) (Apply f ts) h

  own_terms : (ts : List Term) → list_all (is_own_term kf) ts ≡ true → map (normal kf) ts ≡ ts
  own_terms [] h = refl
  own_terms (t ∷ ts) h =
      let parts = and_parts (is_own_term kf t) (list_all (is_own_term kf) ts) h in
      λ i. own_term t parts.0 i ∷ own_terms ts parts.1 i

  own_atoms : (es : List Atom) → list_all (is_own_atom kf) es ≡ true → map (normal_atom kf) es ≡ es
  own_atoms [] h = refl
  own_atoms (a ∷ es) h =
      let parts = and_parts (is_own_atom kf a) (list_all (is_own_atom kf) es) h in
      λ i. record { predicate = a.predicate; arguments = own_terms a.arguments parts.0 i } ∷ own_atoms es parts.1 i

  pub own_region : (e : Entry) → IsOrdered atom_cmp e.listed → is_own_pattern kf e.pattern ≡ true → list_all (is_own_atom kf) e.listed ≡ true → normal_entry kf e ≡ e
  own_region e ordered p h =
      let pattern = pattern_cmp_tells (normal_pattern kf e.pattern) e.pattern ((Equal-is (pattern_cmp (normal_pattern kf e.pattern) e.pattern)).0 p) in
      let listed = ap (set_of atom_cmp) (own_atoms e.listed h) ∙ added_rising atom_cmp atom_cmp_total e.listed ordered in
      λ i. record { pattern = pattern i; listed = listed i }
