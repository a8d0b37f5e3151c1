-- A region with its terms in normal form is shown where it is.
use Rattle.std.proofs.Common.{◌≡◌, ◌⊎◌, ◌&&◌, ◌||◌, ◌≤◌, ℕ, true, List, [], ◌∷◌, ◌++◌, append_assoc, map, Option, Some, None, option_map, Less, Equal, Greater, is_eq, refl, sym, ap, ◌∙◌, subst, inl, inr, ⊎_elim}
use Rattle.std.specs.List.{list_any}
use Rattle.std.specs.Option.{option_map_or, option_and_then}
use Rattle.std.proofs.lemmas.Cmp.{tied_itself, lists_total}
use Rattle.std.proofs.lemmas.Bool.{and_from, or_left, or_right, eq-eqb}
use Rattle.pks_terms.specs.Sets.{Each, IsIn, all_some, insert_in, set_of, with_others, IsOrdered}
use Rattle.pks_terms.specs.Syntax.{Form, Object, Parameter, Apply, Inner, Term, as_object, Literal, Atom, Pattern}
use Rattle.pks_terms.specs.Orders.{term_eq, atom_cmp, equation}
use Rattle.pks_terms.specs.Totality.{atom_cmp_total, pattern_cmp_total}
use Rattle.pks_terms.specs.Databases.{Entry, values_at, least, applied, form_normal, inner_normal, normal}
use Rattle.pks_terms.specs.Closure.{normal_atom, normal_pattern, normal_entry}
use Rattle.pks_terms.specs.Problems.{Problem}
use Rattle.pks_terms.proofs.ListLaws.{each_in, any_in, in_map, in_mapped, map-map, map_alike}
use Rattle.pks_terms.proofs.OrderLaws.{atom_cmp_tells}
use Rattle.pks_terms.proofs.SetLaws.{ordered_insert, ordered_set_of, in_inserted, inserted_in, in_set_of, set_of_in, same_members}
use Rattle.pks_terms.specs.Proofs.{Fact, FactLit, FactLcw, Path, final_moment, BySwap}
use Rattle.pks_terms.specs.Judging.{Judge}
use Rattle.pks_terms.specs.Rewriting.{is_equation, swaps_term, same_slot, swaps_slot, swaps_atom, same_atoms, swaps_region, swaps}
use Rattle.pks_laws.proofs.Least.{term_eq_itself}
use Rattle.pks_laws_explain.specs.Shown.{IsShown}
use Rattle.pks_laws_explain.proofs.Growing.{shown_within}
use Rattle.pks_laws_explain.proofs.Equal.{cited_in, Same, swapped_there, normal_shown}
use Rattle.pks_laws_explain.proofs.Adding.{taken_out}

-- ---- normal forms are normal

module _ {A : Type 0} (norm : A → A) (obj : A → Option ℕ) (kf : List Literal) (twice : (a : A) → norm (norm a) ≡ norm a) where
  form_twice : (t : Form A) → form_normal norm obj kf (form_normal norm obj kf t) ≡ form_normal norm obj kf t
  form_twice (Object d) = refl
  form_twice (Parameter i) = refl
  form_twice (Apply f ts) =
      let us : List A = map norm ts in
      let args : map norm us ≡ us = map-map norm norm ts ∙ map_alike (λ t. norm (norm t)) norm twice ts in
      let again : applied obj kf f (map norm us) ≡ applied obj kf f us = ap (applied obj kf f) args in
      elim (all_some (map obj us)) as (λ o. all_some (map obj us) ≡ o → form_normal norm obj kf (option_map_or Object (option_and_then (λ ds. least (values_at kf f ds)) o) (Apply f us)) ≡ option_map_or Object (option_and_then (λ ds. least (values_at kf f ds)) o) (Apply f us)) [
        | None ↦ λ q. again ∙ ap (λ o. option_map_or Object (option_and_then (λ ds. least (values_at kf f ds)) o) (Apply f us)) q
        | Some ds ↦ λ q. elim (least (values_at kf f ds)) as (λ o. least (values_at kf f ds) ≡ o → form_normal norm obj kf (option_map_or Object o (Apply f us)) ≡ option_map_or Object o (Apply f us)) [
          | None ↦ λ r. again ∙ ap (λ o. option_map_or Object (option_and_then (λ ds. least (values_at kf f ds)) o) (Apply f us)) q ∙ ap (λ o. option_map_or Object o (Apply f us)) r
          | Some e ↦ λ r. refl
        ] refl
      ] refl

inner_twice : (kf : List Literal) (t : Inner) → inner_normal kf (inner_normal kf t) ≡ inner_normal kf t
inner_twice kf = form_twice (λ d. d) Some kf (λ d. refl)

pub normal_twice : (kf : List Literal) (t : Term) → normal kf (normal kf t) ≡ normal kf t
unfolding normal
normal_twice kf = form_twice (inner_normal kf) as_object kf (inner_twice kf)

atom_twice : (kf : List Literal) (a : Atom) → normal_atom kf (normal_atom kf a) ≡ normal_atom kf a
atom_twice kf a = λ i. record { predicate = a.predicate; arguments = (map-map (normal kf) (normal kf) a.arguments ∙ map_alike (λ t. normal kf (normal kf t)) (normal kf) (normal_twice kf) a.arguments) i }

-- a normal form is the normal form of itself
normal_stays : (kf : List Literal) (a b : Atom) → normal_atom kf a ≡ b → b ≡ normal_atom kf b
normal_stays kf a b e = sym (ap (normal_atom kf) (sym e) ∙ atom_twice kf a ∙ e)

-- terms of which one is replaced by its normal form have the same normal forms
one_normal : (kf : List Literal) (xs ys : List Term) (t : Term) → map (normal kf) (xs ++ normal kf t ∷ ys) ≡ map (normal kf) (xs ++ t ∷ ys)
one_normal kf [] ys t = λ i. normal_twice kf t i ∷ map (normal kf) ys
one_normal kf (x ∷ xs) ys t = ap (λ us. normal kf x ∷ us) (one_normal kf xs ys t)

-- ---- one member of a set taken out, and another put in

in_parts : {X : Type 0} (xs : List X) (x : X) → IsIn x xs → (front : List X) × (back : List X) × (xs ≡ front ++ x ∷ back)
in_parts [] x i = absurd i
in_parts (y ∷ xs) x (inl e) = ([], xs, ap (λ z. z ∷ xs) e)
in_parts (y ∷ xs) x (inr i) = let r = in_parts xs x i in (y ∷ r.0, r.1, ap (λ zs. y ∷ zs) r.2)

among_others : {X : Type 0} (front back : List X) (x : X) → IsIn (x, front ++ back) (with_others (front ++ x ∷ back))
among_others [] back x = inl refl
among_others {X} (y ∷ front) back x = inr (in_map (λ (q : X × List X). let s : X × List X = (q.0, y ∷ q.1) in s) (with_others (front ++ x ∷ back)) (x, front ++ back) (among_others front back x))

-- what is in the whole is the one taken out, or in the rest
that_or_rest : {X : Type 0} (front back : List X) (x z : X) → IsIn z (front ++ x ∷ back) → (x ≡ z) ⊎ IsIn z (front ++ back)
that_or_rest [] back x z i = i
that_or_rest (y ∷ front) back x z (inl e) = inr (inl e)
that_or_rest (y ∷ front) back x z (inr i) = ⊎_elim (λ e. inl e) (λ k. inr (inr k)) (that_or_rest front back x z i)

in_whole : {X : Type 0} (front back : List X) (x z : X) → IsIn z (front ++ back) → IsIn z (front ++ x ∷ back)
in_whole [] back x z i = inr i
in_whole (y ∷ front) back x z (inl e) = inl e
in_whole (y ∷ front) back x z (inr i) = inr (in_whole front back x z i)

each_rest : {X : Type 0} (P : X → Type 0) (front back : List X) (x : X) → Each P (front ++ x ∷ back) → Each P (front ++ back)
each_rest P [] back x a = a.1
each_rest P (y ∷ front) back x a = (a.0, each_rest P front back x a.1)

rest_ordered : (front back : List Atom) (a : Atom) → IsOrdered atom_cmp (front ++ a ∷ back) → IsOrdered atom_cmp (front ++ back)
rest_ordered [] back a o = o.1
rest_ordered (b ∷ front) back a o = (each_rest (λ y. atom_cmp b y ≡ Less) front back a o.0, rest_ordered front back a o.1)

not_below_itself : (a : Atom) → atom_cmp a a ≡ Less → ⊥
not_below_itself a e = no (sym e ∙ tied_itself atom_cmp_total a)
  where
    no : Less ≡ Equal → ⊥
    no e = cc

once_there : (front back : List Atom) (a : Atom) → IsOrdered atom_cmp (front ++ a ∷ back) → IsIn a (front ++ back) → ⊥
once_there [] back a o i = not_below_itself a (each_in (λ y. atom_cmp a y ≡ Less) back a o.0 i)
once_there (b ∷ front) back a o (inl e) = not_below_itself a (subst (λ c. atom_cmp c a ≡ Less) e (each_in (λ y. atom_cmp b y ≡ Less) (front ++ a ∷ back) a o.0 (there front)))
  where
    there : (front : List Atom) → IsIn a (front ++ a ∷ back)
    there [] = inl refl
    there (c ∷ front) = inr (there front)
once_there (b ∷ front) back a o (inr i) = once_there front back a o.1 i

-- what is put in was there already, or is one with the rest as the others
put_or_there : (b : Atom) (rest : List Atom) → (IsIn b rest × (insert_in atom_cmp b rest ≡ rest)) ⊎ IsIn (b, rest) (with_others (insert_in atom_cmp b rest))
put_or_there b [] = inr (inl refl)
put_or_there b (y ∷ ys) =
    elim (atom_cmp b y) as (λ o. atom_cmp b y ≡ o → (IsIn b (y ∷ ys) × (◌≡◌ {A = List Atom} (elim o [ Less ↦ b ∷ y ∷ ys | Equal ↦ y ∷ ys | Greater ↦ y ∷ insert_in atom_cmp b ys ]) (y ∷ ys))) ⊎ IsIn (b, y ∷ ys) (with_others (elim o [ Less ↦ b ∷ y ∷ ys | Equal ↦ y ∷ ys | Greater ↦ y ∷ insert_in atom_cmp b ys ]))) [
      | Less ↦ λ e. inr (inl refl)
      | Equal ↦ λ e. inl (inl (sym (atom_cmp_tells b y e)), refl)
      | Greater ↦ λ e. ⊎_elim (λ h. inl (inr h.0, ap (λ zs. y ∷ zs) h.1)) (λ h. inr (inr (in_map (λ (q : Atom × List Atom). let s : Atom × List Atom = (q.0, y ∷ q.1) in s) (with_others (insert_in atom_cmp b ys)) (b, ys) h))) (put_or_there b ys)
    ] refl

-- two atoms are the same or not
alike_or_not : (a b : Atom) → (a ≡ b) ⊎ (a ≡ b → ⊥)
alike_or_not a b =
    elim (atom_cmp a b) as (λ o. atom_cmp a b ≡ o → (a ≡ b) ⊎ (a ≡ b → ⊥)) [
      | Equal ↦ λ e. inl (atom_cmp_tells a b e)
      | Less ↦ λ e. inr (λ s. not_below_itself a (subst (λ c. atom_cmp a c ≡ Less) (sym s) e))
      | Greater ↦ λ e. inr (λ s. not_above_itself a (subst (λ c. atom_cmp a c ≡ Greater) (sym s) e))
    ] refl
  where
    not_above_itself : (a : Atom) → atom_cmp a a ≡ Greater → ⊥
    not_above_itself a e = no (sym e ∙ tied_itself atom_cmp_total a)
      where
        no : Greater ≡ Equal → ⊥
        no e = cc

there_or_not : (xs : List Atom) (a : Atom) → IsIn a xs ⊎ (IsIn a xs → ⊥)
there_or_not [] a = inr (λ i. i)
there_or_not (x ∷ xs) a = ⊎_elim (λ e. inl (inl e)) (λ n. ⊎_elim (λ i. inl (inr i)) (λ k. inr (λ i. ⊎_elim n k i)) (there_or_not xs a)) (alike_or_not x a)

module _ (p : Problem) (path : Path) (m : ℕ) (within : m ≤ final_moment path) where
  abbrev Lcw : Entry → Type 0
  Lcw e = IsShown p path m (FactLcw e)

  region_swapped : (e r : Entry) (t u : Term) → Lcw e → Same p path m within t u → ((j : Judge) → is_equation j m t u ≡ true → swaps_region j m e r ≡ true) → Lcw r
  region_swapped e r t u shown same swap =
      let fs : List Fact = FactLcw e ∷ FactLit (equation t u) ∷ [] in
      shown_within p path fs m (shown, (same, tt)) (FactLcw r) BySwap within (λ j q.
      ap (list_any (λ c. swaps j m c (FactLcw r))) q ∙ or_left (swaps_region j m e r) _ (swap j (cited_in j m fs (equation t u) q (inr (inl refl)))))

  same_listed : (bs : List Atom) → same_atoms bs bs ≡ true
  same_listed bs = ap is_eq (tied_itself (lists_total atom_cmp_total) bs)

  -- ---- the pattern

  same_slot_itself : (o : Option Term) → same_slot o o ≡ true
  same_slot_itself None = refl
  same_slot_itself (Some t) = term_eq_itself t t refl

  abbrev with_slots : ℕ → List Atom → List (Option Term) → Entry
  with_slots q bs ss = record { pattern = record { predicate = q; slots = ss }; listed = bs }

  slot_one : (q : ℕ) (bs : List Atom) (xs ys : List (Option Term)) (t u : Term) → Same p path m within t u → Lcw (with_slots q bs (xs ++ Some t ∷ ys)) → Lcw (with_slots q bs (xs ++ Some u ∷ ys))
  slot_one q bs xs ys t u same shown =
      region_swapped (with_slots q bs (xs ++ Some t ∷ ys)) (with_slots q bs (xs ++ Some u ∷ ys)) t u shown same (λ j e.
      or_left _ _ (and_from _ _ (and_from _ _ (eq-eqb q q refl) (swapped_there same_slot (swaps_slot j m) same_slot_itself xs ys (Some t) (Some u) (or_left (is_equation j m t u) _ e))) (same_listed bs)))

  module _ (kf : List Literal) (known : (l : Literal) → IsIn l kf → IsShown p path m (FactLit l)) where
    slots_normal : (q : ℕ) (bs : List Atom) (xs ss : List (Option Term)) → Lcw (with_slots q bs (xs ++ ss)) → Lcw (with_slots q bs (xs ++ map (option_map (normal kf)) ss))
    slots_normal q bs xs [] shown = shown
    slots_normal q bs xs (o ∷ ss) shown =
        subst (λ rs. Lcw (with_slots q bs rs)) (append_assoc xs (option_map (normal kf) o ∷ []) (map (option_map (normal kf)) ss))
        (slots_normal q bs (xs ++ option_map (normal kf) o ∷ []) ss (subst (λ rs. Lcw (with_slots q bs rs)) (sym (append_assoc xs (option_map (normal kf) o ∷ []) ss)) (first o shown)))
      where
        first : (o : Option Term) → Lcw (with_slots q bs (xs ++ o ∷ ss)) → Lcw (with_slots q bs (xs ++ option_map (normal kf) o ∷ ss))
        first None shown = shown
        first (Some t) shown = slot_one q bs xs ss t (normal kf t) (normal_shown p path m within kf known t) shown

    -- ---- the listed atoms

    module _ (x : Pattern) where
      abbrev Listed : List Atom → Type 0
      Listed bs = Lcw (record { pattern = x; listed = bs })

      atom_swapped : (front back : List Atom) (a b : Atom) (t u : Term) → Listed (front ++ a ∷ back) → Same p path m within t u → ((j : Judge) → is_equation j m t u ≡ true → swaps_atom j m a b ≡ true) → Listed (insert_in atom_cmp b (front ++ back))
      atom_swapped front back a b t u shown same swap =
          let rest = front ++ back in
          let old = front ++ a ∷ back in
          let new = insert_in atom_cmp b rest in
          region_swapped (record { pattern = x; listed = old }) (record { pattern = x; listed = new }) t u shown same (λ j e.
          or_right _ _ (and_from _ _ (ap is_eq (tied_itself pattern_cmp_total x))
          (any_in (λ q. list_any (λ r. swaps_atom j m q.0 r.0 && (same_atoms q.1 r.1 || same_atoms q.1 new)) (with_others new)) (with_others old) (a, rest) (among_others front back a)
          (⊎_elim
          (λ h.
          let o = taken_out new b (subst (IsIn b) (sym h.1) h.0) in
          any_in (λ r. swaps_atom j m a r.0 && (same_atoms rest r.1 || same_atoms rest new)) (with_others new) o.0 o.1
          (and_from _ _ (subst (λ c. swaps_atom j m a c ≡ true) (sym o.2) (swap j e)) (or_right _ _ (subst (λ zs. same_atoms rest zs ≡ true) (sym h.1) (same_listed rest)))))
          (λ h. any_in (λ r. swaps_atom j m a r.0 && (same_atoms rest r.1 || same_atoms rest new)) (with_others new) (b, rest) h (and_from _ _ (swap j e) (or_left _ _ (same_listed rest))))
          (put_or_there b rest)))))

      -- of a set with the member a: a set with b in its place, which is shown
      record Replaced (before : List Atom) (a b : Atom) : Type 0 where
        atoms : List Atom
        so : Listed atoms
        ordered : IsOrdered atom_cmp atoms
        has : IsIn b atoms
        from : (c : Atom) → IsIn c atoms → (b ≡ c) ⊎ (IsIn c before × (a ≡ c → ⊥))
        covers : (c : Atom) → IsIn c before → (d : Atom) × IsIn d atoms × (normal_atom kf d ≡ normal_atom kf c)

      begin : (before : List Atom) (a : Atom) → IsOrdered atom_cmp before → Listed before → IsIn a before → Replaced before a a
      begin before a o shown i = record {
        atoms = before;
        so = shown;
        ordered = o;
        has = i;
        from = λ c k. ⊎_elim (λ e. inl e) (λ n. inr (k, n)) (alike_or_not a c);
        covers = λ c k. (c, k, refl);
      }

      replace : (before : List Atom) (a b c : Atom) (t u : Term) → Same p path m within t u → ((j : Judge) → is_equation j m t u ≡ true → swaps_atom j m b c ≡ true) → normal_atom kf c ≡ normal_atom kf b → Replaced before a b → Replaced before a c
      replace before a b c t u same swap alike r =
          let parts = in_parts r.atoms b r.has in
          let rest = parts.0 ++ parts.1 in
          let whole : IsOrdered atom_cmp (parts.0 ++ b ∷ parts.1) = subst (IsOrdered atom_cmp) parts.2 r.ordered in
          record {
            atoms = insert_in atom_cmp c rest;
            so = atom_swapped parts.0 parts.1 b c t u (subst Listed parts.2 r.so) same swap;
            ordered = ordered_insert atom_cmp_total atom_cmp_tells c rest (rest_ordered parts.0 parts.1 b whole);
            has = inserted_in atom_cmp_total atom_cmp_tells c rest c (inl refl);
            from = λ z k.
                ⊎_elim (λ e. inl e)
                (λ i.
                ⊎_elim (λ e. absurd (once_there parts.0 parts.1 b whole (subst (λ y. IsIn y rest) (sym e) i))) (λ h. inr h)
                (r.from z (subst (IsIn z) (sym parts.2) (in_whole parts.0 parts.1 b z i))))
                (in_inserted atom_cmp_total atom_cmp_tells c rest z k);
            covers = λ z k.
                let d = r.covers z k in
                ⊎_elim
                (λ e. (c, inserted_in atom_cmp_total atom_cmp_tells c rest c (inl refl), alike ∙ ap (normal_atom kf) e ∙ d.2))
                (λ i. (d.0, inserted_in atom_cmp_total atom_cmp_tells c rest d.0 (inr i), d.2))
                (that_or_rest parts.0 parts.1 b d.0 (subst (IsIn d.0) parts.2 d.1));
          }

      abbrev atom : ℕ → List Term → Atom
      atom q ts = record { predicate = q; arguments = ts }

      arguments_normal : (before : List Atom) (a : Atom) (q : ℕ) (xs ts : List Term) → Replaced before a (atom q (xs ++ ts)) → Replaced before a (atom q (xs ++ map (normal kf) ts))
      arguments_normal before a q xs [] r = r
      arguments_normal before a q xs (t ∷ ts) r =
          let u = normal kf t in
          let one : Replaced before a (atom q (xs ++ u ∷ ts)) =
          replace before a (atom q (xs ++ t ∷ ts)) (atom q (xs ++ u ∷ ts)) t u (normal_shown p path m within kf known t)
          (λ j e. and_from _ _ (eq-eqb q q refl) (swapped_there term_eq (swaps_term j m) (λ t. term_eq_itself t t refl) xs ts t u (or_left (is_equation j m t u) _ e)))
          (λ i. atom q (one_normal kf xs ts t i)) r in
          subst (λ us. Replaced before a (atom q us)) (append_assoc xs (u ∷ []) (map (normal kf) ts))
          (arguments_normal before a q (xs ++ u ∷ []) ts (subst (λ us. Replaced before a (atom q us)) (sym (append_assoc xs (u ∷ []) ts)) one))

      -- of the set all: a set that is shown, whose members are in normal form but for those still to do
      record Worked (all todo : List Atom) : Type 0 where
        atoms : List Atom
        so : Listed atoms
        ordered : IsOrdered atom_cmp atoms
        from : (c : Atom) → IsIn c atoms → ((a : Atom) × IsIn a all × (normal_atom kf a ≡ c)) ⊎ IsIn c todo
        covers : (a : Atom) → IsIn a all → (d : Atom) × IsIn d atoms × (normal_atom kf d ≡ normal_atom kf a)

      work : (all todo : List Atom) → ((a : Atom) → IsIn a todo → IsIn a all) → Worked all todo → Worked all []
      work all [] of w = w
      work all (a ∷ todo) of w = work all todo (λ c i. of c (inr i)) (⊎_elim there gone (there_or_not w.atoms a))
        where
          there : IsIn a w.atoms → Worked all todo
          there i =
              let r = arguments_normal w.atoms a a.predicate [] a.arguments (begin w.atoms a w.ordered w.so i) in
              record {
                atoms = r.atoms;
                so = r.so;
                ordered = r.ordered;
                from = λ c k.
                    ⊎_elim (λ e. inl (a, of a (inl refl), e))
                    (λ h. ⊎_elim (λ n. inl n) (λ l. ⊎_elim (λ e. absurd (h.1 e)) (λ y. inr y) l) (w.from c h.0))
                    (r.from c k);
                covers = λ c k. let d = w.covers c k in let e = r.covers d.0 d.1 in (e.0, e.1, e.2 ∙ d.2);
              }

          gone : (IsIn a w.atoms → ⊥) → Worked all todo
          gone n = record {
            atoms = w.atoms;
            so = w.so;
            ordered = w.ordered;
            from = λ c k. ⊎_elim (λ h. inl h) (λ l. ⊎_elim (λ e. absurd (n (subst (λ z. IsIn z w.atoms) (sym e) k))) (λ y. inr y) l) (w.from c k);
            covers = w.covers;
          }

      listed_normal : (bs : List Atom) → IsOrdered atom_cmp bs → Listed bs → Listed (set_of atom_cmp (map (normal_atom kf) bs))
      listed_normal bs o shown =
          let w = work bs bs (λ a i. i) (record { atoms = bs; so = shown; ordered = o; from = λ c k. inr k; covers = λ a i. (a, i, refl) }) in
          let news = map (normal_atom kf) bs in
          let normals : (c : Atom) → IsIn c w.atoms → (a : Atom) × IsIn a bs × (normal_atom kf a ≡ c) = λ c k. ⊎_elim (λ h. h) (λ n. absurd n) (w.from c k) in
          subst Listed (same_members atom_cmp_total atom_cmp_tells w.atoms (set_of atom_cmp news) w.ordered (ordered_set_of atom_cmp_total atom_cmp_tells news)
          (λ c k. let a = normals c k in set_of_in atom_cmp_total atom_cmp_tells news c (subst (λ z. IsIn z news) a.2 (in_map (normal_atom kf) bs a.0 a.1)))
          (λ z k.
          let a = in_mapped (normal_atom kf) bs z (in_set_of atom_cmp_total atom_cmp_tells news z k) in
          let d = w.covers a.0 a.1 in
          let b = normals d.0 d.1 in
          subst (λ y. IsIn y w.atoms) (normal_stays kf b.0 d.0 b.2 ∙ d.2 ∙ a.2) d.1))
          w.so

    -- a region whose atoms are a set, with its terms in normal form
    pub region_normal_shown : (e : Entry) → IsOrdered atom_cmp e.listed → Lcw e → Lcw (normal_entry kf e)
    region_normal_shown e o shown =
        let x = normal_pattern kf e.pattern in
        listed_normal x e.listed o (slots_normal e.pattern.predicate e.listed [] e.pattern.slots shown)
