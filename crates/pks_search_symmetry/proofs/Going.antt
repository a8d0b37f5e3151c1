-- Members of databases that have their images in others.
use Rattle.std.proofs.Common.{◌≡◌, ◌||◌, ℕ, Bool, true, is_eq, List, [], ◌∷◌, map, Ordering, refl, sym, ap, subst, inl, inr, ⊎_elim}
use Rattle.std.specs.List.{list_all, list_any}
use Rattle.std.specs.Ordering.{on}
use Rattle.std.specs.Cmp.{Equal-is}
use Rattle.std.specs.FinMap.{IsAntisymmetric, nat_cmp-IsAntisymmetric}
use Rattle.std.proofs.lemmas.Bool.{and_parts, or_cases}
use Rattle.pks_terms.specs.declared.literal.Literal.{Literal as DLiteral}
use Rattle.pks_terms.specs.declared.literal.Conj.{Conj as DConj}
use Rattle.pks_terms.specs.declared.term.Term as term
use Rattle.pks_terms.specs.Sets.{IsIn}
use Rattle.pks_terms.specs.Syntax.{Inner}
use Rattle.pks_terms.specs.Orders.{inner_cmp, term_cmp, literal_cmp, conj_cmp}
use Rattle.pks_terms.specs.Databases.{Five, entry_cmp}
use Rattle.pks_terms.specs.Views.{term_of, terms_of, literal_of, literals_in, conj_of}
use Rattle.pks_terms.proofs.ListLaws.{found_in}
use Rattle.pks_terms.proofs.OrderLaws.{form_cmp_tells, term_cmp_tells, literal_cmp_tells, conj_cmp_tells, entry_cmp_tells}
use Rattle.pks_kf.specs.Known.{literals_of}
use Rattle.pks_kw.specs.Formulas.{formulas_of}
use Rattle.pks_kx.specs.Groups.{groups_of}
use Rattle.pks_lcw.specs.declared.regions.Entry.{Entry as DEntry}
use Rattle.pks_lcw.specs.Entries.{entry_of, entries_of}
use Rattle.pks_laws_symmetry.specs.Trivial.{is_trivial}
use Rattle.pks_laws_symmetry.specs.Renamed.{renamed_literal, renamed_conj, renamed_term, renamed_group, renamed_entry, GoesTo}
use Rattle.pks_search_symmetry.specs.Going.{is_one_of, literal_goes, formula_goes, value_goes, group_goes, region_goes, all_go}

pub inner_tied : (t u : Inner) → is_eq (inner_cmp t u) ≡ true → t ≡ u
inner_tied t u h = form_cmp_tells nat_cmp-IsAntisymmetric t u ((Equal-is (inner_cmp t u)).0 h)

any-map : {X Y : Type 0} (v : X → Y) (p : Y → Bool) (xs : List X) → list_any (λ x. p (v x)) xs ≡ list_any p (map v xs)
any-map v p [] = refl
any-map v p (x ∷ xs) = ap (λ b. p (v x) || b) (any-map v p xs)

one_of-map : {X Y : Type 0} (v : X → Y) (R : Y → Y → Ordering) (x : X) (xs : List X) → list_any (λ y. is_eq (on v R x y)) xs ≡ is_one_of R (v x) (map v xs)
unfolding is_one_of
one_of-map v R x xs = any-map v (λ y. is_eq (R (v x) y)) xs

pub is_literal_among : (l : DLiteral) (ls : List DLiteral) → list_any (λ m. is_eq (on literal_of literal_cmp l m)) ls ≡ is_one_of literal_cmp (literal_of l) (literals_of ls)
is_literal_among l ls = one_of-map literal_of literal_cmp l ls

pub is_formula_among : (c : DConj) (cs : List DConj) → list_any (λ d. is_eq (on conj_of conj_cmp c d)) cs ≡ is_one_of conj_cmp (conj_of c) (formulas_of cs)
is_formula_among c cs = one_of-map conj_of conj_cmp c cs

pub is_value_among : (t : term.Term) (ts : List term.Term) → list_any (λ u. is_eq (on term_of term_cmp t u)) ts ≡ is_one_of term_cmp (term_of t) (terms_of ts)
is_value_among t ts = one_of-map term_of term_cmp t ts

pub is_group_among : (g : List DLiteral) (gs : List (List DLiteral)) → list_any (λ h. is_eq (on literals_in conj_cmp g h)) gs ≡ is_one_of conj_cmp (literals_in g) (groups_of gs)
is_group_among g gs = one_of-map literals_in conj_cmp g gs

pub is_region_among : (r : DEntry) (rs : List DEntry) → list_any (λ q. is_eq (on entry_of entry_cmp r q)) rs ≡ is_one_of entry_cmp (entry_of r) (entries_of rs)
is_region_among r rs = one_of-map entry_of entry_cmp r rs

is_there : {X : Type 0} {R : X → X → Ordering} → IsAntisymmetric R → (x : X) (xs : List X) → is_one_of R x xs ≡ true → IsIn x xs
unfolding is_one_of
is_there {R = R} tells x xs h =
    let f = found_in (λ y. is_eq (R x y)) xs h in
    subst (λ z. IsIn z xs) (sym (tells x f.0 ((Equal-is (R x f.0)).0 f.2))) f.1

all_at : {X : Type 0} (t : X → Bool) (xs : List X) → list_all t xs ≡ true → (x : X) → IsIn x xs → t x ≡ true
all_at t [] h x i = absurd i
all_at t (y ∷ xs) h x (inl e) = subst (λ z. t z ≡ true) e (and_parts (t y) _ h).0
all_at t (y ∷ xs) h x (inr i) = all_at t xs (and_parts (t y) _ h).1 x i

pub goes_to : (f : ℕ → ℕ) (d e : Five) → all_go f d e ≡ true → GoesTo f d e
goes_to f d e h =
    let q = and_parts (list_all (value_goes f e) d.kv) _ h in
    let r = and_parts (list_all (formula_goes f e) d.kw) _ q.1 in
    let s = and_parts (list_all (literal_goes f e) d.kf) _ r.1 in
    let t = and_parts (list_all (group_goes f e) d.kx) _ s.1 in
    record {
      known = λ l i. ⊎_elim (λ k. inl k) (λ k. inr (is_there literal_cmp_tells (renamed_literal f l) e.kf k)) (or_cases (is_trivial l) _ (all_at (literal_goes f e) d.kf s.0 l i));
      whether = λ c i. is_there conj_cmp_tells (renamed_conj f c) e.kw (all_at (formula_goes f e) d.kw r.0 c i);
      values = λ t i. is_there term_cmp_tells (renamed_term f t) e.kv (all_at (value_goes f e) d.kv q.0 t i);
      groups = λ g i. is_there conj_cmp_tells (renamed_group f g) e.kx (all_at (group_goes f e) d.kx t.0 g i);
      regions = λ r i. is_there entry_cmp_tells (renamed_entry f r) e.lcw (all_at (region_goes f e) d.lcw t.1 r i);
    }
