-- Terms replaced by cited equations.
use Rattle.std.specs.Prelude.{ℕ, Bool, true, false, not, ◌&&◌, ◌||◌, ◌==◌, nat_eq, List, [], ◌∷◌, Option, Some, None}
use Rattle.std.specs.List.{list_any, list_all}
use Rattle.std.specs.Ordering.{is_eq, is_gt}
use Rattle.std.specs.Cmp.Lexicographic.{pointwise, slice_cmp}
use Rattle.pks_terms.specs.Sets.{with_others}
use Rattle.pks_terms.specs.Syntax.{Apply, Inner, Term, object, term_of, Relation, Equality, Literal, Atom, Pattern}
use Rattle.pks_terms.specs.Orders.{term_eq, literal_cmp, literal_eq, conj_cmp, atom_cmp, pattern_cmp, literal, equation}
use Rattle.pks_terms.specs.Databases.{Entry}
use Rattle.pks_terms.specs.Proofs.{Fact, FactLit, FactKx, FactLcw}
use Rattle.pks_terms.specs.Judging.{Judge, is_cited, some_literal}

-- the equation of the two terms is cited
abbrev pub is_equation : Judge → ℕ → Term → Term → Bool
is_equation j m t u = is_cited j m (equation t u)

-- ---- the forms of a term

-- the terms are the same, or the equation of the two is cited
abbrev pub are_equal : Judge → ℕ → Term → Term → Bool
are_equal j m t u = term_eq t u || is_equation j m t u

-- the arguments are the same, or the equation of the two is cited
abbrev pub are_equal_arguments : Judge → ℕ → Inner → Inner → Bool
are_equal_arguments j m a b = are_equal j m (term_of a) (term_of b)

-- the second term is the first with arguments replaced, each by one equation at most
abbrev pub has_arguments : Judge → ℕ → Term → Term → Bool
has_arguments j m (Apply f ts) (Apply g us) = (f == g) && pointwise (are_equal_arguments j m) ts us
has_arguments j m t u = term_eq t u

-- the pair of the sides of an equation, and the pair turned round
abbrev pub sides_read : Relation → List Term → Bool → List (Term × Term)
sides_read Equality (t ∷ u ∷ []) true = (t, u) ∷ (u, t) ∷ []
sides_read r ts b = []

-- an equation read from the left and from the right, and nothing of another literal
abbrev pub readings : Literal → List (Term × Term)
readings l = sides_read l.relation l.arguments l.positive

-- the term t may be replaced by r: arguments by one equation each; or arguments, then the whole by one equation, then arguments again
abbrev pub is_form : Judge → ℕ → Term → Term → Bool
is_form j m t r = has_arguments j m t r || some_literal j m (λ l. list_any (λ q. has_arguments j m t q.0 && has_arguments j m q.1 r) (readings l))

-- the terms may be replaced so, one by one
abbrev pub are_forms : Judge → ℕ → List Term → List Term → Bool
are_forms j m ts rs = pointwise (is_form j m) ts rs

-- the slots are both open, or the term may be replaced so
abbrev pub is_slot_form : Judge → ℕ → Option Term → Option Term → Bool
is_slot_form j m None None = true
is_slot_form j m (Some t) (Some r) = is_form j m t r
is_slot_form j m (Some t) None = false
is_slot_form j m None (Some r) = false

-- ---- one term replaced in one place

-- the lists are the same but for one element, which is replaced
abbrev pub one_swapped : {X : Type 0} → (X → X → Bool) → (X → X → Bool) → List X → List X → Bool
one_swapped same swapped (x ∷ xs) (y ∷ ys) = (swapped x y && pointwise same xs ys) || (same x y && one_swapped same swapped xs ys)
one_swapped same swapped xs ys = false

-- the arguments are equal
abbrev pub inner_eq : Inner → Inner → Bool
inner_eq a b = term_eq (term_of a) (term_of b)

-- an object in the argument is replaced
abbrev pub swaps_object : Judge → ℕ → Inner → Inner → Bool
swaps_object j m (Apply f ds) (Apply g es) = (f == g) && one_swapped nat_eq (λ d e. is_equation j m (object d) (object e)) ds es
swaps_object j m a b = false

-- the whole argument is replaced, or an object in it
abbrev pub swaps_inner : Judge → ℕ → Inner → Inner → Bool
swaps_inner j m a b = is_equation j m (term_of a) (term_of b) || swaps_object j m a b

-- an argument of the term is replaced
abbrev pub swaps_argument : Judge → ℕ → Term → Term → Bool
swaps_argument j m (Apply f ts) (Apply g us) = (f == g) && one_swapped inner_eq (swaps_inner j m) ts us
swaps_argument j m t u = false

-- the whole term is replaced, or an argument of it
abbrev pub swaps_term : Judge → ℕ → Term → Term → Bool
swaps_term j m t u = is_equation j m t u || swaps_argument j m t u

-- one of the terms is replaced, or an argument of it
abbrev pub swaps_terms : Judge → ℕ → List Term → List Term → Bool
swaps_terms j m ts us = one_swapped term_eq (swaps_term j m) ts us

-- the sides of an equation, the other way round
abbrev pub turned : Relation → List Term → List Term
turned Equality (t ∷ u ∷ []) = u ∷ t ∷ []
turned r ts = ts

-- the literal l is k with one term replaced, the sides of an equation in order again
abbrev pub swaps_literal : Judge → ℕ → Literal → Literal → Bool
swaps_literal j m k l =
    literal_eq l (literal k.relation l.arguments k.positive) && (swaps_terms j m k.arguments l.arguments || swaps_terms j m k.arguments (turned l.relation l.arguments))

-- the members stand in order, equal ones as often as they come
abbrev pub are_in_order : List Literal → Bool
are_in_order [] = true
are_in_order (l ∷ rest) = list_all (λ k. not (is_gt (literal_cmp l k))) rest && are_in_order rest

-- the group h is g with one term replaced in one member, the members in order again
abbrev pub swaps_group : Judge → ℕ → List Literal → List Literal → Bool
swaps_group j m g h = are_in_order h && list_any (λ q. list_any (λ r. swaps_literal j m q.0 r.0 && is_eq (conj_cmp q.1 r.1)) (with_others h)) (with_others g)

-- the slots are equal
abbrev pub same_slot : Option Term → Option Term → Bool
same_slot None None = true
same_slot (Some t) (Some u) = term_eq t u
same_slot (Some t) None = false
same_slot None (Some u) = false

-- the term of the slot is replaced, or an argument of it
abbrev pub swaps_slot : Judge → ℕ → Option Term → Option Term → Bool
swaps_slot j m (Some t) (Some u) = swaps_term j m t u
swaps_slot j m (Some t) None = false
swaps_slot j m None s = false

-- the pattern y is x with one term replaced
abbrev pub swaps_pattern : Judge → ℕ → Pattern → Pattern → Bool
swaps_pattern j m x y = (x.predicate == y.predicate) && one_swapped same_slot (swaps_slot j m) x.slots y.slots

-- the atom b is a with one term replaced
abbrev pub swaps_atom : Judge → ℕ → Atom → Atom → Bool
swaps_atom j m a b = (a.predicate == b.predicate) && swaps_terms j m a.arguments b.arguments

-- the atoms are equal, one by one
abbrev pub same_atoms : List Atom → List Atom → Bool
same_atoms bs cs = is_eq (slice_cmp atom_cmp bs cs)

-- the set of atoms cs is bs with one term replaced in one atom; where the new atom was there already it stays there once
abbrev pub swaps_listed : Judge → ℕ → List Atom → List Atom → Bool
swaps_listed j m bs cs = list_any (λ q. list_any (λ r. swaps_atom j m q.0 r.0 && (same_atoms q.1 r.1 || same_atoms q.1 cs)) (with_others cs)) (with_others bs)

-- the region r is e with one term replaced, in the pattern or in a listed atom
abbrev pub swaps_region : Judge → ℕ → Entry → Entry → Bool
swaps_region j m e r =
    (swaps_pattern j m e.pattern r.pattern && same_atoms e.listed r.listed)
    || (is_eq (pattern_cmp e.pattern r.pattern) && swaps_listed j m e.listed r.listed)

-- the fact f is c with one term replaced in one place
abbrev pub swaps : Judge → ℕ → Fact → Fact → Bool
swaps j m (FactLit k) (FactLit l) = swaps_literal j m k l
swaps j m (FactKx g) (FactKx h) = swaps_group j m g h
swaps j m (FactLcw e) (FactLcw r) = swaps_region j m e r
swaps j m c f = false
