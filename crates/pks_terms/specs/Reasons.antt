-- The reasons: when a fact may stand at a moment, by what is cited. Effects have their arguments put in.
use Rattle.std.specs.Prelude.{ℕ, suc, Bool, true, false, not, ◌&&◌, ◌||◌, ◌==◌, List, [], ◌∷◌, ◌++◌, map, Option, Some, None}
use Rattle.std.specs.List.{list_any, list_all}
use Rattle.std.specs.Option.{option_map_or}
use Rattle.std.specs.Cmp.Lexicographic.{pointwise}
use Rattle.pks_terms.specs.Sets.{with_others, with_later}
use Rattle.pks_terms.specs.Syntax.{Object, Apply, Inner, Term, object, term_of, are_two_objects, Relation, Named, Equality, Literal, Atom, Pattern, negated}
use Rattle.pks_terms.specs.Orders.{number_of, arguments_of, term_eq, literal_eq, atom_cmp, pattern_cmp, equation, inequation}
use Rattle.pks_terms.specs.Signatures.{Signature, objects_of, type_of}
use Rattle.pks_terms.specs.Databases.{Entry, is_evident}
use Rattle.pks_terms.specs.Closure.{applications_in}
use Rattle.pks_terms.specs.Actions.{Target, Set, Unset, Clear, Assign, Effect}
use Rattle.pks_terms.specs.Problems.{Start, StartKf, StartKw, StartKv, StartKx, StartLcw, Problem, initial, initial_entry}
use Rattle.pks_terms.specs.Progress.{fixed_terms, entry_terms}
use Rattle.pks_terms.specs.Branching.{Choice, BranchOn, CasesOn, Side, AsTrue, AsFalse, Is}
use Rattle.std.specs.Ordering.{is_eq}
use Rattle.pks_terms.specs.Proofs.{Fact, FactLit, FactKx, FactLcw, Path, takings, nth}
use Rattle.pks_terms.specs.Judging.{Judge, fact_eq, relies, is_cited, are_cited, some_literal, some_group, some_region}
use Rattle.pks_terms.specs.Rewriting.{is_form, are_forms, is_slot_form, swaps}

-- ---- barred effects. What bars an effect, and by what its terms are replaced, is cited at the moment m before its action

-- t != u is cited, or the terms are two different objects
abbrev pub are_cited_apart : Judge → ℕ → Term → Term → Bool
are_cited_apart j m t u = is_cited j m (inequation t u) || are_two_objects t u

-- at some position the terms are so
abbrev pub some_cited_apart : Judge → ℕ → List Term → List Term → Bool
some_cited_apart j m (t ∷ ts) (u ∷ us) = are_cited_apart j m t u || some_cited_apart j m ts us
some_cited_apart j m ts us = false

-- at some fixed position the terms are so
abbrev pub fixed_cited_apart : Judge → ℕ → List (Option Term) → List Term → Bool
fixed_cited_apart j m (Some t ∷ ss) (u ∷ us) = are_cited_apart j m t u || fixed_cited_apart j m ss us
fixed_cited_apart j m (None ∷ ss) (u ∷ us) = fixed_cited_apart j m ss us
fixed_cited_apart j m ss us = false

-- the target would make p true at these arguments: no position is known at which it doesn't meet them
abbrev pub would_make_true : Judge → ℕ → ℕ → List Term → Target → Bool
would_make_true j m p ts (Set a) = (a.predicate == p) && not (some_cited_apart j m a.arguments ts)
would_make_true j m p ts (Unset a) = false
would_make_true j m p ts (Clear x) = false
would_make_true j m p ts (Assign f us value) = false

-- the target would make p false there
abbrev pub would_make_false : Judge → ℕ → ℕ → List Term → Target → Bool
would_make_false j m p ts (Unset a) = (a.predicate == p) && not (some_cited_apart j m a.arguments ts)
would_make_false j m p ts (Clear x) = (x.predicate == p) && not (fixed_cited_apart j m x.slots ts)
would_make_false j m p ts (Set a) = false
would_make_false j m p ts (Assign f us value) = false

-- the target would change f there
abbrev pub would_change : Judge → ℕ → ℕ → List Inner → Target → Bool
would_change j m f ts (Assign g us value) = (g == f) && not (some_cited_apart j m (map term_of us) (map term_of ts))
would_change j m f ts (Set a) = false
would_change j m f ts (Unset a) = false
would_change j m f ts (Clear x) = false

-- the target would make an instance of the pattern true: no fixed position is known at which it doesn't meet it
abbrev pub would_widen : Judge → ℕ → Pattern → Target → Bool
would_widen j m x (Set a) = (a.predicate == x.predicate) && not (fixed_cited_apart j m x.slots a.arguments)
would_widen j m x (Unset a) = false
would_widen j m x (Clear y) = false
would_widen j m x (Assign f us value) = false

-- the negation of one of its conditions is cited
abbrev pub cannot_fire : Judge → ℕ → Effect → Bool
cannot_fire j m e = list_any (λ l. is_cited j m (negated l)) e.condition

-- the effect is barred from doing something: it can't fire, or its target wouldn't do so
abbrev pub is_barred : Judge → ℕ → (Target → Bool) → Effect → Bool
is_barred j m would e = cannot_fire j m e || not (would e.target)

-- all these effects are barred from it
abbrev pub are_barred : Judge → ℕ → (Target → Bool) → List Effect → Bool
are_barred j m would es = list_all (is_barred j m would) es

-- ---- steady terms

-- the term is steady: every assignment that could change an application in it is barred
abbrev pub is_steady : Judge → ℕ → List Effect → Term → Bool
is_steady j m es t = list_all (λ u. are_barred j m (would_change j m (number_of u) (arguments_of u)) es) (applications_in t)

-- each of the terms is steady
abbrev pub are_steady : Judge → ℕ → List Effect → List Term → Bool
are_steady j m es ts = list_all (is_steady j m es) ts

-- ---- reasons within a moment

-- the fact of an initial item: of kf, of kx, of lcw with its initial list
abbrev pub said_by : Problem → Start → Option Fact
said_by p (StartKf l) = Some (FactLit l)
said_by p (StartKx g) = Some (FactKx g)
said_by p (StartLcw x) = Some (FactLcw (initial_entry (initial p).kf x))
said_by p (StartKw c) = None
said_by p (StartKv t) = None

-- given N: initial item N, at moment 0
abbrev pub is_given_item : Problem → ℕ → ℕ → Fact → Bool
is_given_item p n m f = (m == 0) && option_map_or (λ x. option_map_or (λ g. fact_eq g f) (said_by p x) false) (nth p.init n) false

-- of a side: a literal of the formula taken as true; the negation of one literal of the formula taken as false, the others cited; the equation of a case
abbrev pub says_side : Judge → ℕ → Choice → Side → Literal → Bool
says_side j m (BranchOn c) AsTrue l = list_any (literal_eq l) c
says_side j m (BranchOn c) AsFalse l = list_any (λ q. literal_eq l (negated q.0) && are_cited j m q.1) (with_others c)
says_side j m (CasesOn t) (Is e) l = literal_eq l (equation t (object e))
says_side j m c side l = false

-- side N: by the N-th side that the path takes, at its moment
abbrev pub is_by_side : Path → Judge → ℕ → ℕ → Literal → Bool
is_by_side path j n m l = option_map_or (λ q. (q.moment == m) && says_side j m q.choice q.side l) (nth (takings 0 path) n) false

-- same: t = t; or t != u for two different objects; or t != u for an application and an object that isn't one of its result type
abbrev pub is_same : Signature → Literal → Bool
is_same s l = is_evident s l.relation l.arguments l.positive

-- swap: a cited fact with one term replaced by another in one place, the equation of the two cited
abbrev pub is_swapped : Judge → ℕ → Fact → Bool
is_swapped j m f = list_any (λ c. swaps j m c f) (j m)

-- only: a member of a cited group, the negations of all others cited
abbrev pub is_only : Judge → ℕ → Literal → Bool
is_only j m l = some_group j m (λ g. list_any (λ q. literal_eq l q.0 && are_cited j m (map negated q.1)) (with_others g))

-- others: the negation of a member of a cited group, another member cited
abbrev pub is_other : Judge → ℕ → Literal → Bool
is_other j m l = some_group j m (λ g. list_any (λ q. literal_eq l (negated q.0) && list_any (is_cited j m) q.1) (with_others g))

-- of each other object of the list it is cited that t isn't that object
abbrev pub others_ruled_out : Judge → ℕ → Term → ℕ → List ℕ → Bool
others_ruled_out j m t d objects = list_all (λ e. (e == d) || is_cited j m (inequation t (object e))) objects

-- the objects of the term's type
abbrev pub objects_like : Signature → Term → List ℕ
objects_like s t = option_map_or (objects_of s) (type_of s t) []

-- an equation t = d with an object d of t's type, and t != e cited for each other object e of it
abbrev pub equates : Signature → Judge → ℕ → Relation → List Term → Bool → Bool
equates s j m Equality (t ∷ Object d ∷ []) true = list_any (λ e. e == d) (objects_like s t) && others_ruled_out j m t d (objects_like s t)
equates s j m r ts b = false

-- range: t = d, with t != e cited for each other object e of t's type
abbrev pub is_in_range : Signature → Judge → ℕ → Literal → Bool
is_in_range s j m l = equates s j m l.relation l.arguments l.positive

-- the arguments have the fixed terms of the slots
abbrev pub has_fixed : List (Option Term) → List Term → Bool
has_fixed [] [] = true
has_fixed (None ∷ ss) (t ∷ ts) = has_fixed ss ts
has_fixed (Some u ∷ ss) (t ∷ ts) = term_eq u t && has_fixed ss ts
has_fixed ss ts = false

-- the negation of an atom that has the region's fixed terms, and differs from each listed atom at some position
abbrev pub leaves_out : Judge → ℕ → Relation → List Term → Bool → Entry → Bool
leaves_out j m (Named p) ts false e = (e.pattern.predicate == p) && (has_fixed e.pattern.slots ts && list_all (λ a. some_cited_apart j m a.arguments ts) e.listed)
leaves_out j m r ts b e = false

-- closed: the negation of an atom that has the fixed terms of a cited region; for each listed atom a cited t != u or two different objects at some position
abbrev pub is_left_out : Judge → ℕ → Literal → Bool
is_left_out j m l = some_region j m (leaves_out j m l.relation l.arguments l.positive)

-- ---- reasons of one action, with these effects, between the moment m and the next

-- the target would make the literal false by itself
abbrev pub would_deny : Judge → ℕ → Relation → List Term → Bool → Target → Bool
would_deny j m (Named p) ts true = would_make_false j m p ts
would_deny j m (Named p) ts false = would_make_true j m p ts
would_deny j m Equality ts b = λ x. false

-- the literal's terms are steady, and the effects that would make it false are barred
abbrev pub keeps_literal : Judge → ℕ → List Effect → Literal → Bool
keeps_literal j m es l = are_steady j m es l.arguments && are_barred j m (would_deny j m l.relation l.arguments l.positive) es

-- the terms of a group's literals are steady, and the effects that would make one of them false or true are barred
abbrev pub keeps_group : Judge → ℕ → List Effect → List Literal → Bool
keeps_group j m es g = list_all (λ l. keeps_literal j m es l && keeps_literal j m es (negated l)) g

-- the region's terms are steady, and the set effects on its predicate are barred
abbrev pub keeps_region : Judge → ℕ → List Effect → Entry → Bool
keeps_region j m es e = are_steady j m es (entry_terms e) && are_barred j m (would_widen j m e.pattern) es

-- the effects keep the literal, the group or the region
abbrev pub keeps_fact : Judge → ℕ → List Effect → Fact → Bool
keeps_fact j m es (FactLit l) = keeps_literal j m es l
keeps_fact j m es (FactKx g) = keeps_group j m es g
keeps_fact j m es (FactLcw e) = keeps_region j m es e

-- keep: the cited fact of one moment before, its terms steady; barred are the effects that would make a literal false, a literal of a group false or true, an instance of a region's pattern true
abbrev pub is_kept : Judge → ℕ → List Effect → Fact → Bool
is_kept j m es f = relies j m f && keeps_fact j m es f

-- back: the cited literal of one moment later; its terms are steady, and every effect that would make it true, its negation false, is barred
abbrev pub is_from_later : Judge → ℕ → List Effect → Literal → Bool
is_from_later j m es l = is_cited j (suc m) l && keeps_literal j m es (negated l)

-- an equation with an application, as an assignment to it
abbrev pub assignment : Term → Term → List Target
assignment (Apply f ts) value = Assign f ts value ∷ []
assignment t value = []

-- the targets that make so just the literal with this relation, these arguments and this sign; either side of an equation may be the place
abbrev pub targets_as : Relation → List Term → Bool → List Target
targets_as (Named p) ts true = Set (record { predicate = p; arguments = ts }) ∷ []
targets_as (Named p) ts false = Unset (record { predicate = p; arguments = ts }) ∷ []
targets_as Equality (t ∷ u ∷ []) true = assignment t u ++ assignment u t
targets_as Equality ts b = []

-- the targets that make just this literal so
abbrev pub targets_of : Literal → List Target
targets_of l = targets_as l.relation l.arguments l.positive

-- the target may be replaced by the second: its terms are replaced, of the place of an assignment the arguments alone
abbrev pub is_target_form : Judge → ℕ → Target → Target → Bool
is_target_form j m (Set a) (Set b) = (a.predicate == b.predicate) && are_forms j m a.arguments b.arguments
is_target_form j m (Unset a) (Unset b) = (a.predicate == b.predicate) && are_forms j m a.arguments b.arguments
is_target_form j m (Assign f ts value) (Assign g us new) = (f == g) && (are_forms j m (map term_of ts) (map term_of us) && is_form j m value new)
is_target_form j m x y = false

-- the target's terms are steady, but for the assigned application as the place alone
abbrev pub is_steady_target : Judge → ℕ → List Effect → Target → Bool
is_steady_target j m es (Set a) = are_steady j m es a.arguments
is_steady_target j m es (Unset a) = are_steady j m es a.arguments
is_steady_target j m es (Assign f ts value) = are_steady j m es (map term_of ts) && is_steady j m es value
is_steady_target j m es (Clear x) = false

-- the target x is that of the effect with terms replaced, and steady
abbrev pub is_steady_form : Judge → ℕ → List Effect → Effect → Target → Bool
is_steady_form j m es e x = is_target_form j m e.target x && is_steady_target j m es x

-- the second target would undo the first
abbrev pub would_undo : Judge → ℕ → Target → Target → Bool
would_undo j m (Set a) y = would_make_false j m a.predicate a.arguments y
would_undo j m (Unset a) y = would_make_true j m a.predicate a.arguments y
would_undo j m (Assign f ts value) y = would_change j m f ts y
would_undo j m (Clear x) y = false

-- the target assigns a value that is cited to differ from this one
abbrev pub assigns_other : Judge → ℕ → Term → Target → Bool
assigns_other j m value (Assign f ts new) = is_cited j m (inequation new value)
assigns_other j m value (Set a) = false
assigns_other j m value (Unset a) = false
assigns_other j m value (Clear x) = false

-- the second target would make so what the first one makes so
abbrev pub would_make_same : Judge → ℕ → Target → Target → Bool
would_make_same j m (Set a) y = would_make_true j m a.predicate a.arguments y
would_make_same j m (Unset a) y = would_make_false j m a.predicate a.arguments y
would_make_same j m (Assign f ts value) y = would_change j m f ts y && not (assigns_other j m value y)
would_make_same j m (Clear x) y = false

-- effect: the target of an effect, its terms replaced and steady; the effect's conditions are cited, and later undoing effects are barred
abbrev pub is_effect : Judge → ℕ → List Effect → Literal → Bool
is_effect j m es l =
    list_any (λ x. list_any (λ q. is_steady_form j m es q.0 x && (are_cited j m q.0.condition && are_barred j m (would_undo j m x) q.1)) (with_later es)) (targets_of l)

-- the literal k, whose negation is cited before, is the target of the effect with its others, its terms replaced and steady, and the others are barred from making it so
abbrev pub is_only_made_by : Judge → ℕ → List Effect → Effect × List Effect → Literal → Bool
is_only_made_by j m es q k =
    is_cited j m (negated k) && list_any (λ x. is_steady_form j m es q.0 x && are_barred j m (would_make_same j m x) q.1) (targets_of k)

-- must: a condition of an effect whose target is cited after, and its negation before, and which every other effect is barred from making so
abbrev pub is_needed : Judge → ℕ → List Effect → Literal → Bool
is_needed j m es l = list_any (λ q. list_any (literal_eq l) q.0.condition && some_literal j (suc m) (is_only_made_by j m es q)) (with_others es)

-- the negation of the literal k is the target of the effect with its later ones, its terms replaced and steady, and the later ones are barred from undoing it
abbrev pub is_missed_by : Judge → ℕ → List Effect → Effect × List Effect → Literal → Bool
is_missed_by j m es q k = list_any (λ x. is_steady_form j m es q.0 x && are_barred j m (would_undo j m x) q.1) (targets_of (negated k))

-- cannot: the negation of one condition of an effect, the others cited; the negation of its target is cited after, and later undoing effects are barred
abbrev pub is_failed : Judge → ℕ → List Effect → Literal → Bool
is_failed j m es l =
    list_any (λ q. list_any (λ c. literal_eq l (negated c.0) && are_cited j m c.1) (with_others q.0.condition) && some_literal j (suc m) (is_missed_by j m es q)) (with_later es)

-- the atom b is that of a set with terms replaced, and steady
abbrev pub is_set_form : Judge → ℕ → List Effect → Target → Atom → Bool
is_set_form j m es (Set a) b = (a.predicate == b.predicate) && (are_forms j m a.arguments b.arguments && are_steady j m es b.arguments)
is_set_form j m es (Unset a) b = false
is_set_form j m es (Clear x) b = false
is_set_form j m es (Assign f ts value) b = false

-- the atom is one of the list
abbrev pub is_listed : List Atom → Atom → Bool
is_listed atoms b = list_any (λ a. is_eq (atom_cmp a b)) atoms

-- the effect is barred from making an instance of the pattern true, or its atom, its terms replaced and steady, is listed
abbrev pub is_taken_in : Judge → ℕ → List Effect → Entry → Effect → Bool
is_taken_in j m es r e = is_barred j m (would_widen j m r.pattern) e || list_any (is_set_form j m es e.target) r.listed

-- the atom is that of a set on the pattern that isn't barred, its terms replaced and steady
abbrev pub is_new_atom : Judge → ℕ → List Effect → Pattern → Atom → Bool
is_new_atom j m es x b = list_any (λ e. not (is_barred j m (would_widen j m x) e) && is_set_form j m es e.target b) es

-- the region r is e, whose terms are steady, with the atoms of all set effects on its predicate that aren't barred added to its list
abbrev pub grows_to : Judge → ℕ → List Effect → Entry → Entry → Bool
grows_to j m es r e =
    is_eq (pattern_cmp e.pattern r.pattern)
    && (are_steady j m es (entry_terms e)
    && (list_all (is_listed r.listed) e.listed && (list_all (is_taken_in j m es r) es && list_all (λ b. is_listed e.listed b || is_new_atom j m es r.pattern b) r.listed)))

-- grow: a cited region of one moment before, its terms steady, with the atoms of all set effects on its predicate that aren't barred added to its list, their terms replaced and steady
abbrev pub is_grown : Judge → ℕ → List Effect → Entry → Bool
is_grown j m es r = some_region j m (grows_to j m es r)

-- the list has no element
abbrev pub is_empty : {X : Type 0} → List X → Bool
is_empty [] = true
is_empty (x ∷ xs) = false

-- the pattern y is that of a clear with terms replaced
abbrev pub is_clear_form : Judge → ℕ → Target → Pattern → Bool
is_clear_form j m (Clear x) y = (x.predicate == y.predicate) && pointwise (is_slot_form j m) x.slots y.slots
is_clear_form j m (Set a) y = false
is_clear_form j m (Unset a) y = false
is_clear_form j m (Assign f ts value) y = false

-- clear: a region with an empty list and the pattern of an unconditional clear, its terms replaced and steady; later set effects on the predicate are barred
abbrev pub is_cleared : Judge → ℕ → List Effect → Entry → Bool
is_cleared j m es r =
    is_empty r.listed
    && (are_steady j m es (fixed_terms r.pattern.slots)
    && list_any (λ q. is_empty q.0.condition && (is_clear_form j m q.0.target r.pattern && are_barred j m (would_widen j m r.pattern) q.1)) (with_later es))
