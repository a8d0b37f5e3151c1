-- A cheap test before a dear one.
use Rattle.std.proofs.Common.{◌≡◌, ℕ, Bool, true, false, not, ◌&&◌, ◌==◌, List, map, refl}
use Rattle.pks_terms.specs.Syntax.{Inner, Term, term_of, Literal}
use Rattle.pks_terms.specs.Signatures.{Signature}
use Rattle.pks_terms.specs.Databases.{some_differ}
use Rattle.pks_terms.specs.Actions.{Target, Set, Unset, Clear, Assign, target_at, inner_at, atom_at, pattern_at}
use Rattle.pks_terms.specs.Spoiling.{some_fixed_differ, may_make_true, may_make_false, may_change}
use Rattle.pks_terms.specs.Justified.{is_set_on}
use Rattle.pks_progress_interference.specs.Reach.{unsets, assigns}

-- what is implied may be asked first, and the last of three at the end
and_pulled : (a b c : Bool) → (a && ((a && b) && c)) ≡ (c && (a && b))
and_pulled true true true = refl
and_pulled true true false = refl
and_pulled true false true = refl
and_pulled true false false = refl
and_pulled false b true = refl
and_pulled false b false = refl

none_and : (c : Bool) → false ≡ (c && false)
none_and true = refl
none_and false = refl

-- a target that makes nothing of the predicate true may not make it true
pub sets_first : (s : Signature) (kf : List Literal) (p : ℕ) (ts : List Term) (given : List Inner) (x : Target) (c : Bool)
    → (is_set_on p x && (may_make_true s kf p ts (target_at given x) && c)) ≡ (c && may_make_true s kf p ts (target_at given x))
sets_first s kf p ts given (Set a) c = and_pulled (a.predicate == p) (not (some_differ s kf (atom_at given a).arguments ts)) c
sets_first s kf p ts given (Unset a) c = none_and c
sets_first s kf p ts given (Clear x) c = none_and c
sets_first s kf p ts given (Assign f us value) c = none_and c

-- the same of making false
pub unsets_first : (s : Signature) (kf : List Literal) (p : ℕ) (ts : List Term) (given : List Inner) (x : Target) (c : Bool)
    → (unsets p x && (may_make_false s kf p ts (target_at given x) && c)) ≡ (c && may_make_false s kf p ts (target_at given x))
unsets_first s kf p ts given (Set a) c = none_and c
unsets_first s kf p ts given (Unset a) c = and_pulled (a.predicate == p) (not (some_differ s kf (atom_at given a).arguments ts)) c
unsets_first s kf p ts given (Clear x) c = and_pulled (x.predicate == p) (not (some_fixed_differ s kf (pattern_at given x).slots ts)) c
unsets_first s kf p ts given (Assign f us value) c = none_and c

-- the same of a change
pub assigns_first : (s : Signature) (kf : List Literal) (f : ℕ) (ts : List Inner) (given : List Inner) (x : Target) (c : Bool)
    → (assigns f x && (may_change s kf f ts (target_at given x) && c)) ≡ (c && may_change s kf f ts (target_at given x))
assigns_first s kf f ts given (Set a) c = none_and c
assigns_first s kf f ts given (Unset a) c = none_and c
assigns_first s kf f ts given (Clear x) c = none_and c
assigns_first s kf f ts given (Assign g us value) c = and_pulled (g == f) (not (some_differ s kf (map term_of (map (inner_at given) us)) (map term_of ts))) c
