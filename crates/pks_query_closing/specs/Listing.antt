-- Regions that list the same atoms.
use Rattle.std.specs.Prelude.{◌≡◌, ℕ, Bool, true, not, ◌||◌, ◌==◌, List}
use Rattle.std.specs.List.{list_all}
use Rattle.pks_terms.specs.Syntax.{Atom}
use Rattle.pks_terms.specs.Orders.{atom_cmp}
use Rattle.pks_terms.specs.Databases.{Entry}
use Rattle.pks_pmap_set.specs.Members.{is_member}

-- the predicate and the list of each region pass the test
abbrev pub all_pass : (ℕ → List Atom → Bool) → List Entry → Bool
all_pass test es = list_all (λ e. test e.pattern.predicate e.listed) es

-- what is so of the predicate and the list of each of some regions is so of all
abbrev pub StandFor : List Entry → List Entry → Type 0
StandFor some all = (test : ℕ → List Atom → Bool) → all_pass test some ≡ true → all_pass test all ≡ true

-- what is so of the predicate and the list of each of some regions is so of this one
abbrev pub StandForOne : List Entry → Entry → Type 0
StandForOne some e = (test : ℕ → List Atom → Bool) → all_pass test some ≡ true → test e.pattern.predicate e.listed ≡ true

-- the list is of another predicate, or has the atom
abbrev pub spares : Atom → ℕ → List Atom → Bool
spares a p listed = not (p == a.predicate) || is_member atom_cmp a listed
