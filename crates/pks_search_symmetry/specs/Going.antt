-- Whether the members of a database have their images in another one.
use Rattle.std.specs.Prelude.{ℕ, Bool, List, ◌||◌, ◌&&◌}
use Rattle.std.specs.Ordering.{is_eq}
use Rattle.std.specs.List.{list_any, list_all}
use Rattle.std.specs.declared.cmp.Ordering.{Ordering}
use Rattle.pks_terms.specs.Syntax.{Literal, Term}
use Rattle.pks_terms.specs.Orders.{term_cmp, literal_cmp, conj_cmp}
use Rattle.pks_terms.specs.Databases.{Entry, entry_cmp, Five}
use Rattle.pks_laws_symmetry.specs.Trivial.{is_trivial}
use Rattle.pks_laws_symmetry.specs.Renamed.{renamed_literal, renamed_conj, renamed_term, renamed_group, renamed_entry}

-- one of the list is equal to x by the order
unfoldable pub is_one_of : {X : Type 0} → (X → X → Ordering) → X → List X → Bool
is_one_of R x xs = list_any (λ y. is_eq (R x y)) xs

-- a known literal holds anyway or has its image there
abbrev pub literal_goes : (ℕ → ℕ) → Five → Literal → Bool
literal_goes f e l = is_trivial l || is_one_of literal_cmp (renamed_literal f l) e.kf

-- a formula has its image there
abbrev pub formula_goes : (ℕ → ℕ) → Five → List Literal → Bool
formula_goes f e c = is_one_of conj_cmp (renamed_conj f c) e.kw

-- a term has its image there
abbrev pub value_goes : (ℕ → ℕ) → Five → Term → Bool
value_goes f e t = is_one_of term_cmp (renamed_term f t) e.kv

-- a group has its image there
abbrev pub group_goes : (ℕ → ℕ) → Five → List Literal → Bool
group_goes f e g = is_one_of conj_cmp (renamed_group f g) e.kx

-- a region has its image there
abbrev pub region_goes : (ℕ → ℕ) → Five → Entry → Bool
region_goes f e r = is_one_of entry_cmp (renamed_entry f r) e.lcw

-- so each member of the first database
abbrev pub all_go : (ℕ → ℕ) → Five → Five → Bool
all_go f d e =
    list_all (value_goes f e) d.kv && (list_all (formula_goes f e) d.kw && (list_all (literal_goes f e) d.kf && (list_all (group_goes f e) d.kx && list_all (region_goes f e) d.lcw)))
