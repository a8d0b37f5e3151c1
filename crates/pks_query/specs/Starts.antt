-- What the initial items of the program say.
use Rattle.std.specs.Prelude.{◌≡◌, ℕ, List, map}
use Rattle.std.specs.List.{filter_map}
use Rattle.pks_terms.specs.declared.ids.PredId.{PredId}
use Rattle.pks_terms.specs.declared.literal.PredAtom.{PredAtom}
use Rattle.pks_terms.specs.declared.problem.InitItem.{InitItem}
use Rattle.pks_query.specs.declared.initial.ItemsByKind.{ItemsByKind}
use Rattle.pks_terms.specs.Syntax.{Literal, Atom}
use Rattle.pks_terms.specs.Sets.{Each, set_of}
use Rattle.pks_terms.specs.Orders.{atom_cmp}
use Rattle.pks_terms.specs.Problems.{Start, known_start, whether_start, value_start, group_start, region_start, atom_on}
use Rattle.pks_terms.specs.Views.{conj_of, literal_of, literals_in, pattern_of, start_of, term_of}
use Rattle.pks_lcw.specs.Entries.{atoms_of}

-- each item
abbrev pub starts_of : List InitItem → List Start
starts_of init = map (λ i. start_of i.start) init

-- each kind in written order
pub record AreSorted (starts : List Start) (sorted : ItemsByKind) : Type 0 where
  pub known : map literal_of sorted.known.items ≡ filter_map known_start starts
  pub whether : map conj_of sorted.whether.items ≡ filter_map whether_start starts
  pub values : map term_of sorted.values.items ≡ filter_map value_start starts
  pub groups : map literals_in sorted.groups.items ≡ filter_map group_start starts
  pub regions : map pattern_of sorted.regions.items ≡ filter_map region_start starts

-- the known atoms of a predicate, which the initial regions on it list
abbrev pub known_list : List Literal → ℕ → List Atom
known_list kf p = set_of atom_cmp (filter_map (atom_on p) kf)

-- lists of known atoms beside their predicates
abbrev pub AreKnownLists : List Literal → List (PredId × List PredAtom) → Type 0
AreKnownLists kf lists = Each (λ l. atoms_of l.1 ≡ known_list kf l.0.0) lists
