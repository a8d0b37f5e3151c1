-- What an action leaves of databases, before its adds are put in.
use Rattle.std.specs.Prelude.{Bool, not, ◌&&◌, ◌==◌, List, [], ◌∷◌, Option, Some, None, if◌then◌else◌}
use Rattle.std.specs.List.{list_all, filter, filter_map}
use Rattle.std.specs.Option.{option_map, option_and_then}
use Rattle.pks_terms.specs.Sets.{set_of}
use Rattle.pks_terms.specs.Syntax.{Literal, Atom, Pattern}
use Rattle.pks_terms.specs.Signatures.{Signature}
use Rattle.pks_terms.specs.Databases.{Entry, entry_cmp, Five}
use Rattle.pks_terms.specs.Actions.{Target, Set, Unset, Clear, Assign, Effect}
use Rattle.pks_terms.specs.Spoiling.{may_fire, some_fixed_differ, is_stable, are_stable, spoils}
use Rattle.pks_terms.specs.Progress.{is_untouched, entry_terms, widened_by, kept_entry}

-- what of each of the five lasts
abbrev pub kept_after : Signature → Five → List Effect → Five
kept_after s d es = record {
  kf = filter (λ l. not (spoils s d es l)) d.kf;
  kw = filter (is_untouched s d es) d.kw;
  kv = filter (is_stable s d es) d.kv;
  kx = filter (is_untouched s d es) d.kx;
  lcw = set_of entry_cmp (filter_map (kept_entry s d es) d.lcw);
}

-- the atom that a target makes true, where its effect may fire
abbrev pub atom_set : Bool → Target → Option Atom
atom_set fires (Set a) = if fires then Some a else None
atom_set fires (Unset a) = None
atom_set fires (Clear x) = None
atom_set fires (Assign f ts value) = None

-- the atoms that the effects may make true
abbrev pub atoms_set : Signature → Five → List Effect → List Atom
atoms_set s d es = filter_map (λ e. atom_set (may_fire s d e) e.target) es

-- the list of a region after these atoms may have become true, or none where the region is lost
abbrev pub widened_with : Signature → Five → List Effect → Pattern → List Atom → List Atom → Option (List Atom)
widened_with s d es x [] listed = Some listed
widened_with s d es x (a ∷ atoms) listed = option_and_then (widened_with s d es x atoms) (widened_by s d es x (Set a) listed)

-- the region then, or none where it is lost
abbrev pub kept_with : Signature → Five → List Effect → List Atom → Entry → Option Entry
kept_with s d es atoms r =
    if are_stable s d es (entry_terms r) then option_map (λ listed. record { pattern = r.pattern; listed = listed }) (widened_with s d es r.pattern atoms r.listed) else None

-- the atom isn't an instance of the pattern
abbrev pub is_elsewhere : Signature → List Literal → Pattern → Atom → Bool
is_elsewhere s kf x a = not ((a.predicate == x.predicate) && not (some_fixed_differ s kf x.slots a.arguments))

-- the region lasts as it is
abbrev pub stays : Signature → Five → List Effect → List Atom → Entry → Bool
stays s d es atoms r = are_stable s d es (entry_terms r) && list_all (is_elsewhere s d.kf r.pattern) atoms

-- the region where it doesn't last as it is, or none where it does or is lost
abbrev pub changed_with : Signature → Five → List Effect → List Atom → Entry → Option Entry
changed_with s d es atoms r = if stays s d es atoms r then None else kept_with s d es atoms r
