-- What lasts, read through what the program's values say.
use Rattle.std.proofs.Common.{◌≡◌, Bool, true, false, List, [], ◌∷◌, Option, Some, None, cond, if◌then◌else◌, refl, sym, ap, ◌∙◌}
use Rattle.std.specs.List.{filter_map, cons_option}
use Rattle.std.specs.Option.{option_map, option_and_then}
use Rattle.std.specs.Ordering.{on}
use Rattle.std.proofs.lemmas.List.Folds.{list_all-append}
use Rattle.pks_terms.specs.declared.literal.PredAtom.{PredAtom}
use Rattle.pks_terms.specs.Syntax.{Atom, Pattern}
use Rattle.pks_terms.specs.declared.literal.Literal.{Literal as DLiteral}
use Rattle.pks_terms.specs.declared.literal.Conj.{Conj}
use Rattle.pks_terms.specs.declared.term.Term.{Term as DTerm}
use Rattle.pks_lcw.specs.declared.regions.Entry.{Entry as DEntry}
use Rattle.pks_terms.specs.Orders.{term_cmp, literal_cmp, conj_cmp, atom_cmp}
use Rattle.pks_terms.specs.Sets.{insert_in, added}
use Rattle.pks_terms.specs.Signatures.{Signature}
use Rattle.pks_terms.specs.Databases.{Entry, entry_cmp, Five}
use Rattle.pks_terms.specs.Actions.{Target, Set, Unset, Clear, Assign, Effect}
use Rattle.pks_terms.specs.Spoiling.{may_fire, are_stable}
use Rattle.pks_terms.specs.Progress.{entry_terms, widened_by, widened, kept_entry}
use Rattle.pks_terms.specs.Views.{term_of, terms_of, literal_of, conj_of, atom_of}
use Rattle.pks_terms.proofs.SetLaws.{map-insert_in, map-added}
use Rattle.pks_kf.specs.Known.{literals_of}
use Rattle.pks_kw.specs.Formulas.{formulas_of}
use Rattle.pks_lcw.specs.Entries.{atoms_of, entry_of, entries_of}
use Rattle.pks_progress.specs.Kept.{atom_set, atoms_set, widened_with, kept_with}

pub ruleset all = (list_all-append)

pub atoms_inserted : (a : PredAtom) (xs : List PredAtom) → atoms_of (insert_in (on atom_of atom_cmp) a xs) ≡ insert_in atom_cmp (atom_of a) (atoms_of xs)
atoms_inserted a xs = map-insert_in atom_of atom_cmp a xs

pub ruleset inserted = (atoms_inserted)

then_alike : (F G : List Atom → Option (List Atom)) → ((l : List Atom) → F l ≡ G l) → (o : Option (List Atom)) → option_and_then F o ≡ option_and_then G o
then_alike F G h None = refl
then_alike F G h (Some l) = h l

-- effects widen a region by the atoms that they may make true
module _ (s : Signature) (d : Five) (all : List Effect) (x : Pattern) where
  by_target : (b : Bool) (t : Target) (rest : List Atom) (listed : List Atom) (F : List Atom → Option (List Atom)) → ((l : List Atom) → F l ≡ widened_with s d all x rest l)
      → option_and_then F (cond b (widened_by s d all x t listed) (Some listed))
      ≡ widened_with s d all x (cons_option (atom_set b t) rest) listed
  by_target true (Set a) rest listed F h = then_alike F (widened_with s d all x rest) h (widened_by s d all x (Set a) listed)
  by_target false (Set a) rest listed F h = h listed
  by_target true (Unset a) rest listed F h = h listed
  by_target false (Unset a) rest listed F h = h listed
  by_target true (Clear y) rest listed F h = h listed
  by_target false (Clear y) rest listed F h = h listed
  by_target true (Assign f ts v) rest listed F h = h listed
  by_target false (Assign f ts v) rest listed F h = h listed

  pub widened_alike : (es : List Effect) (listed : List Atom) → widened s d all x es listed ≡ widened_with s d all x (atoms_set s d es) listed
  widened_alike [] listed = refl
  widened_alike (e ∷ es) listed = by_target (may_fire s d e) e.target (atoms_set s d es) listed (widened s d all x es) (widened_alike es)

filter_map_alike : {X Y : Type 0} (f g : X → Option Y) → ((x : X) → f x ≡ g x) → (xs : List X) → filter_map f xs ≡ filter_map g xs
filter_map_alike f g h [] = refl
filter_map_alike f g h (x ∷ xs) = λ i. cons_option (h x i) (filter_map_alike f g h xs i)

-- so regions last as the atoms tell
pub entries_alike : (s : Signature) (d : Five) (es : List Effect) (atoms : List Atom) → atoms ≡ atoms_set s d es → (rs : List Entry) → filter_map (kept_with s d es atoms) rs ≡ filter_map (kept_entry s d es) rs
entries_alike s d es atoms same rs =
    filter_map_alike (kept_with s d es atoms) (kept_entry s d es)
    (λ r. ap (λ (o : Option (List Atom)). if are_stable s d es (entry_terms r) then option_map (λ listed. record { pattern = r.pattern; listed = listed }) o else None) (ap (λ (ys : List Atom). widened_with s d es r.pattern ys r.listed) same ∙ sym (widened_alike s d es r.pattern es r.listed)))
    rs

-- members put in, read through what they say
pub literals_put_in : (s xs : List DLiteral) → literals_of (added (on literal_of literal_cmp) s xs) ≡ added literal_cmp (literals_of s) (literals_of xs)
literals_put_in s xs = map-added literal_of literal_cmp s xs

pub formulas_put_in : (s xs : List Conj) → formulas_of (added (on conj_of conj_cmp) s xs) ≡ added conj_cmp (formulas_of s) (formulas_of xs)
formulas_put_in s xs = map-added conj_of conj_cmp s xs

pub terms_put_in : (s xs : List DTerm) → terms_of (added (on term_of term_cmp) s xs) ≡ added term_cmp (terms_of s) (terms_of xs)
terms_put_in s xs = map-added term_of term_cmp s xs

pub entries_put_in : (s xs : List DEntry) → entries_of (added (on entry_of entry_cmp) s xs) ≡ added entry_cmp (entries_of s) (entries_of xs)
entries_put_in s xs = map-added entry_of entry_cmp s xs
