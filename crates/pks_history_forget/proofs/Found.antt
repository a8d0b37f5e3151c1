-- Finding members of sets of the program's values.
use Rattle.std.proofs.Common.{◌≡◌, List, is_eq}
use Rattle.std.specs.List.{list_any}
use Rattle.std.specs.Ordering.{on}
use Rattle.std.proofs.lemmas.List.Folds.{list_all-append, list_any-append}
use Rattle.pks_terms.specs.declared.literal.Literal.{Literal as DLiteral}
use Rattle.pks_terms.specs.Orders.{literal_cmp, literal_eq, conj_cmp}
use Rattle.pks_terms.specs.Databases.{entry_cmp}
use Rattle.pks_terms.specs.Views.{literal_of, literals_in}
use Rattle.pks_pmap_set.specs.Members.{is_member}
use Rattle.pks_pmap_set.proofs.Mapped.{is_member-map}
use Rattle.pks_kf.specs.Known.{literals_of}
use Rattle.pks_kx.specs.Groups.{groups_of}
use Rattle.pks_lcw.specs.declared.regions.Entry.{Entry as DEntry}
use Rattle.pks_lcw.specs.Entries.{entry_of, entries_of}

pub is_literal_among : (l : DLiteral) (ls : List DLiteral) → is_member (on literal_of literal_cmp) l ls ≡ list_any (literal_eq (literal_of l)) (literals_of ls)
unfolding literal_eq
is_literal_among l ls = is_member-map literal_of literal_cmp l ls

pub is_group_among : (g : List DLiteral) (gs : List (List DLiteral)) → is_member (on literals_in conj_cmp) g gs ≡ list_any (λ h. is_eq (conj_cmp (literals_in g) h)) (groups_of gs)
is_group_among g gs = is_member-map literals_in conj_cmp g gs

pub is_region_among : (r : DEntry) (rs : List DEntry) → is_member (on entry_of entry_cmp) r rs ≡ list_any (λ q. is_eq (entry_cmp (entry_of r) q)) (entries_of rs)
is_region_among r rs = is_member-map entry_of entry_cmp r rs

pub ruleset all = (list_all-append)

pub ruleset any = (list_any-append)
