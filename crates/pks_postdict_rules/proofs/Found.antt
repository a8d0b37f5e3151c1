-- Finding literals among the program's.
use Rattle.std.proofs.Common.{◌≡◌, List}
use Rattle.std.specs.Ordering.{on}
use Rattle.pks_terms.specs.declared.literal.Literal.{Literal as DLiteral}
use Rattle.pks_terms.specs.Orders.{literal_cmp, literal_eq}
use Rattle.pks_terms.specs.Views.{literal_of}
use Rattle.pks_pmap_set.specs.Members.{is_member}
use Rattle.pks_pmap_set.proofs.Mapped.{is_member-map}
use Rattle.pks_kf.specs.Known.{literals_of}
use Rattle.pks_postdict_rules.specs.News.{is_in}

pub is_literal_among : (l : DLiteral) (ls : List DLiteral) → is_member (on literal_of literal_cmp) l ls ≡ is_in (literals_of ls) (literal_of l)
unfolding literal_eq
is_literal_among l ls = is_member-map literal_of literal_cmp l ls
