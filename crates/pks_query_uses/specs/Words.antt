-- What an index of databases has.
use Rattle.std.specs.Prelude.{◌≡◌}
use Rattle.std.specs.List.{filter}
use Rattle.pks_terms.specs.Sets.{IsOrdered}
use Rattle.pks_terms.specs.Orders.{literal_cmp}
use Rattle.pks_terms.specs.Databases.{Five}
use Rattle.pks_terms.specs.Views.{term_of}
use Rattle.pks_terms.specs.declared.term.Term.{Term as DTerm}
use Rattle.pks_kf.specs.Known.{literals_of}
use Rattle.pks_kx.specs.Groups.{groups_of}
use Rattle.pks_lcw.specs.Entries.{entries_of}
use Rattle.pks_query_uses.specs.Occurring.{in_literal, in_group, in_entry, is_among}
use Rattle.pks_query_uses.specs.Indexes.{items_at}
use Rattle.pks_query_uses.specs.declared.uses.Uses.{Uses}

-- at each term the index has the literals, groups and regions of d in which it occurs, in order
pub record AreUsesOf (d : Five) (u : Uses) : Type 0 where
  pub ordered : IsOrdered literal_cmp d.kf
  pub literals : (t : DTerm) → literals_of (items_at u.literals t) ≡ filter (λ l. is_among (term_of t) (in_literal l)) d.kf
  pub groups : (t : DTerm) → groups_of (items_at u.groups t) ≡ filter (λ g. is_among (term_of t) (in_group g)) d.kx
  pub entries : (t : DTerm) → entries_of (items_at u.entries t) ≡ filter (λ e. is_among (term_of t) (in_entry e)) d.lcw
