use Rattle.std.proofs.Common.{◌≡◌}
use Rattle.std.specs.List.{list_any}
use Rattle.pks_terms.specs.Databases.{is_shut_out}
use Rattle.pks_terms.specs.Views.{signature_of, atom_of}
use Rattle.pks_kf.specs.Known.{literals_of}
use Rattle.pks_lcw.specs.Entries.{entries_of}
use Rattle.pks_query_lookup.proofs.derived.Derived.is_outside.Given as goal

abbrev pub invariant-loop-region : goal.invariant-loop-region
invariant-loop-region l =
    list_any (is_shut_out (signature_of l.s) (literals_of l.self.kf) l.a.pred.0 (atom_of l.a).arguments) (entries_of l.region-iterator)
    ≡ list_any (is_shut_out (signature_of l.s) (literals_of l.self.kf) l.a.pred.0 (atom_of l.a).arguments) (entries_of l.self.lcw)
