use Rattle.std.proofs.Common.{◌≡◌, drop}
use Rattle.std.specs.List.{list_all}
use Rattle.pks_terms.specs.Databases.{some_differ}
use Rattle.pks_terms.specs.Views.{signature_of, terms_of}
use Rattle.pks_kf.specs.Known.{literals_of}
use Rattle.pks_lcw.specs.Entries.{atoms_of}
use Rattle.pks_query_lookup.proofs.derived.Derived.all_differ.Given as goal

abbrev pub invariant-loop-a : goal.invariant-loop-a
invariant-loop-a l =
    list_all (λ a. some_differ (signature_of l.s) (literals_of l.self.kf) a.arguments (terms_of l.args)) (atoms_of (drop l.a-index l.atoms))
    ≡ list_all (λ a. some_differ (signature_of l.s) (literals_of l.self.kf) a.arguments (terms_of l.args)) (atoms_of l.atoms)
