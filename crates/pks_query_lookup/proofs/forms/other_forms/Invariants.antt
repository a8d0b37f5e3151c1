use Rattle.std.proofs.Common.{◌≡◌, ◌++◌, map}
use Rattle.pks_terms.specs.Views.{literal_of}
use Rattle.pks_kf.specs.Known.{literals_of}
use Rattle.pks_query_lookup.specs.Forms.{other_forms}
use Rattle.pks_query_lookup.proofs.forms.other_forms.Given as goal

abbrev pub invariant-loop-k : goal.invariant-loop-k
invariant-loop-k l =
    map literal_of l.forms.items ++ other_forms (literals_of l.normals.kf) (literals_of l.k-iterator)
    ≡ other_forms (literals_of l.normals.kf) (literals_of l.normals.kf)
