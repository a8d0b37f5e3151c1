use Rattle.std.proofs.Common.{◌≡◌, map, drop}
use Rattle.pks_terms.specs.Databases.{normal_literal}
use Rattle.pks_terms.specs.Closure.{all_put_in, normal_group}
use Rattle.pks_terms.specs.Views.{literals_in}
use Rattle.pks_kf.specs.Known.{literals_of}
use Rattle.pks_query_closing.proofs.forms.normal_group.Given as goal

abbrev pub invariant-loop-l : goal.invariant-loop-l
invariant-loop-l l = all_put_in (literals_in l.all.items) (map (normal_literal (literals_of l.by.kf)) (literals_in (drop l.l-index l.l-items))) ≡ normal_group (literals_of l.by.kf) (literals_in l.g)
