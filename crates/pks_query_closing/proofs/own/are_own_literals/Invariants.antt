use Rattle.std.proofs.Common.{◌≡◌, drop}
use Rattle.std.specs.List.{list_all}
use Rattle.pks_terms.specs.Views.{literals_in}
use Rattle.pks_kf.specs.Known.{literals_of}
use Rattle.pks_query_lookup.specs.Forms.{is_normal}
use Rattle.pks_query_closing.proofs.own.are_own_literals.Given as goal

abbrev pub invariant-loop-l : goal.invariant-loop-l
invariant-loop-l l = list_all (is_normal (literals_of l.by.kf)) (literals_in (drop l.l-index l.ls)) ≡ list_all (is_normal (literals_of l.by.kf)) (literals_in l.ls)
