use Rattle.std.proofs.Common.{◌≡◌, ◌++◌, drop}
use Rattle.pks_terms.specs.Views.{terms_of}
use Rattle.pks_kf.specs.Known.{literals_of}
use Rattle.pks_kw.specs.Formulas.{formulas_of}
use Rattle.pks_lcw.specs.Entries.{entries_of}
use Rattle.pks_progress_adds.specs.Deeds.{literals_from, formulas_from, values_from, regions_from, given_by}
use Rattle.pks_progress_adds.proofs.gained.gains_of.Given as goal

abbrev pub invariant-loop-a : goal.invariant-loop-a
invariant-loop-a l =
    (literals_of l.gains.kf.items ++ given_by literals_from l.deed (drop l.a-index l.adds) ≡ given_by literals_from l.deed l.adds)
    × (formulas_of l.gains.kw.items ++ given_by formulas_from l.deed (drop l.a-index l.adds) ≡ given_by formulas_from l.deed l.adds)
    × (terms_of l.gains.kv.items ++ given_by values_from l.deed (drop l.a-index l.adds) ≡ given_by values_from l.deed l.adds)
    × (entries_of l.gains.lcw.items ++ given_by regions_from l.deed (drop l.a-index l.adds) ≡ given_by regions_from l.deed l.adds)
