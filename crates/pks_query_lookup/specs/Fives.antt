-- What the program's five databases say.
use Rattle.pks_terms.specs.Views.{terms_of}
use Rattle.pks_terms.specs.Databases.{Five}
use Rattle.pks_kf.specs.Known.{literals_of}
use Rattle.pks_kw.specs.Formulas.{formulas_of}
use Rattle.pks_kx.specs.Groups.{groups_of}
use Rattle.pks_lcw.specs.Entries.{entries_of}
use Rattle.pks_query_lookup.specs.declared.five.Five.{Five as DFive}

-- each as the list of what its members say
abbrev pub five_of : DFive → Five
five_of d = record { kf = literals_of d.kf; kw = formulas_of d.kw; kv = terms_of d.kv; kx = groups_of d.kx; lcw = entries_of d.lcw }
