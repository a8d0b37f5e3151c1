use Rattle.pks_laws_version1.proofs.Looking.{bare_holds, bare_differ}
use Rattle.pks_laws_version1.proofs.laws.without_functions_nothing_is_foreign.Goals as goal

pub returns-clause-literals : goal.returns-clause-literals
returns-clause-literals c = λ s d l. bare_holds s d l

pub returns-clause-terms : goal.returns-clause-terms
returns-clause-terms c = λ s kf t u. bare_differ s kf t u
