use Rattle.pks_laws_version1.proofs.Old.{mistyped_same, apart_same}
use Rattle.pks_laws_version1.proofs.files.mistyped_terms_are_as_in_the_first_version.Goals as goal

pub returns-clause-terms : goal.returns-clause-terms
returns-clause-terms c = λ s wanted t none. mistyped_same s none wanted t

pub returns-clause-equations : goal.returns-clause-equations
returns-clause-equations c = λ s left right at none. apart_same s none left right at
