use Rattle.pks_laws.proofs.NormalMembers.{closed_term_again, closed_literal_again}
use Rattle.pks_laws.proofs.laws.normal_forms_are_final.Goals as goal

pub returns : goal.returns
returns c = λ s d inhabited closed. (closed_term_again s inhabited d closed, closed_literal_again s inhabited d closed)
