use Rattle.pks_laws.proofs.NormalMembers.{closed_normal_in}
use Rattle.pks_laws.proofs.laws.closed_databases_have_normal_forms.Goals as goal

pub returns : goal.returns
returns c = λ s d l inhabited closed ordered i. closed_normal_in s inhabited d closed l ordered i
