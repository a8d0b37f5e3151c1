use Rattle.pks_laws_reader.proofs.Signed.{scope_shapes}
use Rattle.pks_laws_reader.proofs.laws.declared_shapes_are_small.Goals as goal

pub returns : goal.returns
returns c = λ version domain. scope_shapes version domain
