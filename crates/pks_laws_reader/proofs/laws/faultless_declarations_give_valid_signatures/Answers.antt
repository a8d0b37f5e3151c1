use Rattle.pks_laws_reader.proofs.Whole.{valid_declarations}
use Rattle.pks_laws_reader.proofs.laws.faultless_declarations_give_valid_signatures.Goals as goal

pub returns : goal.returns
returns c = λ v version d is e. valid_declarations v version d is e
