use Rattle.pks_laws.proofs.Changing.{stable_value}
use Rattle.pks_laws.proofs.laws.stable_terms_keep_values.Goals as goal

pub returns : goal.returns
returns c = λ s w d es t m h. stable_value w d m es t h
