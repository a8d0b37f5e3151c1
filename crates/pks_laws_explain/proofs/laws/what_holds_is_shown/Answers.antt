use Rattle.pks_laws_explain.proofs.Derived.{held}
use Rattle.pks_laws_explain.proofs.laws.what_holds_is_shown.Goals as goal

pub returns : goal.returns
returns c = λ p path m d l within s o h. held p path m within d s l o h
