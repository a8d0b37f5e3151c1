use Rattle.pks_laws_forget.proofs.Worlds.{both_without, same_present}
use Rattle.pks_laws_forget.proofs.laws_of_looks.looks_keep_worlds.Goals as goal

pub returns : goal.returns
returns c = λ p h g w w' without both. (both_without p w w' h g without both, same_present p w h.start h.steps g.start g.steps without)
