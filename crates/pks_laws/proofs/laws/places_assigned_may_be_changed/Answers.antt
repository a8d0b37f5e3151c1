use Rattle.pks_laws.proofs.Changing.{changes_may}
use Rattle.pks_laws.proofs.laws.places_assigned_may_be_changed.Goals as goal

pub returns : goal.returns
returns c = λ s w d f ts x e m h. changes_may w d m f ts x e h
