use Rattle.pks_laws_forget.proofs.Ended.{equal_plans}
use Rattle.pks_laws_forget.specs.Ends.{HasObjectGroups}
use Rattle.pks_laws_forget.proofs.Regionless.{keeps_at_objects}
use Rattle.pks_laws_forget.proofs.laws_of_ends.equal_ends_without_regions_give_equal_plans.Goals as goal

pub returns : goal.returns
returns c = λ p h g n o valid plain none m a f m' a' f' last ends. equal_plans p valid plain HasObjectGroups (keeps_at_objects p none) h g m a f m' a' f' last ends n o
