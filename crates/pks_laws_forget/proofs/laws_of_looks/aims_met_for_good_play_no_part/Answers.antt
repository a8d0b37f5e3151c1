use Rattle.pks_laws_forget.proofs.Fewer.{trees_without}
use Rattle.pks_laws_forget.proofs.laws_of_looks.aims_met_for_good_play_no_part.Goals as goal

pub returns : goal.returns
returns c = λ p h t inhabited. trees_without p inhabited h t
