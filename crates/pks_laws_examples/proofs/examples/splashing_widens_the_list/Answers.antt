use Rattle.pks_laws_examples.proofs.WorkedRows.{tubs_act_splash, first_tub_not_met}
use Rattle.pks_laws_examples.proofs.examples.splashing_widens_the_list.Goals as goal

pub returns : goal.returns
returns c = (tubs_act_splash Rattle.pks_laws_examples.specs.Worked.first_tub, first_tub_not_met)
