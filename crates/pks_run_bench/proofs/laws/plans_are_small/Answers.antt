use Rattle.pks_run_bench.proofs.Sizes.{plans_small}
use Rattle.pks_run_bench.proofs.laws.plans_are_small.Goals as goal

pub returns : goal.returns
returns c = λ p x t d low. plans_small p x t d low
