use Rattle.pks_tests_maps.proofs.tests.filled_map.Goals as goal

pub loop-number-preserved : goal.loop-number-preserved
loop-number-preserved c = tt
