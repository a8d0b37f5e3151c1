use Rattle.pks_tests_maps.proofs.tests.filled_map.Given as goal

abbrev pub invariant-loop-number : goal.invariant-loop-number
invariant-loop-number l = Unit {0}
