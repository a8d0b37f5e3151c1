use Rattle.std.proofs.Common.{◌≡◌, ◌++◌, map, drop}
use Rattle.std.specs.List.{filter_map}
use Rattle.pks_terms.specs.Explained.{literal_aimed}
use Rattle.pks_terms.specs.Views.{literals_in, aim_of}
use Rattle.pks_explain.proofs.owing.literals_aimed.Given as goal

abbrev pub invariant-loop-aim : goal.invariant-loop-aim
invariant-loop-aim l = literals_in l.literals.items ++ filter_map literal_aimed (map aim_of (drop l.aim-index l.aims)) ≡ filter_map literal_aimed (map aim_of l.aims)
