use Rattle.std.proofs.Common.{◌≡◌, drop}
use Rattle.pks_terms.specs.Views.{literals_in}
use Rattle.pks_laws_forget.specs.Staying.{says_more}
use Rattle.pks_history_forget.proofs.staying.says_more.Given as goal

abbrev pub invariant-loop-m : goal.invariant-loop-m
invariant-loop-m l = says_more (literals_in l.ls) (literals_in (drop l.m-index l.others)) ≡ says_more (literals_in l.ls) (literals_in l.others)
