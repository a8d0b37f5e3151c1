use Rattle.std.proofs.Common.{◌≡◌, drop}
use Rattle.pks_terms.specs.Views.{literal_of, literals_in}
use Rattle.pks_laws_forget.specs.Staying.{is_said_in}
use Rattle.pks_history_forget.proofs.staying.is_said_in.Given as goal

abbrev pub invariant-loop-l : goal.invariant-loop-l
invariant-loop-l l = is_said_in (literals_in (drop l.l-index l.ls)) (literal_of l.m) ≡ is_said_in (literals_in l.ls) (literal_of l.m)
