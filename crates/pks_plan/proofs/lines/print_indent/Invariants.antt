use Rattle.std.proofs.Common.{◌-◌}
use Rattle.pks_plan.specs.Indents.{indent}
use Rattle.pks_plan.proofs.Appended.{Reached}
use Rattle.pks_plan.proofs.lines.print_indent.Given as goal

abbrev pub invariant-loop : goal.invariant-loop
invariant-loop l = Reached l.fn.out.items l.out.items (indent l.level) (indent (l.level - l.counter))
