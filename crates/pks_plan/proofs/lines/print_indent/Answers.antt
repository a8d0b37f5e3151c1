use Rattle.std.proofs.Common.{◌<◌, ◌-◌, ◌+◌, ◌∷◌, [], arith, subst}
use Rattle.pks_plan.specs.Indents.{indent}
use Rattle.pks_plan.proofs.Appended.{Reached, reached_more, reached_stop, at_err}
use Rattle.pks_plan.proofs.Indented.{indent_less}
use Rattle.pks_plan.proofs.lines.print_indent.Goals as goal

pub returns-in_err-put-clause-err : goal.returns-in_err-put-clause-err
returns-in_err-put-clause-err c =
    let n = c.args.level in
    let i = c.loop.counter in
    let within : i < n = omega arith in
    let reached = subst (λ r. Reached c.args.out.now.items c.loop.out.items (indent n) r) (indent_less n i within) c.loop.invariant in
    at_err _ _ (reached_stop (32 ∷ 32 ∷ []) (indent (n - (i + 1))) reached c.in_err-put.ensures.err)

pub loop-preserved : goal.loop-preserved
loop-preserved c =
    let n = c.args.level in
    let i = c.loop.counter in
    let within : i < n = omega arith in
    let reached = subst (λ r. Reached c.args.out.now.items c.loop.out.items (indent n) r) (indent_less n i within) c.loop.invariant in
    reached_more (32 ∷ 32 ∷ []) (indent (n - (i + 1))) reached c.in_ok-put.ensures.ok
