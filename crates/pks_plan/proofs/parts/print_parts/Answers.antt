use Rattle.std.proofs.Common.{◌<◌, ◌∷◌, ◌++◌, [], suc, map, drop, length, arith, subst}
use Rattle.std.specs.List.{flat_map}
use Rattle.pks_plan.proofs.Appended.{Reached, reached_more, reached_stop, next_part, at_err}
use Rattle.pks_plan.proofs.parts.print_parts.Goals as goal

pub returns-in_err-put-clause-err : goal.returns-in_err-put-clause-err
returns-in_err-put-clause-err g c =
    let f = g.T.PrintedPart.text c.args.w.now in
    let xs = c.args.parts.now in
    let i = c.loop-part.part-index in
    let x = c.part-item.result in
    let rest = flat_map (λ part. 32 ∷ part) (map f (drop (suc i) xs)) in
    let within : i < length xs = omega arith in
    let reached = subst (λ r. Reached c.args.out.now.items c.loop-part.out.items (flat_map (λ part. 32 ∷ part) (map f xs)) r) (next_part f xs i x within c.part-item.is) c.loop-part.invariant in
    at_err _ _ (reached_stop (32 ∷ []) (f x ++ rest) reached c.in_err-put.ensures.err)

pub returns-in_err-print-clause-err : goal.returns-in_err-print-clause-err
returns-in_err-print-clause-err g c =
    let f = g.T.PrintedPart.text c.args.w.now in
    let xs = c.args.parts.now in
    let i = c.loop-part.part-index in
    let x = c.part-item.result in
    let rest = flat_map (λ part. 32 ∷ part) (map f (drop (suc i) xs)) in
    let within : i < length xs = omega arith in
    let reached = subst (λ r. Reached c.args.out.now.items c.loop-part.out.items (flat_map (λ part. 32 ∷ part) (map f xs)) r) (next_part f xs i x within c.part-item.is) c.loop-part.invariant in
    at_err _ _ (reached_stop (f x) rest (reached_more (32 ∷ []) (f x ++ rest) reached c.in_ok-put.ensures.ok) c.in_err-print.ensures.err)
