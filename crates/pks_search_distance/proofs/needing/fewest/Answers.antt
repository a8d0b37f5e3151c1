use Rattle.std.proofs.Common.{◌≡◌, ◌-◌, ◌/◌, ◌∙◌, min, Some, option_map, sym, ap, arith}
use Rattle.pks_search_distance.proofs.Least.{fewest_none, fewest_never, fewest_some, cut_full, cut_short}
use Rattle.pks_search_distance.proofs.needing.fewest.Goals as goal

pub returns-then-unmet-eq0 : goal.returns-then-unmet-eq0
returns-then-unmet-eq0 c =
    let cut : 0 ≡ min c.args.most 0 = omega arith in
    ap Some cut ∙ sym (ap (option_map (min c.args.most)) (fewest_none c.args.met c.args.unmet (omega arith)))

pub returns-then-met-eq0 : goal.returns-then-met-eq0
returns-then-met-eq0 c = sym (ap (option_map (min c.args.most)) (fewest_never c.args.met c.args.unmet (omega arith) (omega arith)))

pub returns-then-needs-most : goal.returns-then-needs-most
returns-then-needs-most c =
    let needs = (c.args.unmet - 1) / c.args.met in
    ap Some (cut_full c.args.most needs (omega arith)) ∙ sym (ap (option_map (min c.args.most)) (fewest_some c.args.met c.args.unmet (omega arith) (omega arith)))

pub returns : goal.returns
returns c =
    let needs = (c.args.unmet - 1) / c.args.met in
    ap Some (cut_short c.args.most needs (omega arith)) ∙ sym (ap (option_map (min c.args.most)) (fewest_some c.args.met c.args.unmet (omega arith) (omega arith)))
