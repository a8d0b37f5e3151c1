use Rattle.std.proofs.Common.{◌≡◌, ◌<◌, length, rules, arith}
use Rattle.std.proofs.lemmas.List.{take_more_set}
use Rattle.pks_branch.proofs.walking.put.Goals as goal

pub returns : goal.returns
returns c =
    let long : length c.args.args.now ≡ 4 = search rules in
    let within : c.args.n < length c.args.args.now = omega arith in
    take_more_set c.args.args.now c.args.n c.args.t.now within
