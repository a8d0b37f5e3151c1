use Rattle.std.proofs.Common.{rules, ◌≡◌, ◌≤◌, ◌+◌, length, arith}
use Rattle.pks_io.proofs.Parts.{takes_more}
use Rattle.pks_io.proofs.read.read_all.Goals as goal

pub returns-then-taken-room-clause-takes : goal.returns-then-taken-room-clause-takes
returns-then-taken-room-clause-takes g c =
    let all = takes_more (g.S.Source.left c.args.source.now) (g.S.Source.left c.loop.source) (g.S.Source.left c.read.new.self) c.loop.bytes.items c.read.new.into c.in-Ok.taken c.in-Ok.ensures.bound.1 c.loop.invariant.taken c.in-Ok.ensures.bytes.0 in
    let fits : c.in-Ok.taken ≤ length c.read.new.into = c.in-Ok.ensures.bound.0 in
    let most : length c.read.new.into ≡ c.min-most.result = search rules in
    let whole : length all.0 ≡ c.args.limit + 1 = omega (arith, all.2, fits, most) in
    record { bytes = all.0; taken = all.1; few = omega (arith, whole); over = λ _. whole }

pub returns-then-is_err-clause-takes : goal.returns-then-is_err-clause-takes
returns-then-is_err-clause-takes g c =
    let all = takes_more (g.S.Source.left c.args.source.now) (g.S.Source.left c.loop.source) (g.S.Source.left c.read.new.self) c.loop.bytes.items c.read.new.into c.in-Ok.taken c.in-Ok.ensures.bound.1 c.loop.invariant.taken c.in-Ok.ensures.bytes.0 in
    let few : length all.0 ≤ c.args.limit + 1 = omega (arith, all.2) in
    record { bytes = all.0; taken = all.1; few = few; over = λ e. absurd cc }
