use Rattle.std.proofs.Common.{◌≡◌, ◌+◌, ◌++◌, arith}
use Rattle.std.specs.List.{flat_map}
use Rattle.pks_terms.specs.Aims.{moments}
use Rattle.pks_terms.specs.Branching.{numbered}
use Rattle.pks_terms.specs.Recalled.{moment_text}
use Rattle.pks_terms.specs.Views.{names_of}
use Rattle.pks_query_lookup.specs.Fives.{five_of}
use Rattle.pks_recall.proofs.Telling.{one_told}
use Rattle.pks_recall.proofs.print.print_moments.Goals as goal

pub loop-moment-preserved : goal.loop-moment-preserved
loop-moment-preserved c =
    let text = moment_text (names_of c.args.p.now) in
    let all = moments c.args.h.now in
    let same : 0 + c.loop-moment.moment ≡ c.loop-moment.moment = omega arith in
    one_told text 0 all c.loop-moment.moment c.loop-moment.moment (five_of c.at.result.now) c.loop-moment.out.items c.print_moment.new.out.items (c.args.out.now.items ++ flat_map text (numbered 0 all)) same c.at.ensures c.in_ok-print_moment.ensures c.loop-moment.invariant
