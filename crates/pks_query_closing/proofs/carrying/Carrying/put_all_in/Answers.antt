use Rattle.std.proofs.Common.{map}
use Rattle.pks_terms.specs.Views.{literal_of}
use Rattle.pks_terms.proofs.ListLaws.{in_map}
use Rattle.pks_query_closing.proofs.ByValue.{at_in, puts_part}
use Rattle.pks_query_closing.proofs.carrying.Carrying.put_all_in.Goals as goal

pub loop-l-preserved : goal.loop-l-preserved
loop-l-preserved c =
    let ls = c.args.ls.now in
    puts_part _ (map literal_of ls) c.args.self.now c.loop-l.self c.put_in.new.self (in_map literal_of ls _ (at_in ls c.loop-l.l-index _ c.loop-l-test.true)) c.loop-l.invariant c.in_ok-put_in.ensures
