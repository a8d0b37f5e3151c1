use Rattle.pks_terms.specs.Views.{signature_of}
use Rattle.pks_query_lookup.specs.Fives.{five_of}
use Rattle.pks_query_closing.proofs.ByValue.{reaches}
use Rattle.pks_query_closing.proofs.carrying.Carrying.after_work.Goals as goal

pub returns : goal.returns
returns c = λ d inhabited reached. reaches (signature_of c.args.s.now) d (five_of c.in_ok-five.five) c.args.self.now c.work.new.self inhabited reached c.in_ok-work.ensures c.in_ok-five.ensures
