use Rattle.pks_terms.specs.Views.{literal_of}
use Rattle.pks_kf.specs.Known.{literals_of}
use Rattle.pks_query_closing.proofs.ByValue.{carries_own}
use Rattle.pks_query_closing.proofs.carrying.Carrying.put_own_forms_in.Goals as goal

pub returns : goal.returns
returns c = carries_own (literal_of c.args.l.now) (literals_of c.in_ok-by.by.kf) c.args.self.now c.put_forms_in-put.new.self c.in_ok-by.ensures c.in_ok-put.ensures
