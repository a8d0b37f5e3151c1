use Rattle.pks_terms.specs.Views.{literal_of}
use Rattle.pks_kf.specs.Known.{literals_of}
use Rattle.pks_query_closing.proofs.ByValue.{carries_touched}
use Rattle.pks_query_closing.proofs.carrying.Carrying.put_touched_in.Goals as goal

pub returns : goal.returns
returns c = carries_touched (literal_of c.in-Some.l) (literals_of c.args.by.now.kf) c.args.self.now c.put_forms_in.new.self c.in-Some.ensures c.in_ok-put_forms_in.ensures
