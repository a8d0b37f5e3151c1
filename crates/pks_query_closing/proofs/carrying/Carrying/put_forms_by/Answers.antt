use Rattle.std.proofs.Common.{[], ◌∷◌, subst}
use Rattle.pks_terms.specs.Sets.{IsIn}
use Rattle.pks_terms.specs.Views.{literal_of}
use Rattle.pks_kf.specs.Known.{literals_of}
use Rattle.pks_query_closing.proofs.ByValue.{carries_weaker}
use Rattle.pks_query_closing.proofs.carrying.Carrying.put_forms_by.Goals as goal

pub returns : goal.returns
returns c =
    carries_weaker (literals_of c.in_ok-by.by.kf) (literal_of c.args.l.now ∷ []) c.args.self.now c.put_all_touched_in-put.new.self
    (λ m i. subst (λ ls. IsIn m (literals_of ls)) c.in_ok-vec.ensures.items (c.in_ok-by.ensures m i)) c.in_ok-put.ensures
