use Rattle.std.proofs.Common.{[], ◌∷◌}
use Rattle.pks_terms.specs.Views.{literal_of, signature_of}
use Rattle.pks_query_closing.proofs.ByValue.{carries_on, carries_goes, goes_on, lists_goes}
use Rattle.pks_query_closing.proofs.carrying.Carrying.look_at.Goals as goal

pub returns : goal.returns
returns c =
    let s = signature_of c.args.s.now in
    let l = literal_of c.in-Some.l in
    let both = carries_on (l ∷ []) c.args.self.now c.put_own_forms_in.new.self c.put_forms_by.new.self c.in_ok-put_own_forms_in.ensures c.in_ok-put_forms_by.ensures in
    goes_on s c.args.self.now c.put_forms_by.new.self c.touch.new.self
    (carries_goes s l c.args.self.now c.put_forms_by.new.self c.in-Some.ensures both)
    (goes_on s c.put_forms_by.new.self c.put_range_in.new.self c.touch.new.self
    (c.in_ok-put_range_in.ensures (both.lists l c.in-Some.ensures))
    (lists_goes s c.put_range_in.new.self c.touch.new.self c.in_ok-touch.ensures))
