use Rattle.std.proofs.Common.{◌++◌, ◌∙◌, map, ap, subst}
use Rattle.pks_terms.specs.Closure.{by_value}
use Rattle.pks_terms.specs.Views.{literal_of}
use Rattle.pks_kf.specs.Known.{literals_of}
use Rattle.pks_query_closing.specs.Carrying.{Puts}
use Rattle.pks_query_closing.proofs.ByValue.{carries_forms}
use Rattle.pks_query_closing.proofs.carrying.Carrying.put_forms_in.Goals as goal

pub returns : goal.returns
returns c =
    let by = literals_of c.args.by.now.kf in
    let l = literal_of c.args.l.now in
    carries_forms l by (map literal_of c.put_by_value.new.to.items) c.args.self.now c.put_all_in.new.self (c.in_ok-put_by_value.ensures ∙ ap (λ xs. map literal_of xs ++ by_value by l) c.new-forms.ensures.items)
    (subst (λ ls. Puts (map literal_of ls) c.args.self.now c.put_all_in.new.self) c.as_slice.ensures.value c.in_ok-put_all_in.ensures)
