use Rattle.std.proofs.Common.{◌∙◌, ap, sym}
use Rattle.pks_terms.specs.Justified.{item_case, given_of, case_of}
use Rattle.pks_terms.specs.Views.{add_of, item_of}
use Rattle.pks_justify.specs.Cases.{case_view}
use Rattle.pks_progress_adds.specs.Deeds.{schema_in}
use Rattle.pks_progress_adds.proofs.Placed.{assigned}
use Rattle.pks_progress_adds.proofs.deed.Deed.value.Goals as goal

pub value_by-requires : goal.value_by-requires
unfolding case_of
value_by-requires c =
    let sc = schema_in c.args.self.now in
    let g = given_of sc (add_of c.args.a.now) in
    assigned g sc (case_view c.in-Some.case) c.in-Kv.t (ap (λ x. item_case g sc (item_of x)) (sym c.in-Kv.is) ∙ sym c.in-Some.ensures)
