use Rattle.std.proofs.Common.{◌≡◌, List, Some, None, length, map, refl, sym, subst}
use Rattle.pks_text.specs.FormViews.{form_view}
use Rattle.pks_text.specs.declared.tree.Form.{Form as CodeForm}
use Rattle.pks_reader_shape.specs.Files.{number_of, shape_fault}
use Rattle.pks_reader_shape.proofs.Refusing.{none_refused}
use Rattle.pks_reader_names.specs.Parts.{behind_head}
use Rattle.pks_reader_declared.specs.FirstFault.{meaning_fault}
use Rattle.pks_reader.specs.Files.{IsFileOf, AreRefused}
use Rattle.pks_reader.proofs.Deciding.{IsShaped, err_as, only_stated_in, only_refused_in}
use Rattle.pks_reader.proofs.Stating.{forms_state, meaning_refuses, stated_valid}
use Rattle.pks_reader.proofs.reading.problem_of.Goals as goal

pub returns-in-None : goal.returns-in-None
returns-in-None c =
    let fs = map form_view c.args.forms.now.top.items in
    let end = length c.args.source.now in
    let v = c.version_of.result in
    let d = form_view c.form_at.result.now in
    let p = form_view c.form_at-in-None.result.now in
    let same = c.as_slice-top.ensures.value in
    let file : IsFileOf fs v d p =
    subst (λ (xs : List CodeForm). IsFileOf (map form_view xs) v d p) same (record { file = c.in-None.ensures.none.0 refl; version = sym c.version_of.ensures; domain = c.form_at.ensures; problem = c.form_at-in-None.ensures }) in
    let shaped : IsShaped end fs = λ is. subst (λ (xs : List CodeForm). shape_fault end (map form_view xs) ≡ None) same (none_refused (shape_fault end (map form_view c.as_slice-top.result.now)) (sym c.in-None.ensures.fault)) in
    let stated = forms_state fs v d p c.problem_of_forms.result file c.problem_of_forms.ensures.faultless c.problem_of_forms.ensures.says c.problem_of_forms.ensures.named in
    let refused = err_as (λ f. meaning_fault (number_of v) (behind_head d) (behind_head p) ≡ Some f) (AreRefused end fs) c.problem_of_forms.result (λ f e. meaning_refuses end fs v d p f file e) c.problem_of_forms.ensures.refused in
    record {
      stated = stated;
      valid = stated_valid c.args.source.now fs v d p c.problem_of_forms.result c.requires.short c.requires.spelled file c.problem_of_forms.ensures.faultless c.problem_of_forms.ensures.says c.problem_of_forms.ensures.named c.problem_of_forms.ensures.counted c.problem_of_forms.ensures.counts c.problem_of_forms.ensures.places;
      refused = refused;
      only_stated = only_stated_in end fs shaped c.problem_of_forms.result stated refused;
      only_refused = only_refused_in end fs shaped c.problem_of_forms.result stated refused;
    }
