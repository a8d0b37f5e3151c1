use Rattle.std.proofs.Common.{◌≡◌, ◌∙◌, length, take, refl, sym, ap, rules}
use Rattle.pks_terms.specs.Syntax.{Object, Apply, Inner}
use Rattle.pks_terms.specs.declared.ids.ObjId.{ObjId}
use Rattle.pks_terms.specs.Views.{object_of, inner_of}
use Rattle.pks_terms.proofs.ListLaws.{map-map}
use Rattle.pks_terms.proofs.Fronts.{taken_two}
use Rattle.pks_terms.proofs.term.application.Goals as goal

pub returns : goal.returns
returns c =
    let long : length c.args.args.now ≡ 2 = search rules in
    let lift = λ (d : ObjId). let t : Inner = Object d.0 in t in
    ap (Apply c.args.fun.0) (taken_two inner_of lift c.args.args.now (record { 0 = 0 }) _ _ c.args.n long refl refl ∙ sym (map-map object_of Object (take c.args.n c.args.args.now)))
