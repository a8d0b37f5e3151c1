use Rattle.std.proofs.Common.{◌==◌, sym, ◌∙◌}
use Rattle.std.proofs.lemmas.Bool.{eqb-true}
use Rattle.pks_terms.specs.Views.{object_of}
use Rattle.pks_terms.specs.declared.ids.ObjId.{ObjId}
use Rattle.pks_world.proofs.Telling.{alike}
use Rattle.pks_world.proofs.same.same_objects.Goals as goal

pub returns : goal.returns
returns c = λ yes. alike object_of (λ (x y : ObjId). x.0 == y.0) (λ x y e. eqb-true x.0 y.0 e) c.args.one.now c.args.other.now (sym c.eq.ensures ∙ yes)
