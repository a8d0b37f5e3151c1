use Rattle.std.proofs.Common.{map, subst}
use Rattle.pks_terms.specs.Problems.{Aim}
use Rattle.pks_terms.specs.Sets.{IsIn}
use Rattle.pks_terms.specs.Views.{aim_of}
use Rattle.pks_laws_symmetry.specs.Renamed.{renamed_aim}
use Rattle.pks_search_symmetry.specs.Renaming.{image_by}
use Rattle.pks_search_symmetry.proofs.alike.is_symmetry.Goals as goal

pub returns-then-there : goal.returns-then-there
returns-then-there c = λ e. record {
  renaming = c.takes_back.ensures c.if-not-takes_back.false;
  texts = c.keeps_texts.ensures c.if-not-keeps_texts.false;
  goal =
      subst
      (λ g. (a : Aim) → IsIn a (map aim_of g) → IsIn (renamed_aim (image_by c.args.to.now) a) (map aim_of g) × IsIn (renamed_aim (image_by c.args.back.now) a) (map aim_of g))
      c.as_slice-goal.ensures
      (λ a h. (c.keeps_goal-there.ensures c.if-there.true a h, c.keeps_goal-again.ensures e a h));
}
