use Rattle.std.proofs.Common.{[], map, refl, subst}
use Rattle.pks_terms.specs.Problems.{Aim}
use Rattle.pks_terms.specs.Sets.{IsIn}
use Rattle.pks_terms.specs.Views.{aim_of}
use Rattle.pks_laws_symmetry.specs.Renamed.{renamed_aim}
use Rattle.pks_search_symmetry.specs.Renaming.{image_by}
use Rattle.pks_search_symmetry.proofs.alike.is_whole.Goals as goal

pub returns : goal.returns
returns c = λ e. record {
  renaming = record { back = λ d. refl; there = λ d. refl; types = λ d. refl };
  texts = c.keeps_texts.ensures c.if-not-keeps_texts.false;
  goal =
      subst
      (λ g. (a : Aim) → IsIn a (map aim_of g) → IsIn (renamed_aim (image_by []) a) (map aim_of g) × IsIn (renamed_aim (image_by []) a) (map aim_of g))
      c.as_slice-goal.ensures
      (λ a h. (c.keeps_goal.ensures e a h, c.keeps_goal.ensures e a h));
}
