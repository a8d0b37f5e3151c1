-- Which questions an entry answers.
use Rattle.std.proofs.Common.{◌≤◌, ◌⊎◌, ℕ, min, inl, inr, arith, Result, Ok, Err, OnOk, OnErr}
use Rattle.pks_terms.specs.Moments.{AreMomentsOf}
use Rattle.pks_terms.specs.Problems.{Problem}
use Rattle.pks_terms.specs.Settling.{History}
use Rattle.pks_terms.specs.Trees.{depth, cost}
use Rattle.pks_terms.specs.Valid.{IsValid}
use Rattle.pks_laws_forget.specs.Transparent.{AreSetsAlong}
use Rattle.pks_laws_forget.proofs.Cut.{ordered_of}
use Rattle.pks_laws_symmetry.proofs.Trees.{equal_tree}
use Rattle.pks_search_symmetry.specs.Renaming.{AreAlike}
use Rattle.pks_search_nogoods.specs.Failing.{HasNoTree}
use Rattle.pks_search_nogoods.proofs.Costs.{depth_at_most_cost}

-- a tree that costs at most the limit is no deeper than the limit, and has an equal one at the entry's history
module _ (p : Problem) (g h : History) (valid : IsValid p) (alike : AreAlike p h g) (asked : AreMomentsOf p h) (own : AreMomentsOf p g) (asked_sets : AreSetsAlong h) (own_sets : AreSetsAlong g) where
  pub served : (deepest most n limit : ℕ) → limit ≤ most → min n limit ≤ deepest → HasNoTree p g deepest most → HasNoTree p h n limit
  served deepest most n limit cheap shallow none = λ t d.
      let within : depth t ≤ n = d.0.1 in
      let costs : cost p t ≤ limit = d.1 in
      let least : depth t ≤ cost p t = depth_at_most_cost p valid t in
      let image = equal_tree p alike.to alike.back h g t valid alike.symmetry alike.images asked own (ordered_of p h asked_sets) (ordered_of p g own_sets) d.0.0 in
      let deep : depth image.0 ≤ deepest = omega (arith, image.2, within, costs, least, shallow) in
      let dear : cost p image.0 ≤ most = omega (arith, image.3, costs, cheap) in
      none image.0 ((image.1, deep), dear)

-- what stands after either end
pub either : {X E : Type 0} (r : Result X E) (A B : Type 0) → OnOk r A → OnErr r B → A ⊎ B
either (Ok x) A B a b = inl a
either (Err e) A B a b = inr b
