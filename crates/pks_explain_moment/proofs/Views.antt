-- Maps read by what their keys say.
use Rattle.std.proofs.Common.{◌≡◌, List, [], ◌∷◌, Option, Some, refl, ap}
use Rattle.std.specs.declared.cmp.Ordering.{Ordering}
use Rattle.std.specs.Ordering.{match_ordering, on}
use Rattle.pks_pmap.specs.Entries.{get}
use Rattle.pks_explain_moment.specs.Standing.{found}

same_choice : {V : Type 0} (o : Ordering) (v : V) (a b : Option V) → a ≡ b → match_ordering o a (Some v) a ≡ match_ordering o b (Some v) b
same_choice o v a b e = ap (λ x. match_ordering o x (Some v) x) e

pub found_get : {K L V : Type 0} (says : K → L) (R : L → L → Ordering) (es : List (K × V)) (k : K) → get (on says R) k es ≡ found says R es (says k)
found_get says R [] k = refl
found_get says R (e ∷ es) k = same_choice (R (says k) (says e.0)) e.1 _ _ (found_get says R es k)
