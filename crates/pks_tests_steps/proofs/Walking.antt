-- What stands in a list of choices.
use Rattle.std.proofs.Common.{◌≡◌, ◌<◌, ℕ, List, map, length, get_or, subst}
use Rattle.pks_terms.specs.Sets.{IsIn}
use Rattle.pks_terms.specs.Branching.{Choice}
use Rattle.pks_terms.proofs.ListLaws.{in_map}
use Rattle.pks_search.proofs.Looping as looping

-- what stands at a place of a list is a member of it
pub in_list : {X : Type 0} (xs : List X) (k : ℕ) (d : X) → k < length xs → IsIn (get_or xs k d) xs
in_list xs k d h = looping.in_list xs k d h

-- what stands in a list of choices is one of them
pub chosen : {X : Type 0} (f : X → Choice) (xs : List X) (x : X) (all : List Choice) → map f xs ≡ all → IsIn x xs → IsIn (f x) all
chosen f xs x all e k = subst (IsIn (f x)) e (in_map f xs x k)
