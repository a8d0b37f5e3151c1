-- What is given passes a test where one of the queries does.
use Rattle.std.proofs.Common.{◌≡◌, ◌||◌, ◌∙◌, Bool, false, List, [], ◌∷◌, ◌++◌, Some, None, ap, refl}
use Rattle.std.specs.List.{list_any, filter_map, cons_option}
use Rattle.std.specs.Option.{option_map_or}
use Rattle.std.proofs.lemmas.List.Folds.{list_any-append}
use Rattle.pks_terms.specs.Queries.{Plain, Query}
use Rattle.pks_justify.specs.Asked.{asked, is_asked}

any_asked : (p : Plain → Bool) (qs : List Query) → list_any p (filter_map asked qs) ≡ list_any (is_asked p) qs
any_asked p [] = refl
any_asked p (q ∷ qs) =
    elim (asked q) as (λ o. list_any p (cons_option o (filter_map asked qs)) ≡ (option_map_or p o false || list_any (is_asked p) qs)) [
      | None ↦ any_asked p qs
      | Some x ↦ ap (λ b. p x || b) (any_asked p qs)
    ]

pub given_any : (p : Plain → Bool) (xs ys : List Query) → list_any p (filter_map asked (xs ++ ys)) ≡ (list_any (is_asked p) xs || list_any (is_asked p) ys)
given_any p xs ys = any_asked p (xs ++ ys) ∙ list_any-append (is_asked p) xs ys
