-- News: what is given and isn't known yet.
use Rattle.std.specs.Prelude.{Bool, not, ◌⊎◌, List}
use Rattle.std.specs.List.{list_any, filter}
use Rattle.pks_terms.specs.Sets.{IsIn}
use Rattle.pks_terms.specs.Syntax.{Literal}
use Rattle.pks_terms.specs.Orders.{literal_eq}
use Rattle.pks_terms.specs.Saturated.{Within}

-- the literal is among these
abbrev pub is_in : List Literal → Literal → Bool
is_in kf l = list_any (literal_eq l) kf

-- those that aren't among these
abbrev pub not_in : List Literal → List Literal → List Literal
not_in kf ls = filter (λ l. not (is_in kf l)) ls

-- those that pass and aren't among these
abbrev pub news_of : (Literal → Bool) → List Literal → List Literal → List Literal
news_of lasts kf ls = filter lasts (not_in kf ls)

-- the news are among all, and all others of these are known
pub record Completes (kf news all : List Literal) : Type 0 where
  pub sound : Within news all
  pub whole : (l : Literal) → IsIn l all → IsIn l kf ⊎ IsIn l news
