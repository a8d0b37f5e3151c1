-- The normal forms of known literals.
use Rattle.std.specs.Prelude.{◌≡◌, Bool, List, [], ◌∷◌, if◌then◌else◌}
use Rattle.pks_terms.specs.Syntax.{Literal}
use Rattle.pks_terms.specs.Orders.{literal_cmp, literal_eq}
use Rattle.pks_terms.specs.Databases.{normal_literal, is_known}
use Rattle.pks_pmap_set.specs.Members.{is_member}

-- the literal is its own normal form
abbrev pub is_normal : List Literal → Literal → Bool
is_normal kf l = literal_eq (normal_literal kf l) l

-- the normal forms of those of the literals that are not their own
abbrev pub other_forms : List Literal → List Literal → List Literal
other_forms kf [] = []
other_forms kf (l ∷ ls) = if is_normal kf l then other_forms kf ls else normal_literal kf l ∷ other_forms kf ls

-- a literal is known where its normal form is a member
abbrev pub AreForms : List Literal → List Literal → Type 0
AreForms kf forms = (l : Literal) → is_member literal_cmp (normal_literal kf l) forms ≡ is_known kf l

-- it is its own set of such forms
pub record HasItsForms (kf : List Literal) : Type 0 where
  pub forms : AreForms kf kf
