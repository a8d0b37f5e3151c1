-- Chains of literals.
use Rattle.std.proofs.Common.{◌≡◌, List, [], ◌∷◌, ◌++◌, Some, refl}
use Rattle.pks_terms.specs.Views.{literal_of}
use Rattle.pks_explain_moment.specs.Standing.{last_of}
use Rattle.pks_explain_moment.specs.declared.normalizing.LiteralRewrite.{LiteralRewrite}

pub last_of_push : (xs : List LiteralRewrite) (x : LiteralRewrite) → last_of (xs ++ x ∷ []) ≡ Some (literal_of x.literal)
last_of_push [] x = refl
last_of_push (y ∷ []) x = refl
last_of_push (y ∷ z ∷ xs) x = last_of_push (z ∷ xs) x
