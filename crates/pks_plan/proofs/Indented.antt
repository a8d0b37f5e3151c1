-- Blanks at the beginning of lines.
use Rattle.std.proofs.Common.{◌≡◌, ◌<◌, ◌-◌, ◌+◌, ℕ, zero, suc, List, [], ◌∷◌, ◌++◌, append_assoc, append-nil, add-one, refl, sym, ap, ◌∙◌, arith}
use Rattle.pks_plan.specs.Indents.{indent}
use Rattle.pks_plan.proofs.Appended.{part_none, part_first, part_then, both_appended}

pub indent_more : (n : ℕ) → indent n ++ 32 ∷ 32 ∷ [] ≡ indent (n + 1)
indent_more zero = refl
indent_more (suc n) = let e : suc (n + 1) ≡ suc n + 1 = omega arith in ap (λ x. 32 ∷ 32 ∷ x) (indent_more n) ∙ ap indent e

pub indent_less : (n i : ℕ) → i < n → indent (n - i) ≡ (32 ∷ 32 ∷ []) ++ indent (n - (i + 1))
indent_less n i h = let e : n - i ≡ suc (n - (i + 1)) = omega arith in ap indent e

pub ruleset lines = (part_none, part_first, part_then, both_appended, append_assoc, append-nil, indent_more)
