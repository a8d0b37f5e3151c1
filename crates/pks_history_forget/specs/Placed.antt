-- Effects as the program has them.
use Rattle.std.specs.Prelude.{Bool, false, ◌||◌}
use Rattle.std.specs.Option.{option_map_or}
use Rattle.pks_terms.specs.Syntax.{Literal, negated}
use Rattle.pks_terms.specs.Orders.{literal_eq}
use Rattle.pks_terms.specs.Actions.{Target}
use Rattle.pks_laws_forget.specs.Testing.{made_by}

-- the target makes the literal true or false
abbrev pub writes : Target → Literal → Bool
writes x l = option_map_or (λ m. literal_eq m l || literal_eq m (negated l)) (made_by x) false
