-- Which objects of a range are left.
use Rattle.std.specs.Prelude.{◌≡◌, ℕ, Bool, true, false, ◌==◌}
use Rattle.pks_terms.specs.Syntax.{Object, Term}
use Rattle.pks_query_closing.specs.declared.ranges.Remaining.{Remaining}
use Rattle.pks_query_closing.specs.declared.ranges.Remaining.TheVariants.{Nothing, One, More}

-- no object but e is left
abbrev pub may_be : Remaining → ℕ → Bool
may_be Nothing e = true
may_be (One x) e = x.0 == e
may_be More e = false

-- it is an object, and another one
pub record IsOther (t : Term) (e : ℕ) : Type 0 where
  pub own : ℕ
  pub is : t ≡ Object own
  pub other : (own == e) ≡ false
