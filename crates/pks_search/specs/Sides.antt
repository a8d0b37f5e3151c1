-- The two sides of a branch, in either order.
use Rattle.std.specs.Prelude.{Bool, true, false, List}
use Rattle.pks_terms.specs.Syntax.{Literal}
use Rattle.pks_terms.specs.Branching.{Side, AsTrue, AsFalse}
use Rattle.pks_terms.specs.Trees.{Tree, Branch}

-- the side on which the formula is so
abbrev pub side_on : Bool → Side
side_on true = AsTrue
side_on false = AsFalse

-- the branch with the first tree on that side, and the second on the other
abbrev pub branch_of : Bool → List Literal → Tree → Tree → Tree
branch_of true c t u = Branch c t u
branch_of false c t u = Branch c u t
