-- The databases after an action, before they are closed, and when closing is at its end already.
use Rattle.std.specs.Prelude.{◌≡◌, Bool, true, false, not, List, length, None}
use Rattle.std.specs.List.{list_all}
use Rattle.pks_terms.specs.Sets.{added}
use Rattle.pks_terms.specs.Syntax.{Literal}
use Rattle.pks_terms.specs.Orders.{literal_cmp}
use Rattle.pks_terms.specs.Signatures.{Signature}
use Rattle.pks_terms.specs.Databases.{Entry, entry_cmp, Five}
use Rattle.pks_terms.specs.Closure.{first_clash}
use Rattle.pks_terms.specs.Saturated.{IsSaturated}
use Rattle.pks_terms.specs.Actions.{Target, Set, Unset, Clear, Assign, Effect}
use Rattle.pks_laws_progress.specs.Loose.{bring_nothing}
use Rattle.pks_query_lookup.specs.Fives.{five_of}
use Rattle.pks_progress.specs.Kept.{kept_after}
use Rattle.pks_progress.specs.declared.ahead.Ahead.{Ahead}
use Rattle.pks_progress.specs.declared.ahead.Ahead.TheVariants.{Still, Grown}

-- it gives an application a value
abbrev pub is_assignment : Target → Bool
is_assignment (Set a) = false
is_assignment (Unset a) = false
is_assignment (Clear x) = false
is_assignment (Assign f ts value) = true

-- none of the effects gives an application a value
abbrev pub assign_nothing : List Effect → Bool
assign_nothing es = list_all (λ e. not (is_assignment e.target)) es

-- five has what is kept, and of known literals these, of regions some more
pub record PutsIn (s : Signature) (d : Five) (es : List Effect) (lasting : Five) (ls : List Literal) (five : Five) : Type 0 where
  pub kept : lasting ≡ kept_after s d es
  pub literals : five.kf ≡ added literal_cmp lasting.kf ls
  pub groups : five.kx ≡ lasting.kx
  pub more : List Entry
  pub regions : five.lcw ≡ added entry_cmp lasting.lcw more

-- no new region, and each of the literals was known or is loose
pub record BringsNothing (kept : Five) (ls : List Literal) (five : Five) : Type 0 where
  pub regions : length five.lcw ≡ length kept.lcw
  pub literals : bring_nothing kept.kf kept.kx ls ≡ true

-- the rules add nothing to the databases, and nothing clashes
pub record IsStill (s : Signature) (d : Five) : Type 0 where
  pub saturated : IsSaturated s d
  pub fine : first_clash s d ≡ None

-- the databases
abbrev pub five_ahead : Ahead → Five
five_ahead (Still d) = five_of d
five_ahead (Grown d) = five_of d

-- those said to be still are so
abbrev pub IsAhead : Signature → Ahead → Type 0
IsAhead s (Still d) = IsStill s (five_of d)
IsAhead s (Grown d) = Unit {0}
