-- A test whether a step hides nothing: it asks of each effect, literal, group and region in turn.
use Rattle.std.specs.Prelude.{false, Bool, not, ◌&&◌, ◌||◌, List, Option, Some, None}
use Rattle.std.specs.List.{list_any, list_all, flat_map}
use Rattle.std.specs.Option.{option_map_or}
use Rattle.std.specs.Ordering.{is_eq}
use Rattle.pks_terms.specs.Syntax.{Apply, Term, Literal, negated, affirmed, denied}
use Rattle.pks_terms.specs.Objects.{are_objects, is_of_objects, is_named}
use Rattle.pks_terms.specs.Orders.{term_eq, literal_eq, conj_cmp, equation}
use Rattle.pks_terms.specs.Databases.{Entry, entry_cmp, Five, normal_literal}
use Rattle.pks_terms.specs.Closure.{applications_in}
use Rattle.pks_terms.specs.Actions.{Target, Set, Unset, Clear, Assign, Effect, Instance}
use Rattle.pks_terms.specs.Progress.{entry_terms}
use Rattle.pks_terms.specs.Problems.{Problem}
use Rattle.pks_terms.specs.Settling.{effects_of}
use Rattle.pks_laws_forget.specs.Transparent.{gives_value, left_of, is_about, assigns_in, is_elsewhere, leaves, effects_by}

-- the literal is known
abbrev pub has : Five → Literal → Bool
has d l = list_any (literal_eq l) d.kf

-- what the target makes so
abbrev pub made_by : Target → Option Literal
made_by (Set a) = Some (affirmed a)
made_by (Unset a) = Some (denied a)
made_by (Assign f ts value) = Some (equation (Apply f ts) value)
made_by (Clear x) = None

-- each condition is known
abbrev pub fires_surely : Five → Effect → Bool
fires_surely d e = list_all (has d) e.condition

-- the negation of a condition is known
abbrev pub fires_never : Five → Effect → Bool
fires_never d e = list_any (λ c. has d (negated c)) e.condition

-- of an effect that makes the literal so
abbrev pub is_decided_to : Five → Five → Effect → Literal → Bool
is_decided_to before after e l =
    (is_of_objects l && ((fires_surely before e && has after l) || fires_never before e)) || (gives_value l.relation l.arguments && (fires_surely before e && has after l))

-- the effect is decided
abbrev pub is_decided : Five → Five → Effect → Bool
is_decided before after e = option_map_or (is_decided_to before after e) (made_by e.target) false

-- no effect assigns a function that occurs in the terms
abbrev pub are_unassigned : List Effect → List Term → Bool
are_unassigned es ts = list_all (λ e. not (list_any (λ t. assigns_in t e.target) ts)) es

-- the literal is known, and gives a place an object or is of a predicate, and no function that occurs in it is assigned
abbrev pub stands_written : Five → List Effect → Literal → Bool
stands_written after es l = has after l && (gives_value l.relation l.arguments || (is_named l.relation && are_unassigned es l.arguments))

-- the effect as it is written surely doesn't fire, or what it makes so stands so
abbrev pub is_read_alike : Five → Five → List Effect → Effect → Bool
is_read_alike before after es e = fires_never before e || option_map_or (stands_written after es) (made_by e.target) false

-- an effect that surely fires makes the literal true or false
abbrev pub is_written : Five → List Effect → Literal → Bool
is_written before es l = list_any (λ e. fires_surely before e && option_map_or (λ m. literal_eq m l || literal_eq m (negated l)) (made_by e.target) false) es

-- the target assigns the place
abbrev pub assigns : Target → Term → Bool
assigns (Assign f ts value) t = term_eq (Apply f ts) t
assigns (Set a) t = false
assigns (Unset a) t = false
assigns (Clear x) t = false

-- an effect that surely fires assigns the place
abbrev pub is_assigned : Five → List Effect → Term → Bool
is_assigned before es t = list_any (λ e. fires_surely before e && assigns e.target t) es

-- no effect is of its predicate or assigns a function that occurs in it
abbrev pub is_untouched : List Effect → Literal → Bool
is_untouched es l = list_all (λ e. not (is_about l.relation e.target) && not (list_any (λ t. assigns_in t e.target) l.arguments)) es

-- a place in the literal is assigned
abbrev pub is_moved : Five → List Effect → Literal → Bool
is_moved before es l = list_any (is_assigned before es) (flat_map applications_in l.arguments)

-- in normal form the literal is a predicate at objects, and it is known after or moved
abbrev pub is_kept_copy : Five → Five → List Effect → Literal → Bool
is_kept_copy before after es l = is_of_objects (normal_literal before.kf l) && (has after l || is_moved before es l)

-- the literal lasts or is surely changed
abbrev pub is_kept : Five → Five → List Effect → Literal → Bool
is_kept before after es l =
    (is_of_objects l && (has after l || is_written before es l))
    || ((gives_value l.relation l.arguments && (is_assigned before es (left_of l) || (has after l && list_all (λ e. is_elsewhere (left_of l) e.target) es))) || ((is_untouched es l && has after l) || is_kept_copy before after es l))

-- each effect leaves the literal as it is
abbrev pub is_left : List Effect → Literal → Bool
is_left es l = list_all (λ e. leaves l.relation l.arguments e.target) es

-- the group stands after, or is spent
abbrev pub lasts_as_group : Five → Five → List Effect → List Literal → Bool
lasts_as_group before after es g =
    list_all is_of_objects g
    && ((list_any (λ h. is_eq (conj_cmp g h)) after.kx && list_all (is_left es) g) || list_all (λ m. has before m || has before (negated m)) g)

-- the region speaks of objects and stands after
abbrev pub lasts_as_region : Five → Entry → Bool
lasts_as_region after r = are_objects (entry_terms r) && list_any (λ q. is_eq (entry_cmp r q)) after.lcw

-- the step hides nothing
abbrev pub hides_nothing : Problem → Five → Instance → Five → Bool
hides_nothing p before i after =
    let es = effects_by p before i in
    list_all (is_decided before after) es && (list_all (is_read_alike before after es) (effects_of p i) && (list_all (is_kept before after es) before.kf && (list_all (lasts_as_group before after es) before.kx && list_all (lasts_as_region after) before.lcw)))
