-- Words for the forms of targets, and for what comes of the effects one by one.
use Rattle.std.specs.Prelude.{Bool, ◌&&◌, List, [], ◌∷◌, ◌++◌, map, cond}
use Rattle.std.specs.List.{list_any, list_all, filter, flat_map}
use Rattle.pks_terms.specs.Sets.{with_others, with_later}
use Rattle.pks_terms.specs.Syntax.{Object, Parameter, Apply, Term, Literal, negated}
use Rattle.pks_terms.specs.Orders.{number_of, arguments_of, equation}
use Rattle.pks_terms.specs.Signatures.{Signature}
use Rattle.pks_terms.specs.Databases.{Five, holds}
use Rattle.pks_terms.specs.Actions.{Target, Effect}
use Rattle.pks_terms.specs.Spoiling.{may_fire, may_change, is_stable}
use Rattle.pks_terms.specs.Progress.{has_stable_arguments}
use Rattle.pks_terms.specs.Settling.{term_forms, target_forms, assigns_alike, lasting, lasted, fired, must_have_fired, cannot_have_fired}

-- the forms of a term that are stable
abbrev pub stable_terms : Signature → Five → List Effect → Term → List Term
stable_terms s d es t = filter (is_stable s d es) (term_forms d.kf t)

-- the term is a function at arguments
abbrev pub IsPlace : Term → Type 0
IsPlace (Object d) = ⊥
IsPlace (Parameter i) = ⊥
IsPlace (Apply f ts) = Unit {0}

-- the equations of the places whose arguments are stable with the values
abbrev pub equations_at : Signature → Five → List Effect → List Term → List Term → List Literal
equations_at s d es places values = flat_map (λ t. map (equation t) values) (filter (has_stable_arguments s d es) places)

-- the effect may fire and may assign to the place a value that isn't different from this one
abbrev pub assigns_so : Signature → Five → Term → Term → Effect → Bool
assigns_so s d place value e = may_fire s d e && (may_change s d.kf (number_of place) (arguments_of place) e.target && assigns_alike s d value e.target)

-- some stable form of the target was denied before and holds afterwards
abbrev pub has_turned : Signature → List Effect → Five → Five → Target → Bool
has_turned s es before after x = list_any (λ l. holds s before (negated l) && holds s after l) (target_forms s before es x)

-- some stable form of the target is denied afterwards
abbrev pub is_denied_after : Signature → List Effect → Five → Five → Target → Bool
is_denied_after s es before after x = list_any (λ l. holds s after (negated l)) (target_forms s before es x)

-- the conditions whose fellows all hold, denied
abbrev pub denied_alone : Signature → Five → List Literal → List Literal
denied_alone s d c = flat_map (λ p. cond (list_all (holds s d) p.1) (negated p.0 ∷ []) []) (with_others c)

-- each element with the others, of which some came before these
abbrev pub others_after : {X : Type 0} → List X → List X → List (X × List X)
others_after done xs = map (λ p. (p.0, done ++ p.1)) (with_others xs)

-- what lasts, and what comes of the effects that fire
abbrev pub given_forward : Signature → List Effect → Five → List Literal
given_forward s es before = lasting s es before ++ flat_map (fired s es before) (with_later es)

-- what follows of the conditions of the effects
abbrev pub given_by_conditions : Signature → List Effect → Five → Five → List Literal
given_by_conditions s es before after = flat_map (must_have_fired s es before after) (with_others es) ++ flat_map (cannot_have_fired s es before after) (with_later es)

-- what must have been there, and what follows of the conditions of the effects
abbrev pub given_backward : Signature → List Effect → Five → Five → List Literal
given_backward s es before after = lasted s es before after ++ given_by_conditions s es before after
