-- Aims over time that a step leaves as they are: what they ask is told alike by the moment before it and by the one after, or met for good by the one before.
use Rattle.std.specs.Prelude.{Bool, true, false, not, ◌&&◌, ◌||◌, List}
use Rattle.std.specs.List.{list_any, list_all}
use Rattle.pks_terms.specs.Syntax.{Term, Literal, negated}
use Rattle.pks_terms.specs.Orders.{literal_eq}
use Rattle.pks_terms.specs.Signatures.{Signature}
use Rattle.pks_terms.specs.Databases.{Five, holds}
use Rattle.pks_terms.specs.Queries.{Plain, Know, KnowWhether, KnowValue}
use Rattle.pks_terms.specs.Actions.{Target, Set, Unset, Clear, Assign, Effect, Instance}
use Rattle.pks_terms.specs.Problems.{Aim, Now, AtStart, Always, Once, Problem}
use Rattle.pks_terms.specs.Settling.{effects_of}
use Rattle.pks_terms.specs.Objects.{is_of_objects}
use Rattle.pks_laws_forget.specs.Fewer.{is_held}
use Rattle.pks_laws_forget.specs.Transparent.{is_about, at_other_objects}
use Rattle.pks_laws_forget.specs.Looks.{are_alike, is_empty}

-- the target makes an atom at other objects true or false
abbrev pub is_at_others : Target → List Term → Bool
is_at_others (Set a) ts = at_other_objects a.arguments ts
is_at_others (Unset a) ts = at_other_objects a.arguments ts
is_at_others (Clear x) ts = false
is_at_others (Assign f us value) ts = false

-- the target is of another predicate than the literal, or at other objects
abbrev pub leaves : Literal → Target → Bool
leaves l x = not (is_about l.relation x) || is_at_others x l.arguments

-- the literal is of a predicate at objects, no effect is of it, and it and its negation are told alike
abbrev pub literal_stays : Signature → List Effect → Five → Five → Literal → Bool
literal_stays s es before after l =
    (is_of_objects l && list_all (λ e. leaves l e.target) es) && (are_alike (holds s before l) (holds s after l) && are_alike (holds s before (negated l)) (holds s after (negated l)))

-- it is a literal of the formula, or the negation of one
abbrev pub is_said_in : List Literal → Literal → Bool
is_said_in c m = list_any (λ l. literal_eq m l || literal_eq m (negated l)) c

-- some literal of the other formula is of a predicate at objects, and isn't said in this one
abbrev pub says_more : List Literal → List Literal → Bool
says_more c k = list_any (λ m. is_of_objects m && not (is_said_in c m)) k

-- what the query asks stays: each literal, and of a formula that none of Kw says no more than it does
abbrev pub query_stays : Signature → List Effect → Five → Five → Plain → Bool
query_stays s es before after (Know l) = literal_stays s es before after l
query_stays s es before after (KnowWhether c) = list_all (literal_stays s es before after) c && (list_all (says_more c) before.kw && list_all (says_more c) after.kw)
query_stays s es before after (KnowValue t) = false

-- so with each aim but those of the last moment, and those of each moment that the first meets for good
abbrev pub aim_stays : Signature → List Effect → Five → Five → Aim → Bool
aim_stays s es before after (Now q) = true
aim_stays s es before after (AtStart q) = query_stays s es before after q.asks
aim_stays s es before after (Always q) = query_stays s es before after q.asks || is_held s before q
aim_stays s es before after (Once q) = query_stays s es before after q.asks

-- so with each aim of the problem, and there are no regions
abbrev pub aims_stay : Problem → Five → Instance → Five → Bool
aims_stay p before i after = (is_empty before.lcw && is_empty after.lcw) && list_all (aim_stays p.signature (effects_of p i) before after) p.goal
