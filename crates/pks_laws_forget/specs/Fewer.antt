-- The problem without the aims that a history meets for good: what literals that are known answer stays so, since at each moment they only come to be more.
use Rattle.std.specs.Prelude.{Bool, false, not, ◌&&◌, ◌||◌, List}
use Rattle.std.specs.List.{filter, list_any, list_all}
use Rattle.pks_terms.specs.Syntax.{Literal, negated}
use Rattle.pks_terms.specs.Signatures.{Signature}
use Rattle.pks_terms.specs.Databases.{Five, holds}
use Rattle.pks_terms.specs.Queries.{Plain, Know, KnowWhether, KnowValue, Query}
use Rattle.pks_terms.specs.Aims.{moments}
use Rattle.pks_terms.specs.Problems.{Aim, Now, AtStart, Always, Once, Problem}
use Rattle.pks_terms.specs.Settling.{History}

-- a literal of the formula is derived false, or each is derived true or false
abbrev pub is_decided_by_literals : Signature → Five → List Literal → Bool
is_decided_by_literals s d c = list_any (λ l. holds s d (negated l)) c || list_all (λ l. holds s d l || holds s d (negated l)) c

-- it is asked whether a literal is known, and it is, or about a formula that literals decide
abbrev pub is_known_for_good : Signature → Five → Plain → Bool
is_known_for_good s d (Know l) = holds s d l
is_known_for_good s d (KnowWhether c) = is_decided_by_literals s d c
is_known_for_good s d (KnowValue t) = false

-- so it is of a query that isn't denied
abbrev pub is_held : Signature → Five → Query → Bool
is_held s d q = not q.denied && is_known_for_good s d q.asks

-- an aim of the first moment that this one meets, or of some moment that one does
abbrev pub is_met_for_good : Signature → History → Aim → Bool
is_met_for_good s h (Now q) = false
is_met_for_good s h (AtStart q) = is_held s h.start q
is_met_for_good s h (Always q) = false
is_met_for_good s h (Once q) = list_any (λ d. is_held s d q) (moments h)

-- the other aims
abbrev pub unmet : Signature → History → List Aim → List Aim
unmet s h aims = filter (λ a. not (is_met_for_good s h a)) aims

-- the problem with other aims
abbrev pub with_aims : Problem → List Aim → Problem
with_aims p aims = record p { goal = aims }

-- the problem without the aims that this history meets for good
abbrev pub without_met : Problem → History → Problem
without_met p h = with_aims p (unmet p.signature h p.goal)
