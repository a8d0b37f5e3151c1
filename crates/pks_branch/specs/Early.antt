-- What can be asked of an action before all of its parameters have arguments.
use Rattle.std.specs.Prelude.{ℕ, Bool, true, not, ◌&&◌, nat_lt, List, length}
use Rattle.std.specs.List.{list_all, list_any}
use Rattle.pks_terms.specs.Syntax.{Object, Parameter, Apply, Inner, Term, Literal}
use Rattle.pks_terms.specs.Signatures.{Signature}
use Rattle.pks_terms.specs.Databases.{Five}
use Rattle.pks_terms.specs.Queries.{Plain, Know, KnowWhether, KnowValue, Query, answers}
use Rattle.pks_terms.specs.Actions.{query_at}

-- only the first n parameters stand in the argument
abbrev pub inner_is_early : ℕ → Inner → Bool
inner_is_early n (Object d) = true
inner_is_early n (Parameter i) = nat_lt i n
inner_is_early n (Apply f ds) = true

-- only the first n parameters stand in the term
abbrev pub term_is_early : ℕ → Term → Bool
term_is_early n (Object d) = true
term_is_early n (Parameter i) = nat_lt i n
term_is_early n (Apply f ts) = list_all (inner_is_early n) ts

-- only the first n parameters stand in the literal
abbrev pub literal_is_early : ℕ → Literal → Bool
literal_is_early n l = list_all (term_is_early n) l.arguments

-- only the first n parameters stand in what is asked
abbrev pub plain_is_early : ℕ → Plain → Bool
plain_is_early n (Know l) = literal_is_early n l
plain_is_early n (KnowWhether c) = list_all (literal_is_early n) c
plain_is_early n (KnowValue t) = term_is_early n t

-- these arguments suffice to ask the query, and it isn't answered
abbrev pub is_barred_by : Signature → Five → List Inner → Query → Bool
is_barred_by s d given q = plain_is_early (length given) q.asks && not (answers s d (query_at given q))

-- some precondition isn't answered, whatever arguments follow these
abbrev pub is_barred : Signature → Five → List Query → List Inner → Bool
is_barred s d pre given = list_any (is_barred_by s d given) pre
