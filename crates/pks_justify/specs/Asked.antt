-- The queries that are given, as they stand in the program.
use Rattle.std.specs.Prelude.{Bool, false, List, map, ◌++◌, Option, Some, None, if◌then◌else◌}
use Rattle.std.specs.List.{filter_map}
use Rattle.std.specs.Option.{option_map_or}
use Rattle.pks_justify.specs.declared.given.Premises.{Premises}
use Rattle.pks_terms.specs.Queries.{Plain, Query}
use Rattle.pks_terms.specs.Justified.{asks_known, asks_whether, asks_value}
use Rattle.pks_terms.specs.Views.{term_of, literal_of, conj_of, query_of}
use Rattle.pks_justify.specs.declared.given.QuerySubject.{QuerySubject}
use Rattle.pks_justify.specs.declared.given.QuerySubject.TheVariants.{Known, Whether, Value}

-- what a query asks, where it isn't denied
abbrev pub asked : Query → Option Plain
asked q = if q.denied then None else Some q.asks

-- the query isn't denied, and what it asks passes
abbrev pub is_asked : (Plain → Bool) → Query → Bool
is_asked p q = option_map_or p (asked q) false

-- what an add's own queries and the preconditions give
abbrev pub given_view : Premises → List Plain
given_view g = filter_map asked (map query_of g.own.now ++ map query_of g.pre.now)

-- the query asks for this fact
abbrev pub asks_for : QuerySubject → Plain → Bool
asks_for (Known l) = asks_known (literal_of l.now)
asks_for (Whether c) = asks_whether (conj_of c.now)
asks_for (Value t) = asks_value (term_of t.now)
