-- Names and parts of the source, as they lie in memory.
use Rattle.std.specs.Prelude.{ℕ, List, map}
use Rattle.pks_terms.specs.declared.ids.Span.{Span}
use Rattle.pks_terms.specs.declared.schema.Schema.{Schema}
use Rattle.pks_terms.specs.declared.problem.Problem.{Problem}
use Rattle.pks_reader_problem.specs.Stated.{Bytes, Named}

-- the bytes of a part
abbrev pub bytes_in : Span → Bytes
bytes_in span = (span.start, span.end)

-- the places of an action's adds
abbrev pub adds_in : Schema → List Bytes
adds_in x = map (λ a. bytes_in a.span) x.adds

-- the names and the places of a problem
abbrev pub named_of : Problem → Named
named_of p = record {
  types = map (λ t. t.now) p.names.types;
  objects = map (λ t. t.now) p.names.objects;
  predicates = map (λ t. t.now) p.names.predicates;
  functions = map (λ t. t.now) p.names.functions;
  actions = map (λ x. x.name.now) p.schemas;
  parameters = map (λ names. map (λ t. t.now) names) p.names.params;
  adds = map adds_in p.schemas;
  items = map (λ i. bytes_in i.span) p.init;
  init = bytes_in p.init_span;
  problem = bytes_in p.problem_span;
}
