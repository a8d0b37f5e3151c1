-- The texts of terms, literals and patterns, whose parameters may have names.
use Rattle.std.specs.Prelude.{ℕ, List, [], ◌++◌, map, codes, Option, Some, None, option_map}
use Rattle.std.specs.Option.{option_map_or}
use Rattle.pks_terms.specs.Syntax.{Form, Inner, Term, Literal, Pattern}
use Rattle.pks_terms.specs.Printed.{Text, Names, name_in, relation_text, listed, signed_text, form_text, lifted_form_text}
use Rattle.pks_terms.specs.Views.{names_of}
use Rattle.pks_plan.specs.declared.parts.Wording.{Wording}

-- the names of the parameters, if they have names
abbrev pub parameters_of : Wording → Option (List Text)
parameters_of w = option_map (λ names. map (λ t. t.now) names.now) w.1

-- a parameter: its name behind a question mark, or no text
abbrev pub parameter_text : Option (List Text) → ℕ → Text
parameter_text None i = []
parameter_text (Some names) i = codes "?" ++ name_in names i

-- a term, or one of its arguments
abbrev pub written_form : {A : Type 0} → (A → Text) → Names → Option (List Text) → Form A → Text
written_form text names None = form_text text names
written_form text names (Some parameters) = lifted_form_text text names parameters

-- an argument
abbrev pub written_inner : Wording → Inner → Text
written_inner w = written_form (name_in (names_of w.0.now).objects) (names_of w.0.now) (parameters_of w)

-- a term
abbrev pub written_term : Wording → Term → Text
written_term w = written_form (written_inner w) (names_of w.0.now) (parameters_of w)

-- a literal
abbrev pub written_literal : Wording → Literal → Text
written_literal w l = signed_text l.positive (listed (relation_text (names_of w.0.now) l.relation) (map (written_term w) l.arguments))

-- a place of a pattern: a wildcard is _
abbrev pub written_slot : Wording → Option Term → Text
written_slot w s = option_map_or (written_term w) s (codes "_")

-- a pattern
abbrev pub written_pattern : Wording → Pattern → Text
written_pattern w x = listed (name_in (names_of w.0.now).predicates x.predicate) (map (written_slot w) x.slots)
