-- Words for what a round adds, place by place.
use Rattle.std.specs.Prelude.{ℕ, List, map, take, drop, ◌++◌}
use Rattle.std.specs.List.{flat_map}
use Rattle.pks_terms.specs.Syntax.{Inner, Term, term_of, object, Literal}
use Rattle.pks_terms.specs.Orders.{literal, equation}
use Rattle.pks_terms.specs.Sets.{one_replaced, with_others}
use Rattle.pks_terms.specs.Closure.{applications_in}

-- the lists with an element from i on replaced
abbrev pub replaced_from : {X : Type 0} → (X → List X) → ℕ → List X → List (List X)
replaced_from step i xs = map (λ ys. take i xs ++ ys) (one_replaced step (drop i xs))

-- the literal at other arguments, an equation being ordered
abbrev pub with_arguments : Literal → List Term → Literal
with_arguments l ts = literal l.relation ts l.positive

-- each element from i on with the list of the others
abbrev pub others_from : {X : Type 0} → ℕ → List X → List (X × List X)
others_from i xs = map (λ p. (p.0, take i xs ++ p.1)) (with_others (drop i xs))

-- the object is the value of t
abbrev pub value_is : Term → ℕ → Literal
value_is t e = equation t (object e)

-- an argument as a term
abbrev pub argument_term : Inner → Term
argument_term t = term_of t

-- the applications that occur in the literals
abbrev pub occurring : List Literal → List Term
occurring kf = flat_map (λ l. flat_map applications_in l.arguments) kf
