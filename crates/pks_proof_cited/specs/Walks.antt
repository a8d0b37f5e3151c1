-- Words for the walks of the code.
use Rattle.std.specs.Prelude.{ℕ, Bool, false, ◌&&◌, ◌||◌, List, [], ◌∷◌, map}
use Rattle.std.specs.List.{list_any}
use Rattle.pks_terms.specs.Syntax.{Term, Literal, negated}
use Rattle.pks_terms.specs.Orders.{literal_eq}
use Rattle.pks_terms.specs.Proofs.{Fact, Taking}
use Rattle.pks_terms.specs.Judging.{Judge, is_cited, are_cited, is_literal_that}
use Rattle.pks_terms.specs.Rewriting.{has_arguments, readings}
use Rattle.pks_proof_cited.specs.declared.moment.Taking.{Taking as DTaking}
use Rattle.pks_terms.specs.ChoiceViews.{choice_of, side_of}

-- the fact is an equation that leads from the term t, arguments replaced, to the term r, arguments replaced
abbrev pub bridges : Judge → ℕ → Term → Term → Fact → Bool
bridges j m t r f = is_literal_that (λ l. list_any (λ q. has_arguments j m t q.0 && has_arguments j m q.1 r) (readings l)) f

-- a side that is taken
abbrev pub taking_of : DTaking → Taking
taking_of x = record { moment = x.moment; choice = choice_of x.choice.now; side = side_of x.side }

-- the literal is the negation of one literal, the others cited, where that is so of those passed already
abbrev pub denied_from : Judge → ℕ → Literal → Bool → List Literal → Bool
denied_from j m l passed [] = false
denied_from j m l passed (k ∷ ls) = (literal_eq l (negated k) && (passed && are_cited j m ls)) || denied_from j m l (passed && is_cited j m k) ls

-- the literal is a member, the negations of all others cited, where that is so of those passed already
abbrev pub left_from : Judge → ℕ → Literal → Bool → List Literal → Bool
left_from j m l passed [] = false
left_from j m l passed (k ∷ ls) = (literal_eq l k && (passed && are_cited j m (map negated ls))) || left_from j m l (passed && is_cited j m (negated k)) ls

-- the literal is the negation of a member, another cited, where one passed already may be
abbrev pub other_from : Judge → ℕ → Literal → Bool → List Literal → Bool
other_from j m l passed [] = false
other_from j m l passed (k ∷ ls) = (literal_eq l (negated k) && (passed || list_any (is_cited j m) ls)) || other_from j m l (passed || is_cited j m k) ls
