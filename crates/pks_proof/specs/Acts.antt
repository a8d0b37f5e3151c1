-- Words for the walks over the effects of an action.
use Rattle.std.specs.Prelude.{ℕ, Bool, true, false, ◌&&◌, ◌||◌, List, [], ◌∷◌, Option, option_map}
use Rattle.std.specs.List.{list_any, cons_option}
use Rattle.pks_terms.specs.Sets.{with_later, with_others}
use Rattle.pks_terms.specs.Syntax.{Literal, Pattern, negated}
use Rattle.pks_terms.specs.Orders.{literal_eq}
use Rattle.pks_terms.specs.Actions.{Target, Effect}
use Rattle.pks_terms.specs.Views.{target_of}
use Rattle.pks_terms.specs.Judging.{Judge, is_cited, are_cited}
use Rattle.pks_terms.specs.Reasons.{would_undo, would_make_same, would_widen, is_barred, are_barred, is_steady_form, targets_of, is_empty, is_clear_form}
use Rattle.pks_proof.specs.declared.acting.Targets.{Targets}

-- the value, where there is one
abbrev pub option_list : {X : Type 0} → Option X → List X
option_list o = cons_option o []

-- the targets
abbrev pub targets_in : Targets → List Target
targets_in ts = cons_option (option_map target_of ts.first) (cons_option (option_map target_of ts.second) [])

-- an effect, with its later ones, makes the target so
abbrev pub makes : Judge → ℕ → List Effect → Target → Effect × List Effect → Bool
makes j m es x q = is_steady_form j m es q.0 x && (are_cited j m q.0.condition && are_barred j m (would_undo j m x) q.1)

-- the literal is a condition of an effect with its others, whose target this is, and the others are barred from making it so, where that is so of those passed already
abbrev pub needs : Judge → ℕ → List Effect → Literal → Target → Bool → Effect × List Effect → Bool
needs j m es l x passed q = (list_any (literal_eq l) q.0.condition && is_steady_form j m es q.0 x) && (passed && are_barred j m (would_make_same j m x) q.1)

-- so walked from the left
abbrev pub needed_from : Judge → ℕ → List Effect → Literal → Target → Bool → List Effect → Bool
needed_from j m es l x passed [] = false
needed_from j m es l x passed (e ∷ later) =
    ((list_any (literal_eq l) e.condition && is_steady_form j m es e x) && (passed && are_barred j m (would_make_same j m x) later)) || needed_from j m es l x (passed && is_barred j m (would_make_same j m x) e) later

-- the negation of k is cited before, and l is a condition of an effect that alone can have made k so
abbrev pub is_turned : Judge → ℕ → List Effect → Literal → Literal → Bool
is_turned j m es l k = is_cited j m (negated k) && list_any (λ x. needed_from j m es l x true es) (targets_of k)

-- the literal is the negation of one condition, the others cited, of an effect with its later ones, which don't undo its target
abbrev pub fails : Judge → ℕ → List Effect → Literal → Target → Effect × List Effect → Bool
fails j m es l x q = list_any (λ c. literal_eq l (negated c.0) && are_cited j m c.1) (with_others q.0.condition) && (is_steady_form j m es q.0 x && are_barred j m (would_undo j m x) q.1)

-- l is the negation of a condition of an effect that fails, since the negation of its target is k
abbrev pub is_missed : Judge → ℕ → List Effect → Literal → Literal → Bool
is_missed j m es l k = list_any (λ x. list_any (fails j m es l x) (with_later es)) (targets_of (negated k))

-- an effect, with its later ones, clears the pattern without a condition, its terms replaced, and the later ones don't widen it
abbrev pub clears : Judge → ℕ → Pattern → Effect × List Effect → Bool
clears j m y q = is_empty q.0.condition && (is_clear_form j m q.0.target y && are_barred j m (would_widen j m y) q.1)
