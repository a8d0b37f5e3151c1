-- What the program's levels and ground actions say.
use Rattle.std.specs.Prelude.{ℕ, Bool, true, false, not, ◌||◌, ◌==◌, ◌≡◌, ◌⊎◌, List, [], ◌∷◌, map, take, if◌then◌else◌}
use Rattle.std.specs.List.{list_any, flat_map}
use Rattle.pks_terms.specs.Sets.{Each, IsIn}
use Rattle.pks_terms.specs.Syntax.{Term, place, affirmed, Atom}
use Rattle.pks_terms.specs.Orders.{term_eq}
use Rattle.pks_terms.specs.Worlds.{World, value_of, true_in}
use Rattle.pks_terms.specs.Actions.{Instance}
use Rattle.pks_terms.specs.Problems.{Problem, schema_of}
use Rattle.pks_terms.specs.ValidProblems.{ArePlaced}
use Rattle.pks_terms.specs.Views.{term_of, atom_of, literals_in, effect_of}
use Rattle.pks_world.specs.Contents.{ground, is_listed}
use Rattle.pks_search_distance.specs.Runs.{MayBeDone}
use Rattle.pks_search_distance.specs.Levels.{Chances}
use Rattle.pks_search_distance.specs.declared.objects.Pair.{Pair}
use Rattle.pks_search_distance.specs.declared.gains.RelaxedFacts.{RelaxedFacts}
use Rattle.pks_search_distance.specs.declared.gains.Given.{Given}
use Rattle.pks_search_distance.specs.declared.news.New as news
use Rattle.pks_search_distance.specs.declared.news.New.TheVariants as news_is
use Rattle.pks_search_distance.specs.declared.ground_actions.GroundAction.{GroundAction as DGroundAction}
use Rattle.pks_search_distance.specs.declared.ground_actions.GroundActions.{GroundActions}
use Rattle.pks_search_distance.specs.Landmarks.{AreLandmarks, ReachAtMost}
use Rattle.pks_search_distance.specs.Marked.{landmarks_of}
use Rattle.pks_search_distance.specs.Relaxed.{New, NewTruth, NewValue, NewFalse, GroundAction, ground_action_of_instance, Leads}

-- up to two
abbrev pub pair_of : Pair → List ℕ
pair_of x = take x.n (x.first.0 ∷ x.second.0 ∷ [])

-- a place and a value that it may have
abbrev pub given_of : Given → Term × ℕ
given_of x = (term_of x.place, x.value.0)

-- the value, where it is one of the place
abbrev pub given_to : Term → Term × ℕ → List ℕ
given_to t x = if term_eq t x.0 then x.1 ∷ [] else []

-- each atom of the predicate may be false
abbrev pub is_cleared : RelaxedFacts → ℕ → Bool
is_cleared g p = list_any (λ q. q == p) (map (λ q. q.0) g.cleared.items)

-- the atom may be true, or false
abbrev pub may_be : World → RelaxedFacts → Bool → Atom → Bool
may_be w g true a = true_in w (affirmed a) || is_listed g.trues.keys a
may_be w g false a = not (true_in w (affirmed a)) || (is_listed g.falses.keys a || is_cleared g a.predicate)

-- the values that the place may have
abbrev pub values_at : World → RelaxedFacts → Term → List ℕ
values_at w g t = value_of w t ∷ flat_map (given_to t) (map given_of g.values.items)

-- all that may be so
abbrev pub chances_of : World → RelaxedFacts → Chances
chances_of w g = record { truth = λ b p ds. may_be w g b (ground p ds); values = λ f ds. values_at w g (place f ds) }

-- what may become so
abbrev pub new_of : news.New → New
new_of (news_is.Truth b a) = NewTruth b (atom_of a)
new_of (news_is.Value t d) = NewValue (term_of t) d.0
new_of (news_is.Cleared q) = NewFalse q.0

-- it may be so already
abbrev pub has_new : World → RelaxedFacts → New → Bool
has_new w g (NewTruth b a) = may_be w g b a
has_new w g (NewValue t d) = list_any (λ e. e == d) (values_at w g t)
has_new w g (NewFalse p) = is_cleared g p

-- one of them isn't so yet
abbrev pub some_new : World → RelaxedFacts → List New → Bool
some_new w g xs = list_any (λ x. not (has_new w g x)) xs

-- a ground action
abbrev pub ground_action_of : DGroundAction → GroundAction
ground_action_of x = record { pre = literals_in x.pre.items; effects = map effect_of x.effects.items }

-- among the ground actions is each that does something and may be done in a world that others lead to, and none of them meets more of the landmarks than is noted
pub record AreGroundActions (p : Problem) (x : GroundActions) (w : World) : Type 0 where
  pub placed : Each (λ y. ArePlaced y.effects.items) x.ground_actions.items
  pub listed : (n : ℕ) (v : World) (i : Instance) → Leads p w n v → MayBeDone p v i → ((schema_of p i.action).effects ≡ []) ⊎ IsIn (ground_action_of_instance p i) (map ground_action_of x.ground_actions.items)
  pub landmarks : AreLandmarks p (landmarks_of x.landmarks.items)
  pub reached : ReachAtMost p (landmarks_of x.landmarks.items) x.reached
