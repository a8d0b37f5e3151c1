-- An instance is done as the ground action whose arguments are the values of its terms in the world before.
use Rattle.std.proofs.Common.{◌≡◌, List, [], ◌∷◌, ◌++◌, map, refl, ap, ◌∙◌}
use Rattle.std.specs.List.{fold}
use Rattle.pks_terms.specs.Sets.{Each}
use Rattle.pks_terms.specs.Syntax.{Object, Inner}
use Rattle.pks_terms.specs.Worlds.{World, inner_value}
use Rattle.pks_terms.specs.Actions.{Instance, applied_to}
use Rattle.pks_terms.specs.Problems.{Problem, schema_of}
use Rattle.pks_terms.specs.Settling.{effects_of}
use Rattle.pks_terms.specs.Knowledge.{grounded, after_action, after_actions, ground_actions}
use Rattle.pks_laws.proofs.PuttingIn.{applied_alike, same_at_ground}

-- its put-in effects lead where the ground action leads
pub effects_do : (p : Problem) (w : World) (i : Instance) → applied_to w (effects_of p i) ≡ after_action p w (grounded w i)
unfolding after_action
effects_do p w i = applied_alike w i.arguments (grounded w i).arguments (same_at_ground w i.arguments) (schema_of p i.action).effects

-- so along instances, one after another
pub all_effects_do : (p : Problem) (is : List Instance) (w : World) → fold (λ v i. applied_to v (effects_of p i)) w is ≡ after_actions p w (ground_actions p w is)
all_effects_do p [] w = refl
all_effects_do p (i ∷ is) w = ap (λ v. fold (λ v i. applied_to v (effects_of p i)) v is) (effects_do p w i) ∙ all_effects_do p is (after_action p w (grounded w i))

-- where the arguments have the same values, it is the same ground action
pub grounded_alike : (w w' : World) (i : Instance) → Each (λ t. inner_value w t ≡ inner_value w' t) i.arguments → grounded w i ≡ grounded w' i
grounded_alike w w' i a = λ j. record { action = i.action; arguments = alike i.arguments a j }
  where
    alike : (ts : List Inner) → Each (λ t. inner_value w t ≡ inner_value w' t) ts → map (λ t. let u : Inner = Object (inner_value w t) in u) ts ≡ map (λ t. let u : Inner = Object (inner_value w' t) in u) ts
    alike [] a = refl
    alike (t ∷ ts) a = λ j. Object (a.0 j) ∷ alike ts a.1 j

-- ---- the world that instances lead to, each done as a ground action

abbrev pub present : Problem → World → List Instance → World
present p w is = after_actions p w (ground_actions p w is)

pub grounds_pushed : (p : Problem) (w : World) (is : List Instance) (i : Instance) → ground_actions p w (is ++ i ∷ []) ≡ ground_actions p w is ++ grounded (present p w is) i ∷ []
grounds_pushed p w [] i = refl
grounds_pushed p w (x ∷ is) i = λ j. grounded w x ∷ grounds_pushed p (after_action p w (grounded w x)) is i j
