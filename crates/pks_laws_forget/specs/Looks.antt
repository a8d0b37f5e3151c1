-- Looks: steps of a history by actions without effects. Such a step makes no moment of its own.
use Rattle.std.specs.Prelude.{◌≡◌, ◌⊎◌, ◌&&◌, ◌||◌, Bool, true, false, not, cond, List, [], ◌∷◌}
use Rattle.std.specs.List.{list_all, list_any}
use Rattle.std.specs.Ordering.{is_eq}
use Rattle.pks_terms.specs.Sets.{Each}
use Rattle.pks_terms.specs.Syntax.{Literal}
use Rattle.pks_terms.specs.Orders.{conj_cmp}
use Rattle.pks_terms.specs.Signatures.{Signature}
use Rattle.pks_terms.specs.Databases.{Five, holds}
use Rattle.pks_terms.specs.Queries.{Plain, Know, KnowWhether, KnowValue}
use Rattle.pks_terms.specs.Actions.{Instance}
use Rattle.pks_terms.specs.Progress.{entry_terms}
use Rattle.pks_terms.specs.Problems.{Aim, Now, AtStart, Always, Once, Problem}
use Rattle.pks_terms.specs.Settling.{History, effects_of}
use Rattle.pks_terms.specs.Saturated.{Within}
use Rattle.pks_terms.specs.Objects.{is_of_objects}
use Rattle.pks_laws_forget.specs.Fewer.{is_held}
use Rattle.pks_laws_forget.specs.Transparent.{AreObjects, IsOfObjects}
use Rattle.pks_laws_forget.specs.Testing.{has, lasts_as_region}

-- both or neither
abbrev pub are_alike : Bool → Bool → Bool
are_alike a b = cond a b (not b)

-- it is asked whether a literal is known, and this is told alike by both
abbrev pub is_told_alike : Signature → Five → Five → Plain → Bool
is_told_alike s d e (Know l) = are_alike (holds s d l) (holds s e l)
is_told_alike s d e (KnowWhether c) = false
is_told_alike s d e (KnowValue t) = false

-- so of an aim, unless it is one of the last moment, or one of each moment that the first meets for good
abbrev pub aim_is_told_alike : Signature → Five → Five → Aim → Bool
aim_is_told_alike s d e (Now q) = true
aim_is_told_alike s d e (AtStart q) = is_told_alike s d e q.asks
aim_is_told_alike s d e (Always q) = is_told_alike s d e q.asks || is_held s d q
aim_is_told_alike s d e (Once q) = is_told_alike s d e q.asks

-- so with each aim of the problem
abbrev pub aims_are_told_alike : Problem → Five → Five → Bool
aims_are_told_alike p d e = list_all (aim_is_told_alike p.signature d e) p.goal

-- the action has no effects, aims over time are told alike before and after or met for good, what was known before is known after, and groups and regions are the same and speak of objects alone
pub record IsLook (p : Problem) (before : Five) (i : Instance) (after : Five) : Type 0 where
  pub effects : effects_of p i ≡ []
  pub aims : aims_are_told_alike p before after ≡ true
  pub known : Within before.kf after.kf
  pub groups : before.kx ≡ after.kx
  pub regions : before.lcw ≡ after.lcw
  pub of_objects : Each (λ g. Each IsOfObjects g) before.kx
  pub at_objects : Each (λ r. AreObjects (entry_terms r)) before.lcw

-- the second moments are the first, but for some before steps of this kind
abbrev pub AreWithout : (Five → Instance → Five → Type 0) → Five → List (Instance × Five) → Five → List (Instance × Five) → Type 0
AreWithout Goes d [] e [] = d ≡ e
AreWithout Goes d [] e (y ∷ ys) = ⊥
AreWithout Goes d (x ∷ xs) e [] = Goes d x.0 x.1 × AreWithout Goes x.1 xs e []
AreWithout Goes d (x ∷ xs) e (y ∷ ys) = (Goes d x.0 x.1 × AreWithout Goes x.1 xs e (y ∷ ys)) ⊎ ((d ≡ e) × (x.0 ≡ y.0) × AreWithout Goes x.1 xs y.1 ys)

-- ---- a test whether a step is a look, and the history without the moments before looks

-- the list has no element
abbrev pub is_empty : {X : Type 0} → List X → Bool
is_empty [] = true
is_empty (x ∷ xs) = false

-- the group speaks of objects alone and is there
abbrev pub has_group : Five → List Literal → Bool
has_group d g = list_all is_of_objects g && list_any (λ h. is_eq (conj_cmp g h)) d.kx

-- groups and regions of the first speak of objects alone and are those of the second
abbrev pub lasts_in : Five → Five → Bool
lasts_in d e = list_all (has_group e) d.kx && list_all (lasts_as_region e) d.lcw

-- the step is a look
abbrev pub is_look : Problem → Five → Instance → Five → Bool
is_look p before i after = is_empty (effects_of p i) && (aims_are_told_alike p before after && (list_all (has after) before.kf && (lasts_in before after && lasts_in after before)))

-- the history behind a first moment
abbrev pub behind : Five → Instance → History → History
behind d i h = record { start = d; steps = (i, h.start) ∷ h.steps }

-- of these moments those that no look follows
abbrev pub unlooked_from : Problem → Five → List (Instance × Five) → History
unlooked_from p d [] = record { start = d; steps = [] }
unlooked_from p d (x ∷ xs) = cond (is_look p d x.0 x.1) (unlooked_from p x.1 xs) (behind d x.0 (unlooked_from p x.1 xs))

-- the history without the moments before looks
abbrev pub without_looks : Problem → History → History
without_looks p h = unlooked_from p h.start h.steps
