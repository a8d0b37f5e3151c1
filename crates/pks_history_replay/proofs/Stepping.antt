-- Where a step leads, by how progression, assuming and settling end.
use Rattle.std.proofs.Common.{◌≡◌, refl, ap, subst}
use Rattle.pks_terms.specs.Databases.{Five}
use Rattle.pks_terms.specs.Closure.{Outcome, Next, Clash}
use Rattle.pks_terms.specs.Syntax.{Literal}
use Rattle.pks_terms.specs.Actions.{Instance}
use Rattle.pks_terms.specs.Progress.{Progress}
use Rattle.pks_terms.specs.Problems.{Problem, schema_of}
use Rattle.pks_terms.specs.Branching.{Choice, Side, Assumes}
use Rattle.pks_terms.specs.Settling.{History, last_moment, pushed, with_last, State, At, Stopped, Settles}
use Rattle.pks_terms.specs.Trees.{Acts, Takes}

module _ (p : Problem) (h : History) (d : Five) (here : d ≡ last_moment h) where
  acts : (i : Instance) (o q : Outcome) → o ≡ q → Progress p.signature d (schema_of p i.action) i o → Progress p.signature (last_moment h) (schema_of p i.action) i q
  acts i o q e k = subst (Progress p.signature (last_moment h) (schema_of p i.action) i) e (subst (λ x. Progress p.signature x (schema_of p i.action) i o) here k)

  pub act_clash : (i : Instance) (o : Outcome) (l : Literal) → o ≡ Clash l → Progress p.signature d (schema_of p i.action) i o → Acts p h i Stopped
  act_clash i o l e k = record { outcome = Clash l; progress = acts i o (Clash l) e k; gives = refl }

  pub act_next : (i : Instance) (o : Outcome) (next : Five) (g : History) → o ≡ Next next → Progress p.signature d (schema_of p i.action) i o → g ≡ pushed h i next → Acts p h i (At g)
  act_next i o next g e k longer = record { outcome = Next next; progress = acts i o (Next next) e k; gives = ap At longer }

  assumes : (c : Choice) (side : Side) (o q : Outcome) → o ≡ q → Assumes p.signature d c side o → Assumes p.signature (last_moment h) c side q
  assumes c side o q e k = subst (Assumes p.signature (last_moment h) c side) e (subst (λ x. Assumes p.signature x c side o) here k)

  pub take_clash : (c : Choice) (side : Side) (o : Outcome) (l : Literal) → o ≡ Clash l → Assumes p.signature d c side o → Takes p h c side Stopped
  take_clash c side o l e k = record { outcome = Clash l; assumed = assumes c side o (Clash l) e k; settled = refl }

  pub take_next : (c : Choice) (side : Side) (o : Outcome) (next : Five) (x y : State) → o ≡ Next next → Assumes p.signature d c side o → Settles p (with_last h next) x → x ≡ y → Takes p h c side y
  take_next c side o next x y e k s same = record { outcome = Next next; assumed = assumes c side o (Next next) e k; settled = subst (Settles p (with_last h next)) same s }
