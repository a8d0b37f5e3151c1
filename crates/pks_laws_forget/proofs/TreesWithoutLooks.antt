-- A history without some looks has the same derived trees.
use Rattle.std.proofs.Common.{◌≡◌, true, sym, subst}
use Rattle.pks_terms.specs.Signatures.{Signature}
use Rattle.pks_terms.specs.Databases.{Five, AreSets}
use Rattle.pks_terms.specs.Closure.{tidied, Next}
use Rattle.pks_terms.specs.Branching.{Choice, Side, Assumes}
use Rattle.pks_terms.specs.Moments.{IsMomentOf, AreMomentsOf}
use Rattle.pks_terms.specs.Handed.{IsStepOf}
use Rattle.pks_terms.specs.Problems.{Problem}
use Rattle.pks_terms.specs.Settling.{History, last_moment, with_last, settle_rounds, At}
use Rattle.pks_terms.specs.Trees.{Tree, Derives}
use Rattle.pks_terms.specs.Valid.{IsValid}
use Rattle.pks_terms.specs.Actions.{Instance}
use Rattle.pks_laws_forget.specs.Looks.{aims_are_told_alike, IsLook, AreWithout}
use Rattle.pks_laws_forget.specs.Transparent.{AreSetsAlong}
use Rattle.pks_laws_forget.proofs.Looks.{Leaves, looks_leave}
use Rattle.pks_laws_forget.proofs.Held.{aims_alike}
use Rattle.pks_laws_forget.proofs.MetAlike.{met_told}
use Rattle.pks_laws_forget.proofs.Pairs.{Keeps, same_trees}
use Rattle.pks_laws_forget.proofs.SetsAlong.{ordered_of}
use Rattle.pks_laws_forget.proofs.Still.{Continues, ContinuesAlike, same_clash, ends_without, still_tidied, side_replaces, still_replaced}
use Rattle.pks_laws_forget.proofs.Thinned.{ended, ended_is, thin_self, thin_each, thin_deeds, without_last, without_pushed, without_ended, without_weaker, without_mapped}

-- ---- moments and sets

pub moments_without : (p : Problem) (h g : History) → AreMomentsOf p h → AreSetsAlong h → AreWithout (IsLook p) h.start h.steps g.start g.steps → AreMomentsOf p g × AreSetsAlong g
moments_without p h g m a k =
    let r = thin_deeds (IsLook p) (IsMomentOf p.signature) (IsStepOf p) h.start h.steps g.start g.steps k h.start h.steps m.start m.steps in
    let s = thin_each (IsLook p) AreSets h.start h.steps g.start g.steps k h.start h.steps a.start a.steps in
    let own = thin_self (IsLook p) h.start h.steps g.start g.steps k in (
      subst (AreMomentsOf p) own (record { start = r.0; steps = r.1 }),
      subst AreSetsAlong own (record { start = s.0; steps = s.1 }),
    )

module _ (p : Problem) (v : IsValid p) where
  abbrev S : Signature
  S = p.signature

  -- the second history is the first without some moments, of which aims over time are told as before the next
  abbrev IsWithout : History → History → Type 0
  IsWithout h g = AreWithout (Leaves p) h.start h.steps g.start g.steps

  -- without some moments, whatever aims ask of them
  abbrev IsNearlyWithout : History → History → Type 0
  IsNearlyWithout h g = AreWithout (Continues p) h.start h.steps g.start g.steps

  nearly : (h g : History) → IsWithout h g → IsNearlyWithout h g
  nearly h g k = without_weaker (Leaves p) (Continues p) (λ b i a k. k.goes) h.start h.steps g.start g.steps k

  replaced_without : (h g : History) (c : Choice) (side : Side) (d : Five) → IsNearlyWithout h g → Assumes S (last_moment h) c side (Next d) → IsNearlyWithout (with_last h d) (with_last g d)
  replaced_without h g c side d k a =
      subst (λ (f : History). IsNearlyWithout f (with_last g d)) (sym (ended_is h.start h.steps d))
      (subst (IsNearlyWithout (ended h.start h.steps d)) (sym (ended_is g.start g.steps d))
      (without_ended (Continues p) d h.start h.steps g.start g.steps (λ b i. still_replaced p v.signature.values b i (last_moment h) d (side_replaces p v.signature.values (last_moment h) d c side a)) k))

  leaves_tidied : (b : Five) (i : Instance) (a : Five) → ContinuesAlike p b i a → Leaves p (tidied b) i (tidied a)
  leaves_tidied b i a k =
      let goes = still_tidied p v.signature.values b i a k.upheld k.goes in
      record { goes = goes; aims = aims_alike p.signature (tidied b) (tidied a) k.alike p.goal goes.minded }

  keeps_without : Keeps p IsWithout IsNearlyWithout
  keeps_without = record {
    last = λ h g k. without_last (Leaves p) h.start h.steps g.start g.steps k;
    goal = λ h g k. met_told p h g (without_weaker (Leaves p) (λ b i a. aims_are_told_alike p b a ≡ true) (λ b i a k. k.aims) h.start h.steps g.start g.steps k);
    acts = λ h g x d k chosen chosen' q q'. without_pushed (Leaves p) h.start h.steps g.start g.steps (x, d) k;
    sides = λ h g c side d o o' k a a'. replaced_without h g c side d (nearly h g k) a;
    clash = λ h g n m o o' k e f. same_clash p v.signature.values h.start h.steps g.start g.steps k n m e f;
    settled = λ h g n m o o' k e f q q'.
        let end : History = settle_rounds p n h in
        let end' : History = settle_rounds p m g in
        without_mapped (ContinuesAlike p) (Leaves p) tidied leaves_tidied end.start end.steps end'.start end'.steps (ends_without p v.signature.values h.start h.steps g.start g.steps k n m (ordered_of p h o.sets) e q f);
  }

  pub without_looks : (h g : History) (t : Tree) → AreMomentsOf p h → AreSetsAlong h → AreWithout (IsLook p) h.start h.steps g.start g.steps → (Derives p (At h) t → Derives p (At g) t) × (Derives p (At g) t → Derives p (At h) t)
  without_looks h g t m a k =
      let own = moments_without p h g m a k in
      let left = looks_leave p h.start h.steps g.start g.steps m.start m.steps a.start a.steps k in
      same_trees p v IsWithout IsNearlyWithout keeps_without h g t left (record { moments = m; sets = a }) (record { moments = own.0; sets = own.1 })
