-- What the end of the rounds over a family says of settling.
use Rattle.std.proofs.Common.{◌≡◌, Bool, false, cond, map, length, refl, sym, ap, ◌∙◌, subst}
use Rattle.std.proofs.lemmas.List.{length-map}
use Rattle.pks_terms.specs.Sets.{Each}
use Rattle.pks_terms.specs.Signatures.{HasValues}
use Rattle.pks_terms.specs.Worlds.{World}
use Rattle.pks_terms.specs.Databases.{Five}
use Rattle.pks_terms.specs.Closure.{tidied, IsClosed}
use Rattle.pks_terms.specs.Actions.{Instance}
use Rattle.pks_terms.specs.Problems.{Problem}
use Rattle.pks_terms.specs.Settling.{History, State, At, Stopped, with_last, clashes, tidied_history, settle_round, settle_rounds, Settles}
use Rattle.pks_terms.specs.Remembering.{IsTrueHistory}
use Rattle.pks_terms.proofs.ListLaws.{each_unmapped}
use Rattle.pks_laws.proofs.BelongingHistories.{settled_closed}
use Rattle.pks_laws.proofs.Histories.{deeds_with_last, deeds_settled, settled_history}
use Rattle.pks_laws.proofs.LeastFamily.{settled_least}
use Rattle.pks_laws.proofs.SettledEnd.{rounds_have_start, end_closed}
use Rattle.pks_postdict.specs.Ends.{IsLeastOver}
use Rattle.pks_postdict.specs.Lasting.{IsLastFamily}
use Rattle.pks_postdict.specs.Read.{IsReadBut}
use Rattle.pks_postdict.proofs.SameSteps.{closed_read}

-- the history g is the end of the rounds from h
module _ (p : Problem) (h f g : History) (same : f ≡ h) (end : IsLastFamily p f g) where
  reached_from : g ≡ settle_rounds p end.count h
  reached_from = end.reached ∙ ap (settle_rounds p end.count) same

  pub settles_by : (b : Bool) → b ≡ clashes p.signature g → (x : State) → x ≡ cond b Stopped (At (tidied_history g)) → Settles p h x
  settles_by b tells x gives = record {
    count = end.count;
    last = ap (settle_round p) (sym reached_from) ∙ end.last ∙ reached_from;
    gives = gives ∙ (λ i. cond (tells i) Stopped (At (tidied_history g))) ∙ ap (λ (e : History). cond (clashes p.signature e) Stopped (At (tidied_history e))) reached_from;
  }

  pub settles_at : clashes p.signature g ≡ false → Settles p h (At (tidied_history g))
  settles_at none = settles_by false (sym none) (At (tidied_history g)) refl

  pub closed_start : clashes p.signature g ≡ false → IsClosed p.signature (tidied g.start)
  closed_start none = (settled_closed p h (tidied_history g) (settles_at none)).0

  pub closed_later : clashes p.signature g ≡ false → Each (λ (step : Instance × Five). IsClosed p.signature (tidied step.1)) g.steps
  closed_later none =
      each_unmapped (λ (step : Instance × Five). IsClosed p.signature step.1) (λ (step : Instance × Five). (step.0, tidied step.1)) g.steps
      (settled_closed p h (tidied_history g) (settles_at none)).1

  pub least_over : HasValues p.signature → clashes p.signature g ≡ false → (k : History) → k ≡ tidied_history g → IsLeastOver p h k
  unfolding settles_at settles_by
  least_over inhabited none k says = record {
    family = settle_rounds p end.count h;
    says = says ∙ ap tidied_history reached_from;
    whole = rounds_have_start p h end.count;
    closed = end_closed p (settle_rounds p end.count h) (settles_at none).last (ap (clashes p.signature) (sym reached_from) ∙ none);
    least = λ big within closed. settled_least p inhabited end.count h big within closed;
  }

  -- each step is read
  pub read_settled : HasValues p.signature → clashes p.signature g ≡ false → (k : History) → k ≡ tidied_history g → IsReadBut p 0 k
  unfolding settles_at settles_by
  read_settled inhabited none k says =
      let whole : History = settle_rounds p end.count h in
      let closed = end_closed p whole (settles_at none).last (ap (clashes p.signature) (sym reached_from) ∙ none) in
      subst (IsReadBut p 0) (sym (says ∙ ap tidied_history reached_from)) (closed_read p inhabited whole.start whole.steps closed)

-- there are as many moments as before
pub as_many : (p : Problem) (h f g : History) (d : Five) → f ≡ with_last h d → IsLastFamily p f g → length g.steps ≡ length h.steps
as_many p h f g d same end =
    let n = end.count in
    let start : History = with_last h d in
    let last : History = settle_rounds p n start in
    let tidy : Instance × Five → Instance × Five = λ step. (step.0, tidied step.1) in
    let deed : Instance × Five → Instance = λ step. step.0 in
    ap (λ (x : History). length x.steps) (end.reached ∙ ap (settle_rounds p n) same)
    ∙ sym (length-map (map tidy last.steps) deed ∙ length-map last.steps tidy)
    ∙ ap length (deeds_settled p n start ∙ deeds_with_last p h.start h.steps d)
    ∙ length-map h.steps deed

-- where the history is true of two worlds, settling doesn't clash
pub no_clash_where_true : (p : Problem) (w w' : World) (h : History) → IsTrueHistory p w w' h → Settles p h Stopped → ⊥
no_clash_where_true p w w' h t s =
    let r = settled_history p w w' h Stopped t s in
    let e : Stopped ≡ At r.0 = r.1 in
    cc

-- and what it gives is true of them
pub settled_where_true : (p : Problem) (w w' : World) (h g : History) → IsTrueHistory p w w' h → Settles p h (At g) → IsTrueHistory p w w' g
settled_where_true p w w' h g t s =
    let r = settled_history p w w' h (At g) t s in
    let e : g ≡ r.0 = cc (r.1) in
    subst (IsTrueHistory p w w') (sym e) r.2
