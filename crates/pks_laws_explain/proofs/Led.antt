-- Along a path from the closed start all that stands in databases is shown, so each literal that holds at its end has a proof.
use Rattle.std.proofs.Common.{◌≡◌, ◌≤◌, suc, Bool, true, false, cond, List, [], ◌∷◌, ◌++◌, append_assoc, append-nil, slice_get, Some, refl, sym, ap, ◌∙◌, subst, true≢false, arith}
use Rattle.pks_terms.specs.Sets.{Each, IsIn}
use Rattle.pks_terms.specs.Syntax.{Literal}
use Rattle.pks_terms.specs.Databases.{Five, holds}
use Rattle.pks_terms.specs.Closure.{Outcome, Next, Clash, Closes}
use Rattle.pks_terms.specs.Actions.{Instance}
use Rattle.pks_terms.specs.Progress.{progressed, Progress}
use Rattle.pks_terms.specs.Problems.{Problem, schema_of, initial}
use Rattle.pks_terms.specs.Branching.{instances, Choice, BranchOn, Side, IsMember, assumed, Assumes}
use Rattle.pks_terms.specs.Settling.{History, last_moment, pushed, with_last, settle_rounds, clashes, At, Stopped, tidied_history, Settles}
use Rattle.pks_terms.specs.Trees.{after_step, Acts, SettlesAfter, Takes}
use Rattle.pks_terms.specs.Typed.{AllJustified}
use Rattle.pks_terms.specs.Valid.{IsValid}
use Rattle.pks_terms.specs.Moments.{IsInOrder, AreMomentsOf}
use Rattle.pks_terms.proofs.ListLaws.{each_in}
use Rattle.pks_laws.specs.OfSignature.{IsSideOf}
use Rattle.pks_laws.proofs.BelongingHistories.{is_clash, history_or}
use Rattle.pks_laws.proofs.Instances.{allowed_instance}
use Rattle.pks_laws.proofs.SearchStates.{last_of_it, start_of, acts_of, takes_of}
use Rattle.pks_terms.specs.Proofs.{FactLit, Went, Took, Path, deeds, final_moment, Proof, takings}
use Rattle.pks_terms.specs.Accepting.{accepts}
use Rattle.pks_laws_explain.specs.Shown.{IsShown, IsHistoryShown, Leads}
use Rattle.pks_laws_explain.proofs.Growing.{shown_proof}
use Rattle.pks_laws_explain.proofs.Derived.{held}
use Rattle.pks_laws_explain.proofs.Gathered.{got_within, settle_rounds_shown}
use Rattle.pks_laws_explain.proofs.Began.{initial_shown, IsTaken, side_shown}
use Rattle.pks_laws_explain.proofs.Tidied.{closed_shown}
use Rattle.pks_laws_explain.proofs.Progressed.{progressed_shown}
use Rattle.pks_laws_explain.proofs.Moments.{moment_at, moment_is_final, moment_within, moment_went, moment_took, deed_there, side_there, end_moment, end_pushed, end_replaced, end_rounds, end_tidied, last_shown, pushed_shown, pushed_steps, replaced_shown, tidied_history_shown}

module _ (p : Problem) (path : Path) where
  -- ---- settling

  Settled : History → History → Type 0
  Settled h g = IsHistoryShown p path g × (end_moment 0 g.steps ≡ end_moment 0 h.steps)

  settled_shown : (h g : History) → IsHistoryShown p path h → Settles p h (At g) → Settled h g
  unfolding Settled
  settled_shown h g s t = go (clashes p.signature end) t.gives
    where
      end : History
      end = settle_rounds p t.count h

      go : (b : Bool) → At g ≡ cond b Stopped (At (tidied_history (settle_rounds p t.count h))) → IsHistoryShown p path g × (end_moment 0 g.steps ≡ end_moment 0 h.steps)
      go true e = absurd (true≢false (sym (ap is_clash e)))
      go false e =
          let last = settle_rounds p t.count h in
          subst (λ (x : History). IsHistoryShown p path x × (end_moment 0 x.steps ≡ end_moment 0 h.steps)) (sym (ap (history_or g) e))
          (tidied_history_shown p path last (settle_rounds_shown p path t.count h s), end_tidied 0 last.steps ∙ end_rounds p t.count h)

  module _ (v : IsValid p) (all : AllJustified p) where
    -- the history at the end of a front of the path: all its databases are shown, and it ends where the front does
    record Reached (front : Path) (h : History) : Type 0 where
      shown : IsHistoryShown p path h
      moments : AreMomentsOf p h
      place : end_moment 0 h.steps ≡ moment_at 0 front

    -- ---- an action

    act : (front rest : Path) (i : Instance) (h k : History) → front ++ Went i ∷ rest ≡ path → Reached front h → IsIn i (instances p (last_moment h)) → Acts p h i (At k) → Reached (front ++ Went i ∷ []) k
    act front rest i h k whole r chosen a = go a.outcome a.progress a.gives
      where
        go : (o : Outcome) → Progress p.signature (last_moment h) (schema_of p i.action) i o → At k ≡ after_step h i o → Reached (front ++ Went i ∷ []) k
        go (Next e) c q =
            let there : slice_get (deeds path) (end_moment 0 h.steps) ≡ Some i = subst (λ (x : Path). slice_get (deeds x) (end_moment 0 h.steps) ≡ Some i) whole (ap (slice_get (deeds (front ++ Went i ∷ rest))) r.place ∙ deed_there front rest i) in
            let next : suc (end_moment 0 h.steps) ≤ final_moment path = got_within (deeds path) (end_moment 0 h.steps) i there in
            let last = last_shown p path 0 h.start h.steps r.shown.1 in
            let allowed = (allowed_instance p (last_moment h) i chosen).0 in
            let after = closed_shown p path (suc (end_moment 0 h.steps)) next (progressed p.signature (last_moment h) (schema_of p i.action) i.arguments) e
            (progressed_shown p path (end_moment 0 h.steps) next i there (last_moment h) last allowed (all i.action)) c in
            let longer : IsHistoryShown p path (pushed h i e) = (pushed_steps p path 0 h.steps i e r.shown.0 there, pushed_shown p path 0 h.start h.steps i e r.shown.1 after) in
            let same : k ≡ pushed h i e = ap (history_or k) q in
            record {
              shown = subst (IsHistoryShown p path) (sym same) longer;
              moments = acts_of p v h k i r.moments chosen a;
              place = ap (λ (x : History). end_moment 0 x.steps) same ∙ end_pushed 0 h.steps (i, e) ∙ ap suc r.place ∙ sym (moment_went 0 front i);
            }
        go (Clash l) c q = absurd (true≢false (sym (ap is_clash q)))

    -- ---- a side

    take : (front rest : Path) (c : Choice) (side : Side) (h k : History) → front ++ Took c side ∷ rest ≡ path → Reached front h → IsMember (last_moment h) c → IsSideOf p.signature c side → Takes p h c side (At k) → Reached (front ++ Took c side ∷ []) k
    take front rest c side h k whole r member of t = go t.outcome t.assumed t.settled
      where
        taken : IsTaken p path (end_moment 0 h.steps) c side
        taken =
            let n = side_there 0 front rest c side in
            (suc n.0, subst (λ (x : Path). slice_get (takings 0 x) n.0 ≡ Some (record { moment = end_moment 0 h.steps; choice = c; side = side })) whole (n.1 ∙ (λ i. Some (record { moment = sym r.place i; choice = c; side = side }))))

        ordered : (b : List Literal) → c ≡ BranchOn b → Each IsInOrder b
        ordered b e = each_in (Each IsInOrder) (last_moment h).kw b (last_of_it p v h r.moments).ordered.whether (subst (IsMember (last_moment h)) e member)

        inside : end_moment 0 h.steps ≤ final_moment path
        inside = subst (λ (x : Path). end_moment 0 h.steps ≤ final_moment x) whole (subst (λ n. n ≤ final_moment (front ++ Took c side ∷ rest)) (sym r.place) (moment_within front (Took c side ∷ rest)))

        go : (o : Outcome) → Assumes p.signature (last_moment h) c side o → SettlesAfter p h o (At k) → Reached (front ++ Took c side ∷ []) k
        go (Next e) a s =
            let last = last_shown p path 0 h.start h.steps r.shown.1 in
            let with_side = side_shown p path (end_moment 0 h.steps) inside (last_moment h) last c side taken ordered in
            let closed = closed_shown p path (end_moment 0 h.steps) inside (assumed p.signature (last_moment h) c side) e with_side a in
            let settled = settled_shown (with_last h e) k (replaced_shown p path h e r.shown closed) s in
            unfold Settled in
            record {
              shown = settled.0;
              moments = takes_of p v h k c side r.moments member of t;
              place = settled.1 ∙ end_replaced h e ∙ r.place ∙ sym (moment_took 0 front c side);
            }
        go (Clash l) a s = absurd (true≢false (sym (ap is_clash s)))

    -- ---- the whole path

    lead : (rest front : Path) (h g : History) → front ++ rest ≡ path → Reached front h → Leads p h rest g → Reached path g
    lead [] front h g whole r l = subst (λ (x : Path). Reached x g) (sym (append-nil front) ∙ whole) (subst (Reached front) l r)
    lead (Went i ∷ rest) front h g whole r l =
        let k = l.1.0 in
        lead rest (front ++ Went i ∷ []) k g (append_assoc front (Went i ∷ []) rest ∙ whole) (act front rest i h k whole r l.0 l.1.1) l.1.2
    lead (Took c side ∷ rest) front h g whole r l =
        let k = l.2.0 in
        lead rest (front ++ Took c side ∷ []) k g (append_assoc front (Took c side ∷ []) rest ∙ whole) (take front rest c side h k whole r l.0 l.1 l.2.1) l.2.2

    start : (d : Five) → Closes p.signature (initial p) (Next d) → Reached [] (record { start = d; steps = [] })
    start d c = record {
      shown = (tt, closed_shown p path 0 zero_within (initial p) d (initial_shown p path v) c);
      moments = start_of p v d c;
      place = refl;
    }
      where
        zero_within : 0 ≤ final_moment path
        zero_within = omega arith

    -- all that stands in the databases of the history to which the path leads is shown
    pub history_shown : (d : Five) (h : History) → Closes p.signature (initial p) (Next d) → Leads p (record { start = d; steps = [] }) path h → IsHistoryShown p path h
    history_shown d h c leads = (lead path [] (record { start = d; steps = [] }) h refl (start d c) leads).shown

    -- a literal that holds at the end of the path has an accepted proof
    pub proof_of : (d : Five) (h : History) (l : Literal) → Closes p.signature (initial p) (Next d) → Leads p (record { start = d; steps = [] }) path h → IsInOrder l → holds p.signature (last_moment h) l ≡ true → (proof : Proof) × (accepts p path proof l ≡ true)
    proof_of d h l c leads o holding =
        let r = lead path [] (record { start = d; steps = [] }) h refl (start d c) leads in
        let place : end_moment 0 h.steps ≡ final_moment path = r.place ∙ moment_is_final path in
        let inside : end_moment 0 h.steps ≤ final_moment path = omega (arith, place) in
        shown_proof p path l (subst (λ n. IsShown p path n (FactLit l)) place (held p path (end_moment 0 h.steps) inside (last_moment h) (last_shown p path 0 h.start h.steps r.shown.1) l o holding))
