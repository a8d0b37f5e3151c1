-- Histories with the same last databases and the same ends have the same derived trees.
use Rattle.std.proofs.Common.{◌≡◌, ℕ, false, [], ◌∷◌, Option, sym, ap, ◌∙◌, subst, ⊎_elim, true≢false}
use Rattle.std.proofs.lemmas.Bool.{cases_Bool}
use Rattle.pks_terms.specs.Sets.{Each, IsIn, IsOrdered}
use Rattle.pks_terms.specs.Orders.{literal_cmp}
use Rattle.pks_terms.specs.Signatures.{Signature}
use Rattle.pks_terms.specs.Databases.{Five}
use Rattle.pks_terms.specs.Closure.{tidied, Next}
use Rattle.pks_terms.specs.Actions.{Instance}
use Rattle.pks_terms.specs.Branching.{instances, Choice, Side, Assumes}
use Rattle.pks_terms.specs.Moments.{AreMomentsOf}
use Rattle.pks_terms.specs.Problems.{Problem, schema_of}
use Rattle.pks_terms.specs.Progress.{Progress}
use Rattle.pks_terms.specs.Saturated.{Within, WithinAlong}
use Rattle.pks_terms.specs.Settling.{History, last_moment, last_of, pushed, with_last, settle_rounds, At, clashes, tidied_history}
use Rattle.pks_terms.specs.Trees.{Tree, Derives, IsBestAt}
use Rattle.pks_terms.specs.Valid.{IsValid}
use Rattle.pks_terms.specs.Versions.{IsNow}
use Rattle.pks_terms.proofs.ListLaws.{each_append, each_weaker}
use Rattle.pks_laws.proofs.LeastFamily.{settled_least}
use Rattle.pks_laws.proofs.SettledEnd.{rounds_have_start, end_closed}
use Rattle.pks_laws_forget.specs.Transparent.{AreSetsAlong}
use Rattle.pks_laws_forget.proofs.Ends.{AreOrdered, forget, forget_steps, head_five, tail_steps, rounds_ordered, rounds_forget, same_known, quiet_within}
use Rattle.pks_laws_forget.proofs.Still.{side_replaces}
use Rattle.pks_laws_forget.proofs.Thinned.{Steps, ended, ended_is}
use Rattle.pks_laws_forget.proofs.Pairs.{IsOf, IsFixed, Keeps, same_trees, same_best}
use Rattle.pks_laws_forget.proofs.SetsAlong.{ordered_of}
use Rattle.pks_laws_forget.proofs.Trees.{met_alike}
use Rattle.pks_laws_forget.specs.Ends.{IsFamilyOver, EndsAmong, HaveSameEnds, IsAtObjects, KeepsAtObjects, IsAlong}
use Rattle.pks_laws_forget.proofs.Families.{along_both, IsWithin, last_within, pushed_among, replaced_among, IsStill, at_objects_still, AreStill, all_still, still_by, kind_along, in_tidied, tidied_last, last_pushed, ended_last}

-- each last databases of steps of which something is so
last_so : (P : Five → Type 0) (d : Five) (xs : Steps) → P d → Each (λ (x : Instance × Five). P x.1) xs → P (last_of d xs)
last_so P d [] o os = o
last_so P d (x ∷ xs) o os = last_so P x.1 xs os.0 os.1

-- what is forgotten of the last databases
last_forgets : (d : Five) (xs : Steps) (e : Five) (ys : Steps) → forget d ≡ forget e → forget_steps xs ≡ forget_steps ys → forget (last_of d xs) ≡ forget (last_of e ys)
last_forgets d [] e [] f g = f
last_forgets d (x ∷ xs) e (y ∷ ys) f g = last_forgets x.1 xs y.1 ys (ap (head_five (forget d)) g) (ap tail_steps g)
last_forgets d [] e (y ∷ ys) f g = absurd cc
last_forgets d (x ∷ xs) e [] f g = absurd cc

last_ordered : (d : Five) (xs : Steps) → AreOrdered d xs → IsOrdered literal_cmp (last_of d xs).kf
last_ordered d [] o = o.0
last_ordered d (x ∷ xs) o = last_ordered x.1 xs o.1

module _ (p : Problem) (v : IsValid p) (plain : Each IsNow p.goal) (Fits : Five → Type 0) (keeps : KeepsAtObjects p Fits) where
  abbrev S : Signature
  S = p.signature

  -- the last databases and the ends are the same, and each moment is of the kind
  record IsEqual (h g : History) : Type 0 where
    last : last_moment h ≡ last_moment g
    on : EndsAmong p h g
    back : EndsAmong p g h
    fits : IsAlong Fits h
    own_fits : IsAlong Fits g

  turned : (h g : History) → IsEqual h g → IsEqual g h
  turned h g k = record { last = sym k.last; on = k.back; back = k.on; fits = k.own_fits; own_fits = k.fits }

  -- ---- actions

  pushed_fits : (h : History) (x : Instance) (d : Five) → IsAlong Fits h → IsIn x (instances p (last_moment h)) → Progress S (last_moment h) (schema_of p x.action) x (Next d) → IsAlong Fits (pushed h x d)
  pushed_fits h x d o chosen q = record {
    start = o.start;
    steps = each_append (λ (x : Instance × Five). Fits x.1) h.steps ((x, d) ∷ []) o.steps (keeps.acts (last_moment h) x d chosen (last_so Fits h.start h.steps o.start o.steps) q, tt);
  }

  pushed_equal : (h g : History) (x : Instance) (d : Five) → IsEqual h g → IsIn x (instances p (last_moment h)) → IsIn x (instances p (last_moment g)) → Progress S (last_moment h) (schema_of p x.action) x (Next d) → Progress S (last_moment g) (schema_of p x.action) x (Next d) → IsEqual (pushed h x d) (pushed g x d)
  pushed_equal h g x d k chosen chosen' q q' = record {
    last = last_pushed p h.start h.steps (x, d) ∙ sym (last_pushed p g.start g.steps (x, d));
    on = pushed_among p v.signature.values h g x d k.last k.on;
    back = pushed_among p v.signature.values g h x d (sym k.last) k.back;
    fits = pushed_fits h x d k.fits chosen q;
    own_fits = pushed_fits g x d k.own_fits chosen' q';
  }

  -- ---- settling

  still_of : (h : History) → IsOf p h → IsAlong Fits h → IsStill h.start × AreStill h.steps
  still_of h o f = (at_objects_still p h.start o.moments.start o.sets.start (keeps.objects h.start f.start), all_still p h.steps o.moments.steps o.sets.steps (each_weaker (λ (x : Instance × Five). Fits x.1) (λ (x : Instance × Five). IsAtObjects x.1) (λ x f. keeps.objects x.1 f) h.steps f.steps))

  -- where settling ends all lies within its normal form, and the other way round
  module _ (h : History) (o : IsOf p h) (f : IsAlong Fits h) (n : ℕ) where
    abbrev settled : History
    settled = settle_rounds p n h

    in_normal : WithinAlong settled.start settled.steps (tidied_history settled).start (tidied_history settled).steps × WithinAlong (tidied_history settled).start (tidied_history settled).steps settled.start settled.steps
    in_normal =
        let still = still_of h o f in
        let at_end = kind_along IsStill still_by h.start h.steps settled.start settled.steps (rounds_have_start p h n) still.0 still.1 in
        in_tidied settled.start settled.steps at_end.0 at_end.1

    tidied_fits : IsAlong Fits (tidied_history settled)
    tidied_fits =
        let w = along_both h.start h.steps settled.start settled.steps (tidied_history settled).start (tidied_history settled).steps (rounds_have_start p h n) in_normal.0 in
        let r = kind_along Fits keeps.learnt h.start h.steps (tidied_history settled).start (tidied_history settled).steps w f.start f.steps in
        record { start = r.0; steps = r.1 }

  module _ (h g : History) (k : IsEqual h g) (o : IsOf p h) (o' : IsOf p g) (n m : ℕ) (fixed : IsFixed p n h) (fixed' : IsFixed p m g) where
    abbrev end : History
    end = settle_rounds p n h

    abbrev end' : History
    end' = settle_rounds p m g

    over_end : WithinAlong h.start h.steps end.start end.steps
    over_end = rounds_have_start p h n

    -- where the one doesn't clash there is a family over both, with its last literals
    shared : clashes S end ≡ false → (other : History) × IsFamilyOver p g other × ((last_moment other).kf ≡ (last_moment end).kf)
    shared quiet = k.on end (record { over = over_end; closed = end_closed p end fixed quiet })

    other_quiet : clashes S end ≡ false → clashes S end' ≡ false
    other_quiet quiet =
        let r = shared quiet in
        quiet_within p v.signature.values end'.start end'.steps r.0.start r.0.steps (settled_least p v.signature.values m g r.0 r.1.over r.1.closed) r.1.closed

    -- what is known at the end of the other is known at the end of the one
    less_known : clashes S end ≡ false → Within (last_moment end').kf (last_moment end).kf
    less_known quiet =
        let r = shared quiet in
        let w = last_within end'.start end'.steps r.0.start r.0.steps (settled_least p v.signature.values m g r.0 r.1.over r.1.closed) in
        λ l i. subst (IsIn l) r.2 (w.0 l i)

    -- each family over the one in normal form has the last literals of one over the other in normal form
    tidied_among : EndsAmong p (tidied_history end) (tidied_history end')
    tidied_among family f =
        let w = along_both end.start end.steps (tidied_history end).start (tidied_history end).steps family.start family.steps (in_normal h o k.fits n).0 f.over in
        let r = k.on family (record { over = along_both h.start h.steps end.start end.steps family.start family.steps over_end w; closed = f.closed }) in
        let least = settled_least p v.signature.values m g r.0 r.1.over r.1.closed in
        (r.0, record { over = along_both (tidied_history end').start (tidied_history end').steps end'.start end'.steps r.0.start r.0.steps (in_normal g o' k.own_fits m).1 least; closed = r.1.closed }, r.2)

  same_clash : (h g : History) → IsEqual h g → IsOf p h → IsOf p g → (n m : ℕ) → IsFixed p n h → IsFixed p m g → clashes S (settle_rounds p n h) ≡ clashes S (settle_rounds p m g)
  same_clash h g k o o' n m e f =
      ⊎_elim
      (λ t. ⊎_elim (λ u. t ∙ sym u) (λ q. absurd (true≢false (sym t ∙ other_quiet g h (turned h g k) o' o m n f e q))) (cases_Bool (clashes S (settle_rounds p m g))))
      (λ q. q ∙ sym (other_quiet h g k o o' n m e f q))
      (cases_Bool (clashes S (settle_rounds p n h)))

  same_last : (h g : History) → IsEqual h g → IsOf p h → IsOf p g → (n m : ℕ) → IsFixed p n h → IsFixed p m g → clashes S (settle_rounds p n h) ≡ false → clashes S (settle_rounds p m g) ≡ false
      → last_moment (tidied_history (settle_rounds p n h)) ≡ last_moment (tidied_history (settle_rounds p m g))
  same_last h g k a b n m e f q q' =
      let end : History = settle_rounds p n h in
      let end' : History = settle_rounds p m g in
      let r = rounds_forget p n h in
      let r' = rounds_forget p m g in
      let o = rounds_ordered p n h (ordered_of p h a.sets) in
      let o' = rounds_ordered p m g (ordered_of p g b.sets) in
      let others : forget (last_moment end) ≡ forget (last_moment end') = last_forgets end.start end.steps h.start h.steps r.0 r.1 ∙ ap forget k.last ∙ sym (last_forgets end'.start end'.steps g.start g.steps r'.0 r'.1) in
      let same : last_moment end ≡ last_moment end' = same_known (last_moment end) (last_moment end') (less_known g h (turned h g k) b a m n f e q') (less_known h g k a b n m e f q) (last_ordered end.start end.steps o) (last_ordered end'.start end'.steps o') others in
      tidied_last end.start end.steps ∙ ap tidied same ∙ sym (tidied_last end'.start end'.steps)

  -- ---- sides

  -- what stands at the end after a choice has what stood there, with the same groups and regions
  side_more : (a d : Five) (c : Choice) (side : Side) → IsStill a → Assumes S a c side (Next d) → IsWithin a d
  side_more a d c side still s = let r = side_replaces p v.signature.values a d c side s in (r.known, sym (r.groups ∙ still.groups d.kf), sym (r.regions ∙ still.regions d.kf))

  ended_fits : (b : Five) (xs : Steps) (d : Five) → Fits b → Each (λ (x : Instance × Five). Fits x.1) xs → Fits d → Fits (ended b xs d).start × Each (λ (x : Instance × Five). Fits x.1) (ended b xs d).steps
  ended_fits b [] d o os f = (f, tt)
  ended_fits b (x ∷ xs) d o os f = let r = ended_fits x.1 xs d os.0 os.1 f in (o, (r.0, r.1))

  with_last_fits : (h : History) (d : Five) → IsAlong Fits h → Fits d → IsAlong Fits (with_last h d)
  with_last_fits h d o f = let r = ended_fits h.start h.steps d o.start o.steps f in subst (IsAlong Fits) (sym (ended_is h.start h.steps d)) (record { start = r.0; steps = r.1 })

  with_last_last : (h : History) (d : Five) → last_moment (with_last h d) ≡ d
  with_last_last h d = ap last_moment (ended_is h.start h.steps d) ∙ ended_last p h.start h.steps d

  replaced_equal : (h g : History) (c : Choice) (side : Side) (d : Five) → IsOf p h → IsEqual h g → Assumes S (last_moment h) c side (Next d) → IsEqual (with_last h d) (with_last g d)
  replaced_equal h g c side d o k a =
      let still = still_of h o k.fits in
      let more : IsWithin (last_moment h) d = side_more (last_moment h) d c side (last_so IsStill h.start h.steps still.0 still.1) a in
      let fits : Fits d = keeps.learnt (last_moment h) d more.1 more.2 (last_so Fits h.start h.steps k.fits.start k.fits.steps) in
      record {
        last = with_last_last h d ∙ sym (with_last_last g d);
        on = replaced_among p h g d k.last more k.on;
        back = replaced_among p g h d (sym k.last) (subst (λ x. IsWithin x d) k.last more) k.back;
        fits = with_last_fits h d k.fits fits;
        own_fits = with_last_fits g d k.own_fits fits;
      }

  -- ---- trees

  keeps_equal : Keeps p IsEqual IsEqual
  keeps_equal = record {
    last = λ h g k. k.last;
    goal = λ h g k. met_alike p plain h g k.last;
    acts = pushed_equal;
    sides = λ h g c side d o o' k a a'. replaced_equal h g c side d o k a;
    clash = λ h g n m o o' k e f. same_clash h g k o o' n m e f;
    settled = λ h g n m o o' k e f q q'. record {
      last = same_last h g k o o' n m e f q q';
      on = tidied_among h g k o o' n m e f;
      back = tidied_among g h (turned h g k) o' o m n f e;
      fits = tidied_fits h o k.fits n;
      own_fits = tidied_fits g o' k.own_fits m;
    };
  }

  -- histories of the problem with the same last databases and the same ends
  module _ (h g : History) (m : AreMomentsOf p h) (a : AreSetsAlong h) (f : IsAlong Fits h) (m' : AreMomentsOf p g) (a' : AreSetsAlong g) (f' : IsAlong Fits g) (last : last_moment h ≡ last_moment g) (ends : HaveSameEnds p h g) where
    pub equal_trees : (t : Tree) → (Derives p (At h) t → Derives p (At g) t) × (Derives p (At g) t → Derives p (At h) t)
    equal_trees t = same_trees p v IsEqual IsEqual keeps_equal h g t (record { last = last; on = ends.0; back = ends.1; fits = f; own_fits = f' }) (record { moments = m; sets = a }) (record { moments = m'; sets = a' })

    pub equal_plans : (n : ℕ) (o : Option Tree) → (IsBestAt p (At h) n o → IsBestAt p (At g) n o) × (IsBestAt p (At g) n o → IsBestAt p (At h) n o)
    equal_plans = same_best p h g equal_trees
