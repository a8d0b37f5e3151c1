-- Where the first step of a history is transparent, the history without its first moment has the same derived trees.
use Rattle.std.proofs.Common.{◌≡◌, ◌++◌, ℕ, zero, suc, false, not, cond, Option, List, [], ◌∷◌, map, filter, refl, sym, ap, ◌∙◌, subst, inl, inr}
use Rattle.pks_terms.specs.Sets.{Each, IsIn}
use Rattle.pks_terms.specs.Syntax.{object}
use Rattle.pks_terms.specs.Orders.{equation}
use Rattle.pks_terms.specs.Totality.{literal_cmp_total}
use Rattle.pks_terms.specs.Signatures.{Signature}
use Rattle.pks_terms.specs.Databases.{Entry, Five, holds}
use Rattle.pks_terms.specs.Closure.{additions, round, rounds, tidied, Next}
use Rattle.pks_terms.specs.Actions.{Instance}
use Rattle.pks_terms.specs.Aims.{met}
use Rattle.pks_terms.specs.Branching.{Choice, Act, BranchOn, CasesOn, Side, AsTrue, AsFalse, Is, denials, assumed, Assumes}
use Rattle.pks_terms.specs.Moments.{IsMomentOf, AreMomentsOf}
use Rattle.pks_terms.specs.Problems.{Problem}
use Rattle.pks_terms.specs.Progress.{entry_terms}
use Rattle.pks_terms.specs.Saturated.{Within, ClosedAlong}
use Rattle.pks_terms.specs.Settling.{History, last_of, last_moment, with_last, settle_rounds, State, At, Stopped, clashes, tidied_history, Settles}
use Rattle.pks_terms.specs.Trees.{Tree, Derives, IsBestAt}
use Rattle.pks_terms.specs.Valid.{IsValid}
use Rattle.pks_terms.specs.Versions.{IsNow}
use Rattle.pks_terms.proofs.ListLaws.{each_in, each_weaker}
use Rattle.pks_terms.proofs.OrderLaws.{literal_cmp_tells}
use Rattle.pks_terms.proofs.SetLaws.{added_in, inserted_in}
use Rattle.pks_laws.proofs.Belonging.{end_of}
use Rattle.pks_laws.proofs.ClosedAgain.{closed_fine, closed_saturated, holds-tidied}
use Rattle.pks_laws.proofs.Least.{one_value, holds_grows}
use Rattle.pks_laws.proofs.SettledEnd.{rounds_have_start, end_closed}
use Rattle.pks_laws_forget.specs.Transparent.{AreObjects, IsTransparent, AreSetsAlong, with_first}
use Rattle.pks_laws_forget.proofs.Ends.{IsStart, Follows, AreOrdered, forget, rounds_forget, first_within, first_closed, same_clash, ends_meet, ends_follow, first_tidied, second_tidied, second_grows, step_follows}
use Rattle.pks_laws_forget.proofs.Held.{Upholds}
use Rattle.pks_laws_forget.proofs.Sequence.{groups_sequenced, regions_listed}
use Rattle.pks_laws_forget.proofs.Total.{settling_is_total}
use Rattle.pks_laws_forget.proofs.Pairs.{IsOf, IsFixed, Keeps, same_trees, same_best}
-- crates above cite these from here
pub use Rattle.pks_laws_forget.proofs.SetsAlong.{SetSteps, rounds_sets, tidied_sets_along, last_sets, ordered_of, last_replaced}
use Rattle.pks_laws_forget.proofs.Trees.{met_alike}

-- what is assumed and closed has what was known, and the same groups and regions till they are tidied
pub assumed_more : (s : Signature) (d : Five) (c : Choice) (side : Side) → Within d.kf (assumed s d c side).kf × (d.kx ≡ (assumed s d c side).kx) × (d.lcw ≡ (assumed s d c side).lcw)
unfolding assumed
assumed_more s d (BranchOn c) AsTrue = (λ l i. added_in literal_cmp_total literal_cmp_tells d.kf c l (inl i), refl, refl)
assumed_more s d (BranchOn c) AsFalse = (λ l i. added_in literal_cmp_total literal_cmp_tells d.kf (denials (filter (λ l. not (holds s d l)) c)) l (inl i), refl, refl)
assumed_more s d (CasesOn t) (Is e) = (λ l i. inserted_in literal_cmp_total literal_cmp_tells (equation t (object e)) d.kf l (inr i), refl, refl)
assumed_more s d (BranchOn c) (Is e) = (λ l i. i, refl, refl)
assumed_more s d (CasesOn t) AsTrue = (λ l i. i, refl, refl)
assumed_more s d (CasesOn t) AsFalse = (λ l i. i, refl, refl)
assumed_more s d (Act x) AsTrue = (λ l i. i, refl, refl)
assumed_more s d (Act x) AsFalse = (λ l i. i, refl, refl)
assumed_more s d (Act x) (Is e) = (λ l i. i, refl, refl)

pub rounds_have : (s : Signature) (n : ℕ) (d : Five) → Within d.kf (rounds s n d).kf
unfolding round
rounds_have s zero d l i = i
rounds_have s (suc n) d l i = added_in literal_cmp_total literal_cmp_tells (rounds s n d).kf (additions s (rounds s n d)) l (inl (rounds_have s n d l i))

pub rounds_leave : (s : Signature) (n : ℕ) (d : Five) → (d.kx ≡ (rounds s n d).kx) × (d.lcw ≡ (rounds s n d).lcw)
unfolding round
rounds_leave s zero d = (refl, refl)
rounds_leave s (suc n) d = rounds_leave s n d

-- what the first two moments are like at all histories that come from there: it fits them, and where they are settled they tell alike what the aims ask
pub record KeepsGoal (p : Problem) (i : Instance) (Fits Alike : Five → Five → Type 0) : Type 0 where
  pub goal : (d e : Five) (steps : List (Instance × Five)) → Fits d e → Alike d e → met p (record { start = d; steps = (i, e) ∷ steps }) ≡ met p (record { start = e; steps = steps })
  pub grown : (d e d' e' : Five) → Fits d e → Upholds p.signature d d' → forget d' ≡ forget d → forget e' ≡ forget e → Fits d' e'
  pub tidy : (d e : Five) → Fits d e → Upholds p.signature d (tidied d) → Fits (tidied d) (tidied e)
  pub alike : (d e : Five) (steps : List (Instance × Five)) → Fits d e → ClosedAlong p d ((i, e) ∷ steps) → Alike (tidied d) (tidied e)
  pub assumed : (d e e' : Five) (c : Choice) (side : Side) → Fits d e → Assumes p.signature e c side (Next e') → Fits d e'

module _ (p : Problem) (v : IsValid p) (i : Instance) (Fits Alike : Five → Five → Type 0) (keeps : KeepsGoal p i Fits Alike) (before after : Five) (start : IsStart p i before after) where
  abbrev S : Signature
  S = p.signature

  -- the second history is the first without its first moment
  record IsCut (h g : History) : Type 0 where
    steps : h.steps ≡ (i, g.start) ∷ g.steps
    follows : Follows p i before after h.start g.start
    fits : Fits h.start g.start

  abbrev IsLike : History → History → Type 0
  IsLike h g = IsCut h g × Alike h.start g.start

  whole : (h g : History) → IsCut h g → h ≡ with_first h.start i g
  whole h g k = λ j. record { start = h.start; steps = k.steps j }

  -- ---- settling

  cut_clash : (h g : History) (n m : ℕ) → IsCut h g → IsFixed p n h → IsFixed p m g → clashes S (settle_rounds p n h) ≡ clashes S (settle_rounds p m g)
  cut_clash h g n m k e f = ap (λ x. clashes S (settle_rounds p n x)) (whole h g k) ∙ same_clash p v.signature.values i before after start h.start g.start g.steps k.follows n m (subst (IsFixed p n) (whole h g k) e) f

  cut_settled : (h g : History) (n m : ℕ) → IsOf p h → IsCut h g → IsFixed p n h → IsFixed p m g → clashes S (settle_rounds p n h) ≡ false → IsLike (tidied_history (settle_rounds p n h)) (tidied_history (settle_rounds p m g))
  cut_settled h g n m o k e f q =
      let end : History = settle_rounds p n h in
      let end' : History = settle_rounds p m g in
      let same : end ≡ settle_rounds p n (with_first h.start i g) = ap (settle_rounds p n) (whole h g k) in
      let fixed = subst (IsFixed p n) (whole h g k) e in
      let quiet : clashes S (settle_rounds p n (with_first h.start i g)) ≡ false = sym (ap (clashes S) same) ∙ q in
      let ordered : AreOrdered h.start ((i, g.start) ∷ g.steps) = subst (λ xs. AreOrdered h.start xs) k.steps (ordered_of p h o.sets) in
      let meet = same ∙ ends_meet p v.signature.values i before after start h.start g.start g.steps k.follows n m ordered fixed quiet f in
      let follow = subst (λ (x : History). Follows p i before after x.start end'.start) (sym same) (ends_follow p v.signature.values i before after start h.start g.start g.steps k.follows n m ordered fixed quiet f) in
      let closed = end_closed p end e q in
      let own = first_closed p v.signature.values end.start end.steps closed in
      let more = first_within h.start h.steps end.start end.steps (rounds_have_start p h n) in
      let up : Upholds S h.start end.start = λ l j. holds_grows S end.start v.signature.values own.0 own.1 h.start more.0 more.1 more.2 l j in
      let tidy : Upholds S end.start (tidied end.start) = λ l j. holds-tidied S end.start (one_value S end.start v.signature.values own.0 own.1) l ∙ j in
      let fits : Fits end.start end'.start = keeps.grown h.start g.start end.start end'.start k.fits up (rounds_forget p n h).0 (rounds_forget p m g).0 in
      let cut : IsCut (tidied_history end) (tidied_history end') = record {
        steps = ap (λ (x : History). map (λ (step : Instance × Five). let r : Instance × Five = (step.0, tidied step.1) in r) x.steps) meet;
        follows = second_tidied p v.signature.values i before after start (tidied end.start) end'.start (first_tidied p v.signature.values i before after start end.start end'.start follow);
        fits = keeps.tidy end.start end'.start fits tidy;
      } in
      (cut, keeps.alike end.start end'.start end'.steps fits (subst (λ (x : History). ClosedAlong p end.start x.steps) meet closed))

  -- ---- sides

  assumed_follows : (d moment next : Five) (c : Choice) (side : Side) → Follows p i before after moment next → Assumes S next c side (Next d) → Follows p i before after moment d
  assumed_follows d moment next c side f a =
      let e = end_of S (assumed S next c side) d a in
      let more = assumed_more S next c side in
      let keep = rounds_leave S a.count (assumed S next c side) in
      subst (Follows p i before after moment) (sym e.1)
      (second_tidied p v.signature.values i before after start moment (rounds S a.count (assumed S next c side))
      (second_grows p v.signature.values i before after start moment next (rounds S a.count (assumed S next c side)) f (λ l j. rounds_have S a.count (assumed S next c side) l (more.0 l j)) (more.1 ∙ keep.0) (more.2 ∙ keep.1)))

  replaced_steps : (moment next : Five) (rest : List (Instance × Five)) (d : Five)
      → (with_last (with_first moment i (record { start = next; steps = rest })) d).steps ≡ (i, (with_last (record { start = next; steps = rest }) d).start) ∷ (with_last (record { start = next; steps = rest }) d).steps
  replaced_steps moment next [] d = refl
  replaced_steps moment next (x ∷ rest) d = refl

  replaced_follows : (moment next : Five) (rest : List (Instance × Five)) (d : Five) (c : Choice) (side : Side) → Follows p i before after moment next → Assumes S (last_of next rest) c side (Next d) → Follows p i before after moment (with_last (record { start = next; steps = rest }) d).start
  replaced_follows moment next [] d c side f a = assumed_follows d moment next c side f a
  replaced_follows moment next (x ∷ rest) d c side f a = f

  replaced_fits : (moment next : Five) (rest : List (Instance × Five)) (d : Five) (c : Choice) (side : Side) → Fits moment next → Assumes S (last_of next rest) c side (Next d) → Fits moment (with_last (record { start = next; steps = rest }) d).start
  replaced_fits moment next [] d c side f a = keeps.assumed moment next d c side f a
  replaced_fits moment next (x ∷ rest) d c side f a = f

  replaced_cut : (h g : History) (c : Choice) (side : Side) (d : Five) → IsCut h g → Assumes S (last_moment g) c side (Next d) → IsCut (with_last h d) (with_last g d)
  replaced_cut h g c side d k a =
      let first : (with_last h d).start ≡ (with_last (with_first h.start i g) d).start = ap (λ (x : History). (with_last x d).start) (whole h g k) in record {
        steps = ap (λ (x : History). (with_last x d).steps) (whole h g k) ∙ replaced_steps h.start g.start g.steps d;
        follows = subst (λ (x : Five). Follows p i before after x (with_last g d).start) (sym first) (replaced_follows h.start g.start g.steps d c side k.follows a);
        fits = subst (λ (x : Five). Fits x (with_last g d).start) (sym first) (replaced_fits h.start g.start g.steps d c side k.fits a);
      }

  keeps_cut : Keeps p IsLike IsCut
  keeps_cut = record {
    last = λ h g k. ap (last_of h.start) k.0.steps;
    goal = λ h g k. ap (met p) (whole h g k.0) ∙ keeps.goal h.start g.start g.steps k.0.fits k.1;
    acts = λ h g x d k chosen chosen' q q'. (record { steps = ap (λ xs. xs ++ (x, d) ∷ []) k.0.steps; follows = k.0.follows; fits = k.0.fits }, k.1);
    sides = λ h g c side d o o' k a a'. replaced_cut h g c side d k.0 a';
    clash = λ h g n m o o' k e f. cut_clash h g n m k e f;
    settled = λ h g n m o o' k e f q q'. cut_settled h g n m o k e f q;
  }

pub settles : (p : Problem) (h : History) → IsValid p → AreMomentsOf p h → AreSetsAlong h → (x : State) × Settles p h x
settles p h v m a =
    let t = settling_is_total p v h m (ordered_of p h a) in
    (cond (clashes p.signature (settle_rounds p t.0 h)) Stopped (At (tidied_history (settle_rounds p t.0 h))), record { count = t.0; last = t.1; gives = refl })

-- the law
start_of_step : (p : Problem) → IsValid p → (before : Five) (i : Instance) (after : Five) → IsMomentOf p.signature before → IsTransparent p before i after → IsStart p i before after
start_of_step p v before i after m t = record {
  inhabited = v.signature.values;
  saturated = closed_saturated p.signature v.signature.values before m.closed m.ordered.known;
  fine = closed_fine p.signature v.signature.values before m.closed;
  decided = t.effects;
  written = t.written;
  kept = t.literals;
  lasting = t.groups;
  objects = each_weaker (λ (r : Entry). AreObjects (entry_terms r) × IsIn r after.lcw) (λ (r : Entry). AreObjects (entry_terms r)) (λ r k. k.0) before.lcw t.regions;
  sequenced = groups_sequenced p.signature before m.closed;
  listed = regions_listed p.signature before m.closed;
}

-- where what the aims ask is told alike, the first moment goes
pub cut_kept : (p : Problem) (before : Five) (i : Instance) (h : History) (t : Tree) (Fits Alike : Five → Five → Type 0) → KeepsGoal p i Fits Alike → Fits before h.start → Alike before h.start
    → IsValid p → AreMomentsOf p (with_first before i h) → AreSetsAlong (with_first before i h) → IsTransparent p before i h.start → (Derives p (At (with_first before i h)) t → Derives p (At h) t) × (Derives p (At h) t → Derives p (At (with_first before i h)) t)
cut_kept p before i h t Fits Alike keeps fits alike v m sets k =
    let start = start_of_step p v before i h.start m.start k in
    let Cut : History → History → Type 0 = IsCut p v i Fits Alike keeps before h.start start in
    let Like : History → History → Type 0 = IsLike p v i Fits Alike keeps before h.start start in
    let first : Cut (with_first before i h) h = record {
      steps = refl;
      follows = step_follows p v.signature.values i before h.start start (λ r j. (each_in (λ (r : Entry). AreObjects (entry_terms r) × IsIn r h.start.lcw) before.lcw r k.regions j).1);
      fits = fits;
    } in
    let own : IsOf p h = record { moments = record { start = m.steps.0.1; steps = m.steps.1 }; sets = record { start = sets.steps.0; steps = sets.steps.1 } } in
    same_trees p v Like Cut (keeps_cut p v i Fits Alike keeps before h.start start) (with_first before i h) h t (first, alike) (record { moments = m; sets = sets }) own

-- with aims of the last moment alone there is nothing to be told
abbrev Any : Five → Five → Type 0
Any d e = Unit {0}

plain_goal : (p : Problem) (i : Instance) → Each IsNow p.goal → KeepsGoal p i Any Any
plain_goal p i plain = record {
  goal = λ d e steps f a. met_alike p plain (record { start = d; steps = (i, e) ∷ steps }) (record { start = e; steps = steps }) refl;
  grown = λ d e d' e' f u g k. tt;
  tidy = λ d e f u. tt;
  alike = λ d e steps f c. tt;
  assumed = λ d e e' c side f a. tt;
}

pub cut : (p : Problem) (before : Five) (i : Instance) (h : History) (t : Tree) → IsValid p → Each IsNow p.goal → AreMomentsOf p (with_first before i h) → AreSetsAlong (with_first before i h) → IsTransparent p before i h.start
    → (Derives p (At (with_first before i h)) t → Derives p (At h) t) × (Derives p (At h) t → Derives p (At (with_first before i h)) t)
cut p before i h t v plain m sets k = cut_kept p before i h t Any Any (plain_goal p i plain) tt tt v m sets k

-- so the best tree of at most a depth is the same
pub cut_best : (p : Problem) (before : Five) (i : Instance) (h : History) (n : ℕ) (o : Option Tree) → IsValid p → Each IsNow p.goal → AreMomentsOf p (with_first before i h) → AreSetsAlong (with_first before i h) → IsTransparent p before i h.start
    → (IsBestAt p (At (with_first before i h)) n o → IsBestAt p (At h) n o) × (IsBestAt p (At h) n o → IsBestAt p (At (with_first before i h)) n o)
cut_best p before i h n o v plain m sets k = same_best p (with_first before i h) h (λ t. cut p before i h t v plain m sets k) n o
