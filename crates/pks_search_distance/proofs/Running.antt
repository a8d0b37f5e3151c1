-- A derived tree has a run to the goal from each world that may be the present one.
use Rattle.std.proofs.Common.{◌≡◌, ℕ, ◌+◌, ◌≤◌, Bool, true, false, cond, not, List, [], ◌∷◌, ◌++◌, map, filter, filter_map, length, max, Option, Some, None, option_map, slice_get, refl, sym, ap, ◌∙◌, subst, inl, inr, ⊎_elim, true≢false, arith}
use Rattle.std.specs.Option.{option_map_or}
use Rattle.std.specs.Prelude.{nat_le, IfSome}
use Rattle.std.proofs.lemmas.Bool.{and_parts, or_cases, cases_Bool, not_from_false, false_from_ne_true}
use Rattle.std.proofs.lemmas.Option.{none-some, same_Some}
use Rattle.pks_terms.specs.Sets.{IsIn, all_some, choices_from}
use Rattle.pks_terms.specs.Syntax.{Object, Parameter, Apply, Inner, Term, Literal, object, as_object}
use Rattle.pks_terms.specs.Orders.{literal, inequation}
use Rattle.pks_terms.specs.Signatures.{Shape, Signature, fits_type, objects_of, has_type, range_of}
use Rattle.pks_terms.specs.Worlds.{World, inner_value, value_of, true_in, all_true_in}
use Rattle.pks_terms.specs.Databases.{Five, is_plain, differ, holds}
use Rattle.pks_terms.specs.Meaning.{AreOfTypes, IsWorld, IsTrueIn, IsTrueOf}
use Rattle.pks_terms.specs.Closure.{Outcome, Next, Closes}
use Rattle.pks_terms.specs.Queries.{Plain, Know, KnowWhether, KnowValue, Query, answers_plain, answers}
use Rattle.pks_terms.specs.Actions.{Instance, query_at}
use Rattle.pks_terms.specs.Problems.{Aim, Now, AtStart, Always, Once, Problem, schema_of, initial, IsCompatible}
use Rattle.pks_terms.specs.Typed.{IsTyped, AllJustified}
use Rattle.pks_terms.specs.Branching.{as_inner, candidates, instances, left, may_split, Choice, BranchOn, CasesOn, Side, AsTrue, AsFalse, Is, IsSo, IsMember, assumed}
use Rattle.pks_terms.specs.Settling.{History, last_moment, pushed, with_last, State, At, Stopped, settle_rounds, tidied_history, Settles}
use Rattle.pks_terms.specs.Aims.{is_met, met}
use Rattle.pks_terms.specs.Trees.{Tree, Goal, Impossible, Do, Branch, Cases, Chain, End, More, depth, chain_depth, objects_in, after_step, Acts, SettlesAfter, Takes, Derives, DerivesEach}
use Rattle.pks_terms.specs.Knowledge.{grounded, after_action, after_actions, ground_actions}
use Rattle.pks_terms.specs.Remembering.{deeds_of, Both}
use Rattle.pks_terms.proofs.ListLaws.{each_in, each_of, each_from_all, in_appended, in_mapped, in_flat_mapped, in_filtered, in_filter}
use Rattle.pks_terms.proofs.Types.{wider}
use Rattle.pks_laws.proofs.Least.{in_filter_mapped}
use Rattle.pks_laws.proofs.PuttingIn.{SameAt, literal_at_alike, same_at_ground}
use Rattle.pks_laws.proofs.Holding.{holds_true, differ_true}
use Rattle.pks_laws.proofs.Closing.{value_in_range}
use Rattle.pks_laws.proofs.Doing.{present, grounds_pushed}
use Rattle.pks_laws.proofs.Tidying.{closed_true}
use Rattle.pks_laws.proofs.StepLaws.{action_true}
use Rattle.pks_laws.proofs.Assuming.{assumed_true}
use Rattle.pks_laws.proofs.Instances.{allowed_instance}
use Rattle.pks_laws.proofs.Histories.{last_both, both_pushed, deeds_pushed, both_replaced, deeds_with_last, settled_both, deeds_settled}
use Rattle.pks_search_distance.specs.Runs.{known_literal, IsSo as IsSoThere, MayBeDone, IsAim, IsGoal, Reaches, MayBeAt}

-- ---- the arguments of a choice are objects of the parameters' types in each world

module _ (s : Signature) (w : World) (i : IsWorld s w) where
  chosen : (b : Bool) (o : Option Inner) (u : Inner) → cond b o None ≡ Some u → (b ≡ true) × (o ≡ Some u)
  chosen true o u e = (refl, e)
  chosen false o u e = absurd (none-some u e)

  -- a term that is an argument has a value of its type
  inner_typed : (x : Term) (u : Inner) (a : ℕ) → has_type s x a ≡ true → as_inner x ≡ Some u → IsIn (inner_value w u) (objects_of s a)
  inner_typed (Object d) u a h e = absurd (none-some u e)
  inner_typed (Parameter d) u a h e = absurd (none-some u e)
  inner_typed (Apply f ts) u a h e =
      elim (slice_get s.functions f) as (λ o. slice_get s.functions f ≡ o → option_map_or (λ own. fits_type s own a) (option_map (λ (x : Shape). x.result) o) false ≡ true → IsIn (inner_value w u) (objects_of s a)) [
        | None ↦ λ q k. absurd (true≢false (sym k))
        | Some x ↦ λ q k. elim (all_some (map as_object ts)) as (λ o. ◌≡◌ {A = Option Inner} (option_map (λ ds. Apply f ds) o) (Some u) → IsIn (inner_value w u) (objects_of s a)) [
          | None ↦ λ r. absurd (none-some u r)
          | Some ds ↦ λ r. wider s x.result a (inner_value w u) k (subst (λ v. IsIn (inner_value w v) (objects_of s x.result)) (same_Some (Apply f ds) u r) (i.typed f (map (λ d. d) ds) x q))
        ] e
      ] refl h

  -- so has what may stand for a parameter
  candidate_typed : (d : Five) (a : ℕ) (t : Inner) → IsIn t (candidates s d a) → IsIn (inner_value w t) (objects_of s a)
  candidate_typed d a t j =
      ⊎_elim
      (λ k. let r = in_mapped Object (objects_of s a) t k in subst (λ u. IsIn (inner_value w u) (objects_of s a)) r.2 r.1)
      (λ k. let r = in_filter_mapped (λ x. cond (has_type s x a) (as_inner x) None) d.kv t k in let c = chosen (has_type s r.0 a) (as_inner r.0) t r.2 in inner_typed r.0 t a c.0 c.1)
      (in_appended (map Object (objects_of s a)) (filter_map (λ x. cond (has_type s x a) (as_inner x) None) d.kv) t j)

  arguments_typed : (d : Five) (params : List ℕ) (given : List Inner) → IsIn given (choices_from (map (candidates s d) params)) → AreOfTypes s params (map (inner_value w) given)
  arguments_typed d [] given (inl e) = subst (λ g. AreOfTypes s [] (map (inner_value w) g)) e tt
  arguments_typed d [] given (inr k) = absurd k
  arguments_typed d (a ∷ params) given j =
      let r = in_flat_mapped (λ x. map (λ ys. x ∷ ys) (choices_from (map (candidates s d) params))) (candidates s d a) given j in
      let q = in_mapped (λ ys. r.0 ∷ ys) (choices_from (map (candidates s d) params)) given r.2 in
      subst (λ g. AreOfTypes s (a ∷ params) (map (inner_value w) g)) q.2 (candidate_typed d a r.0 r.1, arguments_typed d params q.0 q.1)

-- ---- what is answered is so

module _ (s : Signature) (w : World) (d : Five) (m : IsTrueIn s w d) where
  plain_so : (q : Plain) → answers_plain s d q ≡ true → IfSome (known_literal q) (λ l. true_in w l ≡ true)
  plain_so (Know l) k = holds_true w d m l k
  plain_so (KnowWhether c) k = tt
  plain_so (KnowValue t) k = tt

  query_so : (q : Query) → answers s d q ≡ true → IsSoThere w q
  query_so q k =
      elim q.denied as (λ b. cond b (not (answers_plain s d q.asks)) (answers_plain s d q.asks) ≡ true → IfSome (cond b None (known_literal q.asks)) (λ l. true_in w l ≡ true)) [
        | true ↦ λ h. tt
        | false ↦ λ h. plain_so q.asks h
      ] k

-- with the values of its arguments in place of them an instance asks for what is so as well
ground_so : (w : World) (given : List Inner) (q : Query) → IsSoThere w (query_at given q) → IsSoThere w (query_at (map (λ t. Object (inner_value w t)) given) q)
ground_so w given q k =
    elim q.denied as (λ b. IfSome (cond b None (known_literal (query_at given q).asks)) (λ l. true_in w l ≡ true) → IfSome (cond b None (known_literal (query_at (map (λ t. Object (inner_value w t)) given) q).asks)) (λ l. true_in w l ≡ true)) [
      | true ↦ λ h. tt
      | false ↦ λ h. plain q.asks h
    ] k
  where
    plain : (a : Plain) → IfSome (known_literal (query_at given (record { asks = a; denied = false })).asks) (λ l. true_in w l ≡ true) → IfSome (known_literal (query_at (map (λ t. Object (inner_value w t)) given) (record { asks = a; denied = false })).asks) (λ l. true_in w l ≡ true)
    plain (Know l) h =
        sym (literal_at_alike w given (map (λ t. Object (inner_value w t)) given) l (each_of (SameAt w given (map (λ t. Object (inner_value w t)) given)) _ (λ i j. same_at_ground w given i))) ∙ h
    plain (KnowWhether c) h = tt
    plain (KnowValue t) h = tt

-- where some object is left, the value is
value_left : (s : Signature) (w : World) (d : Five) (t : Term) → IsWorld s w → IsTrueIn s w d → may_split s d t ≡ true → IsIn (value_of w t) (left s d t)
unfolding left
value_left s w d t i m h =
    let some : (e : ℕ) × IsIn e (filter (λ e. not (holds s d (inequation t (object e)))) (range_of s t)) = some_in (filter (λ e. not (holds s d (inequation t (object e)))) (range_of s t)) (and_parts (nat_le 1 (length (filter (λ e. not (holds s d (inequation t (object e)))) (range_of s t)))) _ h).0 in
    let ranged = in_filtered (λ e. not (holds s d (inequation t (object e)))) (range_of s t) some.0 some.1 in
    in_filter (λ e. not (holds s d (inequation t (object e)))) (range_of s t) (value_of w t) (value_in_range s w i t some.0 ranged.0)
    (not_from_false _ (false_from_ne_true _ (λ k. differ_true w m.world d.kf m.known t (object (value_of w t)) (as_differ k) (object_value (value_of w t)))))
  where
    object_value : (e : ℕ) → e ≡ value_of w (object e)
    object_value e = unfold value_of in refl

    some_in : (es : List ℕ) → nat_le 1 (length es) ≡ true → (e : ℕ) × IsIn e es
    some_in [] k = absurd (true≢false (sym k))
    some_in (e ∷ es) k = (e, inl refl)

    as_differ : holds s d (inequation t (object (value_of w t))) ≡ true → differ s d.kf t (object (value_of w t)) ≡ true
    as_differ k = unfold holds differ literal in ⊎_elim (λ q. q) (λ q. absurd (true≢false (sym q))) (or_cases (is_plain s d.kf (inequation t (object (value_of w t)))) _ k)

-- ---- the worlds that may be the present one

module _ (p : Problem) where
  -- the last moment is true there
  last_true : (h : History) (v : World) → MayBeAt p h v → IsTrueOf p.signature v v (last_moment h)
  last_true h v m = subst (λ (v : World). IsTrueOf p.signature v v (last_moment h)) m.leads (last_both p m.first m.first h m.both)

  pub start_may : (d : Five) (w : World) → Closes p.signature (initial p) (Next d) → IsCompatible p w → MayBeAt p (record { start = d; steps = [] }) w
  start_may d w c k =
      let start : IsTrueOf p.signature w w (initial p) = record { first = k; second = k; whether = each_of (λ c. all_true_in w c ≡ all_true_in w c) (initial p).kw (λ c i. refl); values = each_of (λ t. value_of w t ≡ value_of w t) (initial p).kv (λ t i. refl) } in
      let r = closed_true p.signature w w (initial p) start (Next d) c in
      let same : r.0 ≡ d = cc r.1 in
      let t = subst (λ (e : Five). IsTrueOf p.signature w w e) same r.2 in
      record { first = w; both = record { along = t.first; along' = t.second; agree = (t.whether, t.values) }; leads = refl }

  pub acted_may : AllJustified p → IsTyped p → (h : History) (v : World) (i : Instance) (x : State) → MayBeAt p h v → IsIn i (instances p (last_moment h)) → Acts p h i x → (g : History) × (x ≡ At g) × MayBeAt p g (after_action p v (grounded v i))
  acted_may justified typed h v i x m member a =
      let w = m.first in
      let u = present p w (deeds_of h.steps) in
      let r = action_true p u u (last_moment h) i a.outcome typed (last_both p w w h m.both) member (justified i.action) refl a.progress in (
        pushed h i r.0,
        a.gives ∙ ap (after_step h i) r.1,
        record {
          first = w;
          both = both_pushed p w w h i r.0 m.both r.2;
          leads =
              ap (λ is. after_actions p w (ground_actions p w is)) (deeds_pushed p h.steps i r.0)
              ∙ ap (after_actions p w) (grounds_pushed p w (deeds_of h.steps) i)
              ∙ after_more w (ground_actions p w (deeds_of h.steps)) (grounded u i)
              ∙ ap (λ v. after_action p v (grounded v i)) m.leads;
        },
      )
    where
      after_more : (w : World) (is : List Instance) (j : Instance) → after_actions p w (is ++ j ∷ []) ≡ after_action p (after_actions p w is) j
      after_more w [] j = refl
      after_more w (i ∷ is) j = after_more (after_action p w i) is j

  pub taken_may : (h : History) (v : World) (c : Choice) (side : Side) (x : State) → MayBeAt p h v → IsMember (last_moment h) c → IsSo v c side → Takes p h c side x → (g : History) × (x ≡ At g) × MayBeAt p g v
  taken_may h v c side x m member so t =
      let w = m.first in
      let u = present p w (deeds_of h.steps) in
      let last = last_true h v m in
      let r = closed_true p.signature v v (assumed p.signature (last_moment h) c side) (assumed_true v v (last_moment h) last c side member so) t.outcome t.assumed in
      let settles : Settles p (with_last h r.0) x = subst (λ (o : Outcome). SettlesAfter p h o x) r.1 t.settled in
      let replaced : Both p w w (with_last h r.0) = both_replaced p w w h r.0 m.both (subst (λ (v : World). IsTrueOf p.signature v v r.0) (sym m.leads) r.2) in
      let s = settled_both p w w (with_last h r.0) x replaced settles in (
        tidied_history (settle_rounds p settles.count (with_last h r.0)),
        s.0,
        record {
          first = w;
          both = s.1;
          leads = ap (λ is. after_actions p w (ground_actions p w is)) (deeds_settled p settles.count (with_last h r.0) ∙ deeds_with_last p h.start h.steps r.0) ∙ m.leads;
        },
      )

  -- without its first moment a history may have come to the same worlds
  pub later_may : (before : Five) (i : Instance) (h : History) (v : World) → MayBeAt p (record { start = before; steps = (i, h.start) ∷ h.steps }) v → MayBeAt p h v
  later_may before i h v m = record {
    first = after_action p m.first (grounded m.first i);
    both = record { along = m.both.along.1; along' = m.both.along'.1; agree = m.both.agree.1 };
    leads = m.leads;
  }

  -- ---- runs

  -- a choice may be done
  pub may_do : (h : History) (v : World) (i : Instance) → MayBeAt p h v → IsIn i (instances p (last_moment h)) → MayBeDone p v (grounded v i)
  may_do h v i m member =
      let t = last_true h v m in
      let a = allowed_instance p (last_moment h) i member in
      record {
        objects = map (inner_value v) i.arguments;
        ground = as_objects i.arguments;
        typed = arguments_typed p.signature v t.first.world (last_moment h) (schema_of p i.action).parameters i.arguments a.1;
        pre = each_of (λ q. IsSoThere v (query_at (grounded v i).arguments q)) (schema_of p i.action).pre (λ q j. ground_so v i.arguments q (query_so p.signature v (last_moment h) t.first (query_at i.arguments q)
            (each_in (λ q. answers p.signature (last_moment h) (query_at i.arguments q) ≡ true) (schema_of p i.action).pre q (each_from_all (λ q. answers p.signature (last_moment h) (query_at i.arguments q) ≡ true) (λ q. answers p.signature (last_moment h) (query_at i.arguments q)) (λ q b. b) (schema_of p i.action).pre a.0) j)));
      }
    where
      as_objects : (ts : List Inner) → map (λ t. let u : Inner = Object (inner_value v t) in u) ts ≡ map Object (map (inner_value v) ts)
      as_objects [] = refl
      as_objects (t ∷ ts) = λ j. Object (inner_value v t) ∷ as_objects ts j

  -- what is met is so
  met_so : (h : History) (v : World) → MayBeAt p h v → met p h ≡ true → IsGoal p v
  unfolding met
  met_so h v m k = each_from_all (IsAim v) (is_met p.signature h) aim p.goal k
    where
      aim : (x : Aim) → is_met p.signature h x ≡ true → IsAim v x
      aim (Now q) k = query_so p.signature v (last_moment h) (last_true h v m).first q k
      aim (AtStart q) k = tt
      aim (Always q) k = tt
      aim (Once q) k = tt

not_stopped : (h : History) → At h ≡ Stopped → ⊥
not_stopped h e = cc

left_max : (a b : ℕ) → a ≤ max a b
left_max a b = omega arith

right_max : (a b : ℕ) → b ≤ max a b
right_max a b = omega arith

longer : (p : Problem) (w : World) (n m : ℕ) → n ≤ m → Reaches p w n → Reaches p w m
longer p w n m le r = let short : length r.actions ≤ n = r.short in record { actions = r.actions; run = r.run; short = omega (arith, short, le); goal = r.goal }

-- the object that the value is has its case
value_cased : (p : Problem) (x : Term) (c : Chain) (h : History) (v : World) → MayBeAt p h v → Derives p (At h) (Cases x c) → IsIn (value_of v x) (objects_in c)
value_cased p x c h v m k = let t = last_true p h v m in subst (IsIn (value_of v x)) (sym k.2) (value_left p.signature v (last_moment h) x t.first.world t.first k.1)

-- the run of the side on which the world is
side_run : (p : Problem) (j : AllJustified p) (s : IsTyped p) (c : List Literal) (t u : Tree) (h : History) (v : World) → MayBeAt p h v → Derives p (At h) (Branch c t u)
    → ((g : History) → MayBeAt p g v → Derives p (At g) t → Reaches p v (depth t)) → ((g : History) → MayBeAt p g v → Derives p (At g) u → Reaches p v (depth u)) → Reaches p v (max (depth t) (depth u))
side_run p j s c t u h v m k on_true on_false =
    ⊎_elim
    (λ so. let a = taken_may p h v (BranchOn c) AsTrue k.2.0 m k.0 so k.2.1 in longer p v (depth t) (max (depth t) (depth u)) (left_max (depth t) (depth u)) (on_true a.0 a.2 (subst (λ (x : State). Derives p x t) a.1 k.2.2)))
    (λ so. let a = taken_may p h v (BranchOn c) AsFalse k.3.0 m k.0 so k.3.1 in longer p v (depth u) (max (depth t) (depth u)) (right_max (depth t) (depth u)) (on_false a.0 a.2 (subst (λ (x : State). Derives p x u) a.1 k.3.2)))
    (cases_Bool (all_true_in v c))

mutual
  pub reach_from : (p : Problem) (j : AllJustified p) (s : IsTyped p) (t : Tree) (h : History) (v : World) → MayBeAt p h v → Derives p (At h) t → Reaches p v (depth t)
  reach_from p j s Goal h v m k = record { actions = []; run = tt; short = omega arith; goal = met_so p h v m k }
  reach_from p j s Impossible h v m k = absurd (not_stopped h k)
  reach_from p j s (Do i t) h v m k =
      let a = acted_may p j s h v i k.1.0 m k.0 k.1.1 in
      let r = reach_from p j s t a.0 (after_action p v (grounded v i)) a.2 (subst (λ (x : State). Derives p x t) a.1 k.1.2) in
      let short : length r.actions ≤ depth t = r.short in
      record { actions = grounded v i ∷ r.actions; run = (may_do p h v i m k.0, r.run); short = omega (arith, short); goal = r.goal }
  reach_from p j s (Branch c t u) h v m k = longer p v (max (depth t) (depth u)) (max (depth t) (depth u) + 1) (omega arith) (side_run p j s c t u h v m k (λ g n d. reach_from p j s t g v n d) (λ g n d. reach_from p j s u g v n d))
  reach_from p j s (Cases x c) h v m k = longer p v (chain_depth c) (chain_depth c + 1) (omega arith) (reach_case p j s c x h v m k.0 (value_cased p x c h v m k) k.3)

  reach_case : (p : Problem) (j : AllJustified p) (s : IsTyped p) (c : Chain) (x : Term) (h : History) (v : World) → MayBeAt p h v → IsIn x (last_moment h).kv → IsIn (value_of v x) (objects_in c) → DerivesEach p h x c → Reaches p v (chain_depth c)
  reach_case p j s End x h v m member i k = absurd i
  reach_case p j s (More o t c) x h v m member i k =
      ⊎_elim
      (λ e. let a = taken_may p h v (CasesOn x) (Is o) k.0.0 m member (sym e) k.0.1 in longer p v (depth t) (max (depth t) (chain_depth c)) (left_max (depth t) (chain_depth c)) (reach_from p j s t a.0 v a.2 (subst (λ (x : State). Derives p x t) a.1 k.0.2)))
      (λ r. longer p v (chain_depth c) (max (depth t) (chain_depth c)) (right_max (depth t) (chain_depth c)) (reach_case p j s c x h v m member r k.1))
      i

-- a branch is no action
pub reach_branch : (p : Problem) (j : AllJustified p) (s : IsTyped p) (c : List Literal) (t u : Tree) (h : History) (v : World) → MayBeAt p h v → Derives p (At h) (Branch c t u) → Reaches p v (max (depth t) (depth u))
reach_branch p j s c t u h v m k = side_run p j s c t u h v m k (λ g n d. reach_from p j s t g v n d) (λ g n d. reach_from p j s u g v n d)

-- nor are cases
pub reach_cases : (p : Problem) (j : AllJustified p) (s : IsTyped p) (x : Term) (c : Chain) (h : History) (v : World) → MayBeAt p h v → Derives p (At h) (Cases x c) → Reaches p v (chain_depth c)
reach_cases p j s x c h v m k = reach_case p j s c x h v m k.0 (value_cased p x c h v m k) k.3
