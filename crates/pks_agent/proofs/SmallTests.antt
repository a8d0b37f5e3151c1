-- No formula whose truth is known has more than four literals along a search, where none that the problem states has more.
use Rattle.std.proofs.Common.{◌≡◌, ◌≤◌, ◌+◌, ℕ, zero, suc, Bool, true, false, cond, List, [], ◌∷◌, map, filter, filter_map, flat_map, length, slice_get, unwrap_or, Option, Some, None, inl, inr, sym, ap, subst, arith}
use Rattle.std.specs.List.{list_all}
use Rattle.std.proofs.lemmas.List.{length-map}
use Rattle.std.proofs.lemmas.Option.{none-some, same_Some}
use Rattle.pks_terms.specs.Sets.{Each, IsIn, insert_in, added, set_of}
use Rattle.pks_terms.specs.Syntax.{Term, Inner, Literal}
use Rattle.pks_terms.specs.Orders.{literal_cmp, conj_cmp}
use Rattle.pks_terms.specs.Signatures.{Signature}
use Rattle.pks_terms.specs.Databases.{Five, inner_normal, normal_literal}
use Rattle.pks_terms.specs.Closure.{normal_conj, round, rounds, tidied, Outcome, Next, Clash, Closes}
use Rattle.pks_terms.specs.Actions.{Effect, Item, ItemKf, ItemKw, ItemKv, ItemLcw, Add, Schema, Instance, literal_at, conj_at, effect_at}
use Rattle.pks_terms.specs.Justified.{Case, case_of}
use Rattle.pks_terms.specs.Progress.{is_untouched, conj_parameters, arguments_stable, is_sensed, added_formula, formulas_added, is_applied_in, progressed, Progress}
use Rattle.pks_terms.specs.Spoiling.{are_stable}
use Rattle.pks_terms.specs.Problems.{Start, StartKf, StartKw, StartKv, StartKx, StartLcw, Problem, schema_of, whether_start, initial}
use Rattle.pks_terms.specs.Branching.{Choice, Act, BranchOn, CasesOn, Side, AsTrue, AsFalse, Is, assumed, Assumes}
use Rattle.pks_terms.specs.Settling.{History, last_of, last_moment, with_last, steps_with_last, settled_steps, settle_round, settle_rounds, clashes, tidied_history, State, At, Stopped, Settles}
use Rattle.pks_terms.specs.Trees.{Tree, Goal, Impossible, Do, Branch, Cases, Chain, End, More, after_step, Acts, SettlesAfter, Takes, Derives, DerivesEach, start_state, IsPlan}
use Rattle.pks_terms.proofs.ListLaws.{each_append, each_in, each_map, each_kept, each_flat_map, each_filter_map, each_added, each_set_of, each_weaker, in_filtered}
use Rattle.pks_terms.proofs.SetLaws.{insert_in_more}
use Rattle.pks_laws.proofs.Belonging.{end_of}
use Rattle.pks_agent.specs.Bounds.{HasSmallTests, CasesHaveSmallTests, IsSmallStart, IsSmallItem, HasSmallFormulas}

abbrev IsSmall : List Literal → Type 0
IsSmall c = length c ≤ 4

-- each formula of the databases is small
abbrev AreSmall : Five → Type 0
AreSmall d = Each IsSmall d.kw

abbrev IsSmallStep : Instance × Five → Type 0
IsSmallStep step = AreSmall step.1

-- so at each moment
abbrev AreSmallAlong : History → Type 0
AreSmallAlong h = AreSmall h.start × Each IsSmallStep h.steps

-- so where the search stands
abbrev IsSmallAt : State → Type 0
IsSmallAt (At h) = AreSmallAlong h
IsSmallAt Stopped = Unit {0}

-- ---- a set has no more members than elements were put in

added_most : (s xs : List Literal) → length (added literal_cmp s xs) ≤ length s + length xs
added_most s [] = omega arith
added_most s (x ∷ xs) =
    let rest = added_most (insert_in literal_cmp x s) xs in
    elim (insert_in_more literal_cmp x s) [ inl e ↦ let same = ap length e in omega (arith, rest, same) | inr longer ↦ omega (arith, rest, longer) ]

pub set_most : (c : List Literal) → length (set_of literal_cmp c) ≤ length c
set_most c = let most = added_most [] c in omega (arith, most)

set_small : (f : Literal → Literal) (c : List Literal) → IsSmall c → IsSmall (set_of literal_cmp (map f c))
set_small f c small = let most = set_most (map f c) in let same = length-map c f in omega (arith, small, most, same)

-- ---- closing

rounds_small : (s : Signature) (n : ℕ) (d : Five) → AreSmall d → AreSmall (rounds s n d)
unfolding round
rounds_small s zero d small = small
rounds_small s (suc n) d small = rounds_small s n d small

tidied_small : (d : Five) → AreSmall d → AreSmall (tidied d)
unfolding tidied
tidied_small d small =
    each_set_of IsSmall conj_cmp (map (normal_conj d.kf) d.kw)
    (each_map IsSmall (normal_conj d.kf) d.kw (each_weaker IsSmall (λ c. IsSmall (normal_conj d.kf c)) (set_small (normal_literal d.kf)) d.kw small))

closed_small : (s : Signature) (d e : Five) → AreSmall d → Closes s d (Next e) → AreSmall e
closed_small s d e small c = subst AreSmall (sym (end_of s d e c).1) (tidied_small (rounds s c.count d) (rounds_small s c.count d small))

-- ---- the start, sides and actions

start_small : (x : Start) (c : List Literal) → IsSmallStart x → whether_start x ≡ Some c → IsSmall c
start_small (StartKw b) c small e = subst IsSmall (same_Some b c e) small
start_small (StartKf l) c small e = absurd (none-some c e)
start_small (StartKv t) c small e = absurd (none-some c e)
start_small (StartKx g) c small e = absurd (none-some c e)
start_small (StartLcw x) c small e = absurd (none-some c e)

initial_small : (p : Problem) → HasSmallFormulas p → AreSmall (initial p)
unfolding initial
initial_small p small =
    each_set_of IsSmall conj_cmp (filter_map whether_start p.init)
    (each_filter_map IsSmall whether_start p.init (λ x c i e. start_small x c (each_in IsSmallStart p.init x small.init i) e))

assumed_small : (s : Signature) (d : Five) → AreSmall d → (c : Choice) (side : Side) → AreSmall (assumed s d c side)
unfolding assumed
assumed_small s d small (BranchOn c) AsTrue = each_kept IsSmall _ d.kw small
assumed_small s d small (BranchOn c) AsFalse = each_kept IsSmall _ d.kw small
assumed_small s d small (BranchOn c) (Is e) = small
assumed_small s d small (CasesOn t) AsTrue = small
assumed_small s d small (CasesOn t) AsFalse = small
assumed_small s d small (CasesOn t) (Is e) = small
assumed_small s d small (Act i) AsTrue = small
assumed_small s d small (Act i) AsFalse = small
assumed_small s d small (Act i) (Is e) = small

module _ (s : Signature) (d : Five) (es : List Effect) (given normals : List Inner) where
  one_small : (b : Bool) (c : List Literal) → IsSmall c → Each IsSmall (cond b (c ∷ []) [])
  one_small true c small = (small, tt)
  one_small false c small = tt

  formula_small : (k : Case) (c : List Literal) → IsSmall c → Each IsSmall (added_formula s d es given normals k c)
  formula_small k c small =
      let world : List Literal = normal_conj d.kf (conj_at given c) in
      elim (is_sensed k) as (λ b. Each IsSmall (cond b (cond (arguments_stable s d es normals (conj_parameters c)) (conj_at normals c ∷ []) []) (cond (list_all (λ l. are_stable s d es l.arguments) world) (world ∷ []) []))) [
        | true ↦ one_small (arguments_stable s d es normals (conj_parameters c)) (conj_at normals c) (set_small (literal_at normals) c small)
        | false ↦ one_small (list_all (λ l. are_stable s d es l.arguments) world) world (set_small (normal_literal d.kf) (conj_at given c) (set_small (literal_at given) c small))
      ]

  formulas_small : (o : Option Case) (x : Item) → IsSmallItem x → Each IsSmall (formulas_added s d es given normals o x)
  formulas_small None (ItemKw c) small = tt
  formulas_small (Some k) (ItemKw c) small = formula_small k c small
  formulas_small o (ItemKf l) small = tt
  formulas_small o (ItemKv t) small = tt
  formulas_small o (ItemLcw x) small = tt

progressed_small : (s : Signature) (d : Five) (sc : Schema) (given : List Inner) → Each (λ a. IsSmallItem a.item) sc.adds → AreSmall d → AreSmall (progressed s d sc given)
unfolding progressed
progressed_small s d sc given items small =
    let es : List Effect = map (effect_at given) sc.effects in
    let normals : List Inner = map (inner_normal d.kf) given in
    let adds : List Add = filter (is_applied_in s d given) sc.adds in
    let item_small : (a : Add) → IsIn a adds → IsSmallItem a.item = λ a i. each_in (λ (b : Add). IsSmallItem b.item) sc.adds a items (in_filtered (is_applied_in s d given) sc.adds a i).0 in
    each_added IsSmall conj_cmp (filter (is_untouched s d es) d.kw) (flat_map (λ a. formulas_added s d es given normals (case_of sc a) a.item) adds) (each_kept IsSmall (is_untouched s d es) d.kw small)
    (each_flat_map IsSmall (λ a. formulas_added s d es given normals (case_of sc a) a.item) adds (λ a i. formulas_small s d es given normals (case_of sc a) a.item (item_small a i)))

-- ---- histories

last_small : (d : Five) (steps : List (Instance × Five)) → AreSmall d → Each IsSmallStep steps → AreSmall (last_of d steps)
last_small d [] small all = small
last_small d (step ∷ steps) small all = last_small step.1 steps all.0 all.1

steps_with_last_small : (steps : List (Instance × Five)) (d : Five) → Each IsSmallStep steps → AreSmall d → Each IsSmallStep (steps_with_last steps d)
steps_with_last_small [] d all small = tt
steps_with_last_small (step ∷ []) d all small = (small, tt)
steps_with_last_small (step ∷ next ∷ rest) d all small = (all.0, steps_with_last_small (next ∷ rest) d all.1 small)

with_last_small : (h : History) (d : Five) → AreSmallAlong h → AreSmall d → AreSmallAlong (with_last h d)
with_last_small h d all small =
    elim h.steps as (λ steps. Each IsSmallStep steps → AreSmallAlong (elim steps [ [] ↦ record { start = d; steps = [] } | step ∷ rest ↦ record h { steps = steps_with_last h.steps d } ])) [
      | [] ↦ λ a. (small, tt)
      | step ∷ rest ↦ λ a. (all.0, steps_with_last_small h.steps d all.1 small)
    ] all.1

tidied_history_small : (h : History) → AreSmallAlong h → AreSmallAlong (tidied_history h)
tidied_history_small h all = (
  tidied_small h.start all.0,
  each_map IsSmallStep (λ step. (step.0, tidied step.1)) h.steps (each_weaker IsSmallStep (λ step. AreSmall (tidied step.1)) (λ step small. tidied_small step.1 small) h.steps all.1),
)

module _ (p : Problem) where
  settled_steps_small : (before : Five) (steps : List (Instance × Five)) → Each IsSmallStep steps → Each IsSmallStep (settled_steps p before steps)
  settled_steps_small before [] all = tt
  settled_steps_small before (step ∷ steps) all = (all.0, settled_steps_small step.1 steps all.1)

  settle_rounds_small : (n : ℕ) (h : History) → AreSmallAlong h → AreSmallAlong (settle_rounds p n h)
  unfolding settle_round
  settle_rounds_small zero h all = all
  settle_rounds_small (suc n) h all =
      let before = settle_rounds p n h in
      let small = settle_rounds_small n h all in
      (small.0, settled_steps_small before.start before.steps small.1)

  settled_small : (h : History) (x : State) → AreSmallAlong h → Settles p h x → IsSmallAt x
  settled_small h x all s =
      let end : History = settle_rounds p s.count h in
      subst IsSmallAt (sym s.gives)
      (elim (clashes p.signature end) as (λ b. IsSmallAt (cond b Stopped (At (tidied_history end)))) [ true ↦ tt | false ↦ tidied_history_small end (settle_rounds_small s.count h all) ])

module _ (p : Problem) (formulas : HasSmallFormulas p) where
  adds_small : (n : ℕ) → Each (λ a. IsSmallItem a.item) (schema_of p n).adds
  adds_small n = go p.schemas n formulas.adds
    where
      go : (scs : List Schema) (n : ℕ) → Each (λ sc. Each (λ a. IsSmallItem a.item) sc.adds) scs → Each (λ a. IsSmallItem a.item) (unwrap_or (slice_get scs n) (record { cost = 1; parameters = []; pre = []; effects = []; senses = []; adds = [] })).adds
      go [] n all = tt
      go (sc ∷ scs) zero all = all.0
      go (sc ∷ scs) (suc n) all = go scs n all.1

  acts_small : (h : History) (i : Instance) (x : State) → AreSmallAlong h → Acts p h i x → IsSmallAt x
  acts_small h i x all a = subst IsSmallAt (sym a.gives) (stepped a.outcome a.progress)
    where
      stepped : (o : Outcome) → Progress p.signature (last_moment h) (schema_of p i.action) i o → IsSmallAt (after_step h i o)
      stepped (Next d) c =
          let before = progressed_small p.signature (last_moment h) (schema_of p i.action) i.arguments (adds_small i.action) (last_small h.start h.steps all.0 all.1) in
          (all.0, each_append IsSmallStep h.steps ((i, d) ∷ []) all.1 (closed_small p.signature (progressed p.signature (last_moment h) (schema_of p i.action) i.arguments) d before c, tt))
      stepped (Clash l) c = tt

  takes_small : (h : History) (c : Choice) (side : Side) (x : State) → AreSmallAlong h → Takes p h c side x → IsSmallAt x
  takes_small h c side x all t = taken t.outcome t.assumed t.settled
    where
      taken : (o : Outcome) → Assumes p.signature (last_moment h) c side o → SettlesAfter p h o x → IsSmallAt x
      taken (Next d) a settles =
          let small = closed_small p.signature (assumed p.signature (last_moment h) c side) d (assumed_small p.signature (last_moment h) (last_small h.start h.steps all.0 all.1) c side) a in
          settled_small p (with_last h d) x (with_last_small h d all small) settles
      taken (Clash l) a stopped = subst IsSmallAt (sym stopped) tt

  start_state_small : (o : Outcome) → Closes p.signature (initial p) o → IsSmallAt (start_state o)
  start_state_small (Next d) c = (closed_small p.signature (initial p) d (initial_small p formulas) c, tt)
  start_state_small (Clash l) c = tt

  -- ---- trees

  mutual
    tree_small : (t : Tree) (x : State) → IsSmallAt x → Derives p x t → HasSmallTests t
    tree_small Goal x all d = tt
    tree_small Impossible x all d = tt
    tree_small (Do i t) (At h) all d = tree_small t d.1.0 (acts_small h i d.1.0 all d.1.1) d.1.2
    tree_small (Branch c t u) (At h) all d = (
      each_in IsSmall (last_moment h).kw c (last_small h.start h.steps all.0 all.1) d.0,
      tree_small t d.2.0 (takes_small h (BranchOn c) AsTrue d.2.0 all d.2.1) d.2.2,
      tree_small u d.3.0 (takes_small h (BranchOn c) AsFalse d.3.0 all d.3.1) d.3.2,
    )
    tree_small (Cases x k) (At h) all d = chain_small k h x all d.3
    tree_small (Do i t) Stopped all d = absurd d
    tree_small (Branch c t u) Stopped all d = absurd d
    tree_small (Cases x k) Stopped all d = absurd d

    chain_small : (k : Chain) (h : History) (x : Term) → AreSmallAlong h → DerivesEach p h x k → CasesHaveSmallTests k
    chain_small End h x all d = tt
    chain_small (More e t k) h x all d = (tree_small t d.0.0 (takes_small h (CasesOn x) (Is e) d.0.0 all d.0.1) d.0.2, chain_small k h x all d.1)

  pub plan_small : (t : Tree) → IsPlan p t → HasSmallTests t
  plan_small t plan = tree_small t (start_state plan.outcome) (start_state_small plan.outcome plan.closes) plan.derives
