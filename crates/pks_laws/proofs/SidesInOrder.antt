-- All that the definitions make of databases has the sides of equations in order, where the databases have.
use Rattle.std.proofs.Common.{◌≡◌, ◌&&◌, ◌++◌, ℕ, zero, suc, Bool, true, false, not, cond, is_eq, List, [], ◌∷◌, map, filter, filter_map, flat_map, Option, Some, None, refl, sym, ap, ◌∙◌, subst, true≢false}
use Rattle.std.specs.List.{list_any, list_all}
use Rattle.std.specs.Option.{option_map_or}
use Rattle.std.proofs.lemmas.Option.{none-some, same_Some}
use Rattle.pks_terms.specs.Sets.{Each, IsIn, with_others, with_later, one_replaced}
use Rattle.pks_terms.specs.Syntax.{Inner, Term, object, term_of, Relation, Named, Equality, Literal, Apply, negated}
use Rattle.pks_terms.specs.Orders.{literal_cmp, conj_cmp, in_order, literal, equation}
use Rattle.pks_terms.specs.Signatures.{Signature, range_of}
use Rattle.pks_terms.specs.Databases.{Five, normal, normal_literal, holds}
use Rattle.pks_terms.specs.Closure.{term_steps, by_value, by_member, by_group, applications_in, is_last_left, by_range, additions, round, rounds, normal_conj, normal_group, tidied, Next, Closes}
use Rattle.pks_terms.specs.Actions.{Target, Set, Unset, Clear, Assign, Effect, Item, ItemKf, ItemKw, ItemKv, ItemLcw, Add, Schema, Instance, term_at, literal_at, conj_at, effect_at}
use Rattle.pks_terms.specs.Spoiling.{is_stable, are_stable, spoils}
use Rattle.pks_terms.specs.Justified.{Case, case_of}
use Rattle.pks_terms.specs.Progress.{is_untouched, conj_parameters, arguments_stable, place_at, has_stable_arguments, has_place, added_equation, added_literal, literals_added, is_sensed, added_formula, formulas_added, is_applied_in, progressed}
use Rattle.pks_terms.specs.Problems.{Start, StartKf, StartKw, StartKv, StartKx, StartLcw, Problem, schema_of, known_start, whether_start, group_start, initial}
use Rattle.pks_terms.specs.Branching.{Choice, Act, BranchOn, CasesOn, Side, AsTrue, AsFalse, Is, IsMember, denials, assumed_formula, assumed}
use Rattle.pks_terms.specs.Settling.{History, argument_forms, term_forms, stable_forms, target_forms, can_be_undone, is_made_otherwise, lasting, lasted, fired, must_have_fired, cannot_have_fired, effects_of, forward, backward, grown, from_next, settled_steps, settle_round, settle_rounds, At, Stopped, clashes, tidied_history, Settles}
use Rattle.pks_terms.specs.Valid.{IsLiteralText, IsStartText, IsValid}
use Rattle.pks_terms.proofs.ListLaws.{each_append, each_in, each_of, each_map, each_kept, each_flat_map, each_filter_map, each_insert_in, each_added, each_set_of, each_weaker}
use Rattle.pks_laws.proofs.Least.{in_order-map}
use Rattle.pks_terms.proofs.Sequences.{each_in_sequence}
use Rattle.pks_laws.proofs.Belonging.{if_of, end_of}
use Rattle.pks_laws.proofs.BelongingHistories.{later_each, other_each, is_clash, history_or}
use Rattle.pks_terms.specs.Moments.{IsInOrder, AreInOrder}
use Rattle.pks_laws.specs.Lookup.{IsInOrderAlong}

abbrev O : Literal → Type 0
O = IsInOrder

map_itself : (ts : List Term) → map (λ t. t) ts ≡ ts
map_itself [] = refl
map_itself (t ∷ ts) = ap (λ us. t ∷ us) (map_itself ts)

-- what is put in order is in order
pub literal_ordered : (r : Relation) (ts : List Term) (b : Bool) → O (literal r ts b)
unfolding literal
literal_ordered r ts b = ap (in_order r) (sym (map_itself (in_order r ts))) ∙ in_order-map (λ t. t) r ts ∙ ap (in_order r) (map_itself ts)

literals_ordered : {X : Type 0} (r : X → Relation) (ts : X → List Term) (b : X → Bool) (xs : List X) → Each O (map (λ x. literal (r x) (ts x) (b x)) xs)
literals_ordered r ts b xs = each_map O (λ x. literal (r x) (ts x) (b x)) xs (each_of (λ x. O (literal (r x) (ts x) (b x))) xs (λ x i. literal_ordered (r x) (ts x) (b x)))

normals_ordered : (kf c : List Literal) → Each O (map (normal_literal kf) c)
unfolding normal_literal
normals_ordered kf c = literals_ordered (λ (l : Literal). l.relation) (λ (l : Literal). map (normal kf) l.arguments) (λ (l : Literal). l.positive) c

conj_ordered : (given : List Inner) (c : List Literal) → Each O (conj_at given c)
unfolding literal_at
conj_ordered given c = each_set_of O literal_cmp (map (literal_at given) c) (literals_ordered (λ (l : Literal). l.relation) (λ (l : Literal). map (term_at given) l.arguments) (λ (l : Literal). l.positive) c)

normal_conj_ordered : (kf c : List Literal) → Each O (normal_conj kf c)
normal_conj_ordered kf c = each_set_of O literal_cmp (map (normal_literal kf) c) (normals_ordered kf c)

-- ---- closing

module _ (s : Signature) where
  ranges_ordered : (d : Five) (t : Term) → Each O (by_range s d t)
  unfolding by_range
  ranges_ordered d t = literals_ordered (λ e. Equality) (λ e. t ∷ object e ∷ []) (λ e. true) (filter (is_last_left s d t (range_of s t)) (range_of s t))

  additions_ordered : (d : Five) → Each (Each O) d.kx → Each O (additions s d)
  unfolding additions by_value by_group
  additions_ordered d groups =
      each_append O (flat_map (by_value d.kf) d.kf) (flat_map (by_group s d) d.kx ++ flat_map (λ l. flat_map (by_range s d) (flat_map applications_in l.arguments)) d.kf)
      (each_flat_map O (by_value d.kf) d.kf (λ l i. literals_ordered (λ ts. l.relation) (λ ts. ts) (λ ts. l.positive) (one_replaced (term_steps d.kf) l.arguments)))
      (each_append O (flat_map (by_group s d) d.kx) (flat_map (λ l. flat_map (by_range s d) (flat_map applications_in l.arguments)) d.kf)
      (each_flat_map O (by_group s d) d.kx (λ g i.
      each_flat_map O (by_member s d) (with_others g) (λ q j.
      let k = each_in (λ q. O q.0 × Each O q.1) (with_others g) q (other_each O g (each_in (Each O) d.kx g groups i)) j in
      each_append O (cond (list_all (λ m. holds s d (negated m)) q.1) (q.0 ∷ []) []) (cond (holds s d q.0) (map negated q.1) []) (if_of s O _ (q.0 ∷ []) (k.0, tt)) (if_of s O (holds s d q.0) (map negated q.1) (each_map O negated q.1 (each_weaker O (λ l. O (negated l)) (λ l h. h) q.1 k.1))))))
      (each_flat_map O (λ l. flat_map (by_range s d) (flat_map applications_in l.arguments)) d.kf (λ l i. each_flat_map O (by_range s d) (flat_map applications_in l.arguments) (λ t j. ranges_ordered d t))))

  rounds_ordered : (n : ℕ) (d : Five) → AreInOrder d → AreInOrder (rounds s n d)
  unfolding round
  rounds_ordered zero d m = m
  rounds_ordered (suc n) d m =
      let k = rounds_ordered n d m in
      record { known = each_added O literal_cmp (rounds s n d).kf (additions s (rounds s n d)) k.known (additions_ordered (rounds s n d) k.groups); whether = k.whether; groups = k.groups }

tidied_ordered : (d : Five) → AreInOrder d → AreInOrder (tidied d)
unfolding tidied
tidied_ordered d m = record {
  known = m.known;
  whether = each_set_of (Each O) conj_cmp (map (normal_conj d.kf) d.kw) (each_map (Each O) (normal_conj d.kf) d.kw (each_of (λ c. Each O (normal_conj d.kf c)) d.kw (λ c i. normal_conj_ordered d.kf c)));
  groups = each_set_of (Each O) conj_cmp (map (normal_group d.kf) d.kx) (each_map (Each O) (normal_group d.kf) d.kx (each_of (λ c. Each O (normal_group d.kf c)) d.kx (λ c i. each_in_sequence O (map (normal_literal d.kf) c) (normals_ordered d.kf c))));
}

pub closed_ordered : (s : Signature) (d e : Five) → AreInOrder d → Closes s d (Next e) → AreInOrder e
closed_ordered s d e m c = subst AreInOrder (sym (end_of s d e c).1) (tidied_ordered (rounds s c.count d) (rounds_ordered s c.count d m))

-- ---- the start

module _ (p : Problem) (v : IsValid p) where
  start_known : (x : Start) (l : Literal) → IsStartText p.signature x → known_start x ≡ Some l → O l
  start_known (StartKf m) l t e = subst O (same_Some m l e) t.ordered
  start_known (StartKw c) l t e = absurd (none-some l e)
  start_known (StartKv u) l t e = absurd (none-some l e)
  start_known (StartKx g) l t e = absurd (none-some l e)
  start_known (StartLcw x) l t e = absurd (none-some l e)

  start_whether : (x : Start) (c : List Literal) → IsStartText p.signature x → whether_start x ≡ Some c → Each O c
  start_whether (StartKw b) c t e = subst (Each O) (same_Some b c e) (each_weaker (IsLiteralText p.signature []) O (λ l k. k.ordered) b t.0)
  start_whether (StartKf m) c t e = absurd (none-some c e)
  start_whether (StartKv u) c t e = absurd (none-some c e)
  start_whether (StartKx g) c t e = absurd (none-some c e)
  start_whether (StartLcw x) c t e = absurd (none-some c e)

  start_group : (x : Start) (c : List Literal) → IsStartText p.signature x → group_start x ≡ Some c → Each O c
  start_group (StartKx b) c t e = subst (Each O) (same_Some b c e) (each_weaker (IsLiteralText p.signature []) O (λ l k. k.ordered) b t.0)
  start_group (StartKf m) c t e = absurd (none-some c e)
  start_group (StartKw b) c t e = absurd (none-some c e)
  start_group (StartKv u) c t e = absurd (none-some c e)
  start_group (StartLcw x) c t e = absurd (none-some c e)

  pub initial_ordered : AreInOrder (initial p)
  unfolding initial
  initial_ordered =
      let text : (x : Start) → IsIn x p.init → IsStartText p.signature x = λ x i. each_in (IsStartText p.signature) p.init x v.init i in
      record {
        known = each_set_of O literal_cmp (filter_map known_start p.init) (each_filter_map O known_start p.init (λ x l i e. start_known x l (text x i) e));
        whether = each_set_of (Each O) conj_cmp (filter_map whether_start p.init) (each_filter_map (Each O) whether_start p.init (λ x c i e. start_whether x c (text x i) e));
        groups = each_set_of (Each O) conj_cmp (filter_map group_start p.init) (each_filter_map (Each O) group_start p.init (λ x c i e. start_group x c (text x i) e));
      }

-- ---- sides

module _ (s : Signature) (d : Five) (m : AreInOrder d) where
  formula_ordered : (c news : List Literal) → Each O news → AreInOrder (assumed_formula d c news)
  formula_ordered c news a = record { known = each_added O literal_cmp d.kf news m.known a; whether = each_kept (Each O) (λ b. not (is_eq (conj_cmp b c))) d.kw m.whether; groups = m.groups }

  denials_ordered : (c : List Literal) → Each O c → Each O (denials c)
  denials_ordered [] a = tt
  denials_ordered (l ∷ rest) a = elim rest as (λ r. Each O (elim r [ [] ↦ negated l ∷ [] | x ∷ xs ↦ [] ])) [ [] ↦ (a.0, tt) | x ∷ xs ↦ tt ]

  pub assumed_ordered : (c : Choice) (side : Side) → IsMember d c → AreInOrder (assumed s d c side)
  unfolding assumed
  assumed_ordered (BranchOn c) AsTrue i = formula_ordered c c (each_in (Each O) d.kw c m.whether i)
  assumed_ordered (BranchOn c) AsFalse i = formula_ordered c (denials (filter (λ l. not (holds s d l)) c)) (denials_ordered (filter (λ l. not (holds s d l)) c) (each_kept O (λ l. not (holds s d l)) c (each_in (Each O) d.kw c m.whether i)))
  assumed_ordered (CasesOn t) (Is e) i = record { known = each_insert_in O literal_cmp (equation t (object e)) d.kf (literal_ordered Equality (t ∷ object e ∷ []) true) m.known; whether = m.whether; groups = m.groups }
  assumed_ordered (BranchOn c) (Is e) i = m
  assumed_ordered (CasesOn t) AsTrue i = m
  assumed_ordered (CasesOn t) AsFalse i = m
  assumed_ordered (Act x) AsTrue i = m
  assumed_ordered (Act x) AsFalse i = m
  assumed_ordered (Act x) (Is e) i = m

-- ---- actions

module _ (s : Signature) (sc : Schema) (given : List Inner) (d : Five) where
  abbrev deeds : List Effect
  deeds = map (effect_at given) sc.effects

  equation_ordered : (a : Add) (l : Literal) (ts : List Term) → Each O (added_equation s d deeds given sc a l ts)
  equation_ordered a l (t ∷ u ∷ []) =
      let to = place_at d.kf given t in
      let value = normal d.kf (term_at given u) in
      if_of s O (has_place sc a l t && (has_stable_arguments s d deeds to && is_stable s d deeds value)) (equation to value ∷ []) (literal_ordered Equality (to ∷ value ∷ []) true, tt)
  equation_ordered a l [] = tt
  equation_ordered a l (t ∷ []) = tt
  equation_ordered a l (t ∷ u ∷ v ∷ ts) = tt

  literal_added_ordered : (a : Add) (l : Literal) (r : Relation) → Each O (added_literal s d deeds given sc a l r)
  unfolding normal_literal
  literal_added_ordered a l (Named p) =
      let m = normal_literal d.kf (literal_at given l) in
      if_of s O (are_stable s d deeds m.arguments) (m ∷ []) (literal_ordered (literal_at given l).relation (map (normal d.kf) (literal_at given l).arguments) (literal_at given l).positive, tt)
  literal_added_ordered a l Equality = equation_ordered a l l.arguments

  literals_added_ordered : (a : Add) (x : Item) → Each O (literals_added s d deeds given sc a x)
  literals_added_ordered a (ItemKf l) = literal_added_ordered a l l.relation
  literals_added_ordered a (ItemKw c) = tt
  literals_added_ordered a (ItemKv t) = tt
  literals_added_ordered a (ItemLcw x) = tt

  formula_added_ordered : (normals : List Inner) (k : Case) (c : List Literal) → Each (Each O) (added_formula s d deeds given normals k c)
  formula_added_ordered normals k c =
      elim (is_sensed k) as (λ b. Each (Each O) (cond b (cond (arguments_stable s d deeds normals (conj_parameters c)) (conj_at normals c ∷ []) [])
      (let b = normal_conj d.kf (conj_at given c) in cond (list_all (λ l. are_stable s d deeds l.arguments) b) (b ∷ []) []))) [
        | true ↦ if_of s (Each O) (arguments_stable s d deeds normals (conj_parameters c)) (conj_at normals c ∷ []) (conj_ordered normals c, tt)
        | false ↦ let b = normal_conj d.kf (conj_at given c) in if_of s (Each O) (list_all (λ l. are_stable s d deeds l.arguments) b) (b ∷ []) (normal_conj_ordered d.kf (conj_at given c), tt)
      ]

  formulas_added_ordered : (normals : List Inner) (o : Option Case) (x : Item) → Each (Each O) (formulas_added s d deeds given normals o x)
  formulas_added_ordered normals o (ItemKw c) = elim o as (λ o. Each (Each O) (option_map_or (λ k. added_formula s d deeds given normals k c) o [])) [ None ↦ tt | Some k ↦ formula_added_ordered normals k c ]
  formulas_added_ordered normals o (ItemKf l) = tt
  formulas_added_ordered normals o (ItemKv t) = tt
  formulas_added_ordered normals o (ItemLcw x) = tt

  pub progressed_ordered : AreInOrder d → AreInOrder (progressed s d sc given)
  unfolding progressed
  progressed_ordered m =
      let normals = map (Rattle.pks_terms.specs.Databases.inner_normal d.kf) given in
      let adds = filter (is_applied_in s d given) sc.adds in
      record {
        known = each_added O literal_cmp (filter (λ l. not (spoils s d deeds l)) d.kf) (flat_map (λ a. literals_added s d deeds given sc a a.item) adds) (each_kept O (λ l. not (spoils s d deeds l)) d.kf m.known)
            (each_flat_map O (λ a. literals_added s d deeds given sc a a.item) adds (λ a i. literals_added_ordered a a.item));
        whether = each_added (Each O) conj_cmp (filter (is_untouched s d deeds) d.kw) (flat_map (λ a. formulas_added s d deeds given normals (case_of sc a) a.item) adds) (each_kept (Each O) (is_untouched s d deeds) d.kw m.whether)
            (each_flat_map (Each O) (λ a. formulas_added s d deeds given normals (case_of sc a) a.item) adds (λ a i. formulas_added_ordered normals (case_of sc a) a.item));
        groups = each_kept (Each O) (is_untouched s d deeds) d.kx m.groups;
      }

-- ---- settling

module _ (p : Problem) where
  conditions_ordered : (i : Instance) → Each (λ e. Each O e.condition) (effects_of p i)
  conditions_ordered i = each_map (λ (e : Effect). Each O e.condition) (effect_at i.arguments) (schema_of p i.action).effects (each_of (λ e. Each O (conj_at i.arguments e.condition)) (schema_of p i.action).effects (λ e j. conj_ordered i.arguments e.condition))

  forms_ordered : (es : List Effect) (before : Five) (x : Target) → Each O (target_forms p.signature before es x)
  forms_ordered es before (Set a) = literals_ordered (λ ts. Named a.predicate) (λ ts. ts) (λ ts. true) (stable_forms p.signature before es a.arguments)
  forms_ordered es before (Unset a) = literals_ordered (λ ts. Named a.predicate) (λ ts. ts) (λ ts. false) (stable_forms p.signature before es a.arguments)
  forms_ordered es before (Clear x) = tt
  forms_ordered es before (Assign f ts value) =
      each_flat_map O (λ us. map (equation (Apply f us)) (filter (is_stable p.signature before es) (term_forms before.kf value))) (filter (λ us. are_stable p.signature before es (map term_of us)) (argument_forms before.kf ts))
      (λ us i. literals_ordered (λ u. Equality) (λ u. Apply f us ∷ u ∷ []) (λ u. true) (filter (is_stable p.signature before es) (term_forms before.kf value)))

  forward_ordered : (i : Instance) (before : Five) → AreInOrder before → Each O (forward p i before)
  forward_ordered i before m =
      let es = effects_of p i in
      each_append O (lasting p.signature es before) (flat_map (fired p.signature es before) (with_later es)) (each_kept O (λ l. not (spoils p.signature before es l)) before.kf m.known)
      (each_flat_map O (fired p.signature es before) (with_later es) (λ q j. if_of p.signature O (list_all (holds p.signature before) q.0.condition && not (can_be_undone p.signature before q)) (target_forms p.signature before es q.0.target) (forms_ordered es before q.0.target)))

  cannot_ordered : (es : List Effect) (before after : Five) (q : Effect × List Effect) → Each O q.0.condition → Each O (cannot_have_fired p.signature es before after q)
  cannot_ordered es before after q w =
      let news = flat_map (λ c. cond (list_all (holds p.signature before) c.1) (negated c.0 ∷ []) []) (with_others q.0.condition) in
      if_of p.signature O (list_any (λ l. holds p.signature after (negated l)) (target_forms p.signature before es q.0.target) && not (can_be_undone p.signature before q)) news
      (each_flat_map O (λ (c : Literal × List Literal). cond (list_all (holds p.signature before) c.1) (negated c.0 ∷ []) []) (with_others q.0.condition)
      (λ c i. if_of p.signature O (list_all (holds p.signature before) c.1) (negated c.0 ∷ []) ((each_in (λ q. O q.0 × Each O q.1) (with_others q.0.condition) c (other_each O q.0.condition w) i).0, tt)))

  backward_ordered : (i : Instance) (before after : Five) → AreInOrder after → Each O (backward p i before after)
  backward_ordered i before after n =
      let es = effects_of p i in
      let C : Effect → Type 0 = λ e. Each O e.condition in
      each_append O (lasted p.signature es before after) (flat_map (must_have_fired p.signature es before after) (with_others es) ++ flat_map (cannot_have_fired p.signature es before after) (with_later es)) (each_kept O (λ l. not (spoils p.signature before es (negated l))) after.kf n.known)
      (each_append O (flat_map (must_have_fired p.signature es before after) (with_others es)) (flat_map (cannot_have_fired p.signature es before after) (with_later es))
      (each_flat_map O (must_have_fired p.signature es before after) (with_others es) (λ q j.
      if_of p.signature O (list_any (λ l. holds p.signature before (negated l) && holds p.signature after l) (target_forms p.signature before es q.0.target) && not (is_made_otherwise p.signature before q)) q.0.condition (each_in (λ q. C q.0 × Each C q.1) (with_others es) q (other_each C es (conditions_ordered i)) j).0))
      (each_flat_map O (cannot_have_fired p.signature es before after) (with_later es) (λ q j. cannot_ordered es before after q (each_in (λ q. C q.0 × Each C q.1) (with_later es) q (later_each C es (conditions_ordered i)) j).0)))

  abbrev IsOrderedStep : Instance × Five → Type 0
  IsOrderedStep step = AreInOrder step.1

  grown_ordered : (d : Five) (news : List Literal) → AreInOrder d → Each O news → AreInOrder (grown p.signature d news)
  grown_ordered d news m a = record { known = each_added O literal_cmp d.kf (additions p.signature d ++ news) m.known (each_append O (additions p.signature d) news (additions_ordered p.signature d m.groups) a); whether = m.whether; groups = m.groups }

  next_ordered : (d : Five) (steps : List (Instance × Five)) → Each IsOrderedStep steps → Each O (from_next p d steps)
  next_ordered d [] a = tt
  next_ordered d (step ∷ steps) a = backward_ordered step.0 d step.1 a.0

  steps_ordered : (before : Five) (steps : List (Instance × Five)) → AreInOrder before → Each IsOrderedStep steps → Each IsOrderedStep (settled_steps p before steps)
  steps_ordered before [] m a = tt
  steps_ordered before (step ∷ steps) m a = (
    grown_ordered step.1 (forward p step.0 before ++ from_next p step.1 steps) a.0 (each_append O (forward p step.0 before) (from_next p step.1 steps) (forward_ordered step.0 before m) (next_ordered step.1 steps a.1)),
    steps_ordered step.1 steps a.0 a.1,
  )

  settle_rounds_ordered : (n : ℕ) (h : History) → IsInOrderAlong h → IsInOrderAlong (settle_rounds p n h)
  unfolding settle_round
  settle_rounds_ordered zero h m = m
  settle_rounds_ordered (suc n) h m =
      let g = settle_rounds p n h in
      let k = settle_rounds_ordered n h m in
      record { start = grown_ordered g.start (from_next p g.start g.steps) k.start (next_ordered g.start g.steps k.steps); steps = steps_ordered g.start g.steps k.start k.steps }

  pub settled_ordered : (h g : History) → IsInOrderAlong h → Settles p h (At g) → IsInOrderAlong g
  settled_ordered h g m s = go (clashes p.signature end) s.gives
    where
      end : History
      end = settle_rounds p s.count h

      go : (b : Bool) → At g ≡ cond b Stopped (At (tidied_history (settle_rounds p s.count h))) → IsInOrderAlong g
      go true e = absurd (true≢false (sym (ap is_clash e)))
      go false e =
          let k = settle_rounds_ordered s.count h m in
          let last = settle_rounds p s.count h in
          subst IsInOrderAlong (sym (ap (history_or g) e)) (record { start = tidied_ordered last.start k.start; steps = each_map IsOrderedStep (λ step. (step.0, tidied step.1)) last.steps (each_weaker IsOrderedStep (λ step. AreInOrder (tidied step.1)) (λ step h. tidied_ordered step.1 h) last.steps k.steps) })
