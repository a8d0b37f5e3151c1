-- The start, actions and sides make databases of the signature.
use Rattle.std.proofs.Common.{◌+◌, ◌<◌, length, ap, ◌≡◌, ◌&&◌, ◌==◌, ℕ, Bool, true, false, not, cond, List, [], ◌∷◌, map, filter, filter_map, flat_map, slice_get, unwrap_or, Option, Some, None, option_map, is_eq, refl, sym, subst, inl, inr, ⊎_elim, true≢false, arith, zero, suc}
use Rattle.std.specs.List.{list_any, list_all}
use Rattle.std.specs.Option.{option_map_or}
use Rattle.std.proofs.lemmas.Bool.{and_parts, and_from}
use Rattle.std.proofs.lemmas.Option.{none-some, same_Some, cond_some, option_and_then_some}
use Rattle.pks_terms.specs.Sets.{Each, IsIn, all_some, choices_from, set_of, with_later, insert_in}
use Rattle.pks_terms.specs.Syntax.{Object, Parameter, Apply, Inner, Term, object, as_object, Relation, Named, Equality, Literal, Atom, Pattern, negated}
use Rattle.pks_terms.specs.Orders.{term_cmp, term_eq, literal_cmp, conj_cmp, atom_cmp, equation}
use Rattle.pks_terms.specs.Signatures.{Shape, Signature, HasValues, fits_type, has_type, objects_of, object_is_of}
use Rattle.pks_terms.specs.Databases.{Entry, entry_cmp, Five, normal, inner_normal, normal_literal, holds}
use Rattle.pks_terms.specs.Closure.{Next, normal_conj, normal_atom, normal_pattern}
use Rattle.pks_terms.specs.Actions.{Target, Set, Unset, Clear, Assign, Effect, Item, ItemKf, ItemKw, ItemKv, ItemLcw, Add, Schema, Instance, inner_at, term_at, literal_at, conj_at, pattern_at, target_at, effect_at}
use Rattle.pks_terms.specs.Spoiling.{may_fire, some_fixed_differ, is_stable, are_stable, spoils}
use Rattle.pks_terms.specs.Justified.{Case, J6, J7, given_of, senses_value, is_place, assigns_known, item_case, case_of, makes_so}
use Rattle.pks_terms.specs.Progress.{is_untouched, fixed_terms, entry_terms, widened_by, widened, kept_entry, parameters_in, conj_parameters, arguments_stable, place_at, has_stable_arguments, has_place, added_equation, added_literal, literals_added, is_sensed, added_formula, added_value, is_applied_in, formulas_added, values_added, regions_added, progressed, Progress}
use Rattle.pks_terms.specs.Problems.{Start, StartKf, StartKw, StartKv, StartKx, StartLcw, Problem, schema_of, known_start, whether_start, value_start, group_start, region_start, atom_on, initial_entry, initial}
use Rattle.pks_terms.specs.Branching.{as_inner, candidates, is_allowed, instances_at, numbered, instances, Choice, Act, BranchOn, CasesOn, Side, AsTrue, AsFalse, Is, IsMember, denials, assumed_formula, assumed, Assumes}
use Rattle.pks_terms.specs.Valid.{all_fit, inner_fits, term_fits, type_in, is_term, is_related, is_literal, is_atom, is_pattern, AreOf, IsLiteralText, IsConjText, IsTargetText, IsItemText, IsSchemaText, IsStartText, IsValid}
use Rattle.pks_terms.proofs.ListLaws.{each_in, each_map, each_kept, each_flat_map, each_filter_map, each_insert_in, each_added, each_set_of, each_weaker, in_appended, in_mapped, in_filtered, in_flat_mapped, found_in}
use Rattle.pks_terms.proofs.OrderLaws.{same_term}
use Rattle.pks_terms.proofs.Types.{objects_are_of}
use Rattle.pks_laws.proofs.Instances.{in_numbered, allowed_instance}
use Rattle.pks_laws.proofs.Least.{in_filter_mapped}
use Rattle.pks_laws.proofs.Fitting.{all_fit_kept, map_keeps, apply_keeps, inner_normal_keeps, AllMove, term_kept, related_kept, literal_kept, pattern_kept, inner_at_keeps, term_at_keeps}
use Rattle.pks_laws.proofs.Belonging.{L, T, R, related, negated_of, equation_of, in_range_of, if_of, normal_literal_of, normal_conj_of, normal_term_of, normal_atom_of, normal_pattern_of, closed_of}
use Rattle.pks_laws.specs.OfSignature.{HasOwnValues, IsSideOf}
use Rattle.pks_terms.specs.Handed.{IsStepOf}

-- ---- the start

module _ (p : Problem) (v : IsValid p) where
  abbrev S : Signature
  S = p.signature

  known_of : (x : Start) (l : Literal) → IsStartText S x → known_start x ≡ Some l → L S l
  known_of (StartKf m) l t e = subst (L S) (same_Some m l e) t.typed
  known_of (StartKw c) l t e = absurd (none-some l e)
  known_of (StartKv u) l t e = absurd (none-some l e)
  known_of (StartKx g) l t e = absurd (none-some l e)
  known_of (StartLcw x) l t e = absurd (none-some l e)

  whether_of : (x : Start) (c : List Literal) → IsStartText S x → whether_start x ≡ Some c → Each (L S) c
  whether_of (StartKw b) c t e = subst (Each (L S)) (same_Some b c e) (each_weaker (IsLiteralText S []) (L S) (λ l k. k.typed) b t.0)
  whether_of (StartKf m) c t e = absurd (none-some c e)
  whether_of (StartKv u) c t e = absurd (none-some c e)
  whether_of (StartKx g) c t e = absurd (none-some c e)
  whether_of (StartLcw x) c t e = absurd (none-some c e)

  value_of_start : (x : Start) (u : Term) → IsStartText S x → value_start x ≡ Some u → T S u
  value_of_start (StartKv b) u t e = subst (T S) (same_Some b u e) t
  value_of_start (StartKf m) u t e = absurd (none-some u e)
  value_of_start (StartKw c) u t e = absurd (none-some u e)
  value_of_start (StartKx g) u t e = absurd (none-some u e)
  value_of_start (StartLcw x) u t e = absurd (none-some u e)

  group_of : (x : Start) (g : List Literal) → IsStartText S x → group_start x ≡ Some g → Each (L S) g
  group_of (StartKx b) g t e = subst (Each (L S)) (same_Some b g e) (each_weaker (IsLiteralText S []) (L S) (λ l k. k.typed) b t.0)
  group_of (StartKf m) g t e = absurd (none-some g e)
  group_of (StartKw c) g t e = absurd (none-some g e)
  group_of (StartKv u) g t e = absurd (none-some g e)
  group_of (StartLcw x) g t e = absurd (none-some g e)

  region_of : (x : Start) (y : Pattern) → IsStartText S x → region_start x ≡ Some y → is_pattern S [] y ≡ true
  region_of (StartLcw b) y t e = subst (λ z. is_pattern S [] z ≡ true) (same_Some b y e) t
  region_of (StartKf m) y t e = absurd (none-some y e)
  region_of (StartKw c) y t e = absurd (none-some y e)
  region_of (StartKv u) y t e = absurd (none-some y e)
  region_of (StartKx g) y t e = absurd (none-some y e)

  -- the atom of a known literal
  atom_of : (q : ℕ) (l : Literal) (a : Atom) → L S l → atom_on q l ≡ Some a → is_atom S [] a ≡ true
  atom_of q l a h e = go l.relation l.arguments (related S l h) e
    where
      go : (r : Relation) (ts : List Term) → is_related S [] r ts ≡ true
          → ◌≡◌ {A = Option Atom} (elim r [ Named n ↦ cond ((n == q) && l.positive) (Some (record { predicate = n; arguments = ts })) None | Equality ↦ None ]) (Some a) → is_atom S [] a ≡ true
      go (Named n) ts k e = let same = cond_some ((n == q) && l.positive) (record { predicate = n; arguments = ts }) a e in subst (λ (b : Atom). is_atom S [] b ≡ true) same.1 k
      go Equality ts k e = absurd (none-some a e)

  entry_of : (kf : List Literal) → Each (L S) kf → (x : Pattern) → is_pattern S [] x ≡ true → R S (initial_entry kf x)
  entry_of kf known x h = (
    h,
    each_set_of (λ a. is_atom S [] a ≡ true) atom_cmp (filter_map (atom_on x.predicate) kf) (each_filter_map (λ a. is_atom S [] a ≡ true) (atom_on x.predicate) kf (λ l a i e. atom_of x.predicate l a (each_in (L S) kf l known i) e)),
  )

  pub initial_of : AreOf p.signature (initial p)
  unfolding initial
  initial_of =
      let text : (x : Start) → IsIn x p.init → IsStartText S x = λ x i. each_in (IsStartText S) p.init x v.init i in
      let kf : List Literal = set_of literal_cmp (filter_map known_start p.init) in
      let known : Each (L S) kf = each_set_of (L S) literal_cmp (filter_map known_start p.init) (each_filter_map (L S) known_start p.init (λ x l i e. known_of x l (text x i) e)) in
      record {
        known = known;
        whether = each_set_of (Each (L S)) conj_cmp (filter_map whether_start p.init) (each_filter_map (Each (L S)) whether_start p.init (λ x c i e. whether_of x c (text x i) e));
        values = each_set_of (T S) term_cmp (filter_map value_start p.init) (each_filter_map (T S) value_start p.init (λ x t i e. value_of_start x t (text x i) e));
        groups = each_set_of (Each (L S)) conj_cmp (filter_map group_start p.init) (each_filter_map (Each (L S)) group_start p.init (λ x g i e. group_of x g (text x i) e));
        regions = each_set_of (R S) entry_cmp (map (initial_entry kf) (filter_map region_start p.init)) (each_map (R S) (initial_entry kf) (filter_map region_start p.init)
            (each_weaker (λ y. is_pattern S [] y ≡ true) (λ y. R S (initial_entry kf y)) (entry_of kf known) (filter_map region_start p.init) (each_filter_map (λ y. is_pattern S [] y ≡ true) region_start p.init (λ x y i e. region_of x y (text x i) e))));
      }

abbrev Empty : Schema
Empty = record { cost = 1; parameters = []; pre = []; effects = []; senses = []; adds = [] }

-- the text of an action of a valid problem
pub schema_text : (p : Problem) → IsValid p → (n : ℕ) → IsSchemaText p.signature (schema_of p n)
schema_text p v n = go p.schemas n v.schemas.0
  where
    go : (scs : List Schema) (n : ℕ) → Each (IsSchemaText p.signature) scs → IsSchemaText p.signature (unwrap_or (slice_get scs n) Empty)
    go [] n a = record { cost = (omega arith, omega arith); parameters = (tt, omega arith); pre = tt; effects = tt; senses = tt; adds = tt }
    go (sc ∷ scs) zero a = a.0
    go (sc ∷ scs) (suc n) a = go scs n a.1

-- ---- the arguments of a choice

module _ (s : Signature) (d : Five) (m : AreOf s d) where
  objects_fit : (tys : List ℕ) (ts : List Inner) (ds : List ℕ) → all_some (map as_object ts) ≡ Some ds → all_fit (inner_fits s []) tys ts ≡ true → all_fit (object_is_of s) tys ds ≡ true
  objects_fit tys [] ds e h = subst (λ es. all_fit (object_is_of s) tys es ≡ true) (same_Some [] ds e) (none_fit tys h)
    where
      none_fit : (tys : List ℕ) → all_fit {A = Inner} (inner_fits s []) tys [] ≡ true → all_fit (object_is_of s) tys [] ≡ true
      none_fit [] h = refl
      none_fit (a ∷ tys) h = absurd (true≢false (sym h))
  objects_fit [] (t ∷ ts) ds e h = absurd (true≢false (sym h))
  objects_fit (a ∷ tys) (Object x ∷ ts) ds e h =
      elim (all_some (map as_object ts)) as (λ o. all_some (map as_object ts) ≡ o → ◌≡◌ {A = Option (List ℕ)} (elim o [ None ↦ None | Some ys ↦ Some (x ∷ ys) ]) (Some ds) → all_fit (object_is_of s) (a ∷ tys) ds ≡ true) [
        | None ↦ λ q k. absurd (none-some ds k)
        | Some ys ↦ λ q k. let b = and_parts (object_is_of s a x) _ h in subst (λ es. all_fit (object_is_of s) (a ∷ tys) es ≡ true) (same_Some (x ∷ ys) ds k) (and_from _ _ b.0 (objects_fit tys ts ys q b.1))
      ] refl e
  objects_fit (a ∷ tys) (Parameter i ∷ ts) ds e h = absurd (none-some ds e)
  objects_fit (a ∷ tys) (Apply g us ∷ ts) ds e h = absurd (none-some ds e)

  -- a known value as an argument
  value_fits : (t : Term) (u : Inner) (a : ℕ) → T s t → has_type s t a ≡ true → as_inner t ≡ Some u → inner_fits s [] a u ≡ true
  unfolding term_fits
  value_fits (Object x) u a h k e = absurd (none-some u e)
  value_fits (Parameter i) u a h k e = absurd (none-some u e)
  value_fits (Apply f ts) u a h k e =
      elim (all_some (map as_object ts)) as (λ o. all_some (map as_object ts) ≡ o → ◌≡◌ {A = Option Inner} (option_map (λ ds. Apply f ds) o) (Some u) → inner_fits s [] a u ≡ true) [
        | None ↦ λ q r. absurd (none-some u r)
        | Some ds ↦ λ q r. subst (λ x. inner_fits s [] a x ≡ true) (same_Some (Apply f ds) u r)
            (elim (slice_get s.functions f) as (λ (o : Option Shape). option_map_or (λ b. option_map_or (λ (x : Shape). all_fit (inner_fits s []) x.arguments ts && fits_type s x.result b) o false) (option_map (λ (x : Shape). x.result) o) false ≡ true
            → option_map_or (λ own. fits_type s own a) (option_map (λ (x : Shape). x.result) o) false ≡ true → option_map_or (λ (x : Shape). all_fit (object_is_of s) x.arguments ds && fits_type s x.result a) o false ≡ true) [
              | None ↦ λ i j. j
              | Some x ↦ λ i j. and_from _ _ (objects_fit x.arguments ts ds q (and_parts (all_fit (inner_fits s []) x.arguments ts) _ i).0) j
            ] h k)
      ] refl e

  candidate_fits : (a : ℕ) (u : Inner) → IsIn u (candidates s d a) → inner_fits s [] a u ≡ true
  candidate_fits a u i =
      ⊎_elim
      (λ j. let r = in_mapped Object (objects_of s a) u j in subst (λ x. inner_fits s [] a x ≡ true) r.2 (objects_are_of s a r.0 r.1))
      (λ j. let r = in_filter_mapped (λ x. cond (has_type s x a) (as_inner x) None) d.kv u j in let c = chosen (has_type s r.0 a) (as_inner r.0) r.2 in value_fits r.0 u a (each_in (T s) d.kv r.0 m.values r.1) c.0 c.1)
      (in_appended (map Object (objects_of s a)) (filter_map (λ x. cond (has_type s x a) (as_inner x) None) d.kv) u i)
    where
      chosen : (b : Bool) (o : Option Inner) → cond b o None ≡ Some u → (b ≡ true) × (o ≡ Some u)
      chosen true o e = (refl, e)
      chosen false o e = absurd (none-some u e)

  arguments_fit : (params : List ℕ) (given : List Inner) → IsIn given (choices_from (map (candidates s d) params)) → all_fit (inner_fits s []) params given ≡ true
  arguments_fit [] given (inl e) = subst (λ us. all_fit (inner_fits s []) [] us ≡ true) e refl
  arguments_fit [] given (inr i) = absurd i
  arguments_fit (a ∷ params) given i =
      let r = in_flat_mapped (λ x. map (λ ys. x ∷ ys) (choices_from (map (candidates s d) params))) (candidates s d a) given i in
      let q = in_mapped (λ ys. r.0 ∷ ys) (choices_from (map (candidates s d) params)) given r.2 in
      subst (λ us. all_fit (inner_fits s []) (a ∷ params) us ≡ true) q.2 (and_from _ _ (candidate_fits a r.0 r.1) (arguments_fit params q.0 q.1))

pub declared : {X : Type 0} (xs : List X) (k : ℕ) (x : X) → slice_get xs k ≡ Some x → k < length xs
declared [] k x h = absurd (none-some x h)
declared (y ∷ ys) zero x h = omega arith
declared (y ∷ ys) (suc k) x h = let l = declared ys k x h in omega arith

declared_action : (p : Problem) (d : Five) (i : Instance) → IsIn i (instances p d) → i.action < length p.schemas
unfolding instances
declared_action p d i h =
    let a = in_flat_mapped (instances_at p.signature d) (numbered 0 p.schemas) i h in
    let b = in_mapped (λ (given : List Inner). let x : Instance = record { action = a.0.0; arguments = given } in x) (filter (is_allowed p.signature d a.0.1) (choices_from (map (candidates p.signature d) a.0.1.parameters))) i a.2 in
    let n = in_numbered p.schemas 0 a.0 a.1 in
    let k = n.0 in
    let same : a.0.0 ≡ i.action = ap (λ (x : Instance). x.action) b.2 in
    let place : a.0.0 ≡ 0 + k = n.1 in
    let l = declared p.schemas k a.0.1 n.2 in
    omega arith

-- an instance that is a choice is one of the problem
pub choice_of : (p : Problem) (d : Five) (i : Instance) → AreOf p.signature d → IsIn i (instances p d) → IsStepOf p i
choice_of p d i m j = record { action = declared_action p d i j; arguments = arguments_fit p.signature d m (schema_of p i.action).parameters i.arguments (allowed_instance p d i j).1 }

-- ---- arguments put in

module _ (s : Signature) (params : List ℕ) (given : List Inner) (fit : all_fit (inner_fits s []) params given ≡ true) where
  put_terms : (ts : List Term) → AllMove s params [] ts (map (term_at given) ts)
  put_terms = map_keeps (term_fits s params) (term_fits s []) (term_at given) (term_at_keeps s params given fit)

  pub put_term : (t : Term) → is_term s params t ≡ true → T s (term_at given t)
  put_term t h = term_kept s params [] t (term_at given t) (term_at_keeps s params given fit t) h

  pub put_literal : (l : Literal) → is_literal s params l ≡ true → L s (literal_at given l)
  unfolding literal_at is_literal
  put_literal l h = unfold is_literal in literal_kept s params [] l.relation l.arguments (map (term_at given) l.arguments) l.positive (put_terms l.arguments) h

  pub put_conj : (c : List Literal) → Each (λ l. is_literal s params l ≡ true) c → Each (L s) (conj_at given c)
  put_conj c a = each_set_of (L s) literal_cmp (map (literal_at given) c) (each_map (L s) (literal_at given) c (each_weaker (λ l. is_literal s params l ≡ true) (λ l. L s (literal_at given l)) put_literal c a))

  put_target : (x : Target) → IsTargetText s params x → IsTargetText s [] (target_at given x)
  put_target (Set a) h = related_kept s params [] (Named a.predicate) a.arguments (map (term_at given) a.arguments) (put_terms a.arguments) h
  put_target (Unset a) h = related_kept s params [] (Named a.predicate) a.arguments (map (term_at given) a.arguments) (put_terms a.arguments) h
  put_target (Clear x) h = pattern_kept s params [] (term_at given) (term_at_keeps s params given fit) x h
  put_target (Assign f ts value) h = (
    h.0,
    h.1,
    all_fit_kept (inner_fits s params) (inner_fits s []) h.0.arguments ts (map (inner_at given) ts) (map_keeps (inner_fits s params) (inner_fits s []) (inner_at given) (inner_at_keeps s params given fit) ts) h.2,
    term_at_keeps s params given fit value h.0.result h.3,
  )

  conj_typed : (c : List Literal) → IsConjText s params c → Each (λ l. is_literal s params l ≡ true) c
  conj_typed c t = each_weaker (IsLiteralText s params) (λ l. is_literal s params l ≡ true) (λ l k. k.typed) c t.0

  -- conditions and targets are of the signature
  pub put_effects : (es : List Effect) → Each (λ e. IsConjText s params e.condition × IsTargetText s params e.target) es → Each (λ e. Each (L s) e.condition × IsTargetText s [] e.target) (map (effect_at given) es)
  put_effects es a =
      each_map (λ e. Each (L s) e.condition × IsTargetText s [] e.target) (effect_at given) es
      (each_weaker (λ e. IsConjText s params e.condition × IsTargetText s params e.target) (λ e. Each (L s) (conj_at given e.condition) × IsTargetText s [] (target_at given e.target)) (λ e k. (put_conj e.condition (conj_typed e.condition k.0), put_target e.target k.1)) es a)

  module _ (kf : List Literal) (own : HasOwnValues s kf) where
    put_application : (f : ℕ) (ts : List Inner) → is_term s params (Apply f ts) ≡ true → T s (place_at kf given (Apply f ts))
    unfolding term_fits
    put_application f ts k =
        let put : Inner → Inner = λ t. inner_normal kf (inner_at given t) in
        unfold term_fits in
        term_kept s params [] (Apply f ts) (Apply f (map put ts))
        (apply_keeps s (inner_fits s params) (inner_fits s []) params [] f ts (map put ts) (map_keeps (inner_fits s params) (inner_fits s []) put (λ t w q. inner_normal_keeps s kf own [] (inner_at given t) w (inner_at_keeps s params given fit t w q)) ts)) k

    -- the assigned application, its arguments in normal form
    put_place : (t : Term) (x : Target) → is_place t x ≡ true → is_term s params t ≡ true → T s (place_at kf given t)
    put_place t (Assign f ts value) h k =
        let e = same_term (Apply f ts) t h in
        subst (λ u. T s (place_at kf given u)) e (put_application f ts (subst (λ u. is_term s params u ≡ true) (sym e) k))
    put_place t (Set a) h k = absurd (true≢false (sym h))
    put_place t (Unset a) h k = absurd (true≢false (sym h))
    put_place t (Clear x) h k = absurd (true≢false (sym h))

-- ---- sides

module _ (s : Signature) (d : Five) (m : AreOf s d) where
  formula_of : (c news : List Literal) → Each (L s) news → AreOf s (assumed_formula d c news)
  formula_of c news a = record {
    known = each_added (L s) literal_cmp d.kf news m.known a;
    whether = each_kept (Each (L s)) (λ b. not (is_eq (conj_cmp b c))) d.kw m.whether;
    values = m.values;
    groups = m.groups;
    regions = m.regions;
  }

  denials_of : (c : List Literal) → Each (L s) c → Each (L s) (denials c)
  denials_of [] a = tt
  denials_of (l ∷ rest) a = elim rest as (λ r. Each (L s) (elim r [ [] ↦ negated l ∷ [] | x ∷ xs ↦ [] ])) [ [] ↦ (negated_of s l a.0, tt) | x ∷ xs ↦ tt ]

  pub assumed_of : (c : Choice) (side : Side) → IsMember d c → IsSideOf s c side → AreOf s (assumed s d c side)
  unfolding assumed
  assumed_of (BranchOn c) AsTrue i k = formula_of c c (each_in (Each (L s)) d.kw c m.whether i)
  assumed_of (BranchOn c) AsFalse i k = formula_of c (denials (filter (λ l. not (holds s d l)) c)) (denials_of (filter (λ l. not (holds s d l)) c) (each_kept (L s) (λ l. not (holds s d l)) c (each_in (Each (L s)) d.kw c m.whether i)))
  assumed_of (CasesOn t) (Is e) i k =
      let h = each_in (T s) d.kv t m.values i in
      record {
        known = each_insert_in (L s) literal_cmp (equation t (object e)) d.kf (equation_of s t (object e) h (in_range_of s t e h k)) m.known;
        whether = m.whether;
        values = each_kept (T s) (λ u. not (term_eq u t)) d.kv m.values;
        groups = m.groups;
        regions = m.regions;
      }
  assumed_of (BranchOn c) (Is e) i k = absurd k
  assumed_of (CasesOn t) AsTrue i k = absurd k
  assumed_of (CasesOn t) AsFalse i k = absurd k
  assumed_of (Act x) AsTrue i k = absurd k
  assumed_of (Act x) AsFalse i k = absurd k
  assumed_of (Act x) (Is e) i k = absurd k

pub side_of : (s : Signature) → HasValues s → (d e : Five) (c : Choice) (side : Side) → AreOf s d → IsMember d c → IsSideOf s c side → Assumes s d c side (Next e) → AreOf s e
side_of s inhabited d e c side m i k a = closed_of s inhabited (assumed s d c side) e a (assumed_of s d m c side i k)

-- ---- actions

module _ (s : Signature) (sc : Schema) (text : IsSchemaText s sc) (given : List Inner) (fit : all_fit (inner_fits s []) sc.parameters given ≡ true) (d : Five) (m : AreOf s d) (own : HasOwnValues s d.kf) where
  abbrev deeds : List Effect
  deeds = map (effect_at given) sc.effects

  abbrev normals : List Inner
  normals = map (inner_normal d.kf) given

  normals_fit : all_fit (inner_fits s []) sc.parameters normals ≡ true
  normals_fit = all_fit_kept (inner_fits s []) (inner_fits s []) sc.parameters given normals (map_keeps (inner_fits s []) (inner_fits s []) (inner_normal d.kf) (inner_normal_keeps s d.kf own []) given) fit

  abbrev IsWritten : Effect → Type 0
  IsWritten e = Each (L s) e.condition × IsTargetText s [] e.target

  written : Each IsWritten deeds
  written = put_effects s sc.parameters given fit sc.effects text.effects

  -- ---- regions

  abbrev A : Atom → Type 0
  A a = is_atom s [] a ≡ true

  widened_by_of : (x : Pattern) (to : Target) (listed out : List Atom) → IsTargetText s [] to → Each A listed → widened_by s d deeds x to listed ≡ Some out → Each A out
  widened_by_of x (Set a) listed out t h e =
      elim ((a.predicate == x.predicate) && not (some_fixed_differ s d.kf x.slots a.arguments)) as (λ b. ◌≡◌ {A = Option (List Atom)} (cond b (cond (are_stable s d deeds (map (normal d.kf) a.arguments)) (Some (insert_in atom_cmp (normal_atom d.kf a) listed)) None) (Some listed)) (Some out) → Each A out) [
        | true ↦ λ k. let c = cond_some (are_stable s d deeds (map (normal d.kf) a.arguments)) (insert_in atom_cmp (normal_atom d.kf a) listed) out k in subst (Each A) c.1 (each_insert_in A atom_cmp (normal_atom d.kf a) listed (normal_atom_of s d.kf own a t) h)
        | false ↦ λ k. subst (Each A) (same_Some listed out k) h
      ] e
  widened_by_of x (Unset a) listed out t h e = subst (Each A) (same_Some listed out e) h
  widened_by_of x (Clear y) listed out t h e = subst (Each A) (same_Some listed out e) h
  widened_by_of x (Assign f ts value) listed out t h e = subst (Each A) (same_Some listed out e) h

  widened_of : (x : Pattern) (rest : List Effect) (listed out : List Atom) → Each IsWritten rest → Each A listed → widened s d deeds x rest listed ≡ Some out → Each A out
  widened_of x [] listed out a h e = subst (Each A) (same_Some listed out e) h
  widened_of x (f ∷ rest) listed out a h e =
      option_and_then_some (widened s d deeds x rest) (cond (may_fire s d f) (widened_by s d deeds x f.target listed) (Some listed)) out e
      (λ next q k. widened_of x rest next out a.1
      (elim (may_fire s d f) as (λ b. ◌≡◌ {A = Option (List Atom)} (cond b (widened_by s d deeds x f.target listed) (Some listed)) (Some next) → Each A next) [
        | true ↦ λ r. widened_by_of x f.target listed next a.0.1 h r
        | false ↦ λ r. subst (Each A) (same_Some listed next r) h
      ] q) k)

  kept_entry_of : (r e : Entry) → R s r → kept_entry s d deeds r ≡ Some e → R s e
  kept_entry_of r e h k =
      elim (are_stable s d deeds (entry_terms r)) as (λ b. ◌≡◌ {A = Option Entry} (cond b (option_map (λ listed. let x : Entry = record { pattern = r.pattern; listed = listed } in x) (widened s d deeds r.pattern deeds r.listed)) None) (Some e) → R s e) [
        | true ↦ elim (widened s d deeds r.pattern deeds r.listed) as (λ o. widened s d deeds r.pattern deeds r.listed ≡ o → ◌≡◌ {A = Option Entry} (option_map (λ listed. let x : Entry = record { pattern = r.pattern; listed = listed } in x) o) (Some e) → R s e) [
          | None ↦ λ q j. absurd (none-some e j)
          | Some out ↦ λ q j. subst (R s) (same_Some (record { pattern = r.pattern; listed = out }) e j) (h.0, widened_of r.pattern deeds r.listed out written h.1 q)
        ] refl
        | false ↦ λ j. absurd (none-some e j)
      ] k

  -- ---- adds

  equation_added : (a : Add) (l : Literal) (r : Relation) (ts : List Term) → is_related s sc.parameters Equality ts ≡ true → Each (L s) (added_equation s d deeds given sc a l ts)
  equation_added a l r (t ∷ u ∷ []) h =
      let to = place_at d.kf given t in
      let value = normal d.kf (term_at given u) in
      let sides = and_parts (is_term s sc.parameters t) _ h in
      elim (has_place sc a l t && (has_stable_arguments s d deeds to && is_stable s d deeds value)) as (λ b. (has_place sc a l t && (has_stable_arguments s d deeds to && is_stable s d deeds value)) ≡ b → Each (L s) (cond b (equation to value ∷ []) [])) [
        | true ↦ λ q.
            let f = found_in (λ p. is_place t p.0.target && makes_so (given_of sc a) l p) (with_later sc.effects) (and_parts (has_place sc a l t) _ q).0 in
            (equation_of s to value (put_place s sc.parameters given fit d.kf own t f.0.0.target (and_parts (is_place t f.0.0.target) _ f.2).0 sides.0) (normal_term_of s d.kf own (term_at given u) (put_term s sc.parameters given fit u sides.1)), tt)
        | false ↦ λ q. tt
      ] refl
  equation_added a l r [] h = absurd (true≢false (sym h))
  equation_added a l r (t ∷ []) h = absurd (true≢false (sym h))
  equation_added a l r (t ∷ u ∷ v ∷ ts) h = absurd (true≢false (sym h))

  literal_added : (a : Add) (l : Literal) (r : Relation) → is_literal s sc.parameters l ≡ true → is_related s sc.parameters r l.arguments ≡ true → Each (L s) (added_literal s d deeds given sc a l r)
  literal_added a l (Named p) h k =
      let m = normal_literal d.kf (literal_at given l) in if_of s (L s) (are_stable s d deeds m.arguments) (m ∷ []) (normal_literal_of s d.kf own (literal_at given l) (put_literal s sc.parameters given fit l h), tt)
  literal_added a l Equality h k = equation_added a l Equality l.arguments k

  literals_added_of : (a : Add) (x : Item) → IsItemText s sc.parameters x → Each (L s) (literals_added s d deeds given sc a x)
  unfolding is_literal
  literals_added_of a (ItemKf l) t = literal_added a l l.relation t.typed t.typed
  literals_added_of a (ItemKw c) t = tt
  literals_added_of a (ItemKv u) t = tt
  literals_added_of a (ItemLcw x) t = tt

  formula_added : (k : Case) (c : List Literal) → Each (λ l. is_literal s sc.parameters l ≡ true) c → Each (Each (L s)) (added_formula s d deeds given normals k c)
  formula_added k c a =
      elim (is_sensed k) as (λ b. Each (Each (L s)) (cond b (cond (arguments_stable s d deeds normals (conj_parameters c)) (conj_at normals c ∷ []) [])
      (let b = normal_conj d.kf (conj_at given c) in cond (list_all (λ l. are_stable s d deeds l.arguments) b) (b ∷ []) []))) [
        | true ↦ if_of s (Each (L s)) (arguments_stable s d deeds normals (conj_parameters c)) (conj_at normals c ∷ []) (put_conj s sc.parameters normals normals_fit c a, tt)
        | false ↦ let b = normal_conj d.kf (conj_at given c) in if_of s (Each (L s)) (list_all (λ l. are_stable s d deeds l.arguments) b) (b ∷ []) (normal_conj_of s d.kf own (conj_at given c) (put_conj s sc.parameters given fit c a), tt)
      ]

  formulas_added_of : (o : Option Case) (x : Item) → IsItemText s sc.parameters x → Each (Each (L s)) (formulas_added s d deeds given normals o x)
  formulas_added_of o (ItemKw c) t = elim o as (λ o. Each (Each (L s)) (option_map_or (λ k. added_formula s d deeds given normals k c) o [])) [ None ↦ tt | Some k ↦ formula_added k c (conj_typed s sc.parameters given fit c t) ]
  formulas_added_of o (ItemKf l) t = tt
  formulas_added_of o (ItemKv u) t = tt
  formulas_added_of o (ItemLcw x) t = tt

  value_added : (g : List Rattle.pks_terms.specs.Queries.Plain) (t : Term) → is_term s sc.parameters t ≡ true → Each (T s) (option_map_or (λ k. added_value s d deeds given normals k t) (item_case g sc (ItemKv t)) [])
  value_added g t h =
      elim (list_any (senses_value t) sc.senses) as (λ b. Each (T s) (option_map_or (λ k. added_value s d deeds given normals k t) (cond b (Some J6) (cond (list_any (assigns_known g t) (with_later sc.effects)) (Some J7) None)) [])) [
        | true ↦ if_of s (T s) (arguments_stable s d deeds normals (parameters_in t)) (term_at normals t ∷ []) (put_term s sc.parameters normals normals_fit t h, tt)
        | false ↦ elim (list_any (assigns_known g t) (with_later sc.effects)) as (λ b. list_any (assigns_known g t) (with_later sc.effects) ≡ b → Each (T s) (option_map_or (λ k. added_value s d deeds given normals k t) (cond b (Some J7) None) [])) [
          | true ↦ λ q.
              let f = found_in (assigns_known g t) (with_later sc.effects) q in
              let to = place_at d.kf given t in
              if_of s (T s) (has_stable_arguments s d deeds to) (to ∷ []) (put_place s sc.parameters given fit d.kf own t f.0.0.target (and_parts (is_place t f.0.0.target) _ f.2).0 h, tt)
          | false ↦ λ q. tt
        ] refl
      ]

  values_added_of : (a : Add) (x : Item) → IsItemText s sc.parameters x → Each (T s) (values_added s d deeds given normals (item_case (given_of sc a) sc x) x)
  values_added_of a (ItemKv t) h = value_added (given_of sc a) t h
  values_added_of a (ItemKf l) h = tt
  values_added_of a (ItemKw c) h = tt
  values_added_of a (ItemLcw x) h = tt

  regions_added_of : (x : Item) → IsItemText s sc.parameters x → Each (R s) (regions_added s d deeds given x)
  regions_added_of (ItemLcw x) h =
      let y = normal_pattern d.kf (pattern_at given x) in
      if_of s (R s) (are_stable s d deeds (fixed_terms y.slots)) (record { pattern = y; listed = [] } ∷ []) ((normal_pattern_of s d.kf own (pattern_at given x) (pattern_kept s sc.parameters [] (term_at given) (term_at_keeps s sc.parameters given fit) x h), tt), tt)
  regions_added_of (ItemKf l) h = tt
  regions_added_of (ItemKw c) h = tt
  regions_added_of (ItemKv t) h = tt

  item_text : (a : Add) → IsIn a (filter (is_applied_in s d given) sc.adds) → IsItemText s sc.parameters a.item
  item_text a i = (each_in (λ (a : Add). Rattle.pks_terms.specs.Valid.AreQueries s sc.parameters a.given × IsItemText s sc.parameters a.item) sc.adds a text.adds (in_filtered (is_applied_in s d given) sc.adds a i).0).1

  pub progressed_of : AreOf s (progressed s d sc given)
  unfolding progressed case_of
  progressed_of =
      let adds = filter (is_applied_in s d given) sc.adds in
      record {
        known = each_added (L s) literal_cmp (filter (λ l. not (spoils s d deeds l)) d.kf) (flat_map (λ a. literals_added s d deeds given sc a a.item) adds) (each_kept (L s) (λ l. not (spoils s d deeds l)) d.kf m.known)
            (each_flat_map (L s) (λ a. literals_added s d deeds given sc a a.item) adds (λ a i. literals_added_of a a.item (item_text a i)));
        whether = each_added (Each (L s)) conj_cmp (filter (is_untouched s d deeds) d.kw) (flat_map (λ a. formulas_added s d deeds given normals (case_of sc a) a.item) adds) (each_kept (Each (L s)) (is_untouched s d deeds) d.kw m.whether)
            (each_flat_map (Each (L s)) (λ a. formulas_added s d deeds given normals (case_of sc a) a.item) adds (λ a i. formulas_added_of (case_of sc a) a.item (item_text a i)));
        values = each_added (T s) term_cmp (filter (is_stable s d deeds) d.kv) (flat_map (λ a. values_added s d deeds given normals (case_of sc a) a.item) adds) (each_kept (T s) (is_stable s d deeds) d.kv m.values)
            (each_flat_map (T s) (λ a. values_added s d deeds given normals (case_of sc a) a.item) adds (λ a i. values_added_of a a.item (item_text a i)));
        groups = each_kept (Each (L s)) (is_untouched s d deeds) d.kx m.groups;
        regions = each_added (R s) entry_cmp (set_of entry_cmp (filter_map (kept_entry s d deeds) d.lcw)) (flat_map (λ a. regions_added s d deeds given a.item) adds)
            (each_set_of (R s) entry_cmp (filter_map (kept_entry s d deeds) d.lcw) (each_filter_map (R s) (kept_entry s d deeds) d.lcw (λ r e i k. kept_entry_of r e (each_in (R s) d.lcw r m.regions i) k)))
            (each_flat_map (R s) (λ a. regions_added s d deeds given a.item) adds (λ a i. regions_added_of a.item (item_text a i)));
      }

pub action_of : (p : Problem) → IsValid p → (d e : Five) (i : Instance) → AreOf p.signature d → HasOwnValues p.signature d.kf → IsStepOf p i → Progress p.signature d (schema_of p i.action) i (Next e) → AreOf p.signature e
action_of p v d e i m own fit c =
    closed_of p.signature v.signature.values (progressed p.signature d (schema_of p i.action) i.arguments) e c (progressed_of p.signature (schema_of p i.action) (schema_text p v i.action) i.arguments fit.arguments d m own)
