-- Choices and sides, where no type has a parent.
use Rattle.std.proofs.Common.{◌≡◌, ◌&&◌, ◌++◌, ◌+◌, ℕ, true, false, not, cond, nat_le, length, List, [], ◌∷◌, map, filter, filter_map, None, refl, sym, ap, ◌∙◌, subst, inl, inr}
use Rattle.std.specs.Option.{option_map_or}
use Rattle.pks_terms.specs.Sets.{Each, IsIn, choices_from}
use Rattle.pks_terms.specs.Syntax.{Object, Inner, Term, object, Literal}
use Rattle.pks_terms.specs.Orders.{inequation}
use Rattle.pks_terms.specs.Signatures.{Signature, type_of, has_type, range_of}
use Rattle.pks_terms.specs.Databases.{Five, holds}
use Rattle.pks_terms.specs.Closure.{Outcome}
use Rattle.pks_terms.specs.Actions.{Schema, Instance}
use Rattle.pks_terms.specs.Progress.{progressed, Progress}
use Rattle.pks_terms.specs.Problems.{Problem}
use Rattle.pks_terms.specs.Branching.{as_inner, candidates, is_allowed, instances_at, numbered, instances, is_undecided, left, may_split, Choice, Act, BranchOn, CasesOn, choices, Side, AsTrue, AsFalse, Is, IsMember, denials, assumed_formula, assumed, Assumes}
use Rattle.pks_terms.specs.Valid.{all_fit, inner_fits, IsSchemaText, IsValid}
use Rattle.pks_terms.specs.Handed.{IsStepOf}
use Rattle.pks_terms.proofs.ListLaws.{each_of, each_weaker, in_map, in_filter}
use Rattle.pks_terms.proofs.Types.{fits_alone}
use Rattle.pks_laws.specs.OfSignature.{IsSideOf}
use Rattle.pks_laws.proofs.Belonging.{T}
use Rattle.pks_laws.proofs.BelongingSteps.{choice_of}
use Rattle.pks_laws.proofs.OneTypeAlong.{assumed_one_typed}
use Rattle.pks_laws_version1.specs.Closing as closing
use Rattle.pks_laws_version1.specs.Choosing as first
use Rattle.pks_laws_version1.specs.OfFirst.{ListsItsOwn, IsOfFirst}
use Rattle.pks_laws_version1.proofs.Lists.{filter_same, flat_map_same}
use Rattle.pks_laws_version1.proofs.Looking.{B, V, holds_same}
use Rattle.pks_laws_version1.proofs.Rounds.{objects_same, range_same, range_inequations, all_hold_same, any_denied_same, formula_first, closes_first, closes_from_first}
use Rattle.pks_laws_version1.proofs.Onward.{queries_same, progressed_same, progressed_first}

in_left : {X : Type 0} (xs ys : List X) (x : X) → IsIn x xs → IsIn x (xs ++ ys)
in_left [] ys x i = absurd i
in_left (z ∷ xs) ys x (inl e) = inl e
in_left (z ∷ xs) ys x (inr i) = inr (in_left xs ys x i)

each_numbered : {X : Type 0} (P : X → Type 0) (n : ℕ) (xs : List X) → Each P xs → Each (λ a. P a.1) (numbered n xs)
each_numbered P n [] a = tt
each_numbered P n (x ∷ xs) a = (a.0, each_numbered P (n + 1) xs a.1)

module _ (s : Signature) (none : Each (λ o. o ≡ None) s.parents) where
  abbrev W : Signature
  W = B s none

  typed_same : (t : Term) (a : ℕ) → has_type s t a ≡ first.has_type s t a
  typed_same t a = λ i. option_map_or (λ own. fits_alone s none own a i) (type_of s t) false

  candidates_same : (d : Five) (a : ℕ) → candidates s d a ≡ first.candidates s d a
  candidates_same d a = λ i. map Object (objects_same s none a i) ++ filter_map (λ t. cond (typed_same t a i) (as_inner t) None) d.kv

  module _ (d : Five) (m : IsOfFirst s d) where
    pub left_same : (t : Term) → T s t → left s d t ≡ first.left s d t
    unfolding left
    left_same t h =
        filter_same (λ e. not (holds s d (inequation t (object e)))) (λ e. not (holds W d (inequation t (object e)))) (range_of s t)
        (each_weaker (λ o. V s none (inequation t (object o))) (λ e. not (holds s d (inequation t (object e))) ≡ not (holds W d (inequation t (object e)))) (λ e v. ap not (holds_same s none d m (inequation t (object e)) v)) (range_of s t) (range_inequations s none d m t h))
        ∙ ap (filter (λ e. not (holds W d (inequation t (object e))))) (range_same s none t)

    pub split_same : (t : Term) → T s t → may_split s d t ≡ first.may_split s d t
    split_same t h = ap (λ (os : List ℕ). nat_le 1 (length os) && nat_le (length os) 16) (left_same t h)

    pub undecided_same : (c : List Literal) → Each (V s none) c → is_undecided s d c ≡ is_undecided W d c
    unfolding is_undecided
    undecided_same c a = λ i. not (any_denied_same s none d m c a i) && not (all_hold_same s none d m c a i)

    pub assumed_same : (c : Choice) (side : Side) → IsMember d c → assumed s d c side ≡ assumed W d c side
    unfolding assumed
    assumed_same (BranchOn c) AsTrue i = refl
    assumed_same (BranchOn c) AsFalse i =
        ap (λ ls. assumed_formula d c (denials ls)) (filter_same (λ l. not (holds s d l)) (λ l. not (holds W d l)) c (each_weaker (V s none) (λ l. not (holds s d l) ≡ not (holds W d l)) (λ l v. ap not (holds_same s none d m l v)) c (formula_first s none d m c i)))
    assumed_same (BranchOn c) (Is e) i = refl
    assumed_same (CasesOn t) AsTrue i = refl
    assumed_same (CasesOn t) AsFalse i = refl
    assumed_same (CasesOn t) (Is e) i = refl
    assumed_same (Act x) side i = absurd i

    assumed_regions : (c : Choice) (side : Side) → (assumed s d c side).lcw ≡ d.lcw
    unfolding assumed
    assumed_regions (BranchOn c) AsTrue = refl
    assumed_regions (BranchOn c) AsFalse = refl
    assumed_regions (BranchOn c) (Is e) = refl
    assumed_regions (CasesOn t) AsTrue = refl
    assumed_regions (CasesOn t) AsFalse = refl
    assumed_regions (CasesOn t) (Is e) = refl
    assumed_regions (Act x) AsTrue = refl
    assumed_regions (Act x) AsFalse = refl
    assumed_regions (Act x) (Is e) = refl

    pub assumed_first : (c : Choice) (side : Side) → IsMember d c → IsSideOf s c side → IsOfFirst s (assumed s d c side)
    assumed_first c side i k = record { typed = assumed_one_typed s none d m.typed c side i k; regions = subst (Each ListsItsOwn) (sym (assumed_regions c side)) m.regions }

    pub assumes_first : (c : Choice) (side : Side) (o : Outcome) → IsMember d c → IsSideOf s c side → Assumes s d c side o → first.Assumes s d c side o
    assumes_first c side o i k a = subst (λ x. closing.Closes s x o) (assumed_same c side i) (closes_first s none (assumed s d c side) o (assumed_first c side i k) a)

    pub assumes_from_first : (c : Choice) (side : Side) (o : Outcome) → IsMember d c → IsSideOf s c side → first.Assumes s d c side o → Assumes s d c side o
    assumes_from_first c side o i k a = closes_from_first s none (assumed s d c side) o (assumed_first c side i k) (subst (λ x. closing.Closes s x o) (sym (assumed_same c side i)) a)

    module _ (sc : Schema) (text : IsSchemaText s sc) (i : Instance) (fit : all_fit (inner_fits s []) sc.parameters i.arguments ≡ true) (o : Outcome) where
      pub progress_first : Progress s d sc i o → first.Progress s d sc i o
      progress_first c = subst (λ x. closing.Closes s x o) (progressed_same s none sc text i.arguments fit d m) (closes_first s none (progressed s d sc i.arguments) o (progressed_first s none sc text i.arguments fit d m) c)

      pub progress_from_first : first.Progress s d sc i o → Progress s d sc i o
      progress_from_first c = closes_from_first s none (progressed s d sc i.arguments) o (progressed_first s none sc text i.arguments fit d m) (subst (λ x. closing.Closes s x o) (sym (progressed_same s none sc text i.arguments fit d m)) c)

-- ---- the choices of a problem

module _ (p : Problem) (v : IsValid p) (none : Each (λ o. o ≡ None) p.signature.parents) (d : Five) (m : IsOfFirst p.signature d) where
  abbrev S : Signature
  S = p.signature

  abbrev N : Signature
  N = B S none

  -- what may stand for the parameters fits them: without preconditions each is a choice
  arguments_fit : (sc : Schema) (given : List Inner) → IsIn given (choices_from (map (candidates S d) sc.parameters)) → all_fit (inner_fits S []) sc.parameters given ≡ true
  unfolding instances
  arguments_fit sc given i =
      let free : Schema = record sc { pre = [] } in
      let alone : Problem = record p { schemas = free ∷ [] } in
      let to : List Inner → Instance = λ us. let x : Instance = record { action = 0; arguments = us } in x in
      let lists = choices_from (map (candidates S d) sc.parameters) in
      let chosen : IsIn (to given) (map to (filter (is_allowed S d free) lists)) = in_map to (filter (is_allowed S d free) lists) given (in_filter (is_allowed S d free) lists given i refl) in
      let all : IsIn (to given) (instances alone d) = in_left (map to (filter (is_allowed S d free) lists)) [] (to given) chosen in
      let step : IsStepOf alone (to given) = choice_of alone d (to given) m.typed.of all in
      step.arguments

  instances_at_same : (a : ℕ × Schema) → IsSchemaText S a.1 → instances_at S d a ≡ first.instances_at S d a
  instances_at_same a text =
      let to : List Inner → Instance = λ us. let x : Instance = record { action = a.0; arguments = us } in x in
      let lists = choices_from (map (candidates S d) a.1.parameters) in
      ap (map to) (filter_same (is_allowed S d a.1) (is_allowed N d a.1) lists (each_of (λ given. is_allowed S d a.1 given ≡ is_allowed N d a.1 given) lists (λ given i.
      queries_same S none d m [] tt a.1 text given (arguments_fit a.1 given i) a.1.pre text.pre)))
      ∙ (λ i. map to (filter (is_allowed N d a.1) (choices_from (map (λ b. candidates_same S none d b i) a.1.parameters))))

  pub instances_same : instances p d ≡ first.instances p d
  unfolding instances
  instances_same =
      flat_map_same (instances_at S d) (first.instances_at S d) (numbered 0 p.schemas) (each_weaker (λ a. IsSchemaText S a.1) (λ a. instances_at S d a ≡ first.instances_at S d a) instances_at_same (numbered 0 p.schemas) (each_numbered (IsSchemaText S) 0 p.schemas v.schemas.0))

  pub choices_same : choices p d ≡ first.choices p d
  unfolding choices
  choices_same = λ i. map Act (instances_same i) ++ (map BranchOn (branches i) ++ map CasesOn (cases i))
    where
      branches : filter (is_undecided S d) d.kw ≡ filter (is_undecided N d) d.kw
      branches = filter_same (is_undecided S d) (is_undecided N d) d.kw (each_of (λ c. is_undecided S d c ≡ is_undecided N d c) d.kw (λ c i. undecided_same S none d m c (formula_first S none d m c i)))

      cases : filter (may_split S d) d.kv ≡ filter (first.may_split S d) d.kv
      cases = filter_same (may_split S d) (first.may_split S d) d.kv (each_weaker (T S) (λ t. may_split S d t ≡ first.may_split S d t) (split_same S none d m) d.kv m.typed.of.values)
