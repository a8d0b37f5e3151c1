-- How long lines are, where names are short and what is asked is of a valid problem.
use Rattle.std.proofs.Common.{◌≡◌, ◌≤◌, ◌<◌, ℕ, ◌+◌, ◌*◌, zero, suc, Bool, true, false, List, [], ◌∷◌, ◌++◌, ◌&&◌, map, length, slice_get, Option, Some, None, refl, sym, ap, subst, true≢false, arith}
use Rattle.std.specs.Prelude.{codes, unwrap_or}
use Rattle.std.specs.List.{flat_map, join_with_byte}
use Rattle.std.specs.Option.{option_map_or}
use Rattle.std.proofs.lemmas.Bool.{and_parts, leb-true}
use Rattle.std.proofs.lemmas.List.{length-append, length-map}
use Rattle.std.proofs.lemmas.Option.{none-some, same_Some}
use Rattle.pks_terms.specs.Sets.{Each}
use Rattle.pks_terms.specs.Syntax.{Object, Parameter, Apply, Inner, Term, term_of, Relation, Named, Equality, Literal}
use Rattle.pks_terms.specs.Signatures.{Shape, Signature, fits_type, object_is_of}
use Rattle.pks_terms.specs.Actions.{Schema}
use Rattle.pks_terms.specs.Problems.{Problem, schema_of}
use Rattle.pks_terms.specs.Knowledge.{Ending, AtGoal, AtImpossible, NoCase}
use Rattle.pks_terms.specs.Trees.{Tree, Goal, Impossible, Do, Branch, Cases, Chain, End, More, depth, IsPlan}
use Rattle.pks_terms.specs.Printed.{Text, Names, name_in, listed, inner_text, term_text, relation_text, signed_text, literal_text, conj_text, instance_text, end_text}
use Rattle.pks_terms.specs.Valid.{all_fit, inner_fits, term_fits, type_in, is_term, is_related, is_literal, IsValidSignature, IsSchemaText, IsValid}
use Rattle.pks_terms.specs.Handed.{IsConjOf, IsTreeOf, IsChainOf}
use Rattle.pks_terms.specs.Talk.{is_short, do_text, talk}
use Rattle.pks_laws.proofs.TreesOf.{plan_of}
use Rattle.pks_agent.specs.Rooms.{IsSpoken, test_question, value_question, argument_questions}
use Rattle.pks_agent.specs.Bounds.{IsWithin, IsShortLine, IsShortTalk, HasShortNames, HasSmallTests, CasesHaveSmallTests}
use Rattle.pks_agent.proofs.Bounding.{Says, CasesSay, talk_within}

-- ---- lists

none_or_more : (n : ℕ) → 0 ≤ n
none_or_more n = omega arith

each_text : {A : Type 0} (Q : A → Type 0) (text : A → Text) (w : ℕ) → ((x : A) → Q x → length (text x) < w) → (xs : List A) → Each Q xs → Each (λ part. length part < w) (map text xs)
each_text Q text w within [] each = tt
each_text Q text w within (x ∷ xs) each = (within x each.0, each_text Q text w within xs each.1)

parts_within : (w n : ℕ) (parts : List Text) → length parts ≤ n → Each (λ part. length part < w) parts → length (flat_map (λ part. 32 ∷ part) parts) ≤ n * w
parts_within w n [] few each = none_or_more (n * w)
parts_within w zero (x ∷ xs) few each = absurd (omega (arith, few))
parts_within w (suc n) (x ∷ xs) few each =
    let rest = parts_within w n xs (omega (arith, few)) each.1 in
    let sum = length-append (32 ∷ x) (flat_map (λ part. 32 ∷ part) xs) in
    omega (arith, each.0, rest, sum)

joined_within : (w n : ℕ) (parts : List Text) → length parts ≤ n → Each (λ part. length part < w) parts → length (join_with_byte 32 parts) ≤ n * w
joined_within w n [] few each = none_or_more (n * w)
joined_within w zero (x ∷ xs) few each = absurd (omega (arith, few))
joined_within w (suc n) (x ∷ []) few each = let some = none_or_more (n * w) in omega (arith, each.0, some)
joined_within w (suc n) (x ∷ y ∷ xs) few each =
    let rest = joined_within w n (y ∷ xs) (omega (arith, few)) each.1 in
    let sum = length-append x (32 ∷ join_with_byte 32 (y ∷ xs)) in
    omega (arith, each.0, rest, sum)

listed_within : (h w n : ℕ) (head : Text) (parts : List Text) → length head ≤ h → length parts ≤ n → Each (λ part. length part < w) parts → length (listed head parts) ≤ 2 + h + n * w
listed_within h w n head parts front few each =
    let inner = parts_within w n parts few each in
    let a = length-append head (flat_map (λ part. 32 ∷ part) parts ++ codes ")") in
    let b = length-append (flat_map (λ part. 32 ∷ part) parts) (codes ")") in
    omega (arith, front, inner, a, b)

at_place : {A : Type 0} (P : A → Type 0) (xs : List A) (n : ℕ) (x : A) → Each P xs → slice_get xs n ≡ Some x → P x
at_place P [] n x each e = absurd (none-some x e)
at_place P (y ∷ xs) zero x each e = subst P (same_Some y x e) each.0
at_place P (y ∷ xs) (suc n) x each e = at_place P xs n x each.1 e

some_of : {A : Type 0} (F : A → Bool) (o : Option A) → option_map_or F o false ≡ true → (x : A) × (o ≡ Some x) × (F x ≡ true)
some_of F None h = absurd (true≢false (sym h))
some_of F (Some x) h = (x, refl, h)

-- ---- what fits is as long as what is wanted

fit_count : {A : Type 0} (fits : ℕ → A → Bool) (tys : List ℕ) (ts : List A) → all_fit fits tys ts ≡ true → length ts ≡ length tys
fit_count fits [] [] h = refl
fit_count fits [] (t ∷ ts) h = absurd (true≢false (sym h))
fit_count fits (a ∷ tys) [] h = absurd (true≢false (sym h))
fit_count fits (a ∷ tys) (t ∷ ts) h = ap suc (fit_count fits tys ts (and_parts (fits a t) (all_fit fits tys ts) h).1)

fit_each : {A : Type 0} (Q : A → Type 0) (fits : ℕ → A → Bool) → ((a : ℕ) (t : A) → fits a t ≡ true → Q t) → (tys : List ℕ) (ts : List A) → all_fit fits tys ts ≡ true → Each Q ts
fit_each Q fits so [] [] h = tt
fit_each Q fits so [] (t ∷ ts) h = tt_of h
  where
    tt_of : {B : Type 0} → false ≡ true → B
    tt_of e = absurd (true≢false (sym e))
fit_each Q fits so (a ∷ tys) [] h = tt
fit_each Q fits so (a ∷ tys) (t ∷ ts) h = let parts = and_parts (fits a t) (all_fit fits tys ts) h in (so a t parts.0, fit_each Q fits so tys ts parts.1)

-- an argument with few objects, and a term and a literal with few arguments
abbrev IsSmallInner : Inner → Type 0
IsSmallInner (Object d) = Unit {0}
IsSmallInner (Parameter i) = Unit {0}
IsSmallInner (Apply f ds) = length ds ≤ 2

abbrev IsSmallTerm : Term → Type 0
IsSmallTerm (Object d) = Unit {0}
IsSmallTerm (Parameter i) = Unit {0}
IsSmallTerm (Apply f ts) = (length ts ≤ 2) × Each IsSmallInner ts

abbrev IsSmallLiteral : Literal → Type 0
IsSmallLiteral l = (length l.arguments ≤ 3) × Each IsSmallTerm l.arguments

module _ (s : Signature) (valid : IsValidSignature s) where
  arguments_of : (f : ℕ) (x : Shape) → slice_get s.functions f ≡ Some x → length x.arguments ≤ 2
  arguments_of f x e = (at_place (λ x. Each (λ a. a < s.types) x.arguments × (length x.arguments ≤ 2) × (x.result < s.types)) s.functions f x valid.functions.0 e).1

  small_inner : (wanted : ℕ) (t : Inner) → inner_fits s [] wanted t ≡ true → IsSmallInner t
  small_inner wanted (Object d) h = tt
  small_inner wanted (Parameter i) h = tt
  small_inner wanted (Apply f ds) h =
      let r = some_of (λ x. all_fit (object_is_of s) x.arguments ds && fits_type s x.result wanted) (slice_get s.functions f) h in
      let few = arguments_of f r.0 r.1 in
      let same = fit_count (object_is_of s) r.0.arguments ds (and_parts (all_fit (object_is_of s) r.0.arguments ds) (fits_type s r.0.result wanted) r.2).0 in
      omega (arith, few, same)

  small_fit : (wanted : ℕ) (t : Term) → term_fits s [] wanted t ≡ true → IsSmallTerm t
  unfolding term_fits
  small_fit wanted (Object d) h = tt
  small_fit wanted (Parameter i) h = tt
  small_fit wanted (Apply f ts) h =
      let r = some_of (λ x. all_fit (inner_fits s []) x.arguments ts && fits_type s x.result wanted) (slice_get s.functions f) h in
      let few = arguments_of f r.0 r.1 in
      let fits = (and_parts (all_fit (inner_fits s []) r.0.arguments ts) (fits_type s r.0.result wanted) r.2).0 in
      let same = fit_count (inner_fits s []) r.0.arguments ts fits in
      (omega (arith, few, same), fit_each IsSmallInner (inner_fits s []) small_inner r.0.arguments ts fits)

  small_term : (t : Term) → is_term s [] t ≡ true → IsSmallTerm t
  small_term t h = let r = some_of (λ own. term_fits s [] own t) (type_in s [] t) h in small_fit r.0 t r.2

  small_related : (r : Relation) (ts : List Term) → is_related s [] r ts ≡ true → (length ts ≤ 3) × Each IsSmallTerm ts
  small_related (Named p) ts h =
      let r = some_of (λ (x : _). all_fit (term_fits s []) x.arguments ts) (slice_get s.predicates p) h in
      let few = (at_place (λ x. Each (λ a. a < s.types) x.arguments × (length x.arguments ≤ 3)) s.predicates p r.0 valid.predicates.0 r.1).1 in
      let same = fit_count (term_fits s []) r.0.arguments ts r.2 in
      (omega (arith, few, same), fit_each IsSmallTerm (term_fits s []) small_fit r.0.arguments ts r.2)
  small_related Equality [] h = absurd (true≢false (sym h))
  small_related Equality (t ∷ []) h = absurd (true≢false (sym h))
  small_related Equality (t ∷ u ∷ []) h = let parts = and_parts (is_term s [] t) (is_term s [] u) h in (omega arith, (small_term t parts.0, (small_term u parts.1, tt)))
  small_related Equality (t ∷ u ∷ v ∷ ts) h = absurd (true≢false (sym h))

  small_literal : (l : Literal) → is_literal s [] l ≡ true → IsSmallLiteral l
  unfolding is_literal
  small_literal l h = small_related l.relation l.arguments h

-- ---- texts

module _ (names : Names) (short : HasShortNames names) where
  name_within : (all : List Text) (n : ℕ) → Each (λ name. is_short name ≡ true) all → length (name_in all n) ≤ 64
  name_within [] n each = omega arith
  name_within (x ∷ xs) zero each = leb-true (length x) 64 each.0
  name_within (x ∷ xs) (suc n) each = name_within xs n each.1

  object_within : (d : ℕ) → length (name_in names.objects d) < 65
  object_within d = let few = name_within names.objects d short.objects in omega (arith, few)

  all_units : {A : Type 0} (xs : List A) → Each (λ x. Unit {0}) xs
  all_units [] = tt
  all_units (x ∷ xs) = (tt, all_units xs)

  inner_within : (t : Inner) → IsSmallInner t → length (inner_text names t) < 197
  inner_within (Object d) small = let few = object_within d in omega (arith, few)
  inner_within (Parameter i) small = omega arith
  inner_within (Apply f ds) small =
      let head = name_within names.functions f short.functions in
      let same = length-map ds (name_in names.objects) in
      let text = listed_within 64 65 2 (name_in names.functions f) (map (name_in names.objects) ds) head (omega (arith, same, small)) (each_text (λ d. Unit {0}) (name_in names.objects) 65 (λ d u. object_within d) ds (all_units ds)) in
      omega (arith, text)

  term_within : (t : Term) → IsSmallTerm t → length (term_text names t) < 461
  unfolding term_text
  term_within (Object d) small = let few = object_within d in omega (arith, few)
  term_within (Parameter i) small = omega arith
  term_within (Apply f ts) small =
      let head = name_within names.functions f short.functions in
      let same = length-map ts (inner_text names) in
      let text = listed_within 64 197 2 (name_in names.functions f) (map (inner_text names) ts) head (omega (arith, same, small.0)) (each_text IsSmallInner (inner_text names) 197 inner_within ts small.1) in
      omega (arith, text)

  relation_within : (r : Relation) → length (relation_text names r) ≤ 64
  relation_within (Named p) = name_within names.predicates p short.predicates
  relation_within Equality = omega arith

  signed_within : (b : Bool) (text : Text) → length text < 1450 → length (signed_text b text) < 1456
  signed_within true text few = omega (arith, few)
  signed_within false text few = let whole = listed_within 3 1450 1 (codes "not") (text ∷ []) (omega arith) (omega arith) (few, tt) in omega (arith, whole)

  literal_within : (l : Literal) → IsSmallLiteral l → length (literal_text names l) < 1456
  unfolding literal_text
  literal_within l small =
      let head = relation_within l.relation in
      let same = length-map l.arguments (term_text names) in
      let atom = listed_within 64 461 3 (relation_text names l.relation) (map (term_text names) l.arguments) head (omega (arith, same, small.0)) (each_text IsSmallTerm (term_text names) 461 term_within l.arguments small.1) in
      signed_within l.positive (listed (relation_text names l.relation) (map (term_text names) l.arguments)) (omega (arith, atom))

  test_within : (c : List Literal) → length c ≤ 4 → Each IsSmallLiteral c → IsShortLine (test_question names c)
  unfolding conj_text
  test_within c few small =
      let same = length-map c (literal_text names) in
      let text = joined_within 1456 4 (map (literal_text names) c) (omega (arith, same, few)) (each_text IsSmallLiteral (literal_text names) 1456 literal_within c small) in
      omega (arith, text)

  value_within : (t : Term) → IsSmallTerm t → IsShortLine (value_question names t)
  value_within t small = let few = term_within t small in omega (arith, few)

  objects_small : (ds : List ℕ) → Each IsSmallInner (map Object ds)
  objects_small [] = tt
  objects_small (d ∷ ds) = (tt, objects_small ds)

  argument_within : (f : ℕ) (ds : List ℕ) → length ds ≤ 2 → IsShortLine (value_question names (term_of (Apply f ds)))
  argument_within f ds few =
      let wrap : ℕ → Inner = λ d. Object d in
      let same = length-map ds wrap in
      value_within (term_of (Apply f ds)) (omega (arith, same, few), objects_small ds)

  spoken_within : (t : Inner) → IsSpoken t → length (inner_text names t) < 65
  spoken_within (Object d) spoken = object_within d
  spoken_within (Parameter i) spoken = omega arith
  spoken_within (Apply f ds) spoken = absurd spoken

  action_within : (action : ℕ) (us : List Inner) → length us ≤ 4 → Each IsSpoken us → IsShortLine (do_text names action us)
  unfolding instance_text
  action_within action us few spoken =
      let head = name_within names.actions action short.actions in
      let same = length-map us (inner_text names) in
      let text = listed_within 64 65 4 (name_in names.actions action) (map (inner_text names) us) head (omega (arith, same, few)) (each_text IsSpoken (inner_text names) 65 spoken_within us spoken) in
      omega (arith, text)

-- an end is told in a few bytes
end_within : (x : Ending) → IsShortLine (end_text x)
end_within AtGoal = omega arith
end_within AtImpossible = omega arith
end_within NoCase = omega arith

-- ---- trees of a problem

module _ (p : Problem) (valid : IsValid p) (names : Names) where
  abbrev s : Signature
  s = p.signature

  few_parameters : (i : ℕ) → length (schema_of p i).parameters ≤ 4
  few_parameters i = at p.schemas i valid.schemas.0
    where
      at : (scs : List Schema) (n : ℕ) → Each (IsSchemaText p.signature) scs → length (unwrap_or (slice_get scs n) (record { cost = 1; parameters = []; pre = []; effects = []; senses = []; adds = [] })).parameters ≤ 4
      at [] n each = omega arith
      at (sc ∷ scs) zero each = each.0.parameters.1
      at (sc ∷ scs) (suc n) each = at scs n each.1

  module _ (P : Text → Type 0) (asks : (t : Term) → is_term s [] t ≡ true → P (value_question names t)) (tests : (c : List Literal) → length c ≤ 4 → IsConjOf s c → P (test_question names c))
      (needs : (f : ℕ) (ds : List ℕ) → length ds ≤ 2 → P (value_question names (term_of (Apply f ds)))) (does : (action : ℕ) (us : List Inner) → length us ≤ 4 → Each IsSpoken us → P (do_text names action us)) where
    arguments_say : (ts : List Inner) → Each IsSmallInner ts → Each P (argument_questions names ts)
    arguments_say [] small = tt
    arguments_say (Object d ∷ ts) small = arguments_say ts small.1
    arguments_say (Parameter i ∷ ts) small = arguments_say ts small.1
    arguments_say (Apply f ds ∷ ts) small = (needs f ds small.0, arguments_say ts small.1)

    mutual
      tree_says : (t : Tree) → IsTreeOf p t → HasSmallTests t → Says P s names t
      tree_says Goal of small = tt
      tree_says Impossible of small = tt
      tree_says (Do i t) of small =
          let few = few_parameters i.action in
          let same = fit_count (inner_fits s []) (schema_of p i.action).parameters i.arguments of.0.arguments in (
            omega (arith, few, same),
            arguments_say i.arguments (fit_each IsSmallInner (inner_fits s []) (small_inner s valid.signature) (schema_of p i.action).parameters i.arguments of.0.arguments),
            (λ us e spoken. does i.action us (omega (arith, few, same, e)) spoken),
            tree_says t of.1 small,
          )
      tree_says (Branch c t u) of small = (tests c small.0 of.0, tree_says t of.1 small.1, tree_says u of.2 small.2)
      tree_says (Cases x k) of small = (asks x of.0, cases_say k of.1 small)

      cases_say : (k : Chain) → IsChainOf p k → CasesHaveSmallTests k → CasesSay P s names k
      cases_say End of small = tt
      cases_say (More o t k) of small = (tree_says t of.1 small.0, cases_say k of.2 small.1)

  each_literal : (c : List Literal) → IsConjOf s c → Each IsSmallLiteral c
  each_literal [] of = tt
  each_literal (l ∷ c) of = (small_literal s valid.signature l of.0, each_literal c of.1)

  pub short_talk : HasShortNames names → (t : Tree) → IsTreeOf p t → HasSmallTests t → depth t ≤ 16 → (answers : List Text) → IsShortTalk (talk s names t answers)
  short_talk short t of small deep answers =
      talk_within IsShortLine s names end_within t
      (tree_says IsShortLine (λ x h. value_within names short x (small_term s valid.signature x h)) (λ c few own. test_within names short c few (each_literal c own)) (argument_within names short) (action_within names short) t of small)
      deep answers

  pub short_plan : HasShortNames names → (t : Tree) → IsPlan p t → HasSmallTests t → depth t ≤ 16 → (answers : List Text) → IsShortTalk (talk s names t answers)
  short_plan short t plan small deep answers = short_talk short t (plan_of p valid t plan) small deep answers

  every : (texts : List Text) → Each (λ text. Unit {0}) texts
  every [] = tt
  every (text ∷ texts) = (tt, every texts)

  -- of the lines alone, whatever is asked
  mutual
    tree_counts : (t : Tree) → IsTreeOf p t → Says (λ text. Unit {0}) s names t
    tree_counts Goal of = tt
    tree_counts Impossible of = tt
    tree_counts (Do i t) of =
        let few = few_parameters i.action in
        let same = fit_count (inner_fits s []) (schema_of p i.action).parameters i.arguments of.0.arguments in
        (omega (arith, few, same), every (argument_questions names i.arguments), (λ us e spoken. tt), tree_counts t of.1)
    tree_counts (Branch c t u) of = (tt, tree_counts t of.1, tree_counts u of.2)
    tree_counts (Cases x k) of = (tt, cases_count k of.1)

    cases_count : (k : Chain) → IsChainOf p k → CasesSay (λ text. Unit {0}) s names k
    cases_count End of = tt
    cases_count (More o t k) of = (tree_counts t of.1, cases_count k of.2)

  pub plan_counts : (t : Tree) → IsPlan p t → depth t ≤ 16 → (answers : List Text) → IsWithin (λ text. Unit {0}) 64 81 (talk s names t answers)
  plan_counts t plan deep answers = talk_within (λ text. Unit {0}) s names (λ x. tt) t (tree_counts t (plan_of p valid t plan)) deep answers
