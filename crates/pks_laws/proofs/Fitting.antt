-- What keeps the types of terms: parameters replaced, applications replaced by their values, normal forms.
use Rattle.std.proofs.Common.{◌≡◌, ◌&&◌, ℕ, Bool, true, false, not, cond, List, [], ◌∷◌, map, slice_get, Option, Some, None, option_and_then, is_lt, option_map, zero, suc, refl, sym, ap, ◌∙◌, subst, true≢false}
use Rattle.std.specs.Option.{option_map_or}
use Rattle.std.proofs.lemmas.Bool.{and_parts, and_from}
use Rattle.std.proofs.lemmas.Option.{none-some, same_Some}
use Rattle.pks_terms.specs.Sets.{Each, IsIn, all_some, one_replaced, choices_from}
use Rattle.pks_terms.specs.Syntax.{Form, Object, Parameter, Apply, Inner, Term, term_of, as_object, Relation, Named, Equality, Literal, Pattern}
use Rattle.pks_terms.specs.Orders.{term_cmp, literal}
use Rattle.pks_terms.specs.Signatures.{Shape, Signature, fits_type, object_is_of, is_foreign}
use Rattle.pks_terms.specs.Databases.{values_at, least, applied, inner_normal, normal}
use Rattle.pks_terms.specs.Closure.{inner_steps, term_steps}
use Rattle.pks_terms.specs.Actions.{argument, inner_at, term_at}
use Rattle.pks_terms.specs.Settling.{inner_forms, argument_forms, term_forms}
use Rattle.pks_terms.specs.Valid.{all_fit, form_fits, inner_fits, term_fits, type_in, is_term, is_related, is_literal, slot_fits, is_pattern}
use Rattle.pks_terms.proofs.ListLaws.{each_append, each_in, each_of, each_map, each_flat_map, each_weaker}
use Rattle.pks_terms.proofs.Types.{fits_itself, fits_through}
use Rattle.pks_laws.proofs.Values.{least_in}
use Rattle.pks_laws.specs.OfSignature.{HasOwnValues}

-- ---- lists of arguments

module _ {A B : Type 0} (F : ℕ → A → Bool) (G : ℕ → B → Bool) where
  -- wherever the first may stand, the second may
  abbrev pub Keeps : A → B → Type 0
  Keeps t u = (wanted : ℕ) → F wanted t ≡ true → G wanted u ≡ true

  -- so one by one
  abbrev pub AllKeep : List A → List B → Type 0
  AllKeep [] [] = Unit {0}
  AllKeep [] (u ∷ us) = ⊥
  AllKeep (t ∷ ts) [] = ⊥
  AllKeep (t ∷ ts) (u ∷ us) = Keeps t u × AllKeep ts us

  pub all_fit_kept : (tys : List ℕ) (ts : List A) (us : List B) → AllKeep ts us → all_fit F tys ts ≡ true → all_fit G tys us ≡ true
  all_fit_kept [] [] [] k h = refl
  all_fit_kept (a ∷ tys) [] [] k h = absurd (true≢false (sym h))
  all_fit_kept [] (t ∷ ts) (u ∷ us) k h = absurd (true≢false (sym h))
  all_fit_kept (a ∷ tys) (t ∷ ts) (u ∷ us) k h = let p = and_parts (F a t) _ h in and_from _ _ (k.0 a p.0) (all_fit_kept tys ts us k.1 p.1)
  all_fit_kept tys [] (u ∷ us) k h = absurd k
  all_fit_kept tys (t ∷ ts) [] k h = absurd k

  pub map_keeps : (f : A → B) → ((t : A) → Keeps t (f t)) → (ts : List A) → AllKeep ts (map f ts)
  map_keeps f k [] = tt
  map_keeps f k (t ∷ ts) = (k t, map_keeps f k ts)

module _ {A : Type 0} (F : ℕ → A → Bool) where
  itself : (ts : List A) → AllKeep F F ts ts
  itself [] = tt
  itself (t ∷ ts) = (λ w h. h, itself ts)

  pub replaced_keep : (step : A → List A) → ((t : A) → Each (Keeps F F t) (step t)) → (ts : List A) → Each (AllKeep F F ts) (one_replaced step ts)
  replaced_keep step k [] = tt
  replaced_keep step k (t ∷ ts) =
      let P : List A → Type 0 = AllKeep F F (t ∷ ts) in
      each_append P (map (λ y. y ∷ ts) (step t)) (map (λ ys. t ∷ ys) (one_replaced step ts))
      (each_map P (λ y. y ∷ ts) (step t) (each_weaker (Keeps F F t) (λ y. P (y ∷ ts)) (λ y h. (h, itself ts)) (step t) (k t)))
      (each_map P (λ ys. t ∷ ys) (one_replaced step ts) (each_weaker (AllKeep F F ts) (λ ys. P (t ∷ ys)) (λ ys h. (λ w q. q, h)) (one_replaced step ts) (replaced_keep step k ts)))

  pub choices_keep : (forms : A → List A) → ((t : A) → Each (Keeps F F t) (forms t)) → (ts : List A) → Each (AllKeep F F ts) (choices_from (map forms ts))
  choices_keep forms k [] = (tt, tt)
  choices_keep forms k (t ∷ ts) =
      let P : List A → Type 0 = AllKeep F F (t ∷ ts) in
      each_flat_map P (λ x. map (λ ys. x ∷ ys) (choices_from (map forms ts))) (forms t)
      (λ x i. each_map P (λ ys. x ∷ ys) (choices_from (map forms ts)) (each_weaker (AllKeep F F ts) (λ ys. P (x ∷ ys)) (λ ys h. (each_in (Keeps F F t) (forms t) x (k t) i, h)) (choices_from (map forms ts)) (choices_keep forms k ts)))

-- ---- terms

module _ (s : Signature) where
  pub object_wider : (a b d : ℕ) → fits_type s a b ≡ true → object_is_of s a d ≡ true → object_is_of s b d ≡ true
  unfolding object_is_of
  object_wider a b d h =
      elim (slice_get s.objects d) as (λ o. option_map_or (λ own. fits_type s own a) o false ≡ true → option_map_or (λ own. fits_type s own b) o false ≡ true) [
        | None ↦ λ q. q
        | Some own ↦ λ q. fits_through s own a b q h
      ]

  from_not : (b : Bool) → not b ≡ false → b ≡ true
  from_not true h = refl
  from_not false h = absurd (true≢false h)

  -- a value that isn't foreign is one of the result type
  pub own_object : (f e : ℕ) (x : Shape) → slice_get s.functions f ≡ Some x → is_foreign s f e ≡ false → object_is_of s x.result e ≡ true
  unfolding is_foreign
  own_object f e x q h = from_not (object_is_of s x.result e) (sym (ap (λ (o : Option Shape). option_map_or (λ (x : Shape). not (object_is_of s x.result e)) o false) q) ∙ h)

  module _ {A B : Type 0} (F : ℕ → A → Bool) (G : ℕ → B → Bool) (params params' : List ℕ) where
    pub apply_keeps : (f : ℕ) (ts : List A) (us : List B) → AllKeep F G ts us → Keeps (form_fits F s params) (form_fits G s params') (Apply f ts) (Apply f us)
    apply_keeps f ts us k wanted h =
        elim (slice_get s.functions f) as (λ o. option_map_or (λ (x : Shape). all_fit F x.arguments ts && fits_type s x.result wanted) o false ≡ true → option_map_or (λ (x : Shape). all_fit G x.arguments us && fits_type s x.result wanted) o false ≡ true) [
          | None ↦ λ q. q
          | Some x ↦ λ q. let p = and_parts (all_fit F x.arguments ts) _ q in and_from _ _ (all_fit_kept F G x.arguments ts us k p.0) p.1
        ] h

    pub value_keeps : (f : ℕ) (ts : List A) (e : ℕ) → is_foreign s f e ≡ false → Keeps (form_fits F s params) (form_fits G s params') (Apply f ts) (Object e)
    value_keeps f ts e own wanted h =
        elim (slice_get s.functions f) as (λ o. slice_get s.functions f ≡ o → option_map_or (λ (x : Shape). all_fit F x.arguments ts && fits_type s x.result wanted) o false ≡ true → object_is_of s wanted e ≡ true) [
          | None ↦ λ q k. absurd (true≢false (sym k))
          | Some x ↦ λ q k. object_wider x.result wanted e (and_parts (all_fit F x.arguments ts) _ k).1 (own_object f e x q own)
        ] refl h

  -- ---- by the values that literals give

  module _ (kf : List Literal) (own : HasOwnValues s kf) (params : List ℕ) where
    abbrev pub Stands : {A : Type 0} → (ℕ → A → Bool) → Form A → Form A → Type 0
    Stands F = Keeps (form_fits F s params) (form_fits F s params)

    applied_keeps : {A : Type 0} (F : ℕ → A → Bool) (obj : A → Option ℕ) (f : ℕ) (ts us : List A) → AllKeep F F ts us → Stands F (Apply f ts) (applied obj kf f us)
    applied_keeps F obj f ts us k =
        elim (all_some (map obj us)) as (λ o. Stands F (Apply f ts) (option_map_or Object (option_and_then (λ ds. least (values_at kf f ds)) o) (Apply f us))) [
          | None ↦ apply_keeps F F params params f ts us k
          | Some ds ↦ elim (least (values_at kf f ds)) as (λ o. least (values_at kf f ds) ≡ o → Stands F (Apply f ts) (option_map_or Object o (Apply f us))) [
            | None ↦ λ q. apply_keeps F F params params f ts us k
            | Some e ↦ λ q. value_keeps F F params params f ts e (own f ds e (least_in (λ x. IsIn x (values_at kf f ds)) (values_at kf f ds) e (each_of (λ x. IsIn x (values_at kf f ds)) (values_at kf f ds) (λ x i. i)) q))
          ] refl
        ]

    pub inner_normal_keeps : (t : Inner) → Keeps (inner_fits s params) (inner_fits s params) t (inner_normal kf t)
    inner_normal_keeps (Object d) = λ w h. h
    inner_normal_keeps (Parameter i) = λ w h. h
    inner_normal_keeps (Apply f ds) = applied_keeps (object_is_of s) Some f ds (map (λ d. d) ds) (map_keeps (object_is_of s) (object_is_of s) (λ d. d) (λ d w h. h) ds)

    pub normal_keeps : (t : Term) → Keeps (term_fits s params) (term_fits s params) t (normal kf t)
    unfolding term_fits normal
    normal_keeps (Object d) = λ w h. h
    normal_keeps (Parameter i) = λ w h. h
    normal_keeps (Apply f ts) = applied_keeps (inner_fits s params) as_object f ts (map (inner_normal kf) ts) (map_keeps (inner_fits s params) (inner_fits s params) (inner_normal kf) inner_normal_keeps ts)

    values_keep : {A : Type 0} (F : ℕ → A → Bool) (f : ℕ) (ts : List A) (ds : List ℕ) → Each (Stands F (Apply f ts)) (map Object (values_at kf f ds))
    values_keep F f ts ds = each_map (Stands F (Apply f ts)) Object (values_at kf f ds) (each_of (λ e. Stands F (Apply f ts) (Object e)) (values_at kf f ds) (λ e i. value_keeps F F params params f ts e (own f ds e i)))

    inner_steps_keep : (t : Inner) → Each (Keeps (inner_fits s params) (inner_fits s params) t) (inner_steps kf t)
    inner_steps_keep (Object d) = tt
    inner_steps_keep (Parameter i) = tt
    inner_steps_keep (Apply f ds) = values_keep (object_is_of s) f ds ds

    pub term_steps_keep : (t : Term) → Each (Keeps (term_fits s params) (term_fits s params) t) (term_steps kf t)
    unfolding term_fits term_steps
    term_steps_keep (Object d) = tt
    term_steps_keep (Parameter i) = tt
    term_steps_keep (Apply f ts) =
        let F = inner_fits s params in
        let P : Term → Type 0 = Stands F (Apply f ts) in
        each_append P (map Object (option_map_or (values_at kf f) (all_some (map as_object ts)) [])) (map (Apply f) (one_replaced (inner_steps kf) ts))
        (elim (all_some (map as_object ts)) as (λ o. Each P (map Object (option_map_or (values_at kf f) o []))) [ None ↦ tt | Some ds ↦ values_keep F f ts ds ])
        (each_map P (Apply f) (one_replaced (inner_steps kf) ts) (each_weaker (AllKeep F F ts) (λ us. P (Apply f us)) (λ us k. apply_keeps F F params params f ts us k) (one_replaced (inner_steps kf) ts) (replaced_keep F (inner_steps kf) inner_steps_keep ts)))

    inner_forms_keep : (t : Inner) → Each (Keeps (inner_fits s params) (inner_fits s params) t) (inner_forms kf t)
    inner_forms_keep (Object d) = (λ w h. h, tt)
    inner_forms_keep (Parameter i) = (λ w h. h, tt)
    inner_forms_keep (Apply f ds) = (λ w h. h, values_keep (object_is_of s) f ds ds)

    pub argument_forms_keep : (ts : List Inner) → Each (AllKeep (inner_fits s params) (inner_fits s params) ts) (argument_forms kf ts)
    argument_forms_keep = choices_keep (inner_fits s params) (inner_forms kf) inner_forms_keep

    pub term_forms_keep : (t : Term) → Each (Keeps (term_fits s params) (term_fits s params) t) (term_forms kf t)
    unfolding term_fits
    term_forms_keep (Object d) = (λ w h. h, tt)
    term_forms_keep (Parameter i) = (λ w h. h, tt)
    term_forms_keep (Apply f ts) =
        let F = inner_fits s params in
        let P : Term → Type 0 = Stands F (Apply f ts) in
        let forms : List Inner → List Term = λ us. Apply f us ∷ map Object (option_map_or (values_at kf f) (all_some (map as_object us)) []) in
        each_flat_map P forms (argument_forms kf ts)
        (λ us i. (
          apply_keeps F F params params f ts us (each_in (AllKeep F F ts) (argument_forms kf ts) us (argument_forms_keep ts) i),
          elim (all_some (map as_object us)) as (λ o. Each P (map Object (option_map_or (values_at kf f) o []))) [ None ↦ tt | Some ds ↦ values_keep F f ts ds ],
        ))

  -- ---- literals

  module _ (params params' : List ℕ) where
    abbrev pub Moves : Term → Term → Type 0
    Moves = Keeps (term_fits s params) (term_fits s params')

    abbrev pub AllMove : List Term → List Term → Type 0
    AllMove = AllKeep (term_fits s params) (term_fits s params')

  -- what may stand anywhere is a term of the signature, and of some type
  pub term_that_fits : (params : List ℕ) (wanted : ℕ) (t : Term) → term_fits s params wanted t ≡ true → is_term s params t ≡ true
  unfolding term_fits object_is_of
  term_that_fits params wanted (Object d) h =
      elim (slice_get s.objects d) as (λ o. option_map_or (λ own. fits_type s own wanted) o false ≡ true → option_map_or (λ a. option_map_or (λ own. fits_type s own a) o false) o false ≡ true) [ None ↦ λ q. q | Some own ↦ λ q. fits_itself s own ] h
  term_that_fits params wanted (Parameter i) h =
      elim (slice_get params i) as (λ o. option_map_or (λ own. fits_type s own wanted) o false ≡ true → option_map_or (λ a. option_map_or (λ own. fits_type s own a) o false) o false ≡ true) [ None ↦ λ q. q | Some own ↦ λ q. fits_itself s own ] h
  term_that_fits params wanted (Apply f ts) h =
      elim (slice_get s.functions f) as (λ (o : Option Shape). option_map_or (λ (x : Shape). all_fit (inner_fits s params) x.arguments ts && fits_type s x.result wanted) o false ≡ true → option_map_or (λ a. option_map_or (λ (x : Shape). all_fit (inner_fits s params) x.arguments ts && fits_type s x.result a) o false) (option_map (λ (x : Shape). x.result) o) false ≡ true) [
        | None ↦ λ q. q
        | Some x ↦ λ q. and_from _ _ (and_parts (all_fit (inner_fits s params) x.arguments ts) _ q).0 (fits_itself s x.result)
      ] h

  pub type_of_term : (params : List ℕ) (t : Term) → is_term s params t ≡ true → (own : ℕ) × (term_fits s params own t ≡ true)
  type_of_term params t h =
      elim (type_in s params t) as (λ o. option_map_or (λ own. term_fits s params own t) o false ≡ true → (own : ℕ) × (term_fits s params own t ≡ true)) [ None ↦ λ q. absurd (true≢false (sym q)) | Some own ↦ λ q. (own, q) ] h

  module _ (params params' : List ℕ) where
    pub term_kept : (t u : Term) → Moves params params' t u → is_term s params t ≡ true → is_term s params' u ≡ true
    term_kept t u k h = let r = type_of_term params t h in term_that_fits params' r.0 u (k r.0 r.1)

    pub related_kept : (r : Relation) (ts us : List Term) → AllMove params params' ts us → is_related s params r ts ≡ true → is_related s params' r us ≡ true
    related_kept (Named p) ts us k h =
        elim (slice_get s.predicates p) as (λ (o : Option Shape). option_map_or (λ (x : Shape). all_fit (term_fits s params) x.arguments ts) o false ≡ true → option_map_or (λ (x : Shape). all_fit (term_fits s params') x.arguments us) o false ≡ true) [
          | None ↦ λ q. q
          | Some x ↦ λ q. all_fit_kept (term_fits s params) (term_fits s params') x.arguments ts us k q
        ] h
    related_kept Equality (t ∷ u ∷ []) (t' ∷ u' ∷ []) k h = let p = and_parts (is_term s params t) _ h in and_from _ _ (term_kept t t' k.0 p.0) (term_kept u u' k.1.0 p.1)
    related_kept Equality [] us k h = absurd (true≢false (sym h))
    related_kept Equality (t ∷ []) us k h = absurd (true≢false (sym h))
    related_kept Equality (t ∷ u ∷ v ∷ ts) us k h = absurd (true≢false (sym h))
    related_kept Equality (t ∷ u ∷ []) [] k h = absurd k
    related_kept Equality (t ∷ u ∷ []) (t' ∷ []) k h = absurd k.1
    related_kept Equality (t ∷ u ∷ []) (t' ∷ u' ∷ v ∷ us) k h = absurd k.1.1

    -- the order of the sides doesn't matter
    pub ordered_literal : (r : Relation) (ts : List Term) (b : Bool) → is_related s params r ts ≡ true → is_literal s params (literal r ts b) ≡ true
    unfolding is_literal literal
    ordered_literal (Named p) ts b h = h
    ordered_literal Equality (t ∷ u ∷ []) b h =
        elim (is_lt (term_cmp t u)) as (λ c. is_related s params Equality (cond c (u ∷ t ∷ []) (t ∷ u ∷ [])) ≡ true) [ true ↦ let p = and_parts (is_term s params t) _ h in and_from _ _ p.1 p.0 | false ↦ h ]
    ordered_literal Equality [] b h = absurd (true≢false (sym h))
    ordered_literal Equality (t ∷ []) b h = absurd (true≢false (sym h))
    ordered_literal Equality (t ∷ u ∷ v ∷ ts) b h = absurd (true≢false (sym h))

  pub literal_kept : (params params' : List ℕ) (r : Relation) (ts us : List Term) (b : Bool) → AllMove params params' ts us → is_related s params r ts ≡ true → is_literal s params' (literal r us b) ≡ true
  literal_kept params params' r ts us b k h = ordered_literal params' params' r us b (related_kept params params' r ts us k h)

  pub pattern_kept : (params params' : List ℕ) (f : Term → Term) → ((t : Term) → Moves params params' t (f t)) → (x : Pattern) → is_pattern s params x ≡ true → is_pattern s params' (record { predicate = x.predicate; slots = map (option_map f) x.slots }) ≡ true
  pattern_kept params params' f k x h =
      elim (slice_get s.predicates x.predicate) as (λ (o : Option Shape). option_map_or (λ (y : Shape). all_fit (slot_fits s params) y.arguments x.slots) o false ≡ true → option_map_or (λ (y : Shape). all_fit (slot_fits s params') y.arguments (map (option_map f) x.slots)) o false ≡ true) [
        | None ↦ λ q. q
        | Some y ↦ λ q. all_fit_kept (slot_fits s params) (slot_fits s params') y.arguments x.slots (map (option_map f) x.slots) (map_keeps (slot_fits s params) (slot_fits s params') (option_map f) slot_keeps x.slots) q
      ] h
    where
      slot_keeps : (o : Option Term) → Keeps (slot_fits s params) (slot_fits s params') o (option_map f o)
      slot_keeps None = λ w q. q
      slot_keeps (Some t) = k t

  -- ---- arguments put in

  argument_fits : (ps : List ℕ) (us : List Inner) (i b : ℕ) → all_fit (inner_fits s []) ps us ≡ true → slice_get ps i ≡ Some b → inner_fits s [] b (argument us i) ≡ true
  argument_fits [] us i b h q = absurd (none-some b q)
  argument_fits (a ∷ ps) [] i b h q = absurd (true≢false (sym h))
  argument_fits (a ∷ ps) (u ∷ us) zero b h q = subst (λ c. inner_fits s [] c u ≡ true) (same_Some a b q) (and_parts (inner_fits s [] a u) _ h).0
  argument_fits (a ∷ ps) (u ∷ us) (suc i) b h q = argument_fits ps us i b (and_parts (inner_fits s [] a u) _ h).1 q

  -- a wider type is fitted too
  pub inner_wider : (a b : ℕ) (u : Inner) → fits_type s a b ≡ true → inner_fits s [] a u ≡ true → inner_fits s [] b u ≡ true
  inner_wider a b (Object d) f h = object_wider a b d f h
  inner_wider a b (Parameter i) f h = absurd (true≢false (sym h))
  inner_wider a b (Apply g ds) f h =
      elim (slice_get s.functions g) as (λ (o : Option Shape). option_map_or (λ (x : Shape). all_fit (object_is_of s) x.arguments ds && fits_type s x.result a) o false ≡ true → option_map_or (λ (x : Shape). all_fit (object_is_of s) x.arguments ds && fits_type s x.result b) o false ≡ true) [
        | None ↦ λ q. q
        | Some x ↦ λ q. let p = and_parts (all_fit (object_is_of s) x.arguments ds) _ q in and_from _ _ p.0 (fits_through s x.result a b p.1 f)
      ] h

  -- an argument as a term by itself
  pub as_term_fits : (params : List ℕ) (u : Inner) → Keeps (inner_fits s params) (term_fits s params) u (term_of u)
  unfolding term_fits
  as_term_fits params (Object d) = λ w h. h
  as_term_fits params (Parameter i) = λ w h. h
  as_term_fits params (Apply f ds) = apply_keeps (object_is_of s) (inner_fits s params) params params f ds (map Object ds) (map_keeps (object_is_of s) (inner_fits s params) Object (λ d w h. h) ds)

  module _ (params : List ℕ) (given : List Inner) (fit : all_fit (inner_fits s []) params given ≡ true) where
    for_parameter : (i wanted : ℕ) → option_map_or (λ own. fits_type s own wanted) (slice_get params i) false ≡ true → inner_fits s [] wanted (argument given i) ≡ true
    for_parameter i wanted h =
        elim (slice_get params i) as (λ o. slice_get params i ≡ o → option_map_or (λ own. fits_type s own wanted) o false ≡ true → inner_fits s [] wanted (argument given i) ≡ true) [
          | None ↦ λ q k. absurd (true≢false (sym k))
          | Some b ↦ λ q k. inner_wider b wanted (argument given i) k (argument_fits params given i b fit q)
        ] refl h

    pub inner_at_keeps : (t : Inner) → Keeps (inner_fits s params) (inner_fits s []) t (inner_at given t)
    inner_at_keeps (Object d) = λ w h. h
    inner_at_keeps (Parameter i) = λ w h. for_parameter i w h
    inner_at_keeps (Apply f ds) = λ w h. h

    pub term_at_keeps : (t : Term) → Keeps (term_fits s params) (term_fits s []) t (term_at given t)
    unfolding term_fits
    term_at_keeps (Object d) = λ w h. h
    term_at_keeps (Parameter i) = λ w h. as_term_fits [] (argument given i) w (for_parameter i w h)
    term_at_keeps (Apply f ts) = apply_keeps (inner_fits s params) (inner_fits s []) params [] f ts (map (inner_at given) ts) (map_keeps (inner_fits s params) (inner_fits s []) (inner_at given) inner_at_keeps ts)
