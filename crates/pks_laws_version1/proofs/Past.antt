-- Settling, where no type has a parent.
use Rattle.std.proofs.Common.{◌≡◌, ◌&&◌, ◌==◌, ◌++◌, ℕ, zero, suc, Bool, true, false, not, cond, is_some, List, [], ◌∷◌, map, filter, flat_map, slice_get, Option, Some, None, option_map, refl, sym, ap, ◌∙◌, subst, true≢false}
use Rattle.std.specs.List.{list_any, list_all}
use Rattle.std.specs.Option.{option_map_or}
use Rattle.std.proofs.lemmas.Option.{same_Some}
use Rattle.std.proofs.lemmas.Bool.{and_from, eqb-true}
use Rattle.pks_terms.specs.Sets.{Each, with_others, with_later, choices_from, added}
use Rattle.pks_terms.specs.Syntax.{Apply, Inner, Term, term_of, Named, Literal, negated}
use Rattle.pks_terms.specs.Orders.{literal_cmp, literal, equation}
use Rattle.pks_terms.specs.Signatures.{Shape, Signature, fits_type}
use Rattle.pks_terms.specs.Databases.{Five, differ, holds}
use Rattle.pks_terms.specs.Closure.{additions, first_clash, tidied}
use Rattle.pks_terms.specs.Actions.{Target, Set, Unset, Clear, Assign, Effect, Instance}
use Rattle.pks_terms.specs.Spoiling.{may_change, is_stable, are_stable, spoils}
use Rattle.pks_terms.specs.Problems.{Problem, schema_of}
use Rattle.pks_terms.specs.Settling.{History, argument_forms, term_forms, stable_forms, target_forms, undoes, assigns_alike, makes_same, can_be_undone, is_made_otherwise, lasting, lasted, fired, must_have_fired, cannot_have_fired, effects_of, forward, backward, grown, from_next, settled_steps, settle_round, settle_rounds, State, At, Stopped, clashes, tidied_history, Settles}
use Rattle.pks_terms.specs.Valid.{all_fit, inner_fits, term_fits, is_related, IsTargetText, IsValid}
use Rattle.pks_terms.specs.Handed.{IsStepOf}
use Rattle.pks_terms.specs.Versions.{IsFirstVersion}
use Rattle.pks_terms.proofs.ListLaws.{each_append, each_in, each_of, each_map, each_kept, each_flat_map, each_added, each_weaker, in_filtered, each_choice}
use Rattle.pks_terms.proofs.Types.{fits_itself}
use Rattle.pks_laws.specs.OfSignature.{HasOwnValues}
use Rattle.pks_laws.specs.OneTyped.{HasOneTyped, IsOneTypedAlong}
use Rattle.pks_laws.proofs.Versions.{ordered_typed, additions_typed}
use Rattle.pks_laws.proofs.Fitting.{Keeps, AllKeep, AllMove, all_fit_kept, choices_keep, argument_forms_keep, term_forms_keep, term_that_fits, term_kept, literal_kept}
use Rattle.pks_laws.proofs.Belonging.{L, T, negated_of, equation_of, if_of, related_terms, additions_of}
use Rattle.pks_laws.proofs.BelongingSteps.{schema_text}
use Rattle.pks_laws.proofs.BelongingHistories.{later_each, other_each, is_clash, history_or}
use Rattle.pks_laws.proofs.OneTypeAlong.{one_typed_own, settled_one_typed}
use Rattle.pks_laws_version1.specs.LookingUp.{nothing_foreign}
use Rattle.pks_laws_version1.specs.Settling as first
use Rattle.pks_laws_version1.specs.OfFirst.{ListsItsOwn, IsOfFirst, IsOfFirstAlong}
use Rattle.pks_laws_version1.proofs.Lists.{or_same, and_same, any_same, filter_same, flat_map_same}
use Rattle.pks_laws_version1.proofs.Looking.{B, U, V, holds_same, negated_first, denied_same, type_is, fitting_differ}
use Rattle.pks_laws_version1.proofs.Rounds.{inner_terms, known_first, all_hold_same, additions_same, first_clash_same, tidied_regions}
use Rattle.pks_laws_version1.proofs.Deeds.{IsFirstEffect, may_make_true_same, may_make_false_same, may_change_same, some_may_same, stable_same, all_stable_same, spoils_same}
use Rattle.pks_laws_version1.proofs.PutIn.{put_effects_first}

module _ (s : Signature) (none : Each (λ o. o ≡ None) s.parents) where
  abbrev W : Signature
  W = B s none

  abbrev X : Literal → Type 0
  X = V s none

  application_is : (f : ℕ) (x : Shape) (us : List Inner) → slice_get s.functions f ≡ Some x → all_fit (inner_fits s []) x.arguments us ≡ true → T s (Apply f us)
  unfolding term_fits
  application_is f x us q h =
      unfold term_fits in term_that_fits s [] x.result (Apply f us) (ap (λ (o : Option Shape). option_map_or (λ (y : Shape). all_fit (inner_fits s []) y.arguments us && fits_type s y.result x.result) o false) q ∙ and_from _ _ h (fits_itself s x.result))

  module _ (es : List Effect) (w : Each (IsFirstEffect s none) es) (d : Five) (m : IsOfFirst s d) where
    own : HasOwnValues s d.kf
    own = one_typed_own s d.kf m.typed.known

    -- ---- the forms of a target

    stable_forms_same : (ts : List Term) → Each (T s) ts → stable_forms s d es ts ≡ stable_forms W d es ts
    stable_forms_same ts a =
        filter_same (are_stable s d es) (are_stable W d es) (choices_from (map (term_forms d.kf) ts))
        (each_weaker (Each (T s)) (λ us. are_stable s d es us ≡ are_stable W d es us) (all_stable_same s none d m es w) (choices_from (map (term_forms d.kf) ts))
        (each_choice (T s) (term_forms d.kf) ts (each_weaker (T s) (λ t. Each (T s) (term_forms d.kf t))
        (λ t h. each_weaker (Keeps (term_fits s []) (term_fits s []) t) (T s) (λ u k. term_kept s [] [] t u k h) (term_forms d.kf t) (term_forms_keep s d.kf own [] t)) ts a)))

    value_fits : (x : Shape) (value : Term) → term_fits s [] x.result value ≡ true → Each (λ u. term_fits s [] x.result u ≡ true) (term_forms d.kf value)
    value_fits x value h = each_weaker (Keeps (term_fits s []) (term_fits s []) value) (λ u. term_fits s [] x.result u ≡ true) (λ u k. k x.result h) (term_forms d.kf value) (term_forms_keep s d.kf own [] value)

    arguments_fit : (x : Shape) (ts : List Inner) → all_fit (inner_fits s []) x.arguments ts ≡ true → Each (λ us. all_fit (inner_fits s []) x.arguments us ≡ true) (argument_forms d.kf ts)
    arguments_fit x ts h =
        each_weaker (AllKeep (inner_fits s []) (inner_fits s []) ts) (λ us. all_fit (inner_fits s []) x.arguments us ≡ true) (λ us k. all_fit_kept (inner_fits s []) (inner_fits s []) x.arguments ts us k h) (argument_forms d.kf ts) (argument_forms_keep s d.kf own [] ts)

    forms_same : (x : Target) → IsTargetText s [] x → target_forms s d es x ≡ target_forms W d es x
    forms_same (Set a) t = ap (map (λ ts. literal (Named a.predicate) ts true)) (stable_forms_same a.arguments (related_terms s (Named a.predicate) a.arguments t))
    forms_same (Unset a) t = ap (map (λ ts. literal (Named a.predicate) ts false)) (stable_forms_same a.arguments (related_terms s (Named a.predicate) a.arguments t))
    forms_same (Clear x) t = refl
    forms_same (Assign f ts value) t =
        let values = filter_same (is_stable s d es) (is_stable W d es) (term_forms d.kf value) (each_weaker (λ u. term_fits s [] t.0.result u ≡ true) (λ u. is_stable s d es u ≡ is_stable W d es u) (λ u h. stable_same s none d m es w u (term_that_fits s [] t.0.result u h)) (term_forms d.kf value) (value_fits t.0 value t.3)) in
        let places = filter_same (λ us. are_stable s d es (map term_of us)) (λ us. are_stable W d es (map term_of us)) (argument_forms d.kf ts)
        (each_weaker (λ us. all_fit (inner_fits s []) t.0.arguments us ≡ true) (λ us. are_stable s d es (map term_of us) ≡ are_stable W d es (map term_of us))
        (λ us h. all_stable_same s none d m es w (map term_of us) (each_map (T s) term_of us (inner_terms s t.0.arguments us h))) (argument_forms d.kf ts) (arguments_fit t.0 ts t.2)) in
        λ i. flat_map (λ us. map (equation (Apply f us)) (values i)) (places i)

    named_forms : (n : ℕ) (ts : List Term) (b : Bool) → is_related s [] (Named n) ts ≡ true → Each X (map (λ us. literal (Named n) us b) (stable_forms s d es ts))
    unfolding literal
    named_forms n ts b t =
        each_map X (λ us. literal (Named n) us b) (stable_forms s d es ts)
        (each_weaker (AllMove s [] [] ts) (λ us. X (literal (Named n) us b)) (λ us k. (unfold literal in literal_kept s [] [] (Named n) ts us b k t, tt)) (stable_forms s d es ts)
        (each_kept (AllMove s [] [] ts) (are_stable s d es) (choices_from (map (term_forms d.kf) ts)) (choices_keep (term_fits s []) (term_forms d.kf) (term_forms_keep s d.kf own []) ts)))

    pub forms_first : (x : Target) → IsTargetText s [] x → Each X (target_forms s d es x)
    forms_first (Set a) t = named_forms a.predicate a.arguments true t
    forms_first (Unset a) t = named_forms a.predicate a.arguments false t
    forms_first (Clear x) t = tt
    forms_first (Assign f ts value) t =
        each_flat_map X (λ us. map (equation (Apply f us)) (filter (is_stable s d es) (term_forms d.kf value))) (filter (λ us. are_stable s d es (map term_of us)) (argument_forms d.kf ts))
        (λ us i.
        let fit = each_in (λ us. all_fit (inner_fits s []) t.0.arguments us ≡ true) (argument_forms d.kf ts) us (arguments_fit t.0 ts t.2) (in_filtered (λ us. are_stable s d es (map term_of us)) (argument_forms d.kf ts) us i).0 in
        each_map X (equation (Apply f us)) (filter (is_stable s d es) (term_forms d.kf value))
        (each_weaker (λ u. term_fits s [] t.0.result u ≡ true) (λ u. X (equation (Apply f us) u))
        (λ u h. (equation_of s (Apply f us) u (application_is f t.0 us t.1 fit) (term_that_fits s [] t.0.result u h), ordered_typed s none (Apply f us) u true t.0.result (ap (option_map (λ (x : Shape). x.result)) t.1) (type_is s none t.0.result u h)))
        (filter (is_stable s d es) (term_forms d.kf value)) (each_kept (λ u. term_fits s [] t.0.result u ≡ true) (is_stable s d es) (term_forms d.kf value) (value_fits t.0 value t.3))))

    -- ---- what undoes an effect, and what else would make its target so

    undoes_same : (x : Target) → IsTargetText s [] x → (y : Target) → IsTargetText s [] y → undoes s d x y ≡ undoes W d x y
    undoes_same (Set a) t y u = may_make_false_same s none d m a.predicate a.arguments t y u
    undoes_same (Unset a) t y u = may_make_true_same s none d m a.predicate a.arguments t y u
    undoes_same (Clear x) t y u = refl
    undoes_same (Assign f ts value) t y u = may_change_same s none d m f ts (application_is f t.0 ts t.1 t.2) y u

    assigned_same : (f : ℕ) (ts : List Inner) (value : Term) → IsTargetText s [] (Assign f ts value) → (y : Target) → IsTargetText s [] y → (may_change s d.kf f ts y && assigns_alike s d value y) ≡ (may_change W d.kf f ts y && assigns_alike W d value y)
    assigned_same f ts value t (Assign g us new) u =
        let A = not (Rattle.pks_terms.specs.Databases.some_differ s d.kf (map term_of us) (map term_of ts)) in
        let C = not (Rattle.pks_terms.specs.Databases.some_differ W d.kf (map term_of us) (map term_of ts)) in
        elim (g == f) as (λ b. (g == f) ≡ b → (b && A) ≡ (b && C) → ((b && A) && not (differ s d.kf new value)) ≡ ((b && C) && not (differ W d.kf new value))) [
          | false ↦ λ q k. refl
          | true ↦ λ q k.
              let same : u.0 ≡ t.0 = same_Some u.0 t.0 (sym u.1 ∙ ap (slice_get s.functions) (eqb-true g f q) ∙ t.1) in
              and_same _ _ _ _ k (ap not (fitting_differ s none d.kf m.typed.known t.0.result new value (subst (λ (z : Shape). term_fits s [] z.result new ≡ true) same u.3) t.3))
        ] refl (may_change_same s none d m f ts (application_is f t.0 ts t.1 t.2) (Assign g us new) u)
    assigned_same f ts value t (Set a) u = refl
    assigned_same f ts value t (Unset a) u = refl
    assigned_same f ts value t (Clear x) u = refl

    makes_alike : (x : Target) → IsTargetText s [] x → (y : Target) → IsTargetText s [] y → makes_same s d x y ≡ makes_same W d x y
    makes_alike (Set a) t y u = may_make_true_same s none d m a.predicate a.arguments t y u
    makes_alike (Unset a) t y u = may_make_false_same s none d m a.predicate a.arguments t y u
    makes_alike (Clear x) t y u = refl
    makes_alike (Assign f ts value) t y u = assigned_same f ts value t y u

    abbrev pub ArePair : Effect × List Effect → Type 0
    ArePair q = IsFirstEffect s none q.0 × Each (IsFirstEffect s none) q.1

    undone_same : (q : Effect × List Effect) → ArePair q → can_be_undone s d q ≡ can_be_undone W d q
    undone_same q h = some_may_same s none d m (undoes s d q.0.target) (undoes W d q.0.target) (undoes_same q.0.target h.0.1) q.1 h.1

    otherwise_same : (q : Effect × List Effect) → ArePair q → is_made_otherwise s d q ≡ is_made_otherwise W d q
    otherwise_same q h = some_may_same s none d m (makes_same s d q.0.target) (makes_same W d q.0.target) (makes_alike q.0.target h.0.1) q.1 h.1

    -- ---- one step

    pub lasting_same : lasting s es d ≡ lasting W es d
    lasting_same = filter_same (λ l. not (spoils s d es l)) (λ l. not (spoils W d es l)) d.kf (each_weaker (L s) (λ l. not (spoils s d es l) ≡ not (spoils W d es l)) (λ l h. ap not (spoils_same s none d m es w l h)) d.kf m.typed.of.known)

    pub fired_same : (q : Effect × List Effect) → ArePair q → fired s es d q ≡ fired W es d q
    fired_same q h = λ i. cond (all_hold_same s none d m q.0.condition h.0.0 i && not (undone_same q h i)) (forms_same q.0.target h.0.1 i) []

    pub fired_first : (q : Effect × List Effect) → ArePair q → Each X (fired s es d q)
    fired_first q h = if_of s X (list_all (holds s d) q.0.condition && not (can_be_undone s d q)) (target_forms s d es q.0.target) (forms_first q.0.target h.0.1)

    pub lasted_same : (after : Five) → IsOfFirst s after → lasted s es d after ≡ lasted W es d after
    lasted_same after n = filter_same (λ l. not (spoils s d es (negated l))) (λ l. not (spoils W d es (negated l))) after.kf (each_weaker (L s) (λ l. not (spoils s d es (negated l)) ≡ not (spoils W d es (negated l))) (λ l h. ap not (spoils_same s none d m es w (negated l) (negated_of s l h))) after.kf n.typed.of.known)

    module _ (after : Five) (n : IsOfFirst s after) (q : Effect × List Effect) (h : ArePair q) where
      abbrev forms : List Literal
      forms = target_forms s d es q.0.target

      forms_are : Each X forms
      forms_are = forms_first q.0.target h.0.1

      changed_same : list_any (λ l. holds s d (negated l) && holds s after l) forms ≡ list_any (λ l. holds W d (negated l) && holds W after l) (target_forms W d es q.0.target)
      changed_same =
          any_same (λ l. holds s d (negated l) && holds s after l) (λ l. holds W d (negated l) && holds W after l) forms (each_weaker X (λ l. (holds s d (negated l) && holds s after l) ≡ (holds W d (negated l) && holds W after l)) (λ l v. and_same _ _ _ _ (denied_same s none d m l v) (holds_same s none after n l v)) forms forms_are)
          ∙ ap (list_any (λ l. holds W d (negated l) && holds W after l)) (forms_same q.0.target h.0.1)

      missed_same : list_any (λ l. holds s after (negated l)) forms ≡ list_any (λ l. holds W after (negated l)) (target_forms W d es q.0.target)
      missed_same =
          any_same (λ l. holds s after (negated l)) (λ l. holds W after (negated l)) forms (each_weaker X (λ l. holds s after (negated l) ≡ holds W after (negated l)) (λ l v. denied_same s none after n l v) forms forms_are)
          ∙ ap (list_any (λ l. holds W after (negated l))) (forms_same q.0.target h.0.1)

      one_left : flat_map (λ (c : Literal × List Literal). cond (list_all (holds s d) c.1) (negated c.0 ∷ []) []) (with_others q.0.condition) ≡ flat_map (λ (c : Literal × List Literal). cond (list_all (holds W d) c.1) (negated c.0 ∷ []) []) (with_others q.0.condition)
      one_left =
          flat_map_same (λ (c : Literal × List Literal). cond (list_all (holds s d) c.1) (negated c.0 ∷ []) []) (λ (c : Literal × List Literal). cond (list_all (holds W d) c.1) (negated c.0 ∷ []) []) (with_others q.0.condition)
          (each_weaker (λ c. X c.0 × Each X c.1) (λ (c : Literal × List Literal). ◌≡◌ {A = List Literal} (cond (list_all (holds s d) c.1) (negated c.0 ∷ []) []) (cond (list_all (holds W d) c.1) (negated c.0 ∷ []) [])) (λ c k. λ i. cond (all_hold_same s none d m c.1 k.1 i) (negated c.0 ∷ []) []) (with_others q.0.condition) (other_each X q.0.condition h.0.0))

      pub must_same : must_have_fired s es d after q ≡ must_have_fired W es d after q
      must_same = λ i. cond (changed_same i && not (otherwise_same q h i)) q.0.condition []

      pub cannot_same : cannot_have_fired s es d after q ≡ cannot_have_fired W es d after q
      cannot_same = λ i. cond (missed_same i && not (undone_same q h i)) (one_left i) []

      pub must_first : Each X (must_have_fired s es d after q)
      must_first = if_of s X (list_any (λ l. holds s d (negated l) && holds s after l) forms && not (is_made_otherwise s d q)) q.0.condition h.0.0

      pub cannot_first : Each X (cannot_have_fired s es d after q)
      cannot_first =
          let news = flat_map (λ (c : Literal × List Literal). cond (list_all (holds s d) c.1) (negated c.0 ∷ []) []) (with_others q.0.condition) in
          if_of s X (list_any (λ l. holds s after (negated l)) forms && not (can_be_undone s d q)) news
          (each_flat_map X (λ (c : Literal × List Literal). cond (list_all (holds s d) c.1) (negated c.0 ∷ []) []) (with_others q.0.condition)
          (λ c i. if_of s X (list_all (holds s d) c.1) (negated c.0 ∷ []) (negated_first s none c.0 (each_in (λ c. X c.0 × Each X c.1) (with_others q.0.condition) c (other_each X q.0.condition h.0.0) i).0, tt)))

-- ---- histories

module _ (p : Problem) (v : IsValid p) (none : Each (λ o. o ≡ None) p.signature.parents) where
  abbrev S : Signature
  S = p.signature

  abbrev N : Signature
  N = B S none

  abbrev F : Literal → Type 0
  F = V S none

  abbrev E : Effect → Type 0
  E = IsFirstEffect S none

  effects_first : (i : Instance) → IsStepOf p i → Each E (effects_of p i)
  effects_first i fit = put_effects_first S none (schema_of p i.action) (schema_text p v i.action) i.arguments fit.arguments

  module _ (i : Instance) (fit : IsStepOf p i) (d : Five) (m : IsOfFirst S d) where
    abbrev es : List Effect
    es = effects_of p i

    w : Each E es
    w = effects_first i fit

    later : Each (λ q. E q.0 × Each E q.1) (with_later es)
    later = later_each E es w

    others : Each (λ q. E q.0 × Each E q.1) (with_others es)
    others = other_each E es w

    pub forward_same : forward p i d ≡ forward (nothing_foreign p) i d
    forward_same =
        let f = flat_map_same (fired S es d) (fired N es d) (with_later es) (each_weaker (λ q. E q.0 × Each E q.1) (λ q. fired S es d q ≡ fired N es d q) (fired_same S none es w d m) (with_later es) later) in
        λ j. lasting_same S none es w d m j ++ f j

    pub forward_first : Each F (forward p i d)
    forward_first =
        each_append F (lasting S es d) (flat_map (fired S es d) (with_later es)) (each_kept F (λ l. not (spoils S d es l)) d.kf (known_first S none d m))
        (each_flat_map F (fired S es d) (with_later es) (λ q j. fired_first S none es w d m q (each_in (λ q. E q.0 × Each E q.1) (with_later es) q later j)))

    module _ (after : Five) (n : IsOfFirst S after) where
      pub backward_same : backward p i d after ≡ backward (nothing_foreign p) i d after
      backward_same =
          let a = flat_map_same (must_have_fired S es d after) (must_have_fired N es d after) (with_others es) (each_weaker (λ q. E q.0 × Each E q.1) (λ q. must_have_fired S es d after q ≡ must_have_fired N es d after q) (must_same S none es w d m after n) (with_others es) others) in
          let b = flat_map_same (cannot_have_fired S es d after) (cannot_have_fired N es d after) (with_later es) (each_weaker (λ q. E q.0 × Each E q.1) (λ q. cannot_have_fired S es d after q ≡ cannot_have_fired N es d after q) (cannot_same S none es w d m after n) (with_later es) later) in
          λ j. lasted_same S none es w d m after n j ++ (a j ++ b j)

      pub backward_first : Each F (backward p i d after)
      backward_first =
          each_append F (lasted S es d after) (flat_map (must_have_fired S es d after) (with_others es) ++ flat_map (cannot_have_fired S es d after) (with_later es)) (each_kept F (λ l. not (spoils S d es (negated l))) after.kf (known_first S none after n))
          (each_append F (flat_map (must_have_fired S es d after) (with_others es)) (flat_map (cannot_have_fired S es d after) (with_later es))
          (each_flat_map F (must_have_fired S es d after) (with_others es) (λ q j. must_first S none es w d m after n q (each_in (λ q. E q.0 × Each E q.1) (with_others es) q others j)))
          (each_flat_map F (cannot_have_fired S es d after) (with_later es) (λ q j. cannot_first S none es w d m after n q (each_in (λ q. E q.0 × Each E q.1) (with_later es) q later j))))

  abbrev IsStep : Instance × Five → Type 0
  IsStep step = IsStepOf p step.0 × IsOfFirst S step.1

  next_same : (d : Five) (steps : List (Instance × Five)) → IsOfFirst S d → Each IsStep steps → from_next p d steps ≡ from_next (nothing_foreign p) d steps
  next_same d [] m a = refl
  next_same d (step ∷ steps) m a = backward_same step.0 a.0.0 d m step.1 a.0.1

  next_first : (d : Five) (steps : List (Instance × Five)) → IsOfFirst S d → Each IsStep steps → Each F (from_next p d steps)
  next_first d [] m a = tt
  next_first d (step ∷ steps) m a = backward_first step.0 a.0.0 d m step.1 a.0.1

  grown_same : (d : Five) (news news' : List Literal) → IsOfFirst S d → news ≡ news' → grown S d news ≡ first.grown S d news'
  grown_same d news news' m e = λ i. record d { kf = added literal_cmp d.kf (additions_same S none d m i ++ e i) }

  grown_first : (d : Five) (news : List Literal) → IsOfFirst S d → Each F news → IsOfFirst S (grown S d news)
  grown_first d news m a =
      let known = each_weaker F (L S) (λ l k. k.0) news a in
      let typed = each_weaker F (U S none) (λ l k. k.1) news a in
      record {
        typed = record {
          of = record { known = each_added (L S) literal_cmp d.kf (additions S d ++ news) m.typed.of.known (each_append (L S) (additions S d) news (additions_of S d m.typed.of (one_typed_own S d.kf m.typed.known)) known); whether = m.typed.of.whether; values = m.typed.of.values; groups = m.typed.of.groups; regions = m.typed.of.regions };
          known = each_added (U S none) literal_cmp d.kf (additions S d ++ news) m.typed.known (each_append (U S none) (additions S d) news (additions_typed S none d m.typed.known m.typed.groups) typed);
          whether = m.typed.whether;
          groups = m.typed.groups;
        };
        regions = m.regions;
      }

  steps_same : (d : Five) (steps : List (Instance × Five)) → IsOfFirst S d → Each IsStep steps → settled_steps p d steps ≡ first.settled_steps p d steps
  steps_same d [] m a = refl
  steps_same d (step ∷ steps) m a =
      let f = forward_same step.0 a.0.0 d m in
      let b = next_same step.1 steps a.0.1 a.1 in
      let g = grown_same step.1 (forward p step.0 d ++ from_next p step.1 steps) (forward (nothing_foreign p) step.0 d ++ from_next (nothing_foreign p) step.1 steps) a.0.1 (λ i. f i ++ b i) in
      λ i. (step.0, g i) ∷ steps_same step.1 steps a.0.1 a.1 i

  steps_first : (d : Five) (steps : List (Instance × Five)) → IsOfFirst S d → Each IsStep steps → Each IsStep (settled_steps p d steps)
  steps_first d [] m a = tt
  steps_first d (step ∷ steps) m a = (
    (a.0.0, grown_first step.1 (forward p step.0 d ++ from_next p step.1 steps) a.0.1 (each_append F (forward p step.0 d) (from_next p step.1 steps) (forward_first step.0 a.0.0 d m) (next_first step.1 steps a.0.1 a.1))),
    steps_first step.1 steps a.0.1 a.1,
  )

  settle_round_same : (h : History) → IsOfFirstAlong p h → settle_round p h ≡ first.settle_round p h
  unfolding settle_round
  settle_round_same h m =
      let g = grown_same h.start (from_next p h.start h.steps) (from_next (nothing_foreign p) h.start h.steps) m.start (next_same h.start h.steps m.start m.steps) in
      λ i. record { start = g i; steps = steps_same h.start h.steps m.start m.steps i }

  settle_round_first : (h : History) → IsOfFirstAlong p h → IsOfFirstAlong p (settle_round p h)
  unfolding settle_round
  settle_round_first h m = record { start = grown_first h.start (from_next p h.start h.steps) m.start (next_first h.start h.steps m.start m.steps); steps = steps_first h.start h.steps m.start m.steps }

  settle_rounds_first : (n : ℕ) (h : History) → IsOfFirstAlong p h → IsOfFirstAlong p (settle_rounds p n h)
  settle_rounds_first zero h m = m
  settle_rounds_first (suc n) h m = settle_round_first (settle_rounds p n h) (settle_rounds_first n h m)

  settle_rounds_same : (n : ℕ) (h : History) → IsOfFirstAlong p h → settle_rounds p n h ≡ first.settle_rounds p n h
  settle_rounds_same zero h m = refl
  settle_rounds_same (suc n) h m = settle_round_same (settle_rounds p n h) (settle_rounds_first n h m) ∙ ap (first.settle_round p) (settle_rounds_same n h m)

  clashes_same : (h : History) → IsOfFirstAlong p h → clashes S h ≡ clashes N h
  clashes_same h m =
      or_same _ _ _ _ (ap is_some (first_clash_same S none h.start m.start))
      (any_same (λ step. is_some (first_clash S step.1)) (λ step. is_some (first_clash N step.1)) h.steps (each_weaker IsStep (λ step. is_some (first_clash S step.1) ≡ is_some (first_clash N step.1)) (λ step k. ap is_some (first_clash_same S none step.1 k.1)) h.steps m.steps))

  abbrev ending : Signature → History → State
  ending s h = cond (clashes s h) Stopped (At (tidied_history h))

  ending_same : (n : ℕ) (h : History) → IsOfFirstAlong p h → ending S (settle_rounds p n h) ≡ ending N (first.settle_rounds p n h)
  ending_same n h m = (λ i. cond (clashes_same (settle_rounds p n h) (settle_rounds_first n h m) i) Stopped (At (tidied_history (settle_rounds p n h)))) ∙ ap (ending N) (settle_rounds_same n h m)

  module _ (h : History) (x : State) (m : IsOfFirstAlong p h) where
    pub settles_first : Settles p h x → first.Settles p h x
    settles_first c = record { count = c.count; last = sym (settle_rounds_same (suc c.count) h m) ∙ c.last ∙ settle_rounds_same c.count h m; gives = c.gives ∙ ending_same c.count h m }

    pub settles_from_first : first.Settles p h x → Settles p h x
    settles_from_first c = record { count = c.count; last = settle_rounds_same (suc c.count) h m ∙ c.last ∙ sym (settle_rounds_same c.count h m); gives = c.gives ∙ sym (ending_same c.count h m) }

  -- what is settled is of the first version
  abbrev RegionsAlong : History → Type 0
  RegionsAlong h = Each ListsItsOwn h.start.lcw × Each (λ step. Each ListsItsOwn step.1.lcw) h.steps

  along_regions : (h : History) → IsOfFirstAlong p h → RegionsAlong (tidied_history h)
  along_regions h m = (
    tidied_regions S none h.start m.start.regions,
    each_map (λ (step : Instance × Five). Each ListsItsOwn step.1.lcw) (λ step. (step.0, tidied step.1)) h.steps (each_weaker IsStep (λ step. Each ListsItsOwn (tidied step.1).lcw) (λ step k. tidied_regions S none step.1 k.1.regions) h.steps m.steps),
  )

  typed_along : (h : History) → IsOfFirstAlong p h → IsOneTypedAlong p h
  typed_along h m = record { start = m.start.typed; steps = each_weaker IsStep (λ step. IsStepOf p step.0 × HasOneTyped S step.1) (λ step k. (k.0, k.1.typed)) h.steps m.steps }

module _ (p : Problem) (v : IsValid p) (first_version : IsFirstVersion p) where
  settled_regions : (h g : History) → IsOfFirstAlong p h → Settles p h (At g) → RegionsAlong p v first_version.parents g
  settled_regions h g m s = go (clashes p.signature (settle_rounds p s.count h)) s.gives
    where
      go : (b : Bool) → At g ≡ cond b Stopped (At (tidied_history (settle_rounds p s.count h))) → RegionsAlong p v first_version.parents g
      go true e = absurd (true≢false (sym (ap is_clash e)))
      go false e = subst (RegionsAlong p v first_version.parents) (sym (ap (history_or g) e)) (along_regions p v first_version.parents (settle_rounds p s.count h) (settle_rounds_first p v first_version.parents s.count h m))

  pub settled_first : (h g : History) → IsOfFirstAlong p h → Settles p h (At g) → IsOfFirstAlong p g
  settled_first h g m s =
      let typed = settled_one_typed p v first_version h g (typed_along p v first_version.parents h m) s in
      let regions = settled_regions h g m s in
      record {
        start = record { typed = typed.start; regions = regions.0 };
        steps = each_of (λ step. IsStepOf p step.0 × IsOfFirst p.signature step.1) g.steps (λ step i.
            let k = each_in (λ step. IsStepOf p step.0 × HasOneTyped p.signature step.1) g.steps step typed.steps i in
            (k.0, record { typed = k.1; regions = each_in (λ (step : Instance × Five). Each ListsItsOwn step.1.lcw) g.steps step regions.1 i }));
      }
