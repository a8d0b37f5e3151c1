-- The databases after an action, where no type has a parent.
use Rattle.std.proofs.Common.{◌≡◌, ◌&&◌, ◌==◌, ℕ, zero, suc, true, false, not, cond, List, [], ◌∷◌, map, filter, filter_map, flat_map, slice_get, Option, Some, None, option_map, option_and_then, refl, sym, ap, ◌∙◌, subst, true≢false}
use Rattle.std.specs.List.{list_all}
use Rattle.std.specs.Option.{option_map_or}
use Rattle.std.proofs.lemmas.Bool.{and_parts, and_from}
use Rattle.std.proofs.lemmas.Option.{none-some, same_Some, cond_some, option_and_then_some}
use Rattle.pks_terms.specs.Sets.{Each, insert_in, added, set_of}
use Rattle.pks_terms.specs.Syntax.{Object, Parameter, Apply, Inner, Term, term_of, Relation, Named, Equality, Literal, Atom, Pattern, negated}
use Rattle.pks_terms.specs.Orders.{term_cmp, literal_cmp, conj_cmp, atom_cmp, number_of, arguments_of}
use Rattle.pks_terms.specs.Signatures.{Shape, Signature}
use Rattle.pks_terms.specs.Databases.{Entry, entry_cmp, Five, normal, inner_normal, normal_literal}
use Rattle.pks_terms.specs.Closure.{normal_conj, normal_atom, normal_pattern}
use Rattle.pks_terms.specs.Queries.{Query, answers}
use Rattle.pks_terms.specs.Actions.{Target, Set, Unset, Clear, Assign, Effect, Item, ItemKf, ItemKw, ItemKv, ItemLcw, Add, Schema, argument, inner_at, term_at, literal_at, conj_at, pattern_at, effect_at, query_at}
use Rattle.pks_terms.specs.Spoiling.{some_fixed_differ, may_fire, is_stable, are_stable, spoils}
use Rattle.pks_terms.specs.Justified.{Case, case_of}
use Rattle.pks_terms.specs.Progress.{is_untouched, fixed_terms, entry_terms, widened_by, widened, kept_entry, parameters_in, conj_parameters, arguments_stable, place_at, has_stable_arguments, has_place, added_equation, added_literal, literals_added, is_sensed, added_formula, added_value, is_applied_in, formulas_added, values_added, regions_added, progressed}
use Rattle.pks_terms.specs.Valid.{all_fit, inner_fits, term_fits, slot_fits, is_term, is_related, is_literal, is_atom, is_pattern, IsLiteralText, IsConjText, IsTargetText, IsItemText, IsSchemaText, IsPlainText, AreQueries}
use Rattle.pks_terms.proofs.ListLaws.{all_same, each_in, each_of, each_map, each_append, each_kept, each_flat_map, each_filter_map, each_insert_in, each_added, each_set_of, each_weaker}
use Rattle.pks_laws.proofs.Fitting.{all_fit_kept, map_keeps, inner_normal_keeps, inner_at_keeps, term_at_keeps, as_term_fits, term_that_fits, pattern_kept}
use Rattle.pks_laws.proofs.Belonging.{L, T, R, negated_of, related_terms, normal_literal_of, normal_conj_of, normal_term_of, normal_pattern_of}
use Rattle.pks_laws.proofs.BelongingSteps.{put_literal, put_conj, put_term}
use Rattle.pks_laws.proofs.OneTypeAlong.{one_typed_own, progressed_one_typed}
use Rattle.pks_laws.specs.OfSignature.{HasOwnValues}
use Rattle.pks_laws_version1.specs.OfFirst.{ListsItsOwn, IsOfFirst}
use Rattle.pks_laws_version1.proofs.Lists.{and_same, filter_same, flat_map_same, filter_map_same}
use Rattle.pks_laws_version1.proofs.Looking.{B, when_same}
use Rattle.pks_laws_version1.proofs.Rounds.{each_fitting, inner_terms, shape_in, answers_same}
use Rattle.pks_laws_version1.proofs.Deeds.{IsFirstEffect, may_fire_same, pattern_differ, stable_same, all_stable_same, literal_terms, spoils_same}
use Rattle.pks_laws_version1.proofs.PutIn.{put_plain, put_effects_first}

module _ (s : Signature) (none : Each (λ o. o ≡ None) s.parents) (d : Five) (m : IsOfFirst s d) (es : List Effect) (w : Each (IsFirstEffect s none) es) where
  abbrev W : Signature
  W = B s none

  pub own : HasOwnValues s d.kf
  own = one_typed_own s d.kf m.typed.known

  pub untouched_same : (c : List Literal) → Each (L s) c → is_untouched s d es c ≡ is_untouched W d es c
  untouched_same c a =
      all_same (λ l. not (spoils s d es l) && not (spoils s d es (negated l))) (λ l. not (spoils W d es l) && not (spoils W d es (negated l))) c
      (each_weaker (L s) (λ l. (not (spoils s d es l) && not (spoils s d es (negated l))) ≡ (not (spoils W d es l) && not (spoils W d es (negated l))))
      (λ l h. and_same _ _ _ _ (ap not (spoils_same s none d m es w l h)) (ap not (spoils_same s none d m es w (negated l) (negated_of s l h)))) c a)

  -- ---- regions

  slot_terms : (tys : List ℕ) (ss : List (Option Term)) → all_fit (slot_fits s []) tys ss ≡ true → Each (T s) (fixed_terms ss)
  slot_terms tys [] h = tt
  slot_terms [] (o ∷ ss) h = absurd (true≢false (sym h))
  slot_terms (a ∷ tys) (None ∷ ss) h = slot_terms tys ss h
  slot_terms (a ∷ tys) (Some t ∷ ss) h = let p = and_parts (term_fits s [] a t) _ h in (term_that_fits s [] a t p.0, slot_terms tys ss p.1)

  pattern_terms : (x : Pattern) → is_pattern s [] x ≡ true → Each (T s) (fixed_terms x.slots)
  pattern_terms x h =
      elim (slice_get s.predicates x.predicate) as (λ (o : Option Shape). option_map_or (λ (y : Shape). all_fit (slot_fits s []) y.arguments x.slots) o false ≡ true → Each (T s) (fixed_terms x.slots)) [
        | None ↦ λ q. absurd (true≢false (sym q))
        | Some y ↦ λ q. slot_terms y.arguments x.slots q
      ] h

  region_terms : (r : Entry) → R s r → Each (T s) (entry_terms r)
  region_terms r h =
      each_append (T s) (fixed_terms r.pattern.slots) (flat_map (λ (a : Atom). a.arguments) r.listed) (pattern_terms r.pattern h.0)
      (each_flat_map (T s) (λ (a : Atom). a.arguments) r.listed (λ a i. related_terms s (Named a.predicate) a.arguments (each_in (λ a. is_atom s [] a ≡ true) r.listed a h.1 i)))

  normal_terms : (ts : List Term) → Each (T s) ts → Each (T s) (map (normal d.kf) ts)
  normal_terms ts a = each_map (T s) (normal d.kf) ts (each_weaker (T s) (λ t. T s (normal d.kf t)) (normal_term_of s d.kf own) ts a)

  widened_by_same : (x : Pattern) → is_pattern s [] x ≡ true → (to : Target) (listed : List Atom) → IsTargetText s [] to → widened_by s d es x to listed ≡ widened_by W d es x to listed
  widened_by_same x h (Set a) listed t =
      let hit = when_same s none d.kf m.typed.known a.predicate x.predicate _ _ (λ e. ap not (pattern_differ s none d m x a.arguments h (subst (λ n. is_related s [] (Named n) a.arguments ≡ true) e t))) in
      let stays = all_stable_same s none d m es w (map (normal d.kf) a.arguments) (normal_terms a.arguments (related_terms s (Named a.predicate) a.arguments t)) in
      λ i. cond (hit i) (cond (stays i) (Some (insert_in atom_cmp (normal_atom d.kf a) listed)) None) (Some listed)
  widened_by_same x h (Unset a) listed t = refl
  widened_by_same x h (Clear y) listed t = refl
  widened_by_same x h (Assign f ts value) listed t = refl

  widened_same : (x : Pattern) → is_pattern s [] x ≡ true → (rest : List Effect) → Each (IsFirstEffect s none) rest → (listed : List Atom) → widened s d es x rest listed ≡ widened W d es x rest listed
  widened_same x h [] a listed = refl
  widened_same x h (f ∷ rest) a listed =
      λ i. option_and_then (λ next. widened_same x h rest a.1 next i) (cond (may_fire_same s none d m f a.0.0 i) (widened_by_same x h f.target listed a.0.1 i) (Some listed))

  entry_same : (r : Entry) → R s r → kept_entry s d es r ≡ kept_entry W d es r
  entry_same r h =
      λ i. cond (all_stable_same s none d m es w (entry_terms r) (region_terms r h) i) (option_map (λ listed. let x : Entry = record { pattern = r.pattern; listed = listed } in x) (widened_same r.pattern h.0 es w r.listed i)) None

  entries_same : filter_map (kept_entry s d es) d.lcw ≡ filter_map (kept_entry W d es) d.lcw
  entries_same = filter_map_same (kept_entry s d es) (kept_entry W d es) d.lcw (each_of (λ r. kept_entry s d es r ≡ kept_entry W d es r) d.lcw (λ r i. entry_same r (each_in (R s) d.lcw r m.typed.of.regions i)))

  -- ---- adds

  module _ (sc : Schema) (text : IsSchemaText s sc) (given : List Inner) (fit : all_fit (inner_fits s []) sc.parameters given ≡ true) where
    abbrev normals : List Inner
    normals = map (inner_normal d.kf) given

    normals_fit : all_fit (inner_fits s []) sc.parameters normals ≡ true
    normals_fit = all_fit_kept (inner_fits s []) (inner_fits s []) sc.parameters given normals (map_keeps (inner_fits s []) (inner_fits s []) (inner_normal d.kf) (inner_normal_keeps s d.kf own []) given) fit

    argument_same : (us : List Inner) → Each (λ u. T s (term_of u)) us → (i : ℕ) → is_stable s d es (term_of (argument us i)) ≡ is_stable W d es (term_of (argument us i))
    unfolding is_stable
    argument_same [] a i = refl
    argument_same (u ∷ us) a zero = unfold is_stable in stable_same s none d m es w (term_of u) a.0
    argument_same (u ∷ us) a (suc i) = argument_same us a.1 i

    arguments_same : (is : List ℕ) → arguments_stable s d es normals is ≡ arguments_stable W d es normals is
    arguments_same is =
        all_same (λ i. is_stable s d es (term_of (argument normals i))) (λ i. is_stable W d es (term_of (argument normals i))) is
        (each_of (λ i. is_stable s d es (term_of (argument normals i)) ≡ is_stable W d es (term_of (argument normals i))) is (λ i j. argument_same normals (inner_terms s sc.parameters normals normals_fit) i))

    place_terms : (t : Term) → is_term s sc.parameters t ≡ true → Each (T s) (map term_of (arguments_of (place_at d.kf given t)))
    place_terms (Object e) h = tt
    place_terms (Parameter i) h = tt
    place_terms (Apply f ts) h =
        let put : Inner → Inner = λ t. inner_normal d.kf (inner_at given t) in
        let x = shape_in s sc.parameters f ts h in
        each_map (T s) term_of (map put ts) (each_map (λ u. T s (term_of u)) put ts
        (each_weaker (λ t. (wanted : ℕ) × (inner_fits s sc.parameters wanted t ≡ true)) (λ t. T s (term_of (put t)))
        (λ t k. term_that_fits s [] k.0 (term_of (put t)) (as_term_fits s [] (put t) k.0 (inner_normal_keeps s d.kf own [] (inner_at given t) k.0 (inner_at_keeps s sc.parameters given fit t k.0 k.1)))) ts
        (each_fitting s (inner_fits s sc.parameters) x.0.arguments ts x.2)))

    place_same : (t : Term) → is_term s sc.parameters t ≡ true → has_stable_arguments s d es (place_at d.kf given t) ≡ has_stable_arguments W d es (place_at d.kf given t)
    place_same t h = all_stable_same s none d m es w (map term_of (arguments_of (place_at d.kf given t))) (place_terms t h)

    equation_same : (a : Add) (l : Literal) (ts : List Term) → is_related s sc.parameters Equality ts ≡ true → added_equation s d es given sc a l ts ≡ added_equation W d es given sc a l ts
    equation_same a l (t ∷ u ∷ []) h =
        let both = and_parts (is_term s sc.parameters t) _ h in
        let stays = stable_same s none d m es w (normal d.kf (term_at given u)) (normal_term_of s d.kf own (term_at given u) (put_term s sc.parameters given fit u both.1)) in
        λ i. cond (has_place sc a l t && (place_same t both.0 i && stays i)) (Rattle.pks_terms.specs.Orders.equation (place_at d.kf given t) (normal d.kf (term_at given u)) ∷ []) []
    equation_same a l [] h = refl
    equation_same a l (t ∷ []) h = refl
    equation_same a l (t ∷ u ∷ v ∷ ts) h = refl

    literal_same : (a : Add) (l : Literal) → is_literal s sc.parameters l ≡ true → (r : Relation) → l.relation ≡ r → added_literal s d es given sc a l r ≡ added_literal W d es given sc a l r
    unfolding is_literal
    literal_same a l h (Named p) e =
        let n = normal_literal d.kf (literal_at given l) in
        let of : L s n = normal_literal_of s d.kf own (literal_at given l) (unfold is_literal in put_literal s sc.parameters given fit l h) in
        λ i. cond (all_stable_same s none d m es w n.arguments (literal_terms s none d m es w n of) i) (n ∷ []) []
    literal_same a l h Equality e = equation_same a l l.arguments (subst (λ r. is_related s sc.parameters r l.arguments ≡ true) e h)

    literals_same : (a : Add) (x : Item) → IsItemText s sc.parameters x → literals_added s d es given sc a x ≡ literals_added W d es given sc a x
    literals_same a (ItemKf l) t = literal_same a l t.typed l.relation refl
    literals_same a (ItemKw c) t = refl
    literals_same a (ItemKv u) t = refl
    literals_same a (ItemLcw x) t = refl

    formula_same : (k : Case) (c : List Literal) → IsConjText s sc.parameters c → added_formula s d es given normals k c ≡ added_formula W d es given normals k c
    formula_same k c t =
        let b = normal_conj d.kf (conj_at given c) in
        let typed = each_weaker (IsLiteralText s sc.parameters) (λ l. is_literal s sc.parameters l ≡ true) (λ l k. k.typed) c t.0 in
        let of : Each (L s) b = normal_conj_of s d.kf own (conj_at given c) (put_conj s sc.parameters given fit c typed) in
        let stays = all_same (λ (l : Literal). are_stable s d es l.arguments) (λ l. are_stable W d es l.arguments) b (each_weaker (L s) (λ (l : Literal). are_stable s d es l.arguments ≡ are_stable W d es l.arguments) (λ l h. all_stable_same s none d m es w l.arguments (literal_terms s none d m es w l h)) b of) in
        λ i. cond (is_sensed k) (cond (arguments_same (conj_parameters c) i) (conj_at normals c ∷ []) []) (cond (stays i) (b ∷ []) [])

    formulas_same : (o : Option Case) (x : Item) → IsItemText s sc.parameters x → formulas_added s d es given normals o x ≡ formulas_added W d es given normals o x
    formulas_same o (ItemKw c) t = λ i. option_map_or (λ k. formula_same k c t i) o []
    formulas_same o (ItemKf l) t = refl
    formulas_same o (ItemKv u) t = refl
    formulas_same o (ItemLcw x) t = refl

    value_same : (k : Case) (t : Term) → is_term s sc.parameters t ≡ true → added_value s d es given normals k t ≡ added_value W d es given normals k t
    value_same k t h = λ i. cond (is_sensed k) (cond (arguments_same (parameters_in t) i) (term_at normals t ∷ []) []) (cond (place_same t h i) (place_at d.kf given t ∷ []) [])

    values_same : (o : Option Case) (x : Item) → IsItemText s sc.parameters x → values_added s d es given normals o x ≡ values_added W d es given normals o x
    values_same o (ItemKv u) t = λ i. option_map_or (λ k. value_same k u t i) o []
    values_same o (ItemKf l) t = refl
    values_same o (ItemKw c) t = refl
    values_same o (ItemLcw x) t = refl

    regions_same : (x : Item) → IsItemText s sc.parameters x → regions_added s d es given x ≡ regions_added W d es given x
    regions_same (ItemLcw x) t =
        let y = normal_pattern d.kf (pattern_at given x) in
        let of : is_pattern s [] y ≡ true = normal_pattern_of s d.kf own (pattern_at given x) (pattern_kept s sc.parameters [] (term_at given) (term_at_keeps s sc.parameters given fit) x t) in
        λ i. cond (all_stable_same s none d m es w (fixed_terms y.slots) (pattern_terms y of) i) (record { pattern = y; listed = [] } ∷ []) []
    regions_same (ItemKf l) t = refl
    regions_same (ItemKw c) t = refl
    regions_same (ItemKv u) t = refl

    pub queries_same : (qs : List Query) → AreQueries s sc.parameters qs → list_all (λ q. answers s d (query_at given q)) qs ≡ list_all (λ q. answers W d (query_at given q)) qs
    queries_same qs a =
        all_same (λ q. answers s d (query_at given q)) (λ q. answers W d (query_at given q)) qs
        (each_weaker (λ (q : Query). IsPlainText s sc.parameters q.asks) (λ q. answers s d (query_at given q) ≡ answers W d (query_at given q)) (λ q t. answers_same s none d m (query_at given q) (put_plain s none sc.parameters given fit q.asks t)) qs a)

    abbrev IsAddText : Add → Type 0
    IsAddText a = AreQueries s sc.parameters a.given × IsItemText s sc.parameters a.item

    applied_same : filter (is_applied_in s d given) sc.adds ≡ filter (is_applied_in W d given) sc.adds
    applied_same =
        filter_same (is_applied_in s d given) (is_applied_in W d given) sc.adds (each_weaker IsAddText (λ a. is_applied_in s d given a ≡ is_applied_in W d given a) (λ a t. queries_same a.given t.0) sc.adds text.adds)

    -- what the adds give
    pub gives_same : {Y : Type 0} (f g : Add → List Y) → ((a : Add) → IsItemText s sc.parameters a.item → f a ≡ g a) → flat_map f (filter (is_applied_in s d given) sc.adds) ≡ flat_map g (filter (is_applied_in W d given) sc.adds)
    gives_same f g k =
        flat_map_same f g (filter (is_applied_in s d given) sc.adds) (each_weaker IsAddText (λ a. f a ≡ g a) (λ a t. k a t.1) (filter (is_applied_in s d given) sc.adds) (each_kept IsAddText (is_applied_in s d given) sc.adds text.adds))
        ∙ ap (flat_map g) applied_same

module _ (s : Signature) (none : Each (λ o. o ≡ None) s.parents) (sc : Schema) (text : IsSchemaText s sc) (given : List Inner) (fit : all_fit (inner_fits s []) sc.parameters given ≡ true) (d : Five) (m : IsOfFirst s d) where
  abbrev Z : Signature
  Z = B s none

  abbrev deeds : List Effect
  deeds = map (effect_at given) sc.effects

  w : Each (IsFirstEffect s none) deeds
  w = put_effects_first s none sc text given fit

  pub progressed_same : progressed s d sc given ≡ progressed Z d sc given
  unfolding progressed
  progressed_same =
      let normals = map (inner_normal d.kf) given in
      let kept = filter_same (λ l. not (spoils s d deeds l)) (λ l. not (spoils Z d deeds l)) d.kf (each_weaker (L s) (λ l. not (spoils s d deeds l) ≡ not (spoils Z d deeds l)) (λ l h. ap not (spoils_same s none d m deeds w l h)) d.kf m.typed.of.known) in
      let formulas = filter_same (is_untouched s d deeds) (is_untouched Z d deeds) d.kw (each_weaker (Each (L s)) (λ c. is_untouched s d deeds c ≡ is_untouched Z d deeds c) (untouched_same s none d m deeds w) d.kw m.typed.of.whether) in
      let groups = filter_same (is_untouched s d deeds) (is_untouched Z d deeds) d.kx (each_weaker (Each (L s)) (λ c. is_untouched s d deeds c ≡ is_untouched Z d deeds c) (untouched_same s none d m deeds w) d.kx m.typed.of.groups) in
      let values = filter_same (is_stable s d deeds) (is_stable Z d deeds) d.kv (each_weaker (T s) (λ t. is_stable s d deeds t ≡ is_stable Z d deeds t) (stable_same s none d m deeds w) d.kv m.typed.of.values) in
      let literals_given = gives_same s none d m deeds w sc text given fit (λ a. literals_added s d deeds given sc a a.item) (λ a. literals_added Z d deeds given sc a a.item) (λ a t. literals_same s none d m deeds w sc text given fit a a.item t) in
      let formulas_given = gives_same s none d m deeds w sc text given fit (λ a. formulas_added s d deeds given normals (case_of sc a) a.item) (λ a. formulas_added Z d deeds given normals (case_of sc a) a.item) (λ a t. formulas_same s none d m deeds w sc text given fit (case_of sc a) a.item t) in
      let values_given = gives_same s none d m deeds w sc text given fit (λ a. values_added s d deeds given normals (case_of sc a) a.item) (λ a. values_added Z d deeds given normals (case_of sc a) a.item) (λ a t. values_same s none d m deeds w sc text given fit (case_of sc a) a.item t) in
      let regions_given = gives_same s none d m deeds w sc text given fit (λ a. regions_added s d deeds given a.item) (λ a. regions_added Z d deeds given a.item) (λ a t. regions_same s none d m deeds w sc text given fit a.item t) in
      λ i. record {
        kf = added literal_cmp (kept i) (literals_given i);
        kw = added conj_cmp (formulas i) (formulas_given i);
        kv = added term_cmp (values i) (values_given i);
        kx = groups i;
        lcw = added entry_cmp (set_of entry_cmp (entries_same s none d m deeds w i)) (regions_given i);
      }

  -- ---- each region lists atoms of its own predicate

  widened_lists : (x : Pattern) (rest : List Effect) (listed out : List Atom) → Each (λ a. a.predicate ≡ x.predicate) listed → widened s d deeds x rest listed ≡ Some out → Each (λ a. a.predicate ≡ x.predicate) out
  widened_lists x [] listed out h e = subst (Each (λ a. a.predicate ≡ x.predicate)) (same_Some listed out e) h
  widened_lists x (f ∷ rest) listed out h e =
      option_and_then_some (widened s d deeds x rest) (cond (may_fire s d f) (widened_by s d deeds x f.target listed) (Some listed)) out e
      (λ next q k. widened_lists x rest next out
      (elim (may_fire s d f) as (λ b. ◌≡◌ {A = Option (List Atom)} (cond b (widened_by s d deeds x f.target listed) (Some listed)) (Some next) → Each (λ a. a.predicate ≡ x.predicate) next) [
        | true ↦ λ r. by_target f.target next r
        | false ↦ λ r. subst (Each (λ a. a.predicate ≡ x.predicate)) (same_Some listed next r) h
      ] q) k)
    where
      by_target : (to : Target) (next : List Atom) → widened_by s d deeds x to listed ≡ Some next → Each (λ a. a.predicate ≡ x.predicate) next
      by_target (Set a) next r =
          elim ((a.predicate == x.predicate) && not (some_fixed_differ s d.kf x.slots a.arguments)) as (λ b. ((a.predicate == x.predicate) && not (some_fixed_differ s d.kf x.slots a.arguments)) ≡ b → ◌≡◌ {A = Option (List Atom)} (cond b (cond (are_stable s d deeds (map (normal d.kf) a.arguments)) (Some (insert_in atom_cmp (normal_atom d.kf a) listed)) None) (Some listed)) (Some next) → Each (λ a. a.predicate ≡ x.predicate) next) [
            | true ↦ λ q k. let c = cond_some (are_stable s d deeds (map (normal d.kf) a.arguments)) (insert_in atom_cmp (normal_atom d.kf a) listed) next k in
                subst (Each (λ a. a.predicate ≡ x.predicate)) c.1 (each_insert_in (λ a. a.predicate ≡ x.predicate) atom_cmp (normal_atom d.kf a) listed (Rattle.std.proofs.lemmas.Bool.eqb-true a.predicate x.predicate (and_parts (a.predicate == x.predicate) _ q).0) h)
            | false ↦ λ q k. subst (Each (λ a. a.predicate ≡ x.predicate)) (same_Some listed next k) h
          ] refl r
      by_target (Unset a) next r = subst (Each (λ a. a.predicate ≡ x.predicate)) (same_Some listed next r) h
      by_target (Clear y) next r = subst (Each (λ a. a.predicate ≡ x.predicate)) (same_Some listed next r) h
      by_target (Assign g ts value) next r = subst (Each (λ a. a.predicate ≡ x.predicate)) (same_Some listed next r) h

  entry_lists : (r e : Entry) → ListsItsOwn r → kept_entry s d deeds r ≡ Some e → ListsItsOwn e
  entry_lists r e h k =
      elim (are_stable s d deeds (entry_terms r)) as (λ b. ◌≡◌ {A = Option Entry} (cond b (option_map (λ listed. let x : Entry = record { pattern = r.pattern; listed = listed } in x) (widened s d deeds r.pattern deeds r.listed)) None) (Some e) → ListsItsOwn e) [
        | true ↦ elim (widened s d deeds r.pattern deeds r.listed) as (λ o. widened s d deeds r.pattern deeds r.listed ≡ o → ◌≡◌ {A = Option Entry} (option_map (λ listed. let x : Entry = record { pattern = r.pattern; listed = listed } in x) o) (Some e) → ListsItsOwn e) [
          | None ↦ λ q j. absurd (none-some e j)
          | Some out ↦ λ q j. subst ListsItsOwn (same_Some (record { pattern = r.pattern; listed = out }) e j) (widened_lists r.pattern deeds r.listed out h q)
        ] refl
        | false ↦ λ j. absurd (none-some e j)
      ] k

  new_lists : (x : Item) → Each ListsItsOwn (regions_added s d deeds given x)
  new_lists (ItemLcw x) =
      let y = normal_pattern d.kf (pattern_at given x) in
      elim (are_stable s d deeds (fixed_terms y.slots)) as (λ b. Each ListsItsOwn (cond b (record { pattern = y; listed = [] } ∷ []) [])) [ true ↦ (tt, tt) | false ↦ tt ]
  new_lists (ItemKf l) = tt
  new_lists (ItemKw c) = tt
  new_lists (ItemKv u) = tt

  progressed_regions : Each ListsItsOwn (progressed s d sc given).lcw
  unfolding progressed
  progressed_regions =
      each_added ListsItsOwn entry_cmp (set_of entry_cmp (filter_map (kept_entry s d deeds) d.lcw)) (flat_map (λ a. regions_added s d deeds given a.item) (filter (is_applied_in s d given) sc.adds))
      (each_set_of ListsItsOwn entry_cmp (filter_map (kept_entry s d deeds) d.lcw) (each_filter_map ListsItsOwn (kept_entry s d deeds) d.lcw (λ r e i k. entry_lists r e (each_in ListsItsOwn d.lcw r m.regions i) k)))
      (each_flat_map ListsItsOwn (λ a. regions_added s d deeds given a.item) (filter (is_applied_in s d given) sc.adds) (λ a i. new_lists a.item))

  pub progressed_first : IsOfFirst s (progressed s d sc given)
  progressed_first = record { typed = progressed_one_typed s none sc text given fit d m.typed; regions = progressed_regions }
