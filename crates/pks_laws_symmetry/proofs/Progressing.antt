-- An action whose text is fixed makes images of images.
use Rattle.std.proofs.Common.{◌≡◌, ◌⊎◌, ◌&&◌, ◌<◌, ◌==◌, ℕ, Bool, true, false, cond, not, List, [], ◌∷◌, map, filter, filter_map, flat_map, length, Option, Some, None, option_and_then, option_map, refl, sym, ap, ◌∙◌, subst, inl, inr, ⊎_elim}
use Rattle.std.specs.List.{list_all}
use Rattle.std.proofs.lemmas.List.{length-map}
use Rattle.std.proofs.lemmas.List.Folds.{list_all-append}
use Rattle.std.proofs.lemmas.Option.{none-some, same_Some}
use Rattle.pks_terms.specs.Sets.{Each, IsIn, IsOrdered, insert_in, added, set_of}
use Rattle.pks_terms.specs.Syntax.{Object, Parameter, Apply, Inner, Term, term_of, Relation, Named, Equality, Literal, Atom, Pattern, negated}
use Rattle.pks_terms.specs.Orders.{term_cmp, literal_cmp, conj_cmp, atom_cmp, literal, equation, arguments_of}
use Rattle.pks_terms.specs.Totality.{term_cmp_total, literal_cmp_total, conj_cmp_total, atom_cmp_total, entry_cmp_total}
use Rattle.pks_terms.specs.Signatures.{Signature}
use Rattle.pks_terms.specs.Databases.{Entry, entry_cmp, Five, normal, inner_normal, normal_literal}
use Rattle.pks_terms.specs.Closure.{in_sequence, normal_conj, normal_atom, normal_pattern}
use Rattle.pks_terms.specs.Queries.{Query, answers}
use Rattle.pks_terms.specs.Actions.{Target, Set, Unset, Clear, Assign, Effect, Item, ItemKf, ItemKw, ItemKv, ItemLcw, Add, Schema, argument, inner_at, term_at, literal_at, conj_at, pattern_at, effect_at, query_at}
use Rattle.pks_terms.specs.Moments.{IsInOrder, AreInOrder}
use Rattle.pks_terms.specs.Spoiling.{may_fire, some_fixed_differ, is_stable, are_stable, spoils}
use Rattle.pks_terms.specs.Justified.{Case, case_of}
use Rattle.pks_terms.specs.Progress.{is_untouched, fixed_terms, entry_terms, widened_by, widened, kept_entry, parameters_in, form_parameters, conj_parameters, arguments_stable, place_at, has_stable_arguments, has_place, added_equation, if_stable, added_literal, literals_added, is_sensed, added_formula, added_value, added_region, is_applied_in, formulas_added, values_added, regions_added, progressed}
use Rattle.pks_terms.proofs.ListLaws.{each_in, each_of, each_weaker, each_kept, each_flat_map, each_filter_map, each_added, each_set_of, all_same, all_set_of, in_map, in_mapped, in_flat_mapped, in_filtered, in_filter}
use Rattle.pks_terms.proofs.OrderLaws.{term_cmp_tells, literal_cmp_tells, conj_cmp_tells, atom_cmp_tells, entry_cmp_tells}
use Rattle.pks_terms.proofs.SetLaws.{ordered_insert, ordered_added, ordered_set_of, ordered_filter, in_inserted, inserted_in, in_added, added_in, in_set_of, set_of_in, same_members}
use Rattle.pks_laws.proofs.Least.{in_flat, in_filter_mapped, in_filter_map}
use Rattle.pks_laws.proofs.SidesInOrder.{progressed_ordered}
use Rattle.pks_laws_symmetry.specs.Renamed.{renamed_inner, renamed_term, renamed_literal, renamed_conj, renamed_group, renamed_atom, renamed_pattern, renamed_entry, GoesTo, AreImages}
use Rattle.pks_laws_symmetry.specs.Fixed.{IsFixedInner, IsFixedTerm, IsFixedLiteral, IsFixedConj, IsFixedPattern, IsFixedPlain, AreFixedQueries, IsFixedItem, IsFixedSchema}
use Rattle.pks_laws_symmetry.proofs.Mirrors.{Mirror, IsNeat, renamed_effect, renamed_target}
use Rattle.pks_laws_symmetry.proofs.Permuted.{permuted_all, sequence_permuted}
use Rattle.pks_laws_symmetry.proofs.Images.{image_negated, image_equation, image_term_of, image_all, inners_back, argument_image, inner_at_image, term_at_image, literal_at_image, conj_at_image, pattern_at_image, query_at_image, effects_at_image, fixed_turned}
use Rattle.pks_laws_symmetry.proofs.Reading.{mirror_turned, inner_image, normal_image, form_image, conj_image}
use Rattle.pks_laws_symmetry.proofs.Answering.{forms_set, answers_image}
use Rattle.pks_laws_symmetry.proofs.Acting.{term_ofs_image, fire_image, fixed_image, stable_image, stables_image, stable_sides_image, spoils_image}

-- ---- lists

map_cond : {X Y : Type 0} (h : X → Y) (b : Bool) (x : X) → cond b (h x ∷ []) [] ≡ map h (cond b (x ∷ []) [])
map_cond h true x = refl
map_cond h false x = refl

all_flat : {X Y : Type 0} (q : Y → Bool) (h : X → List Y) (xs : List X) → list_all q (flat_map h xs) ≡ list_all (λ x. list_all q (h x)) xs
all_flat q h [] = refl
all_flat q h (x ∷ xs) = list_all-append q (h x) (flat_map h xs) ∙ ap (λ b. list_all q (h x) && b) (all_flat q h xs)

all_mapped : {X Y : Type 0} (p : Y → Bool) (q : X → Bool) (h : X → Y) (xs : List X) → Each (λ x. p (h x) ≡ q x) xs → list_all p (map h xs) ≡ list_all q xs
all_mapped p q h [] a = refl
all_mapped p q h (x ∷ xs) a = λ i. a.0 i && all_mapped p q h xs a.1 i

-- ---- parameters of a fixed text

module _ (f : ℕ → ℕ) (n : ℕ) where
  nothing_bound : (ds : List ℕ) → Each (λ i. i < n) (flat_map (λ (d : ℕ). let none : List ℕ = [] in none) ds)
  nothing_bound [] = tt
  nothing_bound (d ∷ ds) = nothing_bound ds

  inner_bound : (t : Inner) → IsFixedInner f n t → Each (λ i. i < n) (form_parameters (λ d. []) t)
  inner_bound (Object d) x = tt
  inner_bound (Parameter i) x = (x, tt)
  inner_bound (Apply h ds) x = nothing_bound ds

  term_bound : (t : Term) → IsFixedTerm f n t → Each (λ i. i < n) (parameters_in t)
  term_bound (Object d) x = tt
  term_bound (Parameter i) x = (x, tt)
  term_bound (Apply h ts) x = each_flat_map (λ i. i < n) (form_parameters (λ d. [])) ts (λ t j. inner_bound t (each_in (IsFixedInner f n) ts t x j))

  conj_bound : (c : List Literal) → IsFixedConj f n c → Each (λ i. i < n) (conj_parameters c)
  conj_bound c x =
      each_flat_map (λ i. i < n) (λ (l : Literal). flat_map parameters_in l.arguments) c
      (λ l j. each_flat_map (λ i. i < n) parameters_in l.arguments (λ t k. term_bound t (each_in (IsFixedTerm f n) l.arguments t (each_in (IsFixedLiteral f n) c l x j) k)))

-- ---- regions

-- one more atom of a list
listed_image : (f : ℕ → ℕ) (a : Atom) (listed : List Atom) → insert_in atom_cmp (renamed_atom f a) (set_of atom_cmp (map (renamed_atom f) listed)) ≡ set_of atom_cmp (map (renamed_atom f) (insert_in atom_cmp a listed))
listed_image f a listed =
    let old : List Atom = map (renamed_atom f) listed in
    let new : List Atom = map (renamed_atom f) (insert_in atom_cmp a listed) in
    let image : Atom = renamed_atom f a in
    same_members atom_cmp_total atom_cmp_tells (insert_in atom_cmp image (set_of atom_cmp old)) (set_of atom_cmp new)
    (ordered_insert atom_cmp_total atom_cmp_tells image (set_of atom_cmp old) (ordered_set_of atom_cmp_total atom_cmp_tells old))
    (ordered_set_of atom_cmp_total atom_cmp_tells new)
    (λ z i. set_of_in atom_cmp_total atom_cmp_tells new z
    (⊎_elim
    (λ q. subst (λ y. IsIn y new) q (in_map (renamed_atom f) (insert_in atom_cmp a listed) a (inserted_in atom_cmp_total atom_cmp_tells a listed a (inl refl))))
    (λ j. let r = in_mapped (renamed_atom f) listed z (in_set_of atom_cmp_total atom_cmp_tells old z j) in
    subst (λ y. IsIn y new) r.2 (in_map (renamed_atom f) (insert_in atom_cmp a listed) r.0 (inserted_in atom_cmp_total atom_cmp_tells a listed r.0 (inr r.1))))
    (in_inserted atom_cmp_total atom_cmp_tells image (set_of atom_cmp old) z i)))
    (λ z i.
    let r = in_mapped (renamed_atom f) (insert_in atom_cmp a listed) z (in_set_of atom_cmp_total atom_cmp_tells new z i) in
    inserted_in atom_cmp_total atom_cmp_tells image (set_of atom_cmp old) z
    (⊎_elim
    (λ q. inl (ap (renamed_atom f) q ∙ r.2))
    (λ j. inr (set_of_in atom_cmp_total atom_cmp_tells old z (subst (λ y. IsIn y old) r.2 (in_map (renamed_atom f) listed r.0 j))))
    (in_inserted atom_cmp_total atom_cmp_tells a listed r.0 r.1)))

fixed_terms_image : (f : ℕ → ℕ) (ss : List (Option Term)) → fixed_terms (map (option_map (renamed_term f)) ss) ≡ map (renamed_term f) (fixed_terms ss)
fixed_terms_image f [] = refl
fixed_terms_image f (None ∷ ss) = fixed_terms_image f ss
fixed_terms_image f (Some t ∷ ss) = ap (λ ts. renamed_term f t ∷ ts) (fixed_terms_image f ss)

abbrev renamed_list : (ℕ → ℕ) → List Atom → List Atom
renamed_list f listed = set_of atom_cmp (map (renamed_atom f) listed)

-- the databases after effects es
abbrev progressed_by : Signature → Five → List Effect → Schema → List Inner → Five
progressed_by s d es sc given =
    let normals = map (inner_normal d.kf) given in
    let adds = filter (is_applied_in s d given) sc.adds in
    record {
      kf = added literal_cmp (filter (λ l. not (spoils s d es l)) d.kf) (flat_map (λ a. literals_added s d es given sc a a.item) adds);
      kw = added conj_cmp (filter (is_untouched s d es) d.kw) (flat_map (λ a. formulas_added s d es given normals (case_of sc a) a.item) adds);
      kv = added term_cmp (filter (is_stable s d es) d.kv) (flat_map (λ a. values_added s d es given normals (case_of sc a) a.item) adds);
      kx = filter (is_untouched s d es) d.kx;
      lcw = added entry_cmp (set_of entry_cmp (filter_map (kept_entry s d es) d.lcw)) (flat_map (λ a. regions_added s d es given a.item) adds);
    }

module _ (s : Signature) (f g : ℕ → ℕ) (d e : Five) (m : Mirror s f g d e) where
  -- ---- atoms and patterns in normal form

  terms_form_image : (ts : List Term) → map (normal e.kf) (map (renamed_term f) ts) ≡ map (renamed_term f) (map (normal d.kf) ts)
  terms_form_image [] = refl
  terms_form_image (t ∷ ts) = λ i. normal_image s f g d e m t i ∷ terms_form_image ts i

  atom_form_image : (a : Atom) → normal_atom e.kf (renamed_atom f a) ≡ renamed_atom f (normal_atom d.kf a)
  atom_form_image a = λ i. record { predicate = a.predicate; arguments = terms_form_image a.arguments i }

  slots_form_image : (ss : List (Option Term)) → map (option_map (normal e.kf)) (map (option_map (renamed_term f)) ss) ≡ map (option_map (renamed_term f)) (map (option_map (normal d.kf)) ss)
  slots_form_image [] = refl
  slots_form_image (None ∷ ss) = ap (λ (us : List (Option Term)). None ∷ us) (slots_form_image ss)
  slots_form_image (Some t ∷ ss) = λ i. Some (normal_image s f g d e m t i) ∷ slots_form_image ss i

  pattern_form_image : (x : Pattern) → normal_pattern e.kf (renamed_pattern f x) ≡ renamed_pattern f (normal_pattern d.kf x)
  pattern_form_image x = λ i. record { predicate = x.predicate; slots = slots_form_image x.slots i }

  module _ (es : List Effect) where
    abbrev images : List Effect
    images = map (renamed_effect f) es

    -- ---- formulas, groups and regions that are kept

    denied_spoils : (l : Literal) → spoils s e images (negated (renamed_literal f l)) ≡ spoils s d es (negated l)
    denied_spoils l = ap (spoils s e images) (sym (image_negated f l)) ∙ spoils_image s f g d e m es (negated l)

    untouched_image : (c : List Literal) → is_untouched s e images (renamed_conj f c) ≡ is_untouched s d es c
    untouched_image c =
        image_all f (λ l. not (spoils s e images l) && not (spoils s e images (negated l))) c
        ∙ (λ i. list_all (λ l. not (spoils_image s f g d e m es l i) && not (denied_spoils l i)) c)

    group_untouched_image : (x : List Literal) → is_untouched s e images (renamed_group f x) ≡ is_untouched s d es x
    group_untouched_image x =
        let ls : List Literal = map (renamed_literal f) x in
        sym (permuted_all (λ l. not (spoils s e images l) && not (spoils s e images (negated l))) ls (in_sequence ls) (sequence_permuted ls))
        ∙ all_mapped (λ l. not (spoils s e images l) && not (spoils s e images (negated l))) (λ l. not (spoils s d es l) && not (spoils s d es (negated l))) (renamed_literal f) x
        (each_of (λ l. (not (spoils s e images (renamed_literal f l)) && not (spoils s e images (negated (renamed_literal f l)))) ≡ (not (spoils s d es l) && not (spoils s d es (negated l)))) x (λ l j i. not (spoils_image s f g d e m es l i) && not (denied_spoils l i)))

    widened_by_image : (x : Pattern) (y : Target) (listed : List Atom) → widened_by s e images (renamed_pattern f x) (renamed_target f y) (renamed_list f listed) ≡ option_map (renamed_list f) (widened_by s d es x y listed)
    widened_by_image x (Set a) listed =
        (λ i. cond ((a.predicate == x.predicate) && not (fixed_image s f g d e m x.slots a.arguments i))
        (cond (forms_stable i) (Some (insert_in atom_cmp (atom_form_image a i) (renamed_list f listed))) None) (Some (renamed_list f listed)))
        ∙ go ((a.predicate == x.predicate) && not (some_fixed_differ s d.kf x.slots a.arguments)) (are_stable s d es (map (normal d.kf) a.arguments))
      where
        forms_stable : are_stable s e images (map (normal e.kf) (map (renamed_term f) a.arguments)) ≡ are_stable s d es (map (normal d.kf) a.arguments)
        forms_stable = ap (are_stable s e images) (terms_form_image a.arguments) ∙ stables_image s f g d e m es (map (normal d.kf) a.arguments)

        go : (b c : Bool) → cond b (cond c (Some (insert_in atom_cmp (renamed_atom f (normal_atom d.kf a)) (renamed_list f listed))) None) (Some (renamed_list f listed))
            ≡ option_map (renamed_list f) (cond b (cond c (Some (insert_in atom_cmp (normal_atom d.kf a) listed)) None) (Some listed))
        go true true = ap Some (listed_image f (normal_atom d.kf a) listed)
        go true false = refl
        go false c = refl
    widened_by_image x (Unset a) listed = refl
    widened_by_image x (Clear y) listed = refl
    widened_by_image x (Assign h ts v) listed = refl

    widened_image : (x : Pattern) (rest : List Effect) (listed : List Atom) → widened s e images (renamed_pattern f x) (map (renamed_effect f) rest) (renamed_list f listed) ≡ option_map (renamed_list f) (widened s d es x rest listed)
    widened_image x [] listed = refl
    widened_image x (y ∷ rest) listed =
        (λ i. option_and_then (widened s e images (renamed_pattern f x) (map (renamed_effect f) rest)) (cond (fire_image s f g d e m y i) (widened_by_image x y.target listed i) (Some (renamed_list f listed))))
        ∙ go (may_fire s d y) (widened_by s d es x y.target listed) (λ ls. widened_image x rest ls)
      where
        after : (o : Option (List Atom)) → ((ls : List Atom) → widened s e images (renamed_pattern f x) (map (renamed_effect f) rest) (renamed_list f ls) ≡ option_map (renamed_list f) (widened s d es x rest ls))
            → option_and_then (widened s e images (renamed_pattern f x) (map (renamed_effect f) rest)) (option_map (renamed_list f) o) ≡ option_map (renamed_list f) (option_and_then (widened s d es x rest) o)
        after None later = refl
        after (Some ls) later = later ls

        go : (b : Bool) (o : Option (List Atom)) → ((ls : List Atom) → widened s e images (renamed_pattern f x) (map (renamed_effect f) rest) (renamed_list f ls) ≡ option_map (renamed_list f) (widened s d es x rest ls))
            → option_and_then (widened s e images (renamed_pattern f x) (map (renamed_effect f) rest)) (cond b (option_map (renamed_list f) o) (Some (renamed_list f listed))) ≡ option_map (renamed_list f) (option_and_then (widened s d es x rest) (cond b o (Some listed)))
        go true o later = after o later
        go false o later = later listed

    entry_terms_image : (r : Entry) → are_stable s e images (entry_terms (renamed_entry f r)) ≡ are_stable s d es (entry_terms r)
    entry_terms_image r =
        let q = is_stable s e images in
        let p = is_stable s d es in
        list_all-append q (fixed_terms (renamed_pattern f r.pattern).slots) (flat_map (λ (a : Atom). a.arguments) (renamed_list f r.listed))
        ∙ (λ i. slots_stable i && atoms_stable i)
        ∙ sym (list_all-append p (fixed_terms r.pattern.slots) (flat_map (λ (a : Atom). a.arguments) r.listed))
      where
        slots_stable : are_stable s e images (fixed_terms (renamed_pattern f r.pattern).slots) ≡ are_stable s d es (fixed_terms r.pattern.slots)
        slots_stable = ap (are_stable s e images) (fixed_terms_image f r.pattern.slots) ∙ stables_image s f g d e m es (fixed_terms r.pattern.slots)

        atoms_stable : are_stable s e images (flat_map (λ (a : Atom). a.arguments) (renamed_list f r.listed)) ≡ are_stable s d es (flat_map (λ (a : Atom). a.arguments) r.listed)
        atoms_stable =
            all_flat (is_stable s e images) (λ (a : Atom). a.arguments) (renamed_list f r.listed)
            ∙ all_set_of atom_cmp atom_cmp_tells (λ (a : Atom). are_stable s e images a.arguments) (map (renamed_atom f) r.listed)
            ∙ all_mapped (λ (a : Atom). are_stable s e images a.arguments) (λ (a : Atom). are_stable s d es a.arguments) (renamed_atom f) r.listed (each_of (λ (a : Atom). are_stable s e images (renamed_atom f a).arguments ≡ are_stable s d es a.arguments) r.listed (λ a j. stables_image s f g d e m es a.arguments))
            ∙ sym (all_flat (is_stable s d es) (λ (a : Atom). a.arguments) r.listed)

    entry_image : (r : Entry) → kept_entry s e images (renamed_entry f r) ≡ option_map (renamed_entry f) (kept_entry s d es r)
    entry_image r =
        (λ i. cond (entry_terms_image r i) (option_map (λ listed. record { pattern = renamed_pattern f r.pattern; listed = listed }) (widened_image r.pattern es r.listed i)) None)
        ∙ go (are_stable s d es (entry_terms r)) (widened s d es r.pattern es r.listed)
      where
        go : (b : Bool) (o : Option (List Atom))
            → cond b (option_map (λ listed. let q : Entry = record { pattern = renamed_pattern f r.pattern; listed = listed } in q) (option_map (renamed_list f) o)) None ≡ option_map (renamed_entry f) (cond b (option_map (λ listed. record { pattern = r.pattern; listed = listed }) o) None)
        go true None = refl
        go true (Some ls) = refl
        go false o = refl

  -- ---- what the adds give

  module _ (es : List Effect) (n : ℕ) (given : List Inner) (enough : length given ≡ n) where
    abbrev acts : List Effect
    acts = map (renamed_effect f) es

    abbrev moved : List Inner
    moved = map (renamed_inner f) given

    normals_image : (ts : List Inner) → map (inner_normal e.kf) (map (renamed_inner f) ts) ≡ map (renamed_inner f) (map (inner_normal d.kf) ts)
    normals_image [] = refl
    normals_image (t ∷ ts) = λ i. inner_image s f g d e m t i ∷ normals_image ts i

    applied_image : (a : Add) → AreFixedQueries f n a.given → is_applied_in s e moved a ≡ is_applied_in s d given a
    applied_image a x =
        all_same (λ q. answers s e (query_at moved q)) (λ q. answers s d (query_at given q)) a.given
        (each_of (λ q. answers s e (query_at moved q) ≡ answers s d (query_at given q)) a.given
        (λ q j. ap (answers s e) (sym (query_at_image f n given enough q (each_in (λ (q : Query). IsFixedPlain f n q.asks) a.given q x j))) ∙ answers_image s f g d e m (query_at given q)))

    -- ---- places and values

    arguments_image : (ts : List Inner) → Each (IsFixedInner f n) ts → map (λ t. inner_normal e.kf (inner_at moved t)) ts ≡ map (renamed_inner f) (map (λ t. inner_normal d.kf (inner_at given t)) ts)
    arguments_image [] x = refl
    arguments_image (t ∷ ts) x = λ i. (ap (inner_normal e.kf) (sym (inner_at_image f n given enough t x.0)) ∙ inner_image s f g d e m (inner_at given t)) i ∷ arguments_image ts x.1 i

    place_image : (t : Term) → IsFixedTerm f n t → place_at e.kf moved t ≡ renamed_term f (place_at d.kf given t)
    place_image (Object o) x = refl
    place_image (Parameter k) x = refl
    place_image (Apply h ts) x = ap (λ us. Apply h us) (arguments_image ts x)

    stable_place_image : (t : Term) → IsFixedTerm f n t → has_stable_arguments s e acts (place_at e.kf moved t) ≡ has_stable_arguments s d es (place_at d.kf given t)
    stable_place_image t x =
        let us : List Inner = arguments_of (place_at d.kf given t) in
        ap (has_stable_arguments s e acts) (place_image t x) ∙ ap (are_stable s e acts) (term_ofs_image f us) ∙ stables_image s f g d e m es (map term_of us)

    value_image : (t : Term) → IsFixedTerm f n t → normal e.kf (term_at moved t) ≡ renamed_term f (normal d.kf (term_at given t))
    value_image t x = ap (normal e.kf) (sym (term_at_image f n given enough t x)) ∙ normal_image s f g d e m (term_at given t)

    -- ---- literals

    equation_image : (sc : Schema) (b : Add) (l : Literal) (ts : List Term) → Each (IsFixedTerm f n) ts → added_equation s e acts moved sc b l ts ≡ map (renamed_literal f) (added_equation s d es given sc b l ts)
    equation_image sc b l (t ∷ u ∷ []) x =
        let to : Term = place_at d.kf given t in
        let value : Term = normal d.kf (term_at given u) in
        let stable : is_stable s e acts (normal e.kf (term_at moved u)) ≡ is_stable s d es value = ap (is_stable s e acts) (value_image u x.1.0) ∙ stable_image s f g d e m es value in
        (λ i. cond (has_place sc b l t && (stable_place_image t x.0 i && stable i)) (equation (place_image t x.0 i) (value_image u x.1.0 i) ∷ []) [])
        ∙ (λ i. cond (has_place sc b l t && (has_stable_arguments s d es to && is_stable s d es value)) (sym (image_equation f to value) i ∷ []) [])
        ∙ map_cond (renamed_literal f) (has_place sc b l t && (has_stable_arguments s d es to && is_stable s d es value)) (equation to value)
    equation_image sc b l [] x = refl
    equation_image sc b l (t ∷ []) x = refl
    equation_image sc b l (t ∷ u ∷ v ∷ ts) x = refl

    literal_stable_image : (l : Literal) → are_stable s e acts (renamed_literal f l).arguments ≡ are_stable s d es l.arguments
    unfolding renamed_literal literal
    literal_stable_image l = stable_sides_image s f g d e m es l.relation l.arguments

    literal_form_image : (l : Literal) → IsFixedLiteral f n l → normal_literal e.kf (literal_at moved l) ≡ renamed_literal f (normal_literal d.kf (literal_at given l))
    literal_form_image l x = ap (normal_literal e.kf) (sym (literal_at_image f n given enough l x)) ∙ form_image s f g d e m (literal_at given l)

    literal_added_image : (sc : Schema) (b : Add) (l : Literal) (r : Relation) → IsFixedLiteral f n l → added_literal s e acts moved sc b l r ≡ map (renamed_literal f) (added_literal s d es given sc b l r)
    literal_added_image sc b l (Named p) x =
        let k : Literal = normal_literal d.kf (literal_at given l) in
        ap (if_stable s e acts) (literal_form_image l x) ∙ (λ i. cond (literal_stable_image k i) (renamed_literal f k ∷ []) []) ∙ map_cond (renamed_literal f) (are_stable s d es k.arguments) k
    literal_added_image sc b l Equality x = equation_image sc b l l.arguments x

    literals_added_image : (sc : Schema) (b : Add) (y : Item) → IsFixedItem f n y → literals_added s e acts moved sc b y ≡ map (renamed_literal f) (literals_added s d es given sc b y)
    literals_added_image sc b (ItemKf l) x = literal_added_image sc b l l.relation x
    literals_added_image sc b (ItemKw c) x = refl
    literals_added_image sc b (ItemKv t) x = refl
    literals_added_image sc b (ItemLcw z) x = refl

    -- ---- formulas and terms

    abbrev forms : List Inner
    forms = map (inner_normal d.kf) given

    enough_forms : length forms ≡ n
    enough_forms = length-map given (inner_normal d.kf) ∙ enough

    arguments_stable_image : (is : List ℕ) → Each (λ k. k < n) is → arguments_stable s e acts (map (renamed_inner f) forms) is ≡ arguments_stable s d es forms is
    arguments_stable_image is x =
        all_same (λ k. is_stable s e acts (term_of (argument (map (renamed_inner f) forms) k))) (λ k. is_stable s d es (term_of (argument forms k))) is
        (each_of (λ k. is_stable s e acts (term_of (argument (map (renamed_inner f) forms) k)) ≡ is_stable s d es (term_of (argument forms k))) is
        (λ k j.
        ap (λ t. is_stable s e acts (term_of t)) (sym (argument_image f n forms enough_forms k (each_in (λ k. k < n) is k x j)))
        ∙ ap (is_stable s e acts) (sym (image_term_of f (argument forms k)))
        ∙ stable_image s f g d e m es (term_of (argument forms k))))

    conj_form_image : (c : List Literal) → IsFixedConj f n c → normal_conj e.kf (conj_at moved c) ≡ renamed_conj f (normal_conj d.kf (conj_at given c))
    conj_form_image c x = ap (normal_conj e.kf) (sym (conj_at_image f n given enough c x)) ∙ conj_image s f g d e m (conj_at given c)

    conj_stable_image : (c : List Literal) → list_all (λ l. are_stable s e acts l.arguments) (renamed_conj f c) ≡ list_all (λ l. are_stable s d es l.arguments) c
    conj_stable_image c = image_all f (λ l. are_stable s e acts l.arguments) c ∙ (λ i. list_all (λ l. literal_stable_image l i) c)

    formula_image : (k : Case) (c : List Literal) → IsFixedConj f n c → added_formula s e acts moved (map (renamed_inner f) forms) k c ≡ map (renamed_conj f) (added_formula s d es given forms k c)
    formula_image k c x = go (is_sensed k)
      where
        sensed : cond (arguments_stable s e acts (map (renamed_inner f) forms) (conj_parameters c)) (conj_at (map (renamed_inner f) forms) c ∷ []) [] ≡ map (renamed_conj f) (cond (arguments_stable s d es forms (conj_parameters c)) (conj_at forms c ∷ []) [])
        sensed =
            (λ i. cond (arguments_stable_image (conj_parameters c) (conj_bound f n c x) i) (sym (conj_at_image f n forms enough_forms c x) i ∷ []) [])
            ∙ map_cond (renamed_conj f) (arguments_stable s d es forms (conj_parameters c)) (conj_at forms c)

        of_world : (let b = normal_conj e.kf (conj_at moved c) in cond (list_all (λ l. are_stable s e acts l.arguments) b) (b ∷ []) []) ≡ map (renamed_conj f) (let b = normal_conj d.kf (conj_at given c) in cond (list_all (λ l. are_stable s d es l.arguments) b) (b ∷ []) [])
        of_world =
            let b : List Literal = normal_conj d.kf (conj_at given c) in
            ap (λ b. cond (list_all (λ l. are_stable s e acts l.arguments) b) (b ∷ []) []) (conj_form_image c x)
            ∙ (λ i. cond (conj_stable_image b i) (renamed_conj f b ∷ []) [])
            ∙ map_cond (renamed_conj f) (list_all (λ l. are_stable s d es l.arguments) b) b

        go : (z : Bool)
            → cond z (cond (arguments_stable s e acts (map (renamed_inner f) forms) (conj_parameters c)) (conj_at (map (renamed_inner f) forms) c ∷ []) [])
            (let b = normal_conj e.kf (conj_at moved c) in cond (list_all (λ l. are_stable s e acts l.arguments) b) (b ∷ []) [])
            ≡ map (renamed_conj f)
            (cond z (cond (arguments_stable s d es forms (conj_parameters c)) (conj_at forms c ∷ []) [])
            (let b = normal_conj d.kf (conj_at given c) in cond (list_all (λ l. are_stable s d es l.arguments) b) (b ∷ []) []))
        go true = sensed
        go false = of_world

    term_image : (k : Case) (t : Term) → IsFixedTerm f n t → added_value s e acts moved (map (renamed_inner f) forms) k t ≡ map (renamed_term f) (added_value s d es given forms k t)
    term_image k t x = go (is_sensed k)
      where
        sensed : cond (arguments_stable s e acts (map (renamed_inner f) forms) (parameters_in t)) (term_at (map (renamed_inner f) forms) t ∷ []) [] ≡ map (renamed_term f) (cond (arguments_stable s d es forms (parameters_in t)) (term_at forms t ∷ []) [])
        sensed =
            (λ i. cond (arguments_stable_image (parameters_in t) (term_bound f n t x) i) (sym (term_at_image f n forms enough_forms t x) i ∷ []) [])
            ∙ map_cond (renamed_term f) (arguments_stable s d es forms (parameters_in t)) (term_at forms t)

        of_world : cond (has_stable_arguments s e acts (place_at e.kf moved t)) (place_at e.kf moved t ∷ []) [] ≡ map (renamed_term f) (cond (has_stable_arguments s d es (place_at d.kf given t)) (place_at d.kf given t ∷ []) [])
        of_world =
            (λ i. cond (stable_place_image t x i) (place_image t x i ∷ []) []) ∙ map_cond (renamed_term f) (has_stable_arguments s d es (place_at d.kf given t)) (place_at d.kf given t)

        go : (z : Bool)
            → cond z (cond (arguments_stable s e acts (map (renamed_inner f) forms) (parameters_in t)) (term_at (map (renamed_inner f) forms) t ∷ []) [])
            (cond (has_stable_arguments s e acts (place_at e.kf moved t)) (place_at e.kf moved t ∷ []) [])
            ≡ map (renamed_term f)
            (cond z (cond (arguments_stable s d es forms (parameters_in t)) (term_at forms t ∷ []) [])
            (cond (has_stable_arguments s d es (place_at d.kf given t)) (place_at d.kf given t ∷ []) []))
        go true = sensed
        go false = of_world

    formulas_added_image : (o : Option Case) (y : Item) → IsFixedItem f n y → formulas_added s e acts moved (map (inner_normal e.kf) moved) o y ≡ map (renamed_conj f) (formulas_added s d es given forms o y)
    formulas_added_image None (ItemKw c) x = refl
    formulas_added_image (Some k) (ItemKw c) x = ap (λ ns. added_formula s e acts moved ns k c) (normals_image given) ∙ formula_image k c x
    formulas_added_image o (ItemKf l) x = refl
    formulas_added_image o (ItemKv t) x = refl
    formulas_added_image o (ItemLcw z) x = refl

    values_added_image : (o : Option Case) (y : Item) → IsFixedItem f n y → values_added s e acts moved (map (inner_normal e.kf) moved) o y ≡ map (renamed_term f) (values_added s d es given forms o y)
    values_added_image None (ItemKv t) x = refl
    values_added_image (Some k) (ItemKv t) x = ap (λ ns. added_value s e acts moved ns k t) (normals_image given) ∙ term_image k t x
    values_added_image o (ItemKf l) x = refl
    values_added_image o (ItemKw c) x = refl
    values_added_image o (ItemLcw z) x = refl

    -- ---- regions

    region_image : (y : Pattern) → IsFixedPattern f n y → added_region s e acts moved y ≡ map (renamed_entry f) (added_region s d es given y)
    region_image y x =
        let z : Pattern = normal_pattern d.kf (pattern_at given y) in
        let same : normal_pattern e.kf (pattern_at moved y) ≡ renamed_pattern f z = ap (normal_pattern e.kf) (sym (pattern_at_image f n given enough y x)) ∙ pattern_form_image (pattern_at given y) in
        let stable : are_stable s e acts (fixed_terms (renamed_pattern f z).slots) ≡ are_stable s d es (fixed_terms z.slots) = ap (are_stable s e acts) (fixed_terms_image f z.slots) ∙ stables_image s f g d e m es (fixed_terms z.slots) in
        (λ i. cond (are_stable s e acts (fixed_terms (same i).slots)) (record { pattern = same i; listed = [] } ∷ []) [])
        ∙ (λ i. cond (stable i) (record { pattern = renamed_pattern f z; listed = [] } ∷ []) [])
        ∙ map_cond (renamed_entry f) (are_stable s d es (fixed_terms z.slots)) (record { pattern = z; listed = [] })

    regions_added_image : (y : Item) → IsFixedItem f n y → regions_added s e acts moved y ≡ map (renamed_entry f) (regions_added s d es given y)
    regions_added_image (ItemLcw z) x = region_image z x
    regions_added_image (ItemKf l) x = refl
    regions_added_image (ItemKw c) x = refl
    regions_added_image (ItemKv t) x = refl

    -- ---- all adds of an action

    adds_image : {X Y : Type 0} (adds : List Add) → Each (λ a. AreFixedQueries f n a.given × IsFixedItem f n a.item) adds → (r : X → Y) (p : Add → List X) (q : Add → List Y) → ((a : Add) → IsFixedItem f n a.item → q a ≡ map r (p a))
        → (z : X) → IsIn z (flat_map p (filter (is_applied_in s d given) adds)) → IsIn (r z) (flat_map q (filter (is_applied_in s e moved) adds))
    adds_image adds x r p q same z i =
        let o = in_flat_mapped p (filter (is_applied_in s d given) adds) z i in
        let j = in_filtered (is_applied_in s d given) adds o.0 o.1 in
        let w = each_in (λ (a : Add). AreFixedQueries f n a.given × IsFixedItem f n a.item) adds o.0 x j.0 in
        in_flat q (filter (is_applied_in s e moved) adds) o.0 (r z) (in_filter (is_applied_in s e moved) adds o.0 j.0 (applied_image o.0 w.0 ∙ j.1)) (subst (IsIn (r z)) (sym (same o.0 w.1)) (in_map r (p o.0) z o.2))

  -- ---- the action

  progressed_by_goes : (es : List Effect) (sc : Schema) (given : List Inner) → IsFixedSchema f sc → length given ≡ length sc.parameters
      → GoesTo f (progressed_by s d es sc given) (progressed_by s e (map (renamed_effect f) es) sc (map (renamed_inner f) given))
  progressed_by_goes es sc given x enough =
      let n = length sc.parameters in
      let acts : List Effect = map (renamed_effect f) es in
      let moved : List Inner = map (renamed_inner f) given in
      let here : List Add = filter (is_applied_in s d given) sc.adds in
      let there : List Add = filter (is_applied_in s e moved) sc.adds in
      let forms : List Inner = map (inner_normal d.kf) given in
      let forms_there : List Inner = map (inner_normal e.kf) moved in
      let literals : Add → List Literal = λ a. literals_added s d es given sc a a.item in
      let literals_there : Add → List Literal = λ a. literals_added s e acts moved sc a a.item in
      let formulas : Add → List (List Literal) = λ a. formulas_added s d es given forms (case_of sc a) a.item in
      let formulas_there : Add → List (List Literal) = λ a. formulas_added s e acts moved forms_there (case_of sc a) a.item in
      let terms : Add → List Term = λ a. values_added s d es given forms (case_of sc a) a.item in
      let terms_there : Add → List Term = λ a. values_added s e acts moved forms_there (case_of sc a) a.item in
      let regions : Add → List Entry = λ a. regions_added s d es given a.item in
      let regions_there : Add → List Entry = λ a. regions_added s e acts moved a.item in
      record {
        known = λ l i.
            let put = λ (k : IsIn (renamed_literal f l) (filter (λ l. not (spoils s e acts l)) e.kf) ⊎ IsIn (renamed_literal f l) (flat_map literals_there there)).
            added_in literal_cmp_total literal_cmp_tells (filter (λ l. not (spoils s e acts l)) e.kf) (flat_map literals_there there) (renamed_literal f l) k in
            ⊎_elim
            (λ j.
            let r = in_filtered (λ l. not (spoils s d es l)) d.kf l j in
            ⊎_elim (λ trivial. inl trivial) (λ k. inr (put (inl (in_filter (λ l. not (spoils s e acts l)) e.kf (renamed_literal f l) k (ap not (spoils_image s f g d e m es l) ∙ r.1))))) (m.images.there.known l r.0))
            (λ j. inr (put (inr (adds_image es n given enough sc.adds x.adds (renamed_literal f) literals literals_there (λ a w. literals_added_image es n given enough sc a a.item w) l j))))
            (in_added literal_cmp_total literal_cmp_tells (filter (λ l. not (spoils s d es l)) d.kf) (flat_map literals here) l i);
        whether = λ c i.
            added_in conj_cmp_total conj_cmp_tells (filter (is_untouched s e acts) e.kw) (flat_map formulas_there there) (renamed_conj f c)
            (⊎_elim
            (λ j. let r = in_filtered (is_untouched s d es) d.kw c j in inl (in_filter (is_untouched s e acts) e.kw (renamed_conj f c) (m.images.there.whether c r.0) (untouched_image es c ∙ r.1)))
            (λ j. inr (adds_image es n given enough sc.adds x.adds (renamed_conj f) formulas formulas_there (λ a w. formulas_added_image es n given enough (case_of sc a) a.item w) c j))
            (in_added conj_cmp_total conj_cmp_tells (filter (is_untouched s d es) d.kw) (flat_map formulas here) c i));
        values = λ t i.
            added_in term_cmp_total term_cmp_tells (filter (is_stable s e acts) e.kv) (flat_map terms_there there) (renamed_term f t)
            (⊎_elim
            (λ j. let r = in_filtered (is_stable s d es) d.kv t j in inl (in_filter (is_stable s e acts) e.kv (renamed_term f t) (m.images.there.values t r.0) (stable_image s f g d e m es t ∙ r.1)))
            (λ j. inr (adds_image es n given enough sc.adds x.adds (renamed_term f) terms terms_there (λ a w. values_added_image es n given enough (case_of sc a) a.item w) t j))
            (in_added term_cmp_total term_cmp_tells (filter (is_stable s d es) d.kv) (flat_map terms here) t i));
        groups = λ c i. let r = in_filtered (is_untouched s d es) d.kx c i in in_filter (is_untouched s e acts) e.kx (renamed_group f c) (m.images.there.groups c r.0) (group_untouched_image es c ∙ r.1);
        regions = λ r i.
            added_in entry_cmp_total entry_cmp_tells (set_of entry_cmp (filter_map (kept_entry s e acts) e.lcw)) (flat_map regions_there there) (renamed_entry f r)
            (⊎_elim
            (λ j.
            let o = in_filter_mapped (kept_entry s d es) d.lcw r (in_set_of entry_cmp_total entry_cmp_tells (filter_map (kept_entry s d es) d.lcw) r j) in
            inl (set_of_in entry_cmp_total entry_cmp_tells (filter_map (kept_entry s e acts) e.lcw) (renamed_entry f r)
            (in_filter_map (kept_entry s e acts) e.lcw (renamed_entry f o.0) (renamed_entry f r) (m.images.there.regions o.0 o.1) (entry_image es o.0 ∙ ap (option_map (renamed_entry f)) o.2))))
            (λ j. inr (adds_image es n given enough sc.adds x.adds (renamed_entry f) regions regions_there (λ a w. regions_added_image es n given enough a.item w) r j))
            (in_added entry_cmp_total entry_cmp_tells (set_of entry_cmp (filter_map (kept_entry s d es) d.lcw)) (flat_map regions here) r i));
      }

  progressed_goes : (sc : Schema) (given : List Inner) → IsFixedSchema f sc → length given ≡ length sc.parameters → GoesTo f (progressed s d sc given) (progressed s e sc (map (renamed_inner f) given))
  unfolding progressed
  progressed_goes sc given x enough =
      let es : List Effect = map (effect_at given) sc.effects in
      let moved : List Inner = map (renamed_inner f) given in
      subst (λ us. GoesTo f (progressed_by s d es sc given) (progressed_by s e us sc moved)) (effects_at_image f (length sc.parameters) given enough sc.effects x.effects) (progressed_by_goes es sc given x enough)

pub progressed_image : (s : Signature) (f g : ℕ → ℕ) (d e : Five) → Mirror s f g d e → (sc : Schema) (given : List Inner) → IsFixedSchema f sc → length given ≡ length sc.parameters → AreImages f g (progressed s d sc given) (progressed s e sc (map (renamed_inner f) given))
progressed_image s f g d e m sc given x n =
    let moved : List Inner = map (renamed_inner f) given in
    record {
      there = progressed_goes s f g d e m sc given x n;
      back =
          subst (λ us. GoesTo g (progressed s e sc moved) (progressed s d sc us)) (inners_back f g m.renaming.back given)
          (progressed_goes s g f e d (mirror_turned s f g d e m) sc moved (fixed_turned s f g m.renaming sc x) (length-map given (renamed_inner f) ∙ n));
    }

-- ---- what an action makes of neat databases

neat_in_order : (d : Five) → IsNeat d → AreInOrder d
neat_in_order d n = record {
  known = n.known;
  whether = each_weaker (λ c. Each IsInOrder c × IsOrdered literal_cmp c) (Each IsInOrder) (λ c h. h.0) d.kw n.whether;
  groups = each_weaker (λ x. Each IsInOrder x × (in_sequence x ≡ x)) (Each IsInOrder) (λ x h. h.0) d.kx n.groups;
}

both_of : {X : Type 0} (P Q : X → Type 0) (xs : List X) → Each P xs → Each Q xs → Each (λ x. P x × Q x) xs
both_of P Q [] a b = tt
both_of P Q (x ∷ xs) a b = ((a.0, b.0), both_of P Q xs a.1 b.1)

each_if : {X : Type 0} (P : X → Type 0) (b : Bool) (x : X) → P x → Each P (cond b (x ∷ []) [])
each_if P true x h = (h, tt)
each_if P false x h = tt

module _ (s : Signature) (d : Five) (es : List Effect) where
  widened_by_set : (x : Pattern) (y : Target) (listed : List Atom) → IsOrdered atom_cmp listed → (ls : List Atom) → widened_by s d es x y listed ≡ Some ls → IsOrdered atom_cmp ls
  widened_by_set x (Set a) listed o ls e = go ((a.predicate == x.predicate) && not (some_fixed_differ s d.kf x.slots a.arguments)) (are_stable s d es (map (normal d.kf) a.arguments)) e
    where
      go : (b c : Bool) → cond b (cond c (Some (insert_in atom_cmp (normal_atom d.kf a) listed)) None) (Some listed) ≡ Some ls → IsOrdered atom_cmp ls
      go true true q = subst (IsOrdered atom_cmp) (same_Some (insert_in atom_cmp (normal_atom d.kf a) listed) ls q) (ordered_insert atom_cmp_total atom_cmp_tells (normal_atom d.kf a) listed o)
      go true false q = absurd (none-some ls q)
      go false c q = subst (IsOrdered atom_cmp) (same_Some listed ls q) o
  widened_by_set x (Unset a) listed o ls e = subst (IsOrdered atom_cmp) (same_Some listed ls e) o
  widened_by_set x (Clear y) listed o ls e = subst (IsOrdered atom_cmp) (same_Some listed ls e) o
  widened_by_set x (Assign h ts v) listed o ls e = subst (IsOrdered atom_cmp) (same_Some listed ls e) o

  widened_set : (x : Pattern) (rest : List Effect) (listed : List Atom) → IsOrdered atom_cmp listed → (ls : List Atom) → widened s d es x rest listed ≡ Some ls → IsOrdered atom_cmp ls
  widened_set x [] listed o ls e = subst (IsOrdered atom_cmp) (same_Some listed ls e) o
  widened_set x (y ∷ rest) listed o ls e = go (may_fire s d y) (λ ms p q. widened_set x rest ms p ls q) e
    where
      after : (u : Option (List Atom)) → ((ms : List Atom) → u ≡ Some ms → IsOrdered atom_cmp ms) → ((ms : List Atom) → IsOrdered atom_cmp ms → widened s d es x rest ms ≡ Some ls → IsOrdered atom_cmp ls)
          → option_and_then (widened s d es x rest) u ≡ Some ls → IsOrdered atom_cmp ls
      after None set later q = absurd (none-some ls q)
      after (Some ms) set later q = later ms (set ms refl) q

      go : (b : Bool) → ((ms : List Atom) → IsOrdered atom_cmp ms → widened s d es x rest ms ≡ Some ls → IsOrdered atom_cmp ls) → option_and_then (widened s d es x rest) (cond b (widened_by s d es x y.target listed) (Some listed)) ≡ Some ls → IsOrdered atom_cmp ls
      go true later q = after (widened_by s d es x y.target listed) (λ ms p. widened_by_set x y.target listed o ms p) later q
      go false later q = later listed o q

  entry_set : (r q : Entry) → IsOrdered atom_cmp r.listed → kept_entry s d es r ≡ Some q → IsOrdered atom_cmp q.listed
  entry_set r q o e = go (are_stable s d es (entry_terms r)) (widened s d es r.pattern es r.listed) (λ ls p. widened_set r.pattern es r.listed o ls p) e
    where
      go : (b : Bool) (u : Option (List Atom)) → ((ls : List Atom) → u ≡ Some ls → IsOrdered atom_cmp ls) → cond b (option_map (λ listed. let k : Entry = record { pattern = r.pattern; listed = listed } in k) u) None ≡ Some q → IsOrdered atom_cmp q.listed
      go true None set p = absurd (none-some q p)
      go true (Some ls) set p = subst (λ (k : Entry). IsOrdered atom_cmp k.listed) (same_Some (record { pattern = r.pattern; listed = ls }) q p) (set ls refl)
      go false u set p = absurd (none-some q p)

  module _ (given normals : List Inner) where
    formula_set : (k : Case) (c : List Literal) → Each (IsOrdered literal_cmp) (added_formula s d es given normals k c)
    formula_set k c = go (is_sensed k)
      where
        go : (z : Bool) → Each (IsOrdered literal_cmp) (cond z (cond (arguments_stable s d es normals (conj_parameters c)) (conj_at normals c ∷ []) []) (let b = normal_conj d.kf (conj_at given c) in cond (list_all (λ l. are_stable s d es l.arguments) b) (b ∷ []) []))
        go true = each_if (IsOrdered literal_cmp) (arguments_stable s d es normals (conj_parameters c)) (conj_at normals c) (ordered_set_of literal_cmp_total literal_cmp_tells (map (literal_at normals) c))
        go false = let b : List Literal = normal_conj d.kf (conj_at given c) in each_if (IsOrdered literal_cmp) (list_all (λ l. are_stable s d es l.arguments) b) b (forms_set d.kf (conj_at given c))

    formulas_set : (o : Option Case) (y : Item) → Each (IsOrdered literal_cmp) (formulas_added s d es given normals o y)
    formulas_set None (ItemKw c) = tt
    formulas_set (Some k) (ItemKw c) = formula_set k c
    formulas_set o (ItemKf l) = tt
    formulas_set o (ItemKv t) = tt
    formulas_set o (ItemLcw z) = tt

    regions_set : (y : Item) → Each (λ r. IsOrdered atom_cmp r.listed) (regions_added s d es given y)
    regions_set (ItemLcw z) =
        let y : Pattern = normal_pattern d.kf (pattern_at given z) in
        each_if (λ (r : Entry). IsOrdered atom_cmp r.listed) (are_stable s d es (fixed_terms y.slots)) (record { pattern = y; listed = [] }) tt
    regions_set (ItemKf l) = tt
    regions_set (ItemKw c) = tt
    regions_set (ItemKv t) = tt

pub progressed_neat : (s : Signature) (d : Five) (sc : Schema) (given : List Inner) → IsNeat d → IsNeat (progressed s d sc given)
unfolding progressed
progressed_neat s d sc given n =
    let es : List Effect = map (effect_at given) sc.effects in
    let normals : List Inner = map (inner_normal d.kf) given in
    let adds : List Add = filter (is_applied_in s d given) sc.adds in
    let formulas : Add → List (List Literal) = λ a. formulas_added s d es given normals (case_of sc a) a.item in
    let regions : Add → List Entry = λ a. regions_added s d es given a.item in
    let order = progressed_ordered s sc given d (neat_in_order d n) in
    let P : Entry → Type 0 = λ r. IsOrdered atom_cmp r.listed in
    record {
      sorted = ordered_added literal_cmp_total literal_cmp_tells (filter (λ l. not (spoils s d es l)) d.kf) (flat_map (λ a. literals_added s d es given sc a a.item) adds)
          (ordered_filter literal_cmp_total literal_cmp_tells (λ l. not (spoils s d es l)) d.kf n.sorted);
      known = order.known;
      whether = both_of (Each IsInOrder) (IsOrdered literal_cmp) (added conj_cmp (filter (is_untouched s d es) d.kw) (flat_map formulas adds)) order.whether
          (each_added (IsOrdered literal_cmp) conj_cmp (filter (is_untouched s d es) d.kw) (flat_map formulas adds)
          (each_kept (IsOrdered literal_cmp) (is_untouched s d es) d.kw (each_weaker (λ c. Each IsInOrder c × IsOrdered literal_cmp c) (IsOrdered literal_cmp) (λ c h. h.1) d.kw n.whether))
          (each_flat_map (IsOrdered literal_cmp) formulas adds (λ a i. formulas_set s d es given normals (case_of sc a) a.item)));
      groups = each_kept (λ x. Each IsInOrder x × (in_sequence x ≡ x)) (is_untouched s d es) d.kx n.groups;
      regions = each_added P entry_cmp (set_of entry_cmp (filter_map (kept_entry s d es) d.lcw)) (flat_map regions adds)
          (each_set_of P entry_cmp (filter_map (kept_entry s d es) d.lcw) (each_filter_map P (kept_entry s d es) d.lcw (λ r q i e. entry_set s d es r q (each_in P d.lcw r n.regions i) e)))
          (each_flat_map P regions adds (λ a i. regions_set s d es given normals a.item));
    }
