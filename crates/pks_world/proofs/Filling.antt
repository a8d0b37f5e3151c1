-- Values kept for places one after another.
use Rattle.std.proofs.Common.{◌≡◌, ◌≤◌, ◌<◌, ◌+◌, ◌||◌, ◌⊎◌, ℕ, zero, suc, Bool, true, false, cond, List, [], ◌∷◌, map, take, drop, length, get_or, slice_get, Option, Some, None, refl, sym, ap, ◌∙◌, subst, inl, inr, ⊎_elim, arith, true≢false}
use Rattle.std.specs.List.{list_any}
use Rattle.std.specs.Map.{lookup}
use Rattle.std.proofs.Math.Seq.{drop-cons}
use Rattle.std.proofs.lemmas.List.{drop_all, take-map}
use Rattle.std.specs.Ordering.{is_eq}
use Rattle.std.proofs.lemmas.Cmp.{tied_itself}
use Rattle.std.proofs.lemmas.Bool.{or_cases, cases_lt}
use Rattle.std.proofs.lemmas.Option.{same_Some, slice_get-map, slice_get-get_or}
use Rattle.std.specs.Option.{is_some, unwrap_or, option_map, option_map_or}
use Rattle.pks_terms.specs.Syntax.{Apply, Inner, Term, place}
use Rattle.pks_terms.specs.Orders.{term_cmp, term_eq, number_of}
use Rattle.pks_terms.specs.Totality.{term_cmp_total}
use Rattle.pks_terms.specs.Sets.{Each, IsIn}
use Rattle.pks_terms.specs.Signatures.{Shape, Signature, HasValues, objects_of}
use Rattle.pks_terms.specs.Meaning.{AreOfTypes, IsWorld}
use Rattle.pks_terms.specs.declared.ids.ObjId.{ObjId}
use Rattle.pks_terms.specs.declared.problem.Shape.{Shape as DShape}
use Rattle.pks_terms.specs.Views.{object_of, term_of, shape_of}
use Rattle.pks_terms.proofs.OrderLaws.{same_term}
use Rattle.pks_terms.proofs.ListLaws.{in_mapped, any_in}
use Rattle.pks_world.specs.Contents.{ground, is_listed, kept_at, value_elsewhere, world_of, places_of}
use Rattle.pks_world.specs.declared.worlds.World.{World as DWorld}
use Rattle.pks_world.specs.First.{Kept, Writes, is_in_row, is_in_rows, WritesOnly, argument_range, WritesAll, first_of, least_value, first_world, AreLeast, AreFilled, AreAllPlaces}
use Rattle.pks_world.proofs.Keeping.{chosen_more, found}

module _ {X : Type 0} (p : X → Term → Bool) (xs : List X) (v : ℕ) (old : Kept) where
  -- what is kept once the places of all that are left have the value
  abbrev pub KeptFrom : ℕ → Kept → Type 0
  KeptFrom j m = (f : ℕ) (ds : List ℕ) → cond (list_any (λ x. p x (place f ds)) (drop j xs)) (Some v) (kept_at m (place f ds)) ≡ cond (list_any (λ x. p x (place f ds)) xs) (Some v) (kept_at old (place f ds))

  pub kept_more : (j : ℕ) (d : X) (m n : Kept) → j < length xs → Writes (p (get_or xs j d)) v m n → KeptFrom j m → KeptFrom (j + 1) n
  kept_more j d m n h w k = λ f ds.
      let t = place f ds in
      let q : X → Bool = λ x. p x t in
      let one : list_any q (drop j xs) ≡ (q (get_or xs j d) || list_any q (drop (suc j) xs)) = ap (list_any q) (drop-cons xs j d h) in
      let next : list_any q (drop (j + 1) xs) ≡ list_any q (drop (suc j) xs) = (let e : j + 1 ≡ suc j = omega arith in ap (λ i. list_any q (drop i xs)) e) in
      ap (λ b. cond b (Some v) (kept_at n t)) next
      ∙ ap (cond (list_any q (drop (suc j) xs)) (Some v)) (w f ds)
      ∙ chosen_more (q (get_or xs j d)) (list_any q (drop (suc j) xs)) (Some v) (kept_at m t)
      ∙ ap (λ b. cond b (Some v) (kept_at m t)) (sym one)
      ∙ k f ds

  pub kept_all : (j : ℕ) (m : Kept) → length xs ≤ j → KeptFrom j m → Writes (λ t. list_any (λ x. p x t) xs) v old m
  kept_all j m h k = λ f ds. ap (λ ys. cond (list_any (λ x. p x (place f ds)) ys) (Some v) (kept_at m (place f ds))) (sym (drop_all j xs h)) ∙ k f ds

-- ---- the places of one function

-- a test finds an element that passes
any_found : {X : Type 0} (p : X → Bool) (xs : List X) → list_any p xs ≡ true → (x : X) × (p x ≡ true)
any_found p [] h = absurd (true≢false (sym h))
any_found p (x ∷ xs) h = ⊎_elim (λ e. (x, e)) (λ e. any_found p xs e) (or_cases (p x) (list_any p xs) h)

same_fun : (f g : ℕ) (ts us : List Inner) → ◌≡◌ {A = Term} (Apply f ts) (Apply g us) → f ≡ g
same_fun f g ts us e = ap number_of e

-- places of f are of f
row_of : (f n : ℕ) (ds es : List ObjId) (g : ℕ) (xs : List ℕ) → is_in_rows f n ds es (place g xs) ≡ true → g ≡ f
row_of f n ds es g xs h =
    let d = any_found (λ d. is_in_row f n d es (place g xs)) ds h in
    let e = any_found (λ e. term_eq (place f (map object_of (take n (d.0 ∷ e ∷ [])))) (place g xs)) es d.1 in
    sym (same_fun f g _ _ (same_term (place f (map object_of (take n (d.0 ∷ e.0 ∷ [])))) (place g xs) e.1))

split : (b : Bool) (v : ℕ) (o n : Option ℕ) → n ≡ cond b (Some v) o → (n ≡ o) ⊎ ((b ≡ true) × (n ≡ Some v))
split true v o n e = inr (refl, e)
split false v o n e = inl e

-- what is written to rows of f is written to places of f only
pub rows_only : (f n v : ℕ) (ds es : List ObjId) (old new : Kept) → Writes (is_in_rows f n ds es) v old new → WritesOnly f v old new
rows_only f n v ds es old new w = λ g xs.
    ⊎_elim {C = (kept_at new (place g xs) ≡ kept_at old (place g xs)) ⊎ ((g ≡ f) × (kept_at new (place g xs) ≡ Some v))} (λ e. inl e) (λ e. inr (row_of f n ds es g xs e.0, e.1)) (split (is_in_rows f n ds es (place g xs)) v (kept_at old (place g xs)) (kept_at new (place g xs)) (w g xs))

pub same_eq : (t u : Term) → t ≡ u → term_eq t u ≡ true
unfolding term_eq
same_eq t u e = ap (λ x. is_eq (term_cmp t x)) (sym e) ∙ ap is_eq (tied_itself term_cmp_total t)

-- f at an object of each list is in the rows
in_rows : (f n : ℕ) (ds es : List ObjId) (d e : ℕ) (xs : List ℕ) → IsIn d (map object_of ds) → IsIn e (map object_of es) → take n (d ∷ e ∷ []) ≡ xs → is_in_rows f n ds es (place f xs) ≡ true
in_rows f n ds es d e xs i j q =
    let x = in_mapped object_of ds d i in
    let y = in_mapped object_of es e j in
    let same : map object_of (take n (x.0 ∷ y.0 ∷ [])) ≡ xs = sym (take-map object_of n (x.0 ∷ y.0 ∷ [])) ∙ (λ k. take n (x.2 k ∷ y.2 k ∷ [])) ∙ q in
    any_in (λ c. is_in_row f n c es (place f xs)) ds x.0 x.1 (any_in (λ c. term_eq (place f (map object_of (take n (x.0 ∷ c ∷ [])))) (place f xs)) es y.0 y.1 (same_eq _ _ (ap (place f) same)))

module _ (s : Signature) (f : ℕ) (ds es : List ObjId) where
  -- each place of f is in the rows of the objects that its arguments may be
  all_in_rows : (types : List ℕ) → length types ≤ 2 → map object_of ds ≡ argument_range s types 0 → map object_of es ≡ argument_range s types 1 → (xs : List ℕ) → AreOfTypes s types xs → is_in_rows f (length types) ds es (place f xs) ≡ true
  all_in_rows (a ∷ b ∷ c ∷ types) m p q xs t = absurd (omega arith)
  all_in_rows [] m p q [] t = in_rows f zero ds es 0 0 [] (subst (IsIn 0) (sym p) (inl refl)) (subst (IsIn 0) (sym q) (inl refl)) refl
  all_in_rows [] m p q (x ∷ xs) t = absurd t
  all_in_rows (a ∷ []) m p q [] t = absurd t
  all_in_rows (a ∷ []) m p q (x ∷ []) t = in_rows f (suc zero) ds es x 0 (x ∷ []) (subst (IsIn x) (sym p) t.0) (subst (IsIn 0) (sym q) (inl refl)) refl
  all_in_rows (a ∷ []) m p q (x ∷ y ∷ xs) t = absurd t.1
  all_in_rows (a ∷ b ∷ []) m p q [] t = absurd t
  all_in_rows (a ∷ b ∷ []) m p q (x ∷ []) t = absurd t.1
  all_in_rows (a ∷ b ∷ []) m p q (x ∷ y ∷ []) t = in_rows f (suc (suc zero)) ds es x y (x ∷ y ∷ []) (subst (IsIn x) (sym p) t.0) (subst (IsIn y) (sym q) t.1.0) refl
  all_in_rows (a ∷ b ∷ []) m p q (x ∷ y ∷ z ∷ xs) t = absurd t.1.1

  pub rows_all : (n v : ℕ) (types : List ℕ) (old new : Kept) → n ≡ length types → length types ≤ 2 → map object_of ds ≡ argument_range s types 0 → map object_of es ≡ argument_range s types 1 → Writes (is_in_rows f n ds es) v old new → WritesAll s f types v new
  rows_all n v types old new l m p q w = λ xs t. w f xs ∙ ap (λ b. cond b (Some v) (kept_at old (place f xs))) (ap (λ k. is_in_rows f k ds es (place f xs)) l ∙ all_in_rows types m p q xs t)

-- ---- function after function

module _ (s : Signature) where
  pub least_more : (f v : ℕ) (old new : Kept) → v ≡ least_value s f → WritesOnly f v old new → AreLeast s old → AreLeast s new
  least_more f v old new e w l = λ g xs.
      ⊎_elim
      (λ q. ap (λ o. unwrap_or o (least_value s g)) q ∙ l g xs)
      (λ q. ap (λ o. unwrap_or o (least_value s g)) q.1 ∙ e ∙ ap (least_value s) (sym q.0))
      (w g xs)

  still_kept : (f v g : ℕ) (xs : List ℕ) (old new : Kept) → WritesOnly f v old new → is_some (kept_at old (place g xs)) ≡ true → is_some (kept_at new (place g xs)) ≡ true
  still_kept f v g xs old new w h = ⊎_elim (λ q. ap is_some q ∙ h) (λ q. ap is_some q.1) (w g xs)

  pub filled_more : (f v : ℕ) (y : Shape) (old new : Kept) → slice_get s.functions f ≡ Some y → WritesOnly f v old new → WritesAll s f y.arguments v new → AreFilled s f old → AreFilled s (f + 1) new
  filled_more f v y old new e w a k = λ g xs x h q t.
      ⊎_elim
      (λ (less : g < f). still_kept f v g xs old new w (k g xs x less q t))
      (λ (most : f ≤ g).
      let here : g ≡ f = omega arith in
      let same : x ≡ y = same_Some x y (sym q ∙ ap (slice_get s.functions) here ∙ e) in
      ap is_some (ap (λ n. kept_at new (place n xs)) here ∙ a xs (subst (λ (z : Shape). AreOfTypes s z.arguments xs) same t)))
      (cases_lt g f)

  pub first_in : (d : ℕ) (ds : List ℕ) → IsIn d ds → IsIn (first_of ds) ds
  first_in d [] i = absurd i
  first_in d (x ∷ ds) i = inl refl

  pub first_typed : HasValues s → IsWorld s (first_world s)
  first_typed values = record {
    atoms = λ p ds h. absurd (true≢false (sym h));
    typed = λ f ds x h.
        let e = values f x h in
        subst (λ o. IsIn (option_map_or (λ y. first_of (objects_of s y.result)) o 0) (objects_of s x.result)) (sym h) (first_in e.0 (objects_of s x.result) e.1);
  }

-- where no value is kept, it is the least
pub elsewhere_least : (s : Signature) (others : List ObjId) (shapes : List DShape) (f : ℕ) → map object_of others ≡ map (λ x. first_of (objects_of s x.result.0)) shapes
    → value_elsewhere others f ≡ option_map_or (λ x. first_of (objects_of s x.result)) (slice_get (map shape_of shapes) f) 0
elsewhere_least s [] [] f e = refl
elsewhere_least s [] (x ∷ xs) f e = cc
elsewhere_least s (d ∷ ds) [] f e = cc
elsewhere_least s (d ∷ ds) (x ∷ xs) zero e = cc
elsewhere_least s (d ∷ ds) (x ∷ xs) (suc f) e = elsewhere_least s ds xs f cc

-- the shape of a function
pub shape_at : (shapes : List DShape) (f : ℕ) (d : DShape) → f < length shapes → slice_get (map shape_of shapes) f ≡ Some (shape_of (get_or shapes f d))
shape_at shapes f d h = slice_get-map shape_of shapes f ∙ ap (option_map shape_of) (slice_get-get_or shapes f d h)

pub each_second : {X : Type 0} (P Q R : X → Type 0) (xs : List X) → Each (λ x. P x × Q x × R x) xs → Each Q xs
each_second P Q R [] a = tt
each_second P Q R (x ∷ xs) a = (a.0.1, each_second P Q R xs a.1)

-- ---- the first world

module _ (s : Signature) (w : DWorld) where
  pub first_is : w.atoms.keys ≡ [] → AreLeast s w.values.entries → ((f : ℕ) → value_elsewhere w.others.items f ≡ least_value s f) → world_of w ≡ first_world s
  unfolding world_of
  first_is none least others = λ i. record {
    truth = λ p ds. is_listed (none i) (ground p ds);
    value = λ f ds. (ap (unwrap_or (kept_at w.values.entries (place f ds))) (others f) ∙ least f ds) i;
  }

  some_kept : (o : Option ObjId) → is_some (option_map object_of o) ≡ is_some o
  some_kept None = refl
  some_kept (Some d) = refl

  pub all_places : (n : ℕ) → ((f : ℕ) (x : Shape) → slice_get s.functions f ≡ Some x → f < n) → AreFilled s n w.values.entries → AreAllPlaces s (places_of w)
  unfolding places_of term_eq
  all_places n within filled = λ f ds x h t.
      found (place f ds) w.values.entries ∙ sym (some_kept (lookup (λ u. is_eq (term_cmp (place f ds) (term_of u))) w.values.entries)) ∙ filled f ds x (within f x h) h t

-- what holds of each element holds of the one at a place
pub each_at : {X : Type 0} (P : X → Type 0) (xs : List X) (j : ℕ) (d : X) → Each P xs → j < length xs → P (get_or xs j d)
each_at P [] j d a h = absurd (omega arith)
each_at P (x ∷ xs) zero d a h = a.0
each_at P (x ∷ xs) (suc j) d a h = each_at P xs j d a.1 (omega arith)
