-- What the program's levels say after one thing is taken in.
use Rattle.std.proofs.Common.{◌≡◌, ◌||◌, ◌==◌, ℕ, Bool, true, false, zero, suc, cond, not, List, [], ◌∷◌, ◌++◌, map, take, length, flat_map, refl, sym, ap, ◌∙◌, subst, inl, inr, ⊎_elim, true≢false}
use Rattle.std.specs.BTreeSet.{BTreeSet}
use Rattle.std.specs.List.{list_any}
use Rattle.std.specs.Ordering.{is_eq}
use Rattle.std.proofs.lemmas.Cmp.{tied_itself}
use Rattle.std.proofs.lemmas.Bool.{or_cases, or_left, or_right, eqb-true, eq-eqb}
use Rattle.pks_terms.specs.Sets.{IsIn}
use Rattle.pks_terms.specs.Syntax.{Object, Term, place, affirmed, Atom}
use Rattle.pks_terms.specs.Orders.{atom_cmp, term_cmp, term_eq}
use Rattle.pks_terms.specs.Totality.{atom_cmp_total, term_cmp_total}
use Rattle.pks_terms.specs.Worlds.{World, inner_value, value_of, true_in}
use Rattle.pks_terms.specs.declared.term.Inner.TheVariants as inner_is
use Rattle.pks_terms.specs.declared.term.Term.TheVariants as term_is
use Rattle.pks_terms.specs.declared.ids.ObjId.{ObjId}
use Rattle.pks_terms.specs.declared.ids.PredId.{PredId}
use Rattle.pks_terms.specs.declared.literal.PredAtom.{PredAtom}
use Rattle.pks_terms.specs.Views.{inner_of, term_of, atom_of}
use Rattle.pks_terms.proofs.ListLaws.{in_map, in_appended, found_in}
use Rattle.pks_laws.proofs.Least.{in_left, in_right, in_flat}
use Rattle.pks_world.specs.Contents.{ground, atom_eq, is_listed}
use Rattle.pks_search_distance.specs.Levels.{Chances, Allows, Grows}
use Rattle.pks_search_distance.specs.declared.gains.RelaxedFacts.{RelaxedFacts}
use Rattle.pks_search_distance.specs.declared.gains.Given.{Given}
use Rattle.pks_search_distance.specs.Relaxed.{New, NewTruth, NewValue, NewFalse, IsNewIn}
use Rattle.pks_search_distance.specs.Gained.{given_of, given_to, is_cleared, may_be, values_at, chances_of, has_new}

-- ---- objects as the program has them

viewed : (ds : List ℕ) → map term_of (map (λ d. term_is.Obj (record { 0 = d })) ds) ≡ map Object ds
viewed [] = refl
viewed (d ∷ ds) = λ i. Object d ∷ viewed ds i

taken : {X : Type 0} (f : ℕ → X) (ds : List ℕ) → take (length ds) (map f ds) ≡ map f ds
taken f [] = refl
taken f (d ∷ ds) = λ i. f d ∷ taken f ds i

atom_at : ℕ → List ℕ → PredAtom
atom_at p ds = record { pred = record { 0 = p }; n = length ds; args = map (λ d. term_is.Obj (record { 0 = d })) ds }

atom_viewed : (p : ℕ) (ds : List ℕ) → atom_of (atom_at p ds) ≡ ground p ds
unfolding atom_at
atom_viewed p ds = λ i. record { predicate = p; arguments = (ap (map term_of) (taken (λ d. term_is.Obj (record { 0 = d })) ds) ∙ viewed ds) i }

-- two objects, as arguments
pub two_viewed : (n : ℕ) (d e : ObjId) → map inner_of (take n (inner_is.Obj d ∷ inner_is.Obj e ∷ [])) ≡ map Object (take n (d.0 ∷ e.0 ∷ []))
two_viewed zero d e = refl
two_viewed (suc zero) d e = refl
two_viewed (suc (suc zero)) d e = refl
two_viewed (suc (suc (suc n))) d e = refl

-- ---- all that is so in the world may be so

values_of_objects : (w : World) (ds : List ℕ) → map (value_of w) (map Object ds) ≡ ds
unfolding value_of
values_of_objects w [] = refl
values_of_objects w (d ∷ ds) = λ i. d ∷ values_of_objects w ds i

inners_of_objects : (w : World) (ds : List ℕ) → map (inner_value w) (map Object ds) ≡ ds
inners_of_objects w [] = refl
inners_of_objects w (d ∷ ds) = λ i. d ∷ inners_of_objects w ds i

affirmed_is : (w : World) (p : ℕ) (ds : List ℕ) → true_in w (affirmed (ground p ds)) ≡ w.truth p ds
unfolding true_in
affirmed_is w p ds = ap (w.truth p) (values_of_objects w ds)

value_is : (w : World) (f : ℕ) (ds : List ℕ) → value_of w (place f ds) ≡ w.value f ds
unfolding value_of
value_is w f ds = ap (w.value f) (inners_of_objects w ds)

pub allows_first : (w : World) (g : RelaxedFacts) → Allows (chances_of w g) w
allows_first w g = record {
  truth = λ p ds. go p ds (w.truth p ds) (affirmed_is w p ds);
  values = λ f ds. inl (value_is w f ds);
}
  where
    go : (p : ℕ) (ds : List ℕ) (b : Bool) → true_in w (affirmed (ground p ds)) ≡ b → may_be w g b (ground p ds) ≡ true
    go p ds true e = ap (λ b. b || is_listed g.trues.keys (ground p ds)) e
    go p ds false e = ap (λ b. not b || (is_listed g.falses.keys (ground p ds) || is_cleared g p)) e

-- ---- one more atom

-- the atom is listed from now on, and each other one where it was
abbrev pub HasMore : PredAtom → BTreeSet PredAtom → BTreeSet PredAtom → Type 0
HasMore a old new = (q : PredAtom) → list_any (λ x. is_eq (atom_cmp (atom_of q) (atom_of x))) new.keys ≡ cond (is_eq (atom_cmp (atom_of a) (atom_of q))) true (list_any (λ x. is_eq (atom_cmp (atom_of q) (atom_of x))) old.keys)

module _ (a : PredAtom) (old new : BTreeSet PredAtom) (h : HasMore a old new) where
  more : (p : ℕ) (ds : List ℕ) → is_listed new.keys (ground p ds) ≡ cond (atom_eq (atom_of a) (ground p ds)) true (is_listed old.keys (ground p ds))
  more p ds = subst (λ (x : Atom). is_listed new.keys x ≡ cond (atom_eq (atom_of a) x) true (is_listed old.keys x)) (atom_viewed p ds) (h (atom_at p ds))

  still : (p : ℕ) (ds : List ℕ) → is_listed old.keys (ground p ds) ≡ true → is_listed new.keys (ground p ds) ≡ true
  still p ds k = more p ds ∙ go (atom_eq (atom_of a) (ground p ds)) _ k
    where
      go : (b c : Bool) → c ≡ true → cond b true c ≡ true
      go true c e = refl
      go false c e = e

  now : (p : ℕ) (ds : List ℕ) → atom_of a ≡ ground p ds → is_listed new.keys (ground p ds) ≡ true
  now p ds e = more p ds ∙ ap (λ b. cond b true (is_listed old.keys (ground p ds))) (subst (λ (x : Atom). atom_eq (atom_of a) x ≡ true) e (ap is_eq (tied_itself atom_cmp_total (atom_of a))))

either : (a b c d : Bool) → (a ≡ true → c ≡ true) → (b ≡ true → d ≡ true) → (a || b) ≡ true → (c || d) ≡ true
either a b c d f g h = ⊎_elim (λ e. or_left c d (f e)) (λ e. or_right c d (g e)) (or_cases a b h)

module _ (w : World) (g : RelaxedFacts) where
  pub true_grows : (a : PredAtom) (new : BTreeSet PredAtom) → HasMore a g.trues new → Grows (chances_of w g) (chances_of w (record g { trues = new }))
  true_grows a new h = record { truth = go; values = λ f ds d k. k }
    where
      go : (b : Bool) (p : ℕ) (ds : List ℕ) → may_be w g b (ground p ds) ≡ true → may_be w (record g { trues = new }) b (ground p ds) ≡ true
      go true p ds = either (true_in w (affirmed (ground p ds))) (is_listed g.trues.keys (ground p ds)) (true_in w (affirmed (ground p ds))) (is_listed new.keys (ground p ds)) (λ e. e) (still a g.trues new h p ds)
      go false p ds = λ e. e

  pub true_has : (a : PredAtom) (new : BTreeSet PredAtom) → HasMore a g.trues new → IsNewIn (chances_of w (record g { trues = new })) (NewTruth true (atom_of a))
  true_has a new h p ds e = or_right (true_in w (affirmed (ground p ds))) (is_listed new.keys (ground p ds)) (now a g.trues new h p ds e)

  pub false_grows : (a : PredAtom) (new : BTreeSet PredAtom) → HasMore a g.falses new → Grows (chances_of w g) (chances_of w (record g { falses = new }))
  false_grows a new h = record { truth = go; values = λ f ds d k. k }
    where
      go : (b : Bool) (p : ℕ) (ds : List ℕ) → may_be w g b (ground p ds) ≡ true → may_be w (record g { falses = new }) b (ground p ds) ≡ true
      go true p ds = λ e. e
      go false p ds =
          let t = not (true_in w (affirmed (ground p ds))) in
          let c = is_cleared g p in
          either t (is_listed g.falses.keys (ground p ds) || c) t (is_listed new.keys (ground p ds) || c) (λ e. e)
          (either (is_listed g.falses.keys (ground p ds)) c (is_listed new.keys (ground p ds)) c (still a g.falses new h p ds) (λ e. e))

  pub false_has : (a : PredAtom) (new : BTreeSet PredAtom) → HasMore a g.falses new → IsNewIn (chances_of w (record g { falses = new })) (NewTruth false (atom_of a))
  false_has a new h p ds e =
      or_right (not (true_in w (affirmed (ground p ds)))) (is_listed new.keys (ground p ds) || is_cleared g p)
      (or_left (is_listed new.keys (ground p ds)) (is_cleared g p) (now a g.falses new h p ds e))

-- ---- one more value, one more predicate that is cleared: lists with one more behind them

module _ {X Y : Type 0} (q : Y → Bool) (f : X → Y) where
  any_more : (xs : List X) (x : X) → list_any q (map f xs) ≡ true → list_any q (map f (xs ++ x ∷ [])) ≡ true
  any_more [] x h = absurd (true≢false (sym h))
  any_more (y ∷ xs) x h = either (q (f y)) (list_any q (map f xs)) (q (f y)) (list_any q (map f (xs ++ x ∷ []))) (λ e. e) (any_more xs x) h

  any_last : (xs : List X) (x : X) → q (f x) ≡ true → list_any q (map f (xs ++ x ∷ [])) ≡ true
  any_last [] x h = or_left (q (f x)) false h
  any_last (y ∷ xs) x h = or_right (q (f y)) (list_any q (map f (xs ++ x ∷ []))) (any_last xs x h)

flat_more : {X Y Z : Type 0} (f : X → Y) (g : Y → List Z) (xs : List X) (x : X) (z : Z) → IsIn z (flat_map g (map f xs)) → IsIn z (flat_map g (map f (xs ++ x ∷ [])))
flat_more f g [] x z i = absurd i
flat_more f g (y ∷ xs) x z i =
    ⊎_elim (λ j. in_left (g (f y)) (flat_map g (map f (xs ++ x ∷ []))) z j) (λ j. in_right (g (f y)) (flat_map g (map f (xs ++ x ∷ []))) z (flat_more f g xs x z j)) (in_appended (g (f y)) (flat_map g (map f xs)) z i)

same_place : (t : Term) (f : ℕ) (ds : List ℕ) → t ≡ place f ds → term_eq (place f ds) t ≡ true
unfolding term_eq
same_place t f ds e = subst (λ u. is_eq (term_cmp (place f ds) u) ≡ true) (sym e) (ap is_eq (tied_itself term_cmp_total (place f ds)))

module _ (w : World) (g n : RelaxedFacts) where
  grow_by : n.trues.keys ≡ g.trues.keys → n.falses.keys ≡ g.falses.keys → ((p : ℕ) → is_cleared g p ≡ true → is_cleared n p ≡ true)
      → ((t : Term) (d : ℕ) → IsIn d (flat_map (given_to t) (map given_of g.values.items)) → IsIn d (flat_map (given_to t) (map given_of n.values.items)))
      → Grows (chances_of w g) (chances_of w n)
  grow_by e k c v = record { truth = go; values = λ f ds d i. ⊎_elim (λ j. inl j) (λ j. inr (v (place f ds) d j)) i }
    where
      go : (b : Bool) (p : ℕ) (ds : List ℕ) → may_be w g b (ground p ds) ≡ true → may_be w n b (ground p ds) ≡ true
      go true p ds h = subst (λ ks. (true_in w (affirmed (ground p ds)) || is_listed ks (ground p ds)) ≡ true) (sym e) h
      go false p ds h =
          let t = not (true_in w (affirmed (ground p ds))) in
          either t (is_listed g.falses.keys (ground p ds) || is_cleared g p) t (is_listed n.falses.keys (ground p ds) || is_cleared n p) (λ e. e)
          (either (is_listed g.falses.keys (ground p ds)) (is_cleared g p) (is_listed n.falses.keys (ground p ds)) (is_cleared n p) (subst (λ ks. is_listed ks (ground p ds) ≡ true) (sym k)) (c p)) h

  pub value_grows : (x : Given) → n.trues.keys ≡ g.trues.keys → n.falses.keys ≡ g.falses.keys → n.cleared.items ≡ g.cleared.items → n.values.items ≡ g.values.items ++ x ∷ [] → Grows (chances_of w g) (chances_of w n)
  value_grows x e k c v =
      grow_by e k (λ p h. subst (λ qs. list_any (λ q. q == p) (map (λ q. q.0) qs) ≡ true) (sym c) h)
      (λ t d i. subst (λ xs. IsIn d (flat_map (given_to t) (map given_of xs))) (sym v) (flat_more given_of (given_to t) g.values.items x d i))

  pub value_has : (x : Given) → n.values.items ≡ g.values.items ++ x ∷ [] → IsNewIn (chances_of w n) (NewValue (term_of x.place) x.value.0)
  value_has x v f ds e =
      inr (in_flat (given_to (place f ds)) (map given_of n.values.items) (term_of x.place, x.value.0) x.value.0
      (subst (λ xs. IsIn (given_of x) (map given_of xs)) (sym v) (in_map given_of (g.values.items ++ x ∷ []) x (in_right g.values.items (x ∷ []) x (inl refl))))
      (subst (λ b. IsIn x.value.0 (cond b (x.value.0 ∷ []) [])) (sym (same_place (term_of x.place) f ds e)) (inl refl)))

  pub cleared_grows : (x : PredId) → n.trues.keys ≡ g.trues.keys → n.falses.keys ≡ g.falses.keys → n.values.items ≡ g.values.items → n.cleared.items ≡ g.cleared.items ++ x ∷ [] → Grows (chances_of w g) (chances_of w n)
  cleared_grows x e k v c =
      grow_by e k (λ p h. subst (λ qs. list_any (λ q. q == p) (map (λ q. q.0) qs) ≡ true) (sym c) (any_more (λ q. q == p) (λ (q : PredId). q.0) g.cleared.items x h))
      (λ t d i. subst (λ xs. IsIn d (flat_map (given_to t) (map given_of xs))) (sym v) i)

  pub cleared_has : (x : PredId) → n.cleared.items ≡ g.cleared.items ++ x ∷ [] → IsNewIn (chances_of w n) (NewFalse x.0)
  cleared_has x c ds =
      or_right (not (true_in w (affirmed (ground x.0 ds)))) (is_listed n.falses.keys (ground x.0 ds) || is_cleared n x.0)
      (or_right (is_listed n.falses.keys (ground x.0 ds)) (is_cleared n x.0)
      (subst (λ qs. list_any (λ q. q == x.0) (map (λ q. q.0) qs) ≡ true) (sym c) (any_last (λ q. q == x.0) (λ (q : PredId). q.0) g.cleared.items x (eq-eqb x.0 x.0 refl))))

-- ---- what may be so already

pub had : (w : World) (g : RelaxedFacts) (x : New) → has_new w g x ≡ true → IsNewIn (chances_of w g) x
had w g (NewTruth b a) h = λ p ds e. subst (λ (x : Atom). may_be w g b x ≡ true) e h
had w g (NewValue t d) h = λ f ds e.
    let r = found_in (λ k. k == d) (values_at w g t) h in
    subst (λ (u : Term). IsIn d (values_at w g u)) e (subst (λ k. IsIn k (values_at w g t)) (eqb-true r.0 d r.2) r.1)
had w g (NewFalse p) h = λ ds.
    or_right (not (true_in w (affirmed (ground p ds)))) (is_listed g.falses.keys (ground p ds) || is_cleared g p) (or_right (is_listed g.falses.keys (ground p ds)) (is_cleared g p) h)

-- what may be so may be so later
pub new_grows : (m n : Chances) (x : New) → Grows m n → IsNewIn m x → IsNewIn n x
new_grows m n (NewTruth b a) g h = λ p ds e. g.truth b p ds (h p ds e)
new_grows m n (NewValue t d) g h = λ f ds e. g.values f ds d (h f ds e)
new_grows m n (NewFalse p) g h = λ ds. g.truth false p ds (h ds)
