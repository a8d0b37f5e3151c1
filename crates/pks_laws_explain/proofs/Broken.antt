-- Which initial item a world breaks first is decided, where finitely many atoms are true in it.
use Rattle.std.proofs.Common.{◌≡◌, ◌⊎◌, inl, inr, ⊎_elim, ℕ, ◌+◌, ◌&&◌, ◌||◌, not, Bool, true, false, List, [], ◌∷◌, map, refl, sym, ap, ◌∙◌, subst, true≢false}
use Rattle.std.proofs.lemmas.Bool.{cases_Bool}
use Rattle.std.specs.List.{list_any}
use Rattle.std.specs.Cmp.{Equal-is}
use Rattle.pks_terms.specs.Sets.{Each, exactly_one}
use Rattle.pks_terms.specs.Syntax.{object, Atom}
use Rattle.pks_terms.specs.Orders.{number_of, atom_cmp}
use Rattle.pks_terms.specs.Worlds.{World, true_in}
use Rattle.pks_terms.specs.Databases.{Entry}
use Rattle.pks_terms.specs.Meaning.{is_instance, is_value_of, Meets}
use Rattle.pks_terms.specs.Problems.{Start, StartKf, StartKw, StartKv, StartKx, StartLcw, Problem, initial_entry, initial}
use Rattle.pks_terms.specs.Answers.{Keeps, IsFirstBroken}
use Rattle.pks_terms.proofs.ListLaws.{each_in, found_in}
use Rattle.pks_terms.proofs.OrderLaws.{atom_cmp_tells}
use Rattle.pks_world.specs.Contents.{ground, atom_eq}

-- ---- worlds in which finitely many atoms are true

-- the true atoms are these
pub record HasAtoms (w : World) (atoms : List Atom) : Type 0 where
  pub all : (q : ℕ) (ds : List ℕ) → w.truth q ds ≡ list_any (λ a. atom_eq a (ground q ds)) atoms

-- ---- regions

-- each passes, or one doesn't
all_or_one : {X : Type 0} (p : X → Bool) (xs : List X) → Each (λ x. p x ≡ true) xs ⊎ ((x : X) × (p x ≡ false))
all_or_one p [] = inl tt
all_or_one p (x ∷ xs) =
    ⊎_elim
    (λ is. ⊎_elim (λ later. inl (is, later)) (λ one. inr one) (all_or_one p xs))
    (λ other. inr (x, other))
    (cases_Bool (p x))

tells_so : (a b c : Bool) → (not (a && b) || c) ≡ true → a ≡ true → b ≡ true → c ≡ true
tells_so true true true h is holds = refl
tells_so true true false h is holds = absurd (true≢false (sym h))
tells_so true false c h is holds = absurd (true≢false (sym holds))
tells_so false b c h is holds = absurd (true≢false (sym is))

tells_not : (a b c : Bool) → (not (a && b) || c) ≡ false → (a ≡ true) × (b ≡ true) × (c ≡ false)
tells_not true true true h = absurd (true≢false h)
tells_not true true false h = (refl, refl, refl)
tells_not true false c h = absurd (true≢false h)
tells_not false b c h = absurd (true≢false h)

objects_back : (ds : List ℕ) → map number_of (map (λ d. object d) ds) ≡ ds
objects_back [] = refl
objects_back (d ∷ ds) = λ i. d ∷ objects_back ds i

module _ (p : Problem) (w : World) (atoms : List Atom) (has : HasAtoms w atoms) where
  -- no instance, or none that is true, or listed
  abbrev tells : Entry → List ℕ → Bool
  tells e ds = not (is_instance w e.pattern.slots ds && w.truth e.pattern.predicate ds) || list_any (is_value_of w e.pattern.predicate ds) e.listed

  meets_or_not : (e : Entry) → Meets w e ⊎ (Meets w e → ⊥)
  meets_or_not e =
      ⊎_elim
      (λ each. inl (record { closed = λ ds is holds. met each ds is holds }))
      (λ one. let so = tells_not (is_instance w e.pattern.slots (map number_of one.0.arguments)) (w.truth e.pattern.predicate (map number_of one.0.arguments)) (list_any (is_value_of w e.pattern.predicate (map number_of one.0.arguments)) e.listed) one.1 in
      inr (λ m. true≢false (sym (m.closed (map number_of one.0.arguments) so.0 so.1) ∙ so.2)))
      (all_or_one (λ (a : Atom). tells e (map number_of a.arguments)) atoms)
    where
      met : Each (λ (a : Atom). tells e (map number_of a.arguments) ≡ true) atoms → (ds : List ℕ) → is_instance w e.pattern.slots ds ≡ true → w.truth e.pattern.predicate ds ≡ true → list_any (is_value_of w e.pattern.predicate ds) e.listed ≡ true
      met each ds is holds =
          let found = found_in (λ a. atom_eq a (ground e.pattern.predicate ds)) atoms (sym (has.all e.pattern.predicate ds) ∙ holds) in
          let same : found.0 ≡ ground e.pattern.predicate ds = atom_cmp_tells found.0 (ground e.pattern.predicate ds) ((Equal-is (atom_cmp found.0 (ground e.pattern.predicate ds))).0 found.2) in
          let objects : map number_of found.0.arguments ≡ ds = ap (λ (a : Atom). map number_of a.arguments) same ∙ objects_back ds in
          let told = subst (λ (es : List ℕ). tells e es ≡ true) objects (each_in (λ (a : Atom). tells e (map number_of a.arguments) ≡ true) atoms found.0 each found.1) in
          tells_so (is_instance w e.pattern.slots ds) (w.truth e.pattern.predicate ds) (list_any (is_value_of w e.pattern.predicate ds) e.listed) told is holds

  -- ---- items

  holds_or_not : (b : Bool) → (b ≡ true) ⊎ (b ≡ true → ⊥)
  holds_or_not b = ⊎_elim (λ is. inl is) (λ other. inr (λ is. true≢false (sym is ∙ other))) (cases_Bool b)

  keeps_or_not : (x : Start) → Keeps p w x ⊎ (Keeps p w x → ⊥)
  keeps_or_not (StartKf l) = holds_or_not (true_in w l)
  keeps_or_not (StartKw c) = inl tt
  keeps_or_not (StartKv t) = inl tt
  keeps_or_not (StartKx g) = holds_or_not (exactly_one (true_in w) g)
  keeps_or_not (StartLcw x) = meets_or_not (initial_entry (initial p).kf x)

  pub broken_or_none : (xs : List Start) (k : ℕ) → ((n : ℕ) × IsFirstBroken p w xs k n) ⊎ ((n : ℕ) → IsFirstBroken p w xs k n → ⊥)
  broken_or_none [] k = inr (λ n broken. broken)
  broken_or_none (x ∷ xs) k =
      ⊎_elim
      (λ kept. ⊎_elim (λ later. inl (later.0, inr (kept, later.1))) (λ none. inr (λ n broken. ⊎_elim (λ here. here.0 kept) (λ later. none n later.1) broken)) (broken_or_none xs (k + 1)))
      (λ breaks. inl (k, inl (breaks, refl)))
      (keeps_or_not x)
