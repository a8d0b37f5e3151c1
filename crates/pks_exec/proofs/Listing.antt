-- The list of an initial region, and when a world meets the region.
use Rattle.std.proofs.Common.{◌≡◌, ◌||◌, ℕ, Bool, true, false, not, List, [], ◌∷◌, map, filter_map, length, Option, Some, None, IsTrue, refl, sym, ap, ◌∙◌, true≢false}
use Rattle.std.specs.List.{list_any, cons_option}
use Rattle.std.specs.Option.{option_map_or}
use Rattle.pks_terms.specs.Sets.{set_of}
use Rattle.pks_terms.specs.Syntax.{Atom, Pattern, object, affirmed}
use Rattle.pks_terms.specs.Orders.{literal_cmp, atom_cmp}
use Rattle.pks_terms.specs.Worlds.{World, value_of, true_in}
use Rattle.pks_terms.specs.Meaning.{IsWorld, Meets, is_value_of}
use Rattle.pks_terms.specs.Problems.{Problem, known_start, atom_on, initial_entry, initial}
use Rattle.pks_terms.proofs.ListLaws.{any_set_of}
use Rattle.pks_terms.proofs.OrderLaws.{literal_cmp_tells, atom_cmp_tells}
use Rattle.pks_laws.proofs.Sensing.{true_atoms_typed}
use Rattle.pks_world.specs.Contents.{ground}
use Rattle.pks_exec.specs.Instances.{is_value, is_listed, is_told, all_instances}
use Rattle.pks_exec.proofs.Meeting.{each_passes, some_fails, objects_below}

-- ---- an atom at objects

values_of_objects : (w : World) (ds : List ℕ) → map (value_of w) (map object ds) ≡ ds
unfolding value_of
values_of_objects w [] = refl
values_of_objects w (d ∷ ds) = λ i. d ∷ values_of_objects w ds i

pub true_of : (w : World) (q : ℕ) (ds : List ℕ) (a : Atom) → a ≡ ground q ds → true_in w (affirmed a) ≡ w.truth q ds
unfolding true_in
true_of w q ds a e = ap (λ x. true_in w (affirmed x)) e ∙ ap (w.truth q) (values_of_objects w ds)

pub listed_of : (p : Problem) (w : World) (q : ℕ) (ds : List ℕ) (a : Atom) → a ≡ ground q ds → is_listed p w a.predicate (map (value_of w) a.arguments) ≡ is_listed p w q ds
listed_of p w q ds a e = ap (λ (x : Atom). is_listed p w x.predicate (map (value_of w) x.arguments)) e ∙ ap (is_listed p w q) (values_of_objects w ds)

-- ---- the list of a region

any_filter_map : {X Y : Type 0} (q : Y → Bool) (f : X → Option Y) (xs : List X) → list_any q (filter_map f xs) ≡ list_any (λ x. option_map_or q (f x) false) xs
any_filter_map q f [] = refl
any_filter_map q f (x ∷ xs) = more (f x) ∙ ap (λ b. option_map_or q (f x) false || b) (any_filter_map q f xs)
  where
    more : (o : Option _) → list_any q (cons_option o (filter_map f xs)) ≡ (option_map_or q o false || list_any q (filter_map f xs))
    more None = refl
    more (Some y) = refl

listed_is : (p : Problem) (w : World) (x : Pattern) (ds : List ℕ) → list_any (is_value_of w x.predicate ds) (initial_entry (initial p).kf x).listed ≡ is_listed p w x.predicate ds
unfolding initial
listed_is p w x ds =
    let q = x.predicate in
    any_set_of atom_cmp atom_cmp_tells (is_value_of w q ds) (filter_map (atom_on q) (set_of literal_cmp (filter_map known_start p.init)))
    ∙ (any_filter_map (is_value_of w q ds) (atom_on q) (set_of literal_cmp (filter_map known_start p.init))
    ∙ (any_set_of literal_cmp literal_cmp_tells (is_value w q ds) (filter_map known_start p.init)
    ∙ any_filter_map (is_value w q ds) known_start p.init))

-- ---- a region is met

told_not : (t l : Bool) → (not t || l) ≡ false → (t ≡ true) × (l ≡ false)
told_not true l h = (refl, h)
told_not false l h = absurd (true≢false h)

module _ (p : Problem) (w : World) (x : Pattern) where
  abbrev tells : Bool
  tells = all_instances w (length p.signature.objects) (is_told p w x.predicate) [] x.slots

  told_meets : IsWorld p.signature w → tells ≡ true → Meets w (initial_entry (initial p).kf x)
  told_meets world all = record {
    closed = λ ds is holds.
        let told = each_passes w (length p.signature.objects) (is_told p w x.predicate) x.slots [] ds all is (objects_below p.signature _ ds (true_atoms_typed p.signature w world x.predicate ds holds)) in
        listed_is p w x ds ∙ (sym (ap (λ t. not t || is_listed p w x.predicate ds) holds) ∙ told);
  }

  untold_breaks : tells ≡ false → Meets w (initial_entry (initial p).kf x) → ⊥
  untold_breaks not_so meets =
      let found = some_fails w (length p.signature.objects) (is_told p w x.predicate) x.slots [] not_so in
      let untold = told_not (w.truth x.predicate found.0) (is_listed p w x.predicate found.0) found.2 in
      true≢false (sym (meets.closed found.0 found.1 untold.0) ∙ (listed_is p w x found.0 ∙ untold.1))

  pub told_exactly : (b : Bool) → b ≡ tells → IsWorld p.signature w → (IsTrue b → Meets w (initial_entry (initial p).kf x)) × (Meets w (initial_entry (initial p).kf x) → IsTrue b)
  told_exactly true e world = (λ t. told_meets world (sym e), λ m. refl)
  told_exactly false e world = (λ t. absurd (true≢false (sym t)), λ m. absurd (untold_breaks (sym e) m))
