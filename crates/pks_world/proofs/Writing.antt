-- What one target writes.
use Rattle.std.proofs.Common.{◌≡◌, ◌&&◌, ◌==◌, ℕ, Bool, true, false, cond, List, [], ◌∷◌, map, Some, None, refl, ap, ◌∙◌, subst}
use Rattle.std.specs.Option.{unwrap_or}
use Rattle.std.specs.Ordering.{is_eq}
use Rattle.std.proofs.lemmas.Cmp.{tied_itself}
use Rattle.std.proofs.lemmas.Bool.{and_parts, and_from, eqb-true, eq-eqb}
use Rattle.pks_terms.specs.Syntax.{Object, Inner, Form, Term, Atom, place}
use Rattle.pks_terms.specs.Orders.{number_of, arguments_of, term_cmp, term_eq}
use Rattle.pks_terms.specs.Totality.{atom_cmp_total, term_cmp_total}
use Rattle.pks_terms.specs.Worlds.{World, inner_value, value_of}
use Rattle.pks_terms.specs.Databases.{same_objects}
use Rattle.pks_terms.specs.Actions.{Set, Unset, Assign}
use Rattle.pks_terms.proofs.Types.{both_ways}
use Rattle.pks_terms.proofs.OrderLaws.{same_term}
use Rattle.pks_laws.proofs.Values.{same_objects_same}
use Rattle.pks_laws.proofs.Holding.{same_objects_itself}
use Rattle.pks_world.specs.Contents.{ground, atom_eq, with_truth, with_value}
use Rattle.pks_world.specs.Applied.{written_to}
use Rattle.pks_world.proofs.Typing.{same_atom}

number_in : Form ℕ → ℕ
number_in (Object d) = d
number_in t = 0

-- lists of objects as terms are equal only where the objects are
same_lifted : {A : Type 0} (ds es : List ℕ) → ◌≡◌ {A = List (Form A)} (map Object ds) (map Object es) → ds ≡ es
same_lifted [] [] e = refl
same_lifted [] (x ∷ es) e = cc
same_lifted (d ∷ ds) [] e = cc
same_lifted {A} (d ∷ ds) (x ∷ es) e = let h : d ≡ x = cc in let t : ◌≡◌ {A = List (Form A)} (map Object ds) (map Object es) = cc in λ i. h i ∷ same_lifted ds es t i

-- equal atoms at objects have the same predicate and the same objects
ground_eq : (q p : ℕ) (es ds : List ℕ) → atom_eq (ground q es) (ground p ds) ≡ ((q == p) && same_objects es ds)
ground_eq q p es ds = both_ways _ _
    (λ h. let e = same_atom (ground q es) (ground p ds) h in
    and_from (q == p) (same_objects es ds) (eq-eqb q p (ap (λ (a : Atom). a.predicate) e)) (same_objects_itself es ds (same_lifted es ds (ap (λ (a : Atom). a.arguments) e))))
    (λ h. let k = and_parts (q == p) (same_objects es ds) h in
    let e : ground q es ≡ ground p ds = λ i. ground (eqb-true q p k.0 i) (same_objects_same es ds k.1 i) in
    subst (λ (a : Atom). atom_eq (ground q es) a ≡ true) e (ap is_eq (tied_itself atom_cmp_total (ground q es))))

-- and so for places
place_eq : (g f : ℕ) (es ds : List ℕ) → term_eq (place g es) (place f ds) ≡ ((g == f) && same_objects es ds)
unfolding term_eq
place_eq g f es ds = both_ways _ _
    (λ h. let e = same_term (place g es) (place f ds) h in
    and_from (g == f) (same_objects es ds) (eq-eqb g f (ap number_of e)) (same_objects_itself es ds (same_lifted es ds (ap arguments_of e))))
    (λ h. let k = and_parts (g == f) (same_objects es ds) h in
    let e : place g es ≡ place f ds = λ i. place (eqb-true g f k.0 i) (same_objects_same es ds k.1 i) in
    subst (λ (t : Term). is_eq (term_cmp (place g es) t) ≡ true) e (ap is_eq (tied_itself term_cmp_total (place g es))))

picked : {X : Type 0} (b : Bool) (x y : X) → cond b x y ≡ unwrap_or (cond b (Some x) None) y
picked true x y = refl
picked false x y = refl

module _ (w v : World) where
  written_truth_of : (a : Atom) (b : Bool) (p : ℕ) (ds : List ℕ) → cond (atom_eq (ground a.predicate (map (value_of w) a.arguments)) (ground p ds)) b (v.truth p ds) ≡ unwrap_or (cond ((a.predicate == p) && same_objects (map (value_of w) a.arguments) ds) (Some b) None) (v.truth p ds)
  written_truth_of a b p ds =
      ap (λ c. cond c b (v.truth p ds)) (ground_eq a.predicate p (map (value_of w) a.arguments) ds) ∙ picked ((a.predicate == p) && same_objects (map (value_of w) a.arguments) ds) b (v.truth p ds)

  pub set_written : (a : Atom) → with_truth v (ground a.predicate (map (value_of w) a.arguments)) true ≡ written_to w (Set a) v
  set_written a = λ i. record { truth = λ p ds. written_truth_of a true p ds i; value = v.value }

  pub unset_written : (a : Atom) → with_truth v (ground a.predicate (map (value_of w) a.arguments)) false ≡ written_to w (Unset a) v
  unset_written a = λ i. record { truth = λ p ds. written_truth_of a false p ds i; value = v.value }

  pub assign_written : (f : ℕ) (ts : List Inner) (t : Term) → with_value v (place f (map (inner_value w) ts)) (value_of w t) ≡ written_to w (Assign f ts t) v
  assign_written f ts t = λ i. record {
    truth = v.truth;
    value = λ g ds. (ap (λ c. cond c (value_of w t) (v.value g ds)) (place_eq f g (map (inner_value w) ts) ds) ∙ picked ((f == g) && same_objects (map (inner_value w) ts) ds) (value_of w t) (v.value g ds)) i;
  }
