-- A world is compatible where it keeps each initial item.
use Rattle.std.proofs.Common.{◌≡◌, true, List, map, filter_map, Some, refl, subst}
use Rattle.std.proofs.lemmas.Option.{none-some, same_Some}
use Rattle.pks_terms.specs.Sets.{Each, IsIn, exactly_one, set_of}
use Rattle.pks_terms.specs.Syntax.{Literal, Pattern}
use Rattle.pks_terms.specs.Orders.{literal_cmp, conj_cmp}
use Rattle.pks_terms.specs.Totality.{literal_cmp_total, conj_cmp_total, entry_cmp_total}
use Rattle.pks_terms.specs.Worlds.{World, true_in}
use Rattle.pks_terms.specs.Databases.{entry_cmp}
use Rattle.pks_terms.specs.Meaning.{IsWorld, Meets}
use Rattle.pks_terms.specs.Problems.{Start, StartKf, StartKw, StartKv, StartKx, StartLcw, known_start, group_start, region_start, initial_entry, Problem, initial, IsCompatible}
use Rattle.pks_terms.specs.Answers.{Keeps}
use Rattle.pks_terms.proofs.ListLaws.{each_in, each_of, each_map, each_filter_map, each_set_of, in_map}
use Rattle.pks_terms.proofs.OrderLaws.{literal_cmp_tells, conj_cmp_tells, entry_cmp_tells}
use Rattle.pks_terms.proofs.SetLaws.{set_of_in}
use Rattle.pks_laws.proofs.Least.{in_filter_map}

module _ (p : Problem) (w : World) where
  abbrev known : List Literal
  known = set_of literal_cmp (filter_map known_start p.init)

  same_known : (initial p).kf ≡ known
  unfolding initial
  same_known = refl

  kept_literal : (x : Start) (l : Literal) → Keeps p w x → known_start x ≡ Some l → true_in w l ≡ true
  kept_literal (StartKf m) l k e = subst (λ n. true_in w n ≡ true) (same_Some m l e) k
  kept_literal (StartKw c) l k e = absurd (none-some l e)
  kept_literal (StartKv t) l k e = absurd (none-some l e)
  kept_literal (StartKx g) l k e = absurd (none-some l e)
  kept_literal (StartLcw x) l k e = absurd (none-some l e)

  kept_group : (x : Start) (g : List Literal) → Keeps p w x → group_start x ≡ Some g → exactly_one (true_in w) g ≡ true
  kept_group (StartKx m) g k e = subst (λ n. exactly_one (true_in w) n ≡ true) (same_Some m g e) k
  kept_group (StartKf l) g k e = absurd (none-some g e)
  kept_group (StartKw c) g k e = absurd (none-some g e)
  kept_group (StartKv t) g k e = absurd (none-some g e)
  kept_group (StartLcw x) g k e = absurd (none-some g e)

  kept_region : (x : Start) (y : Pattern) → Keeps p w x → region_start x ≡ Some y → Meets w (initial_entry (initial p).kf y)
  kept_region (StartLcw m) y k e = subst (λ n. Meets w (initial_entry (initial p).kf n)) (same_Some m y e) k
  kept_region (StartKf l) y k e = absurd (none-some y e)
  kept_region (StartKw c) y k e = absurd (none-some y e)
  kept_region (StartKv t) y k e = absurd (none-some y e)
  kept_region (StartKx g) y k e = absurd (none-some y e)

  pub kept_compatible : IsWorld p.signature w → Each (Keeps p w) p.init → IsCompatible p w
  unfolding initial
  kept_compatible i k = record {
    world = i;
    known = each_set_of (λ l. true_in w l ≡ true) literal_cmp (filter_map known_start p.init) (each_filter_map (λ l. true_in w l ≡ true) known_start p.init (λ x l j e. kept_literal x l (each_in (Keeps p w) p.init x k j) e));
    groups = each_set_of (λ g. exactly_one (true_in w) g ≡ true) conj_cmp (filter_map group_start p.init) (each_filter_map (λ g. exactly_one (true_in w) g ≡ true) group_start p.init (λ x g j e. kept_group x g (each_in (Keeps p w) p.init x k j) e));
    regions = each_set_of (Meets w) entry_cmp (map (initial_entry known) (filter_map region_start p.init))
        (each_map (Meets w) (initial_entry known) (filter_map region_start p.init) (each_filter_map (λ y. Meets w (initial_entry known y)) region_start p.init (λ x y j e. kept_region x y (each_in (Keeps p w) p.init x k j) e)));
  }

  pub compatible_kept : IsCompatible p w → Each (Keeps p w) p.init
  unfolding initial
  compatible_kept c = each_of (Keeps p w) p.init keeps
    where
      keeps : (x : Start) → IsIn x p.init → Keeps p w x
      keeps (StartKf l) j = each_in (λ l. true_in w l ≡ true) known l c.known (set_of_in literal_cmp_total literal_cmp_tells (filter_map known_start p.init) l (in_filter_map known_start p.init (StartKf l) l j refl))
      keeps (StartKw f) j = tt
      keeps (StartKv t) j = tt
      keeps (StartKx g) j = each_in (λ g. exactly_one (true_in w) g ≡ true) (set_of conj_cmp (filter_map group_start p.init)) g c.groups (set_of_in conj_cmp_total conj_cmp_tells (filter_map group_start p.init) g (in_filter_map group_start p.init (StartKx g) g j refl))
      keeps (StartLcw y) j =
          each_in (Meets w) (set_of entry_cmp (map (initial_entry known) (filter_map region_start p.init))) (initial_entry known y) c.regions
          (set_of_in entry_cmp_total entry_cmp_tells (map (initial_entry known) (filter_map region_start p.init)) (initial_entry known y) (in_map (initial_entry known) (filter_map region_start p.init) y (in_filter_map region_start p.init (StartLcw y) y j refl)))
