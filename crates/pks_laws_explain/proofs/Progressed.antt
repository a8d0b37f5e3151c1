-- What an action makes of databases is shown after it, where they are shown before it.
use Rattle.std.proofs.Common.{◌≡◌, ◌≤◌, ℕ, suc, true, not, is_some, List, filter, filter_map, flat_map, slice_get, Some, refl}
use Rattle.std.proofs.lemmas.Bool.{not-true}
use Rattle.pks_terms.specs.Sets.{Each, IsIn, added, set_of}
use Rattle.pks_terms.specs.Syntax.{Inner, Literal}
use Rattle.pks_terms.specs.Orders.{literal_cmp}
use Rattle.pks_terms.specs.Databases.{Entry, entry_cmp, Five}
use Rattle.pks_terms.specs.Queries.{answers_plain}
use Rattle.pks_terms.specs.Actions.{Effect, Add, Schema, Instance, plain_at}
use Rattle.pks_terms.specs.Spoiling.{spoils}
use Rattle.pks_terms.specs.Justified.{given_of, case_of}
use Rattle.pks_terms.specs.Typed.{AreJustified}
use Rattle.pks_terms.specs.Problems.{Problem, schema_of}
use Rattle.pks_terms.specs.Branching.{is_allowed}
use Rattle.pks_terms.specs.Progress.{is_untouched, kept_entry, literals_added, regions_added, is_applied_in, progressed}
use Rattle.pks_terms.specs.Settling.{effects_of}
use Rattle.pks_terms.proofs.ListLaws.{each_in, each_filter, each_filter_map, each_flat_map, each_added, each_set_of, in_filtered}
use Rattle.pks_laws.proofs.Progressing.{given_answered}
use Rattle.pks_terms.specs.Proofs.{Path, deeds, final_moment}
use Rattle.pks_laws_explain.specs.Shown.{IsShownInOrder, AreShown}
use Rattle.pks_laws_explain.proofs.Stepped.{lasts}
use Rattle.pks_laws_explain.proofs.Acted.{literals_added_shown, untouched_shown}
use Rattle.pks_laws_explain.proofs.Grown.{region_left}
use Rattle.pks_laws_explain.proofs.Cleared.{Fine, regions_added_shown}

module _ (p : Problem) (path : Path) (m : ℕ) (next : suc m ≤ final_moment path) (i : Instance) (there : slice_get (deeds path) m ≡ Some i) (d : Five) (shown : AreShown p path m d)
    (allowed : is_allowed p.signature d (schema_of p i.action) i.arguments ≡ true) (justified : AreJustified (schema_of p i.action)) where
  abbrev sc : Schema
  sc = schema_of p i.action

  abbrev given : List Inner
  given = i.arguments

  abbrev es : List Effect
  es = effects_of p i

  abbrev adds : List Add
  adds = filter (is_applied_in p.signature d given) sc.adds

  applied : (a : Add) → IsIn a adds → Each (λ q. answers_plain p.signature d (plain_at given q) ≡ true) (given_of sc a) × (is_some (case_of sc a) ≡ true)
  applied a k =
      let q = in_filtered (is_applied_in p.signature d given) sc.adds a k in
      (given_answered p.signature d sc given a allowed q.1, each_in (λ a. is_some (case_of sc a) ≡ true) sc.adds a justified q.0)

  abbrev G : Literal → Type 0
  G = IsShownInOrder p path (suc m)

  abbrev F : Entry → Type 0
  F = Fine p path m next i there d shown

  abbrev kept_literals : List Literal
  kept_literals = filter (λ l. not (spoils p.signature d es l)) d.kf

  abbrev new_literals : List Literal
  new_literals = flat_map (λ a. literals_added p.signature d es given sc a a.item) adds

  literals : Each G (added literal_cmp kept_literals new_literals)
  literals =
      each_added G literal_cmp kept_literals new_literals
      (each_filter G (λ l. not (spoils p.signature d es l)) d.kf (λ l k h. lasts p path m next i there d shown l k (not-true _ h)))
      (each_flat_map G (λ a. literals_added p.signature d es given sc a a.item) adds (λ a k. let q = applied a k in literals_added_shown p path m next i there d shown a q.0 q.1 a.item refl))

  abbrev kept_regions : List Entry
  kept_regions = filter_map (kept_entry p.signature d es) d.lcw

  abbrev new_regions : List Entry
  new_regions = flat_map (λ (a : Add). regions_added p.signature d es given a.item) adds

  regions : Each F (added entry_cmp (set_of entry_cmp kept_regions) new_regions)
  regions =
      each_added F entry_cmp (set_of entry_cmp kept_regions) new_regions
      (each_set_of F entry_cmp kept_regions (each_filter_map F (kept_entry p.signature d es) d.lcw (λ r e k h. region_left p path m next i there d shown r e k (shown.listed r k) h)))
      (each_flat_map F (λ a. regions_added p.signature d es given a.item) adds (λ a k. regions_added_shown p path m next i there d shown a (applied a k).1 a.item refl))

  untouched : (g : List Literal) → IsIn g (filter (is_untouched p.signature d es) d.kx) → IsIn g d.kx × (is_untouched p.signature d es g ≡ true)
  untouched g k = in_filtered (is_untouched p.signature d es) d.kx g k

  pub progressed_shown : AreShown p path (suc m) (progressed p.signature d sc given)
  unfolding progressed
  progressed_shown = record {
    known = λ l k. (each_in G (added literal_cmp kept_literals new_literals) l literals k).0;
    ordered = λ l k. (each_in G (added literal_cmp kept_literals new_literals) l literals k).1;
    groups = λ g k. let q = untouched g k in untouched_shown p path m next i there d shown g q.0 q.1;
    members = λ g k. shown.members g (untouched g k).0;
    sorted = λ g k. shown.sorted g (untouched g k).0;
    regions = λ e k. (each_in F (added entry_cmp (set_of entry_cmp kept_regions) new_regions) e regions k).0;
    listed = λ e k. (each_in F (added entry_cmp (set_of entry_cmp kept_regions) new_regions) e regions k).1;
  }
