-- Where no action adds a region, groups of objects stay so, and no region comes.
use Rattle.std.proofs.Common.{◌≡◌, ◌++◌, ℕ, inl, inr, List, [], ◌∷◌, map, filter, filter_map, flat_map, Option, Some, None, slice_get, unwrap_or, refl, sym, ap, ◌∙◌, subst}
use Rattle.pks_terms.specs.Sets.{Each, IsIn, added, set_of}
use Rattle.pks_terms.specs.Syntax.{Inner, Literal}
use Rattle.pks_terms.specs.Orders.{conj_cmp}
use Rattle.pks_terms.specs.Totality.{conj_cmp_total}
use Rattle.pks_terms.specs.Databases.{Entry, entry_cmp, Five, normal_literal}
use Rattle.pks_terms.specs.Closure.{rounds, normal_group, normal_entry, tidied, Next}
use Rattle.pks_terms.specs.Actions.{Effect, Item, ItemKf, ItemKw, ItemKv, ItemLcw, Add, Schema, Instance, effect_at}
use Rattle.pks_terms.specs.Problems.{Problem, schema_of}
use Rattle.pks_terms.specs.Progress.{Progress, progressed, is_untouched, kept_entry, regions_added, is_applied_in, entry_terms}
use Rattle.pks_terms.specs.Signatures.{Signature}
use Rattle.pks_terms.proofs.Kept.{each_get}
use Rattle.pks_terms.proofs.ListLaws.{each_in, each_of, in_filtered, in_mapped}
use Rattle.pks_terms.proofs.OrderLaws.{conj_cmp_tells}
use Rattle.pks_terms.proofs.Sequences.{each_in_sequence}
use Rattle.pks_terms.proofs.SetLaws.{in_set_of}
use Rattle.pks_laws.proofs.Belonging.{end_of}
use Rattle.pks_laws_forget.specs.Transparent.{AreObjects, IsOfObjects}
use Rattle.pks_laws_forget.proofs.Cut.{rounds_leave}
use Rattle.pks_laws_forget.proofs.Objects.{literal_normal}
use Rattle.pks_laws_forget.specs.Ends.{IsNoRegion, AddsNoRegion, HasObjectGroups, KeepsAtObjects}

module _ (kf : List Literal) where
  all_at_objects : (g : List Literal) → Each IsOfObjects g → Each IsOfObjects (map (normal_literal kf) g)
  all_at_objects [] o = tt
  all_at_objects (l ∷ g) o = (subst IsOfObjects (sym (literal_normal kf l o.0)) o.0, all_at_objects g o.1)

  groups_at_objects : (gs : List (List Literal)) → Each (λ g. Each IsOfObjects g) gs → Each (λ g. Each IsOfObjects g) (set_of conj_cmp (map (normal_group kf) gs))
  groups_at_objects gs o =
      each_of (λ g. Each IsOfObjects g) (set_of conj_cmp (map (normal_group kf) gs))
      (λ g i. let r = in_mapped (normal_group kf) gs g (in_set_of conj_cmp_total conj_cmp_tells (map (normal_group kf) gs) g i) in
      subst (Each IsOfObjects) r.2 (each_in_sequence IsOfObjects (map (normal_literal kf) r.0) (all_at_objects r.0 (each_in (λ g. Each IsOfObjects g) gs r.0 o r.1))))

-- adds that are no regions give none
none_added : (s : Signature) (d : Five) (es : List Effect) (given : List Inner) (adds : List Add) → Each (λ a. IsNoRegion a.item) adds → (keep : List Add) → ((a : Add) → IsIn a keep → IsIn a adds) → flat_map (λ (a : Add). regions_added s d es given a.item) keep ≡ []
none_added s d es given adds none [] among = refl
none_added s d es given adds none (a ∷ keep) among = by_item a.item (each_in (λ (a : Add). IsNoRegion a.item) adds a none (among a first)) (none_added s d es given adds none keep (λ b i. among b (later b i)))
  where
    first : IsIn a (a ∷ keep)
    first = inl refl

    later : (b : Add) → IsIn b keep → IsIn b (a ∷ keep)
    later b i = inr i

    by_item : (x : Item) → IsNoRegion x → flat_map (λ (a : Add). regions_added s d es given a.item) keep ≡ [] → regions_added s d es given x ++ flat_map (λ (a : Add). regions_added s d es given a.item) keep ≡ []
    by_item (ItemKf l) n e = e
    by_item (ItemKw c) n e = e
    by_item (ItemKv t) n e = e
    by_item (ItemLcw x) n e = absurd n

module _ (p : Problem) (none : AddsNoRegion p) where
  schema_adds : (n : ℕ) → Each (λ a. IsNoRegion a.item) (schema_of p n).adds
  schema_adds n = by_place (slice_get p.schemas n) refl
    where
      by_place : (o : Option Schema) → slice_get p.schemas n ≡ o → Each (λ a. IsNoRegion a.item) (unwrap_or o (record { cost = 1; parameters = []; pre = []; effects = []; senses = []; adds = [] })).adds
      by_place None e = tt
      by_place (Some sc) e = each_get (λ sc. Each (λ a. IsNoRegion a.item) sc.adds) p.schemas n sc e none

  begun : (d : Five) (i : Instance) → HasObjectGroups d → HasObjectGroups (progressed p.signature d (schema_of p i.action) i.arguments)
  unfolding progressed
  begun d i o =
      let sc = schema_of p i.action in
      let es = map (effect_at i.arguments) sc.effects in
      record {
        groups = each_of (λ g. Each IsOfObjects g) (filter (is_untouched p.signature d es) d.kx) (λ g j. each_in (λ g. Each IsOfObjects g) d.kx g o.groups (in_filtered (is_untouched p.signature d es) d.kx g j).0);
        regions =
            ap (λ rs. added entry_cmp (set_of entry_cmp (filter_map (kept_entry p.signature d es) rs)) (flat_map (λ (a : Add). regions_added p.signature d es i.arguments a.item) (filter (is_applied_in p.signature d i.arguments) sc.adds))) o.regions
            ∙ ap (added entry_cmp []) (none_added p.signature d es i.arguments sc.adds (schema_adds i.action) (filter (is_applied_in p.signature d i.arguments) sc.adds) (λ a j. (in_filtered (is_applied_in p.signature d i.arguments) sc.adds a j).0));
      }

  progressed_fits : (d : Five) (i : Instance) (x : Five) → HasObjectGroups d → Progress p.signature d (schema_of p i.action) i (Next x) → HasObjectGroups x
  unfolding tidied
  progressed_fits d i x o q =
      let from = progressed p.signature d (schema_of p i.action) i.arguments in
      let e = end_of p.signature from x q in
      let keep = rounds_leave p.signature q.count from in
      let r : Five = rounds p.signature q.count from in
      let own = begun d i o in
      let made : HasObjectGroups (tidied r) = record {
        groups = groups_at_objects r.kf r.kx (subst (λ gs. Each (λ g. Each IsOfObjects g) gs) keep.0 own.groups);
        regions = ap (λ rs. set_of entry_cmp (map (normal_entry r.kf) rs)) (sym keep.1 ∙ own.regions);
      } in
      subst HasObjectGroups (sym e.1) made

  pub keeps_at_objects : KeepsAtObjects p HasObjectGroups
  keeps_at_objects = record {
    objects = λ d o. record { groups = o.groups; regions = subst (λ (rs : List Entry). Each (λ r. AreObjects (entry_terms r)) rs) (sym o.regions) tt };
    acts = λ d i x chosen o q. progressed_fits d i x o q;
    learnt = λ d e groups regions o. record { groups = subst (λ gs. Each (λ g. Each IsOfObjects g) gs) groups o.groups; regions = sym regions ∙ o.regions };
  }
