-- What is known at first is shown, and what a side that is taken adds.
use Rattle.std.proofs.Common.{◌≡◌, ◌&&◌, ◌==◌, ◌≤◌, ℕ, suc, Bool, true, false, cond, not, List, [], ◌∷◌, map, filter, filter_map, slice_get, Some, refl, sym, ap, ◌∙◌, subst, inl, inr, arith}
use Rattle.std.specs.List.{list_any, list_all}
use Rattle.std.specs.Option.{option_map_or}
use Rattle.std.proofs.lemmas.Bool.{and_from, eq-eqb}
use Rattle.std.proofs.lemmas.Option.{none-some, same_Some}
use Rattle.pks_terms.specs.Sets.{Each, IsIn, IsOrdered, with_others, added, insert_in}
use Rattle.pks_terms.specs.Syntax.{Term, object, Equality, Literal, Pattern, negated}
use Rattle.pks_terms.specs.Orders.{literal_cmp, conj_cmp, atom_cmp, literal_eq, equation}
use Rattle.pks_terms.specs.Totality.{literal_cmp_total, conj_cmp_total, atom_cmp_total, entry_cmp_total}
use Rattle.pks_terms.specs.Databases.{Entry, entry_cmp, Five, holds}
use Rattle.pks_terms.specs.Problems.{Start, StartKf, StartKw, StartKv, StartKx, StartLcw, known_start, group_start, region_start, atom_on, initial_entry, Problem, initial}
use Rattle.pks_terms.specs.Branching.{Choice, BranchOn, CasesOn, Side, AsTrue, AsFalse, Is, denials, assumed_formula, assumed}
use Rattle.pks_terms.proofs.ListLaws.{each_in, each_of, each_append, each_added, each_insert_in, in_mapped, any_in}
use Rattle.pks_terms.proofs.OrderLaws.{literal_cmp_tells, conj_cmp_tells, atom_cmp_tells, entry_cmp_tells}
use Rattle.pks_terms.proofs.SetLaws.{ordered_set_of, in_set_of}
use Rattle.pks_terms.specs.Moments.{IsInOrder}
use Rattle.pks_terms.specs.Valid.{IsStartText, IsValid}
use Rattle.pks_laws.proofs.SidesInOrder.{initial_ordered}
use Rattle.pks_laws.proofs.Least.{literal_eq_itself, in_filter_mapped}
use Rattle.pks_terms.specs.Proofs.{Fact, FactLit, FactKx, FactLcw, Path, final_moment, Taking, takings, nth, ByGiven, BySide}
use Rattle.pks_terms.specs.Judging.{Judge, fact_eq, are_cited}
use Rattle.pks_terms.specs.Reasons.{said_by, says_side}
use Rattle.pks_laws_explain.specs.Shown.{IsShownInOrder, IsShown, AreShown}
use Rattle.pks_laws_explain.proofs.Growing.{shown_within}
use Rattle.pks_laws_explain.proofs.Needed.{Needs, needs_all, needs_cited, all_at, negated_ordered}
use Rattle.pks_laws_explain.proofs.Equal.{literal_ordered}
use Rattle.pks_laws_explain.proofs.Derived.{held}
use Rattle.pks_laws_explain.proofs.Gathered.{all_good}

-- ---- initial items

in_nth : {X : Type 0} (xs : List X) (x : X) → IsIn x xs → (n : ℕ) × (nth xs n ≡ Some x)
in_nth xs x i = let r = got xs x i in (suc r.0, r.1)
  where
    got : {X : Type 0} (xs : List X) (x : X) → IsIn x xs → (n : ℕ) × (slice_get xs n ≡ Some x)
    got [] x i = absurd i
    got (y ∷ xs) x (inl e) = (0, ap Some e)
    got (y ∷ xs) x (inr i) = let r = got xs x i in (suc r.0, r.1)

module _ (p : Problem) (path : Path) where
  zero_within : 0 ≤ final_moment path
  zero_within = omega arith

  given_shown : (x : Start) → IsIn x p.init → (f : Fact) → said_by p x ≡ Some f → fact_eq f f ≡ true → IsShown p path 0 f
  given_shown x i f e itself =
      let n = in_nth p.init x i in
      shown_within p path [] 0 tt f (ByGiven n.0) zero_within (λ j g.
      ap (λ o. option_map_or (λ x. option_map_or (λ g. fact_eq g f) (said_by p x) false) o false) n.1 ∙ ap (λ o. option_map_or (λ g. fact_eq g f) o false) e ∙ itself)

  fact_lit : (x : Start) (l : Literal) → known_start x ≡ Some l → said_by p x ≡ Some (FactLit l)
  fact_lit (StartKf m) l e = ap (λ k. Some (FactLit k)) (same_Some m l e)
  fact_lit (StartKw c) l e = absurd (none-some l e)
  fact_lit (StartKv t) l e = absurd (none-some l e)
  fact_lit (StartKx g) l e = absurd (none-some l e)
  fact_lit (StartLcw y) l e = absurd (none-some l e)

  fact_group : (x : Start) (g : List Literal) → group_start x ≡ Some g → said_by p x ≡ Some (FactKx g)
  fact_group (StartKx h) g e = ap (λ k. Some (FactKx k)) (same_Some h g e)
  fact_group (StartKf l) g e = absurd (none-some g e)
  fact_group (StartKw c) g e = absurd (none-some g e)
  fact_group (StartKv t) g e = absurd (none-some g e)
  fact_group (StartLcw y) g e = absurd (none-some g e)

  fact_region : (x : Start) (y : Pattern) → region_start x ≡ Some y → said_by p x ≡ Some (FactLcw (initial_entry (initial p).kf y))
  fact_region (StartLcw z) y e = ap (λ k. Some (FactLcw (initial_entry (initial p).kf k))) (same_Some z y e)
  fact_region (StartKf l) y e = absurd (none-some y e)
  fact_region (StartKw c) y e = absurd (none-some y e)
  fact_region (StartKv t) y e = absurd (none-some y e)
  fact_region (StartKx g) y e = absurd (none-some y e)

  equal_itself : {X : Type 0} (R : X → X → Rattle.std.specs.declared.cmp.Ordering.Ordering) → Rattle.std.specs.Cmp.IsTotalOrder R → (x : X) → Rattle.std.specs.Ordering.is_eq (R x x) ≡ true
  equal_itself R o x = ap Rattle.std.specs.Ordering.is_eq (Rattle.std.proofs.lemmas.Cmp.tied_itself o x)

  group_item : (x : Start) (g : List Literal) → group_start x ≡ Some g → x ≡ StartKx g
  group_item (StartKx h) g e = ap StartKx (same_Some h g e)
  group_item (StartKf l) g e = absurd (none-some g e)
  group_item (StartKw c) g e = absurd (none-some g e)
  group_item (StartKv t) g e = absurd (none-some g e)
  group_item (StartLcw y) g e = absurd (none-some g e)

  pub initial_shown : IsValid p → AreShown p path 0 (initial p)
  unfolding initial
  initial_shown v = let o = initial_ordered p v in record {
    known = λ l i.
        let r = in_filter_mapped known_start p.init l (in_set_of literal_cmp_total literal_cmp_tells (filter_map known_start p.init) l i) in
        given_shown r.0 r.1 (FactLit l) (fact_lit r.0 l r.2) (literal_eq_itself l l refl);
    ordered = λ l i. each_in IsInOrder (initial p).kf l o.known i;
    groups = λ g i.
        let r = in_filter_mapped group_start p.init g (in_set_of conj_cmp_total conj_cmp_tells (filter_map group_start p.init) g i) in
        given_shown r.0 r.1 (FactKx g) (fact_group r.0 g r.2) (equal_itself conj_cmp conj_cmp_total g);
    members = λ g i. each_in (Each IsInOrder) (initial p).kx g o.groups i;
    sorted = λ g i.
        let r = in_filter_mapped group_start p.init g (in_set_of conj_cmp_total conj_cmp_tells (filter_map group_start p.init) g i) in
        (each_in (IsStartText p.signature) p.init (StartKx g) v.init (subst (λ x. IsIn x p.init) (group_item r.0 g r.2) r.1)).1;
    regions = λ e i.
        let r = in_mapped (initial_entry (initial p).kf) (filter_map region_start p.init) e (in_set_of entry_cmp_total entry_cmp_tells (map (initial_entry (initial p).kf) (filter_map region_start p.init)) e i) in
        let q = in_filter_mapped region_start p.init r.0 r.1 in
        given_shown q.0 q.1 (FactLcw e) (fact_region q.0 r.0 q.2 ∙ ap (λ x. Some (FactLcw x)) r.2) (equal_itself entry_cmp entry_cmp_total e);
    listed = λ e i.
        let r = in_mapped (initial_entry (initial p).kf) (filter_map region_start p.init) e (in_set_of entry_cmp_total entry_cmp_tells (map (initial_entry (initial p).kf) (filter_map region_start p.init)) e i) in
        subst (λ (x : Entry). IsOrdered atom_cmp x.listed) r.2 (ordered_set_of atom_cmp_total atom_cmp_tells (filter_map (atom_on r.0.predicate) (initial p).kf));
  }

  -- ---- sides

  -- the path takes the side at the moment
  abbrev pub IsTaken : ℕ → Choice → Side → Type 0
  IsTaken m c side = (n : ℕ) × (nth (takings 0 path) n ≡ Some (record { moment = m; choice = c; side = side }))

  module _ (m : ℕ) (within : m ≤ final_moment path) (d : Five) (shown : AreShown p path m d) where
    by_side : (c : Choice) (side : Side) → IsTaken m c side → (l : Literal) → Needs p path m (λ j. says_side j m c side l ≡ true) → IsShown p path m (FactLit l)
    by_side c side t l n =
        shown_within p path n.facts m n.so (FactLit l) (BySide t.0) within (λ j e.
        ap (λ o. option_map_or (λ (q : Taking). (q.moment == m) && says_side j m q.choice q.side l) o false) t.1 ∙ and_from _ _ (eq-eqb m m refl) (n.then j n.facts e (λ f x. x)))

    -- the one element that doesn't pass, taken out
    left_out : {X : Type 0} (t : X → Bool) (xs : List X) (x : X) → filter (λ y. not (t y)) xs ≡ x ∷ [] → (q : X × List X) × IsIn q (with_others xs) × (q.0 ≡ x) × (list_all t q.1 ≡ true)
    left_out {X} t [] x e = absurd (no e)
      where
        no : ◌≡◌ {A = List X} [] (x ∷ []) → ⊥
        no e = cc
    left_out {X} t (y ∷ xs) x e =
        elim (t y) as (λ b. t y ≡ b → cond (not b) (y ∷ filter (λ y. not (t y)) xs) (filter (λ y. not (t y)) xs) ≡ x ∷ [] → (q : X × List X) × IsIn q (with_others (y ∷ xs)) × (q.0 ≡ x) × (list_all t q.1 ≡ true)) [
          | true ↦ λ h k. let r = left_out t xs x k in ((r.0.0, y ∷ r.0.1), inr (Rattle.pks_terms.proofs.ListLaws.in_map (λ (q : X × List X). let s : X × List X = (q.0, y ∷ q.1) in s) (with_others xs) r.0 r.1), r.2, and_from _ _ h r.3)
          | false ↦ λ h k. ((y, xs), inl refl, heads k, passing t xs (tails k))
        ] refl e
      where
        heads : {z : X} {zs : List X} → z ∷ zs ≡ x ∷ [] → z ≡ x
        heads k = cc

        tails : {z : X} {zs : List X} → z ∷ zs ≡ x ∷ [] → zs ≡ []
        tails k = cc

        passing : (t : X → Bool) (xs : List X) → filter (λ y. not (t y)) xs ≡ [] → list_all t xs ≡ true
        passing t [] k = refl
        passing t (z ∷ zs) k =
            elim (t z) as (λ b. t z ≡ b → cond (not b) (z ∷ filter (λ y. not (t y)) zs) (filter (λ y. not (t y)) zs) ≡ [] → (b && list_all t zs) ≡ true) [
              | true ↦ λ h n. passing t zs n
              | false ↦ λ h n. absurd (none n)
            ] refl k
          where
            none : {u : X} {us : List X} → u ∷ us ≡ [] → ⊥
            none k = cc

    denials_shown : (c : List Literal) → Each IsInOrder c → IsTaken m (BranchOn c) AsFalse → (ls : List Literal) → filter (λ l. not (holds p.signature d l)) c ≡ ls → Each (IsShownInOrder p path m) (denials ls)
    denials_shown c o t [] e = tt
    denials_shown c o t (l ∷ k ∷ ls) e = tt
    denials_shown c o t (l ∷ []) e =
        let q = left_out (holds p.signature d) c l e in
        let inn : (x : Literal) → IsIn x q.0.1 → IsInOrder x = λ x i. each_in IsInOrder c x o (Rattle.pks_proof_lines.proofs.Groups.other_in c q.0 q.1 x i) in
        let n = needs_all p path m (λ j x. Rattle.pks_terms.specs.Judging.is_cited j m x) q.0.1 (λ x i. needs_cited p path m x (held p path m within d shown x (inn x i) (all_at (holds p.signature d) q.0.1 q.3 x i))) in (
          (
            by_side (BranchOn c) AsFalse t (negated l) (Rattle.pks_laws_explain.proofs.Needed.needs_then p path m (λ j. are_cited j m q.0.1 ≡ true) (λ j. says_side j m (BranchOn c) AsFalse (negated l) ≡ true) (λ j a.
                any_in (λ q. literal_eq (negated l) (negated q.0) && are_cited j m q.1) (with_others c) q.0 q.1 (and_from _ _ (literal_eq_itself (negated l) (negated q.0.0) (ap negated (sym q.2))) a)) n),
            negated_ordered l (subst IsInOrder q.2 (each_in IsInOrder c q.0.0 o (Rattle.pks_proof_lines.proofs.Groups.this_in c q.0 q.1))),
          ),
          tt,
        )

    members_shown : (c : List Literal) → Each IsInOrder c → IsTaken m (BranchOn c) AsTrue → Each (IsShownInOrder p path m) c
    members_shown c o t = each_of (IsShownInOrder p path m) c (λ l i.
        (by_side (BranchOn c) AsTrue t l (Rattle.pks_laws_explain.proofs.Needed.needs_nothing p path m (λ j. says_side j m (BranchOn c) AsTrue l ≡ true) (λ j. any_in (literal_eq l) c l i (literal_eq_itself l l refl))), each_in IsInOrder c l o i))

    same_sets : (kf : List Literal) (kw : List (List Literal)) (kv : List Term) → ((l : Literal) → IsIn l kf → IsShownInOrder p path m l) → AreShown p path m (record { kf = kf; kw = kw; kv = kv; kx = d.kx; lcw = d.lcw })
    same_sets kf kw kv f = record { known = λ l i. (f l i).0; ordered = λ l i. (f l i).1; groups = shown.groups; members = shown.members; sorted = shown.sorted; regions = shown.regions; listed = shown.listed }

    pub side_shown : (c : Choice) (side : Side) → IsTaken m c side → ((b : List Literal) → c ≡ BranchOn b → Each IsInOrder b) → AreShown p path m (assumed p.signature d c side)
    unfolding assumed
    side_shown (BranchOn c) AsTrue t o =
        let all = each_added (IsShownInOrder p path m) literal_cmp d.kf c (all_good p path m d shown) (members_shown c (o c refl) t) in
        same_sets (added literal_cmp d.kf c) (assumed_formula d c c).kw d.kv (λ l i. each_in (IsShownInOrder p path m) (added literal_cmp d.kf c) l all i)
    side_shown (BranchOn c) AsFalse t o =
        let news = denials (filter (λ l. not (holds p.signature d l)) c) in
        let all = each_added (IsShownInOrder p path m) literal_cmp d.kf news (all_good p path m d shown) (denials_shown c (o c refl) t (filter (λ l. not (holds p.signature d l)) c) refl) in
        same_sets (added literal_cmp d.kf news) (assumed_formula d c news).kw d.kv (λ l i. each_in (IsShownInOrder p path m) (added literal_cmp d.kf news) l all i)
    side_shown (CasesOn u) (Is e) t o =
        let l = equation u (object e) in
        let one : IsShownInOrder p path m l = (by_side (CasesOn u) (Is e) t l (Rattle.pks_laws_explain.proofs.Needed.needs_nothing p path m (λ j. says_side j m (CasesOn u) (Is e) l ≡ true) (λ j. literal_eq_itself l l refl)), literal_ordered Equality (u ∷ object e ∷ []) true) in
        let all = each_insert_in (IsShownInOrder p path m) literal_cmp l d.kf one (all_good p path m d shown) in
        same_sets (insert_in literal_cmp l d.kf) d.kw (assumed p.signature d (CasesOn u) (Is e)).kv (λ k i. each_in (IsShownInOrder p path m) (insert_in literal_cmp l d.kf) k all i)
    side_shown (BranchOn c) (Is e) t o = shown
    side_shown (CasesOn u) AsTrue t o = shown
    side_shown (CasesOn u) AsFalse t o = shown
    side_shown (Rattle.pks_terms.specs.Branching.Act i) side t o = shown
