-- What closing adds is shown.
use Rattle.std.proofs.Common.{◌≡◌, ◌&&◌, ◌||◌, ◌==◌, ◌≤◌, ℕ, true, false, cond, List, [], ◌∷◌, ◌++◌, map, filter, flat_map, slice_get, Option, Some, None, refl, sym, ap, ◌∙◌, subst, inl, inr, ⊎_elim, true≢false}
use Rattle.std.specs.List.{list_any, list_all}
use Rattle.std.specs.Option.{option_map_or, option_map}
use Rattle.std.proofs.lemmas.Bool.{or_cases, or_left, or_right, and_parts, and_from, eq-eqb}
use Rattle.pks_terms.specs.Sets.{Each, IsIn, all_some, with_others, one_replaced}
use Rattle.pks_terms.specs.Syntax.{Object, Parameter, Apply, Inner, Term, object, place, term_of, as_object, Equality, Literal, negated}
use Rattle.pks_terms.specs.Orders.{term_cmp, literal_eq, literal, equation, inequation}
use Rattle.pks_terms.specs.Signatures.{Shape, Signature, objects_of, range_of}
use Rattle.pks_terms.specs.Reasons.{others_ruled_out, objects_like}
use Rattle.pks_terms.specs.Databases.{Five, values_at, holds}
use Rattle.pks_terms.specs.Closure.{inner_steps, term_steps, by_value, by_member, by_group, is_application, applications_in, by_range, additions}
use Rattle.pks_terms.specs.Problems.{Problem}
use Rattle.pks_terms.proofs.ListLaws.{each_in, each_of, each_append, each_map, each_flat_map, each_filter, each_weaker, in_map, in_mapped, any_in}
use Rattle.pks_terms.specs.Moments.{IsInOrder}
use Rattle.pks_laws.proofs.Least.{literal_eq_itself}
use Rattle.pks_terms.specs.Proofs.{Fact, FactLit, FactKx, Path, final_moment, ByOnly, ByOthers, ByRange}
use Rattle.pks_terms.specs.Judging.{Judge, is_cited, are_cited, is_group_that}
use Rattle.pks_laws_explain.specs.Shown.{AreShown, IsShownInOrder}
use Rattle.pks_laws_explain.proofs.Growing.{shown_within}
use Rattle.pks_laws_explain.proofs.Equal.{literal_ordered, cited_in, Lit, Same, AllSame, AllSameInner, all_replaced, same_itself, value_shown, same_applied, objects_same}
use Rattle.pks_laws_explain.proofs.Derived.{made_ordered, held}
use Rattle.pks_laws_explain.proofs.Needed.{needs_nothing, needs_then, needs_all, needs_cited, negated_ordered, all_at}
use Rattle.pks_proof_lines.proofs.Groups.{this_in, other_in}

-- an application that occurs in a term is one
pub are_applications : (t : Term) → Each (λ u. is_application u ≡ true) (applications_in t)
are_applications (Object d) = tt
are_applications (Parameter d) = tt
are_applications (Apply f ts) = (refl, each_filter (λ u. is_application u ≡ true) is_application (map term_of ts) (λ u i h. h))

-- each element is taken out once
pub taken_out : {X : Type 0} (xs : List X) (x : X) → IsIn x xs → (q : X × List X) × IsIn q (with_others xs) × (q.0 ≡ x)
taken_out [] x i = absurd i
taken_out {X} (y ∷ xs) x (inl e) = ((y, xs), inl refl, e)
taken_out {X} (y ∷ xs) x (inr i) =
    let r = taken_out xs x i in
    ((r.0.0, y ∷ r.0.1), inr (in_map (λ (q : X × List X). let s : X × List X = (q.0, y ∷ q.1) in s) (with_others xs) r.0 r.1), r.2)

-- where x is among the others of q, q is among the others of x
taken_other : {X : Type 0} (xs : List X) (q : X × List X) → IsIn q (with_others xs) → (x : X) → IsIn x q.1 → (r : X × List X) × IsIn r (with_others xs) × (r.0 ≡ x) × IsIn q.0 r.1
taken_other [] q i x k = absurd i
taken_other {X} (y ∷ xs) q (inl e) x k =
    let r = taken_out xs x (subst (IsIn x) (sym (ap (λ (s : X × List X). s.1) e)) k) in
    ((r.0.0, y ∷ r.0.1), inr (in_map (λ (q : X × List X). let s : X × List X = (q.0, y ∷ q.1) in s) (with_others xs) r.0 r.1), r.2, inl (ap (λ (s : X × List X). s.0) e))
taken_other {X} (y ∷ xs) q (inr i) x k =
    let o = in_mapped (λ (q : X × List X). let s : X × List X = (q.0, y ∷ q.1) in s) (with_others xs) q i in
    let head : o.0.0 ≡ q.0 = ap (λ (s : X × List X). s.0) o.2 in
    ⊎_elim
    (λ e. ((y, xs), inl refl, e, subst (λ z. IsIn z xs) head (this_in xs o.0 o.1)))
    (λ n. let r = taken_other xs o.0 o.1 x n in ((r.0.0, y ∷ r.0.1), inr (in_map (λ (q : X × List X). let s : X × List X = (q.0, y ∷ q.1) in s) (with_others xs) r.0 r.1), r.2, inr (subst (λ z. IsIn z r.0.1) head r.3)))
    (subst (IsIn x) (ap (λ (s : X × List X). s.1) (sym o.2)) k)

-- the range of an application has the objects of its type
range_like : (s : Signature) (f : ℕ) (ts : List Inner) → range_of s (Apply f ts) ≡ objects_like s (Apply f ts)
range_like s f ts = cases (slice_get s.functions f)
  where
    cases : (o : Option Shape) → option_map_or (λ (x : Shape). objects_of s x.result) o [] ≡ option_map_or (objects_of s) (option_map (λ (x : Shape). x.result) o) []
    cases None = refl
    cases (Some x) = refl

module _ (p : Problem) (path : Path) (m : ℕ) (within : m ≤ final_moment path) (d : Five) (shown : AreShown p path m d) where
  abbrev L : Literal → Type 0
  L = Lit p path m within

  abbrev G : Literal → Type 0
  G = IsShownInOrder p path m

  -- ---- by known values

  all_same_itself : (ts : List Term) → AllSame p path m within ts ts
  all_same_itself [] = tt
  all_same_itself (t ∷ ts) = (same_itself p path m within t, all_same_itself ts)

  inners_itself : (ts : List Inner) → AllSameInner p path m within ts ts
  inners_itself [] = tt
  inners_itself (t ∷ ts) = (same_itself p path m within (term_of t), inners_itself ts)

  inner_steps_same : (t : Inner) → Each (λ u. Same p path m within (term_of t) (term_of u)) (inner_steps d.kf t)
  inner_steps_same (Object e) = tt
  inner_steps_same (Parameter e) = tt
  inner_steps_same (Apply f ds) =
      each_map (λ u. Same p path m within (place f ds) (term_of u)) Object (values_at d.kf f ds) (each_of (λ e. Same p path m within (place f ds) (object e)) (values_at d.kf f ds) (λ e i. value_shown p path m within d.kf shown.known f ds e i))

  inners_replaced : (ts : List Inner) → Each (AllSameInner p path m within ts) (one_replaced (inner_steps d.kf) ts)
  inners_replaced [] = tt
  inners_replaced (t ∷ ts) =
      let P : List Inner → Type 0 = AllSameInner p path m within (t ∷ ts) in
      each_append P (map (λ y. y ∷ ts) (inner_steps d.kf t)) (map (λ ys. t ∷ ys) (one_replaced (inner_steps d.kf) ts))
      (each_map P (λ y. y ∷ ts) (inner_steps d.kf t) (each_weaker (λ u. Same p path m within (term_of t) (term_of u)) (λ y. P (y ∷ ts)) (λ y q. (q, inners_itself ts)) (inner_steps d.kf t) (inner_steps_same t)))
      (each_map P (λ ys. t ∷ ys) (one_replaced (inner_steps d.kf) ts) (each_weaker (AllSameInner p path m within ts) (λ ys. P (t ∷ ys)) (λ ys q. (same_itself p path m within (term_of t), q)) (one_replaced (inner_steps d.kf) ts) (inners_replaced ts)))

  pub values_same : (f : ℕ) (ts : List Inner) → Each (λ e. Same p path m within (Apply f ts) (object e)) (option_map_or (values_at d.kf f) (all_some (map as_object ts)) [])
  values_same f ts =
      elim (all_some (map as_object ts)) as (λ o. all_some (map as_object ts) ≡ o → Each (λ e. Same p path m within (Apply f ts) (object e)) (option_map_or (values_at d.kf f) o [])) [
        | None ↦ λ q. tt
        | Some ds ↦ λ q. each_of (λ e. Same p path m within (Apply f ts) (object e)) (values_at d.kf f ds) (λ e i. subst (λ vs. Same p path m within (Apply f vs) (object e)) (sym (objects_same ts ds q)) (value_shown p path m within d.kf shown.known f ds e i))
      ] refl

  term_steps_same : (t : Term) → Each (λ u. Same p path m within t u) (term_steps d.kf t)
  unfolding term_steps
  term_steps_same (Object e) = tt
  term_steps_same (Parameter e) = tt
  term_steps_same (Apply f ts) =
      let P : Term → Type 0 = Same p path m within (Apply f ts) in
      each_append P (map Object (option_map_or (values_at d.kf f) (all_some (map as_object ts)) [])) (map (Apply f) (one_replaced (inner_steps d.kf) ts))
      (each_map P Object (option_map_or (values_at d.kf f) (all_some (map as_object ts)) []) (values_same f ts))
      (each_map P (Apply f) (one_replaced (inner_steps d.kf) ts) (each_weaker (AllSameInner p path m within ts) (λ us. P (Apply f us)) (λ us a. same_applied p path m within f ts us a) (one_replaced (inner_steps d.kf) ts) (inners_replaced ts)))

  terms_replaced : (ts : List Term) → Each (AllSame p path m within ts) (one_replaced (term_steps d.kf) ts)
  terms_replaced [] = tt
  terms_replaced (t ∷ ts) =
      let P : List Term → Type 0 = AllSame p path m within (t ∷ ts) in
      each_append P (map (λ y. y ∷ ts) (term_steps d.kf t)) (map (λ ys. t ∷ ys) (one_replaced (term_steps d.kf) ts))
      (each_map P (λ y. y ∷ ts) (term_steps d.kf t) (each_weaker (Same p path m within t) (λ y. P (y ∷ ts)) (λ y q. (q, all_same_itself ts)) (term_steps d.kf t) (term_steps_same t)))
      (each_map P (λ ys. t ∷ ys) (one_replaced (term_steps d.kf) ts) (each_weaker (AllSame p path m within ts) (λ ys. P (t ∷ ys)) (λ ys q. (same_itself p path m within t, q)) (one_replaced (term_steps d.kf) ts) (terms_replaced ts)))

  by_value_shown : (l : Literal) → IsIn l d.kf → Each G (by_value d.kf l)
  unfolding by_value
  by_value_shown l i =
      each_map G (λ ts. literal l.relation ts l.positive) (one_replaced (term_steps d.kf) l.arguments)
      (each_weaker (AllSame p path m within l.arguments) (λ ts. G (literal l.relation ts l.positive))
      (λ ts a. (all_replaced p path m within l.relation l.positive l.arguments ts a (subst L (sym (made_ordered l (shown.ordered l i))) (shown.known l i)), literal_ordered l.relation ts l.positive))
      (one_replaced (term_steps d.kf) l.arguments) (terms_replaced l.arguments))

  -- ---- groups

  by_member_shown : (g : List Literal) → IsIn g d.kx → (q : Literal × List Literal) → IsIn q (with_others g) → Each G (by_member p.signature d q)
  by_member_shown g i q k =
      each_append G (cond (list_all (λ m. holds p.signature d (negated m)) q.1) (q.0 ∷ []) []) (cond (holds p.signature d q.0) (map negated q.1) []) only others
    where
      member : (l : Literal) → IsIn l g → IsInOrder l
      member l n = each_in IsInOrder g l (shown.members g i) n

      only : Each G (cond (list_all (λ m. holds p.signature d (negated m)) q.1) (q.0 ∷ []) [])
      only = elim (list_all (λ m. holds p.signature d (negated m)) q.1) as (λ b. list_all (λ m. holds p.signature d (negated m)) q.1 ≡ b → Each G (cond b (q.0 ∷ []) [])) [
        | false ↦ λ e. tt
        | true ↦ λ e.
            let n = needs_all p path m (λ j l. is_cited j m (negated l)) q.1 (λ l x. needs_cited p path m (negated l) (held p path m within d shown (negated l) (negated_ordered l (member l (other_in g q k l x))) (all_at (λ m. holds p.signature d (negated m)) q.1 e l x))) in
            let fs : List Fact = FactKx g ∷ n.facts in (
              (
                shown_within p path fs m (shown.groups g i, n.so) (FactLit q.0) ByOnly within (λ j f.
                    ap (list_any (is_group_that (λ g. list_any (λ q'. literal_eq q.0 q'.0 && are_cited j m (map negated q'.1)) (with_others g)))) f
                    ∙ or_left (list_any (λ q'. literal_eq q.0 q'.0 && are_cited j m (map negated q'.1)) (with_others g)) _
                    (any_in (λ q'. literal_eq q.0 q'.0 && are_cited j m (map negated q'.1)) (with_others g) q k (and_from _ _ (literal_eq_itself q.0 q.0 refl) (all_mapped j q.1 (n.then j fs f (λ x y. inr y)))))),
                member q.0 (this_in g q k),
              ),
              tt,
            )
      ] refl
        where
          all_mapped : (j : Judge) (ls : List Literal) → list_all (λ l. is_cited j m (negated l)) ls ≡ true → are_cited j m (map negated ls) ≡ true
          all_mapped j [] h = refl
          all_mapped j (l ∷ ls) h = let q = and_parts (is_cited j m (negated l)) _ h in and_from _ _ q.0 (all_mapped j ls q.1)

      others : Each G (cond (holds p.signature d q.0) (map negated q.1) [])
      others = elim (holds p.signature d q.0) as (λ b. holds p.signature d q.0 ≡ b → Each G (cond b (map negated q.1) [])) [
        | false ↦ λ e. tt
        | true ↦ λ e. each_map G negated q.1 (each_of (λ l. G (negated l)) q.1 (λ l x.
            let r = taken_other g q k l x in
            let fs : List Fact = FactKx g ∷ FactLit q.0 ∷ [] in (
              shown_within p path fs m (shown.groups g i, (held p path m within d shown q.0 (member q.0 (this_in g q k)) e, tt)) (FactLit (negated l)) ByOthers within (λ j f.
                  ap (list_any (is_group_that (λ g. list_any (λ q'. literal_eq (negated l) (negated q'.0) && list_any (is_cited j m) q'.1) (with_others g)))) f
                  ∙ or_left (list_any (λ q'. literal_eq (negated l) (negated q'.0) && list_any (is_cited j m) q'.1) (with_others g)) _
                  (any_in (λ q'. literal_eq (negated l) (negated q'.0) && list_any (is_cited j m) q'.1) (with_others g) r.0 r.1
                  (and_from _ _ (literal_eq_itself (negated l) (negated r.0.0) (ap negated (sym r.2))) (any_in (is_cited j m) r.0.1 q.0 r.3 (cited_in j m fs q.0 f (inr (inl refl))))))),
              negated_ordered l (member l (other_in g q k l x)),
            )))
      ] refl

  by_group_shown : (g : List Literal) → IsIn g d.kx → Each G (by_group p.signature d g)
  unfolding by_group
  by_group_shown g i = each_flat_map G (by_member p.signature d) (with_others g) (λ q k. by_member_shown g i q k)

  -- ---- the last value left

  range_shown : (t : Term) → is_application t ≡ true → Each G (by_range p.signature d t)
  unfolding by_range literal term_cmp
  range_shown (Object e) a = absurd (true≢false (sym a))
  range_shown (Parameter e) a = absurd (true≢false (sym a))
  range_shown (Apply f' ts) a =
      let t : Term = Apply f' ts in
      let objects = range_of p.signature t in
      each_map G (λ e. equation t (object e)) (filter (Rattle.pks_terms.specs.Closure.is_last_left p.signature d t objects) objects)
      (each_filter (λ e. G (equation t (object e))) (Rattle.pks_terms.specs.Closure.is_last_left p.signature d t objects) objects (λ e i h.
      let n = needs_all p path m (λ j o. (o == e) || is_cited j m (inequation t (object o))) objects (λ o x.
      ⊎_elim
      (λ s. needs_nothing p path m (λ j. ((o == e) || is_cited j m (inequation t (object o))) ≡ true) (λ j. or_left (o == e) _ s))
      (λ s. needs_then p path m (λ j. is_cited j m (inequation t (object o)) ≡ true) (λ j. ((o == e) || is_cited j m (inequation t (object o))) ≡ true) (λ j c. or_right (o == e) _ c) (needs_cited p path m (inequation t (object o)) (held p path m within d shown (inequation t (object o)) (literal_ordered Equality (t ∷ object o ∷ []) false) s)))
      (or_cases (o == e) _ (all_at (λ o. (o == e) || holds p.signature d (inequation t (object o))) objects h o x))) in (
        shown_within p path n.facts m n.so (FactLit (equation t (object e))) ByRange within (λ j f.
            subst (λ os. (list_any (λ x. x == e) os && others_ruled_out j m t e os) ≡ true) (range_like p.signature f' ts) (and_from _ _ (any_in (λ x. x == e) objects e i (eq-eqb e e refl)) (n.then j n.facts f (λ x y. y)))),
        literal_ordered Equality (t ∷ object e ∷ []) true,
      )))

  -- all that a round adds
  pub additions_shown : Each G (additions p.signature d)
  unfolding additions
  additions_shown =
      each_append G (flat_map (by_value d.kf) d.kf) (flat_map (by_group p.signature d) d.kx ++ flat_map (λ l. flat_map (by_range p.signature d) (flat_map applications_in l.arguments)) d.kf)
      (each_flat_map G (by_value d.kf) d.kf by_value_shown)
      (each_append G (flat_map (by_group p.signature d) d.kx) (flat_map (λ l. flat_map (by_range p.signature d) (flat_map applications_in l.arguments)) d.kf)
      (each_flat_map G (by_group p.signature d) d.kx by_group_shown)
      (each_flat_map G (λ l. flat_map (by_range p.signature d) (flat_map applications_in l.arguments)) d.kf (λ l i.
      each_flat_map G (by_range p.signature d) (flat_map applications_in l.arguments) (λ t k.
      range_shown t (each_in (λ u. is_application u ≡ true) (flat_map applications_in l.arguments) t (each_flat_map (λ u. is_application u ≡ true) applications_in l.arguments (λ u n. are_applications u)) k)))))
