-- What holds in databases is shown, where what stands in them is.
use Rattle.std.proofs.Common.{◌≡◌, ◌==◌, ◌≤◌, ℕ, Bool, true, false, cond, not, List, [], ◌∷◌, map, Option, Some, None, is_lt, refl, sym, ap, ◌∙◌, subst, inl, inr, ⊎_elim, true≢false}
use Rattle.std.specs.List.{list_any, list_all}
use Rattle.std.proofs.lemmas.Bool.{or_cases, or_left, or_right, and_parts, and_from}
use Rattle.pks_terms.specs.Sets.{Each, IsIn}
use Rattle.pks_terms.specs.Syntax.{Object, Parameter, Apply, Term, Relation, Named, Equality, Literal, Atom}
use Rattle.pks_terms.specs.Orders.{term_cmp, term_eq, literal_eq, in_order, literal, inequation}
use Rattle.pks_terms.specs.Databases.{Entry, Five, normal, normal_literal, is_known, is_evident, is_plain, differ, some_differ, fits, is_shut_out, is_closed_off, holds}
use Rattle.pks_terms.specs.Problems.{Problem}
use Rattle.pks_terms.proofs.ListLaws.{found_in}
use Rattle.pks_terms.proofs.OrderLaws.{term_cmp_tells, same_term, same_literal}
use Rattle.pks_terms.specs.Moments.{IsInOrder}
use Rattle.pks_laws.proofs.Least.{term_eq_itself}
use Rattle.pks_terms.specs.Signatures.{Signature}
use Rattle.pks_terms.specs.Totality.{term_cmp_total}
use Rattle.pks_laws.proofs.NormalMembers.{eq_turned}
use Rattle.pks_laws.proofs.Holding.{eqb_comm}
use Rattle.pks_terms.specs.Proofs.{Fact, FactLit, FactLcw, Path, final_moment, ByClosed}
use Rattle.pks_terms.specs.Judging.{Judge, is_cited, is_region_that}
use Rattle.pks_terms.specs.Reasons.{are_cited_apart, some_cited_apart, has_fixed, leaves_out}
use Rattle.pks_laws_explain.specs.Shown.{AreShown}
use Rattle.pks_laws_explain.proofs.Growing.{Shown, shown_within}
use Rattle.pks_laws_explain.proofs.Equal.{cited_in, ordered, Lit, Same, AllSame, evident_shown, same_itself, same_turned, same_through, all_replaced, normal_shown, normals_shown, from_normals}

-- a literal with its sides in order is one that is made so
pub made_ordered : (l : Literal) → IsInOrder l → literal l.relation l.arguments l.positive ≡ l
unfolding literal
made_ordered l o = λ i. record { relation = l.relation; arguments = o i; positive = l.positive }

-- what is evident is so whichever side stands first
evident_swapped : (s : Signature) (t u : Term) (b : Bool) → is_evident s Equality (t ∷ u ∷ []) b ≡ is_evident s Equality (u ∷ t ∷ []) b
unfolding term_eq
evident_swapped s t u true = eq_turned term_cmp term_cmp_total term_cmp_tells t u
evident_swapped s (Object d) (Object e) false = ap (λ b. not b) (eqb_comm d e)
evident_swapped s (Object d) (Parameter e) false = refl
evident_swapped s (Object d) (Apply f us) false = refl
evident_swapped s (Parameter d) (Object e) false = refl
evident_swapped s (Parameter d) (Parameter e) false = refl
evident_swapped s (Parameter d) (Apply f us) false = refl
evident_swapped s (Apply f us) (Object d) false = refl
evident_swapped s (Apply f us) (Parameter d) false = refl
evident_swapped s (Apply f us) (Apply g vs) false = refl

evident_ordered : (s : Signature) (r : Relation) (ts : List Term) (b : Bool) → is_evident s r (in_order r ts) b ≡ is_evident s r ts b
evident_ordered s Equality (t ∷ u ∷ []) b =
    elim (is_lt (term_cmp t u)) as (λ c. is_evident s Equality (cond c (u ∷ t ∷ []) (t ∷ u ∷ [])) b ≡ is_evident s Equality (t ∷ u ∷ []) b) [ true ↦ evident_swapped s u t b | false ↦ refl ]
evident_ordered s Equality [] b = refl
evident_ordered s Equality (t ∷ []) b = refl
evident_ordered s Equality (t ∷ u ∷ v ∷ ts) b = refl
evident_ordered s (Named p) ts b = refl

module _ (p : Problem) (path : Path) (m : ℕ) (within : m ≤ final_moment path) (d : Five) (shown : AreShown p path m d) where
  abbrev L : Literal → Type 0
  L = Lit p path m within

  -- from the normal form to the literal, its sides in order
  from_normal : (l : Literal) → L (normal_literal d.kf l) → L (literal l.relation l.arguments l.positive)
  unfolding normal_literal
  from_normal l h = all_replaced p path m within l.relation l.positive (map (normal d.kf) l.arguments) l.arguments (from_normals p path m within d.kf shown.known l.arguments) h

  to_normal : (l : Literal) → L (literal l.relation l.arguments l.positive) → L (normal_literal d.kf l)
  unfolding normal_literal
  to_normal l h = all_replaced p path m within l.relation l.positive l.arguments (map (normal d.kf) l.arguments) (normals_shown p path m within d.kf shown.known l.arguments) h

  pub normal_member : (l : Literal) → IsIn l d.kf → L (normal_literal d.kf l)
  normal_member l i = to_normal l (subst L (sym (made_ordered l (shown.ordered l i))) (shown.known l i))

  known_shown : (l : Literal) → is_known d.kf l ≡ true → L (literal l.relation l.arguments l.positive)
  unfolding is_known
  known_shown l h =
      let f = found_in (λ k. literal_eq (normal_literal d.kf k) (normal_literal d.kf l)) d.kf h in
      from_normal l (subst L (same_literal (normal_literal d.kf f.0) (normal_literal d.kf l) f.2) (normal_member f.0 f.1))

  evident : (l : Literal) → is_evident p.signature l.relation (map (normal d.kf) l.arguments) l.positive ≡ true → L (literal l.relation l.arguments l.positive)
  unfolding normal_literal literal
  evident l h =
      let us : List Term = map (normal d.kf) l.arguments in
      from_normal l (evident_shown p path m within (normal_literal d.kf l)
      (evident_ordered p.signature l.relation us l.positive ∙ h))

  pub plain_shown : (l : Literal) → is_plain p.signature d.kf l ≡ true → L (literal l.relation l.arguments l.positive)
  unfolding is_plain
  plain_shown l h = ⊎_elim (known_shown l) (evident l) (or_cases (is_known d.kf l) _ h)

  pub differ_shown : (t u : Term) → differ p.signature d.kf t u ≡ true → L (inequation t u)
  unfolding differ literal
  differ_shown t u h = subst L (ordered Equality (t ∷ u ∷ []) false) (plain_shown (inequation t u) h)

  -- ---- regions

  -- the arguments, but for the fixed terms of the slots
  filled : List (Option Term) → List Term → List Term
  filled (Some u ∷ ss) (t ∷ ts) = u ∷ filled ss ts
  filled (None ∷ ss) (t ∷ ts) = t ∷ filled ss ts
  filled ss ts = ts

  fitting_same : (t u : Term) → term_eq (normal d.kf u) (normal d.kf t) ≡ true → Same p path m within u t
  fitting_same t u h =
      same_through p path m within u (normal d.kf u) t (normal_shown p path m within d.kf shown.known u)
      (subst (λ v. Same p path m within v t) (sym (same_term (normal d.kf u) (normal d.kf t) h)) (same_turned p path m within t (normal d.kf t) (normal_shown p path m within d.kf shown.known t)))

  filled_same : (ss : List (Option Term)) (ts : List Term) → fits d.kf ss ts ≡ true → AllSame p path m within (filled ss ts) ts
  unfolding filled
  filled_same [] [] h = tt
  filled_same (None ∷ ss) (t ∷ ts) h = (same_itself p path m within t, filled_same ss ts h)
  filled_same (Some u ∷ ss) (t ∷ ts) h =
      let q = and_parts (term_eq (normal d.kf u) (normal d.kf t)) _ h in (fitting_same t u q.0, filled_same ss ts q.1)
  filled_same [] (t ∷ ts) h = absurd (true≢false (sym h))
  filled_same (None ∷ ss) [] h = absurd (true≢false (sym h))
  filled_same (Some u ∷ ss) [] h = absurd (true≢false (sym h))

  filled_fixed : (ss : List (Option Term)) (ts : List Term) → fits d.kf ss ts ≡ true → has_fixed ss (filled ss ts) ≡ true
  unfolding filled
  filled_fixed [] [] h = refl
  filled_fixed (None ∷ ss) (t ∷ ts) h = filled_fixed ss ts h
  filled_fixed (Some u ∷ ss) (t ∷ ts) h = and_from _ _ (term_eq_itself u u refl) (filled_fixed ss ts (and_parts (term_eq (normal d.kf u) (normal d.kf t)) _ h).1)
  filled_fixed [] (t ∷ ts) h = absurd (true≢false (sym h))
  filled_fixed (None ∷ ss) [] h = absurd (true≢false (sym h))
  filled_fixed (Some u ∷ ss) [] h = absurd (true≢false (sym h))

  -- from arguments that differ from others, an inequation of two terms at one position
  record Apart (ts us : List Term) : Type 0 where
    left : Term
    right : Term
    so : L (inequation left right)
    apart : (j : Judge) → is_cited j m (inequation left right) ≡ true → some_cited_apart j m ts us ≡ true

  some_shown : (ts us vs : List Term) → AllSame p path m within vs us → some_differ p.signature d.kf ts us ≡ true → Apart ts vs
  some_shown (t ∷ ts) (u ∷ us) (v ∷ vs) a h =
      ⊎_elim
      (λ e. record {
        left = t;
        right = v;
        so = all_replaced p path m within Equality false (t ∷ u ∷ []) (t ∷ v ∷ []) (same_itself p path m within t, (same_turned p path m within v u a.0, tt)) (differ_shown t u e);
        apart = λ j c. or_left _ _ (or_left (is_cited j m (inequation t v)) _ c);
      })
      (λ e. let r = some_shown ts us vs a.1 e in record { left = r.left; right = r.right; so = r.so; apart = λ j c. or_right (are_cited_apart j m t v) _ (r.apart j c) })
      (or_cases (differ p.signature d.kf t u) _ h)
  some_shown [] us vs a h = absurd (true≢false (sym h))
  some_shown (t ∷ ts) [] vs a h = absurd (true≢false (sym h))
  some_shown (t ∷ ts) (u ∷ us) [] a h = absurd a

  -- for each listed atom such an inequation
  record AllApart (atoms : List Atom) (us : List Term) : Type 0 where
    facts : List Fact
    so : Each (Shown p path m) facts
    apart : (j : Judge) (fs : List Fact) → j m ≡ fs → ((f : Fact) → IsIn f facts → IsIn f fs) → list_all (λ (a : Atom). some_cited_apart j m a.arguments us) atoms ≡ true

  all_shown : (atoms : List Atom) (us vs : List Term) → AllSame p path m within vs us → list_all (λ (a : Atom). some_differ p.signature d.kf a.arguments us) atoms ≡ true → AllApart atoms vs
  all_shown [] us vs a h = record { facts = []; so = tt; apart = λ j fs e w. refl }
  all_shown (b ∷ atoms) us vs a h =
      let q = and_parts (some_differ p.signature d.kf b.arguments us) _ h in
      let one = some_shown b.arguments us vs a q.0 in
      let rest = all_shown atoms us vs a q.1 in
      record {
        facts = FactLit (inequation one.left one.right) ∷ rest.facts;
        so = (one.so, rest.so);
        apart = λ j fs e w. and_from _ _ (one.apart j (cited_in j m fs (inequation one.left one.right) e (w (FactLit (inequation one.left one.right)) (inl refl)))) (rest.apart j fs e (λ f i. w f (inr i)));
      }

  shut_out_shown : (r : ℕ) (ts : List Term) (e : Entry) → IsIn e d.lcw → is_shut_out p.signature d.kf r ts e ≡ true → L (literal (Named r) ts false)
  unfolding literal
  shut_out_shown r ts e i h =
      let q = and_parts (e.pattern.predicate == r) _ h in
      let k = and_parts (fits d.kf e.pattern.slots ts) _ q.1 in
      let vs = filled e.pattern.slots ts in
      let same = filled_same e.pattern.slots ts k.0 in
      let all = all_shown e.listed ts vs same k.1 in
      let fs : List Fact = FactLcw e ∷ all.facts in
      all_replaced p path m within (Named r) false vs ts same
      (shown_within p path fs m (shown.regions e i, all.so) (FactLit (literal (Named r) vs false)) ByClosed within (λ j g.
      ap (list_any (is_region_that (leaves_out j m (Named r) vs false))) g
      ∙ or_left (leaves_out j m (Named r) vs false e) _ (and_from _ _ q.0 (and_from _ _ (filled_fixed e.pattern.slots ts k.0) (all.apart j fs g (λ f x. inr x))))))

  closed_off_shown : (r : Relation) (ts : List Term) (b : Bool) → is_closed_off p.signature d r ts b ≡ true → L (literal r ts b)
  closed_off_shown (Named r) ts false h =
      let f = found_in (is_shut_out p.signature d.kf r ts) d.lcw h in shut_out_shown r ts f.0 f.1 f.2
  closed_off_shown (Named r) ts true h = absurd (true≢false (sym h))
  closed_off_shown Equality ts b h = absurd (true≢false (sym h))

  -- what holds is shown, its sides in order
  pub holds_shown : (l : Literal) → holds p.signature d l ≡ true → L (literal l.relation l.arguments l.positive)
  unfolding holds
  holds_shown l h = ⊎_elim (plain_shown l) (closed_off_shown l.relation l.arguments l.positive) (or_cases (is_plain p.signature d.kf l) _ h)

  -- a literal whose sides are in order is shown where it holds
  pub held : (l : Literal) → IsInOrder l → holds p.signature d l ≡ true → L l
  held l o h = subst L (made_ordered l o) (holds_shown l h)
