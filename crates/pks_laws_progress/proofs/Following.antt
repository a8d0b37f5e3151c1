-- Databases close to what rounds make of all that follows from them.
use Rattle.std.proofs.Common.{◌≡◌, ◌⊎◌, ◌+◌, ◌<◌, ◌≤◌, ◌==◌, ℕ, zero, suc, length, List, [], ◌∷◌, None, Less, Ordering, is_eq, is_lt, refl, sym, ap, ◌∙◌, subst, inl, inr, ⊎_elim, true≢false, arith}
use Rattle.std.specs.Option.{option_map_or}
use Rattle.std.specs.Cmp.{IsTotalOrder}
use Rattle.std.specs.Ordering.{ordering_reverse}
use Rattle.std.proofs.lemmas.Cmp.{tied_itself}
use Rattle.std.proofs.lemmas.Bool.{cases_Bool, eqb-true, eqb-false}
use Rattle.pks_terms.specs.Sets.{IsIn, IsOrdered, insert_in}
use Rattle.pks_terms.specs.Syntax.{Literal, negated}
use Rattle.pks_terms.specs.Orders.{literal_cmp}
use Rattle.pks_terms.specs.Totality.{literal_cmp_total}
use Rattle.pks_terms.specs.Signatures.{Signature, HasValues}
use Rattle.pks_terms.specs.Databases.{Five, holds}
use Rattle.pks_terms.specs.Closure.{additions, round, rounds, tidied, first_clash, Next, Clash, Closes}
use Rattle.pks_terms.specs.Saturated.{Within, IsSaturated}
use Rattle.pks_terms.proofs.ListLaws.{each_in}
use Rattle.pks_terms.proofs.OrderLaws.{literal_cmp_tells}
use Rattle.pks_terms.proofs.SetLaws.{added_longer, added_same, ordered_added, in_inserted, inserted_in, added_in, same_members}
use Rattle.pks_laws.proofs.Least.{holds_grows, additions_within, rounds_within}
use Rattle.pks_laws.proofs.Belonging.{saturated_end}
use Rattle.pks_laws_progress.specs.Following.{Follows, IsImplied}
use Rattle.pks_laws_progress.proofs.Keeping.{none_from, none_found}

-- ---- a set is no longer than one that it lies within

module _ {X : Type 0} {cmp : X → X → Ordering} (o : IsTotalOrder cmp) where
  not_below_itself : (x : X) → cmp x x ≡ Less → ⊥
  not_below_itself x h = true≢false (sym (ap is_eq (tied_itself o x)) ∙ ap is_eq h)

  not_both : (x y : X) → cmp x y ≡ Less → cmp y x ≡ Less → ⊥
  not_both x y h k = true≢false (sym (ap is_lt h) ∙ ap is_lt (o.antisymm x y ∙ ap ordering_reverse k))

  no_longer : (ys xs : List X) → IsOrdered cmp xs → IsOrdered cmp ys → Within xs ys → length xs ≤ length ys
  no_longer ys [] h k w = omega arith
  no_longer [] (x ∷ xs) h k w = absurd (w x (inl refl))
  no_longer (y ∷ ys) (x ∷ xs) h k w =
      ⊎_elim
      (λ e.
      let rest : length xs ≤ length ys =
      no_longer ys xs h.1 k.1 (λ z i. ⊎_elim (λ q. absurd (not_below_itself x (subst (λ u. cmp x u ≡ Less) (sym q ∙ e) (each_in (λ z. cmp x z ≡ Less) xs z h.0 i)))) (λ j. j) (w z (inr i))) in
      omega (arith, rest))
      (λ i.
      let below : cmp y x ≡ Less = each_in (λ z. cmp y z ≡ Less) ys x k.0 i in
      let rest : length (x ∷ xs) ≤ length ys =
      no_longer ys (x ∷ xs) h k.1 (λ z j. ⊎_elim
      (λ q. absurd (⊎_elim
      (λ r. not_below_itself y (subst (λ u. cmp y u ≡ Less) (r ∙ sym q) below))
      (λ l. not_both x y (subst (λ u. cmp x u ≡ Less) (sym q) (each_in (λ z. cmp x z ≡ Less) xs z h.0 l)) below) j))
      (λ l. l) (w z j)) in
      omega (arith, rest))
      (w x (inl refl))

module _ (s : Signature) where
  -- ---- the other four sets stay as they are, and known literals stay known and in order

  shape : (n : ℕ) (d : Five) → rounds s n d ≡ record d { kf = (rounds s n d).kf }
  unfolding round
  shape zero d = refl
  shape (suc n) d = ap (λ (x : Five). record x { kf = (round s (rounds s n d)).kf }) (shape n d)

  rounds_have : (n : ℕ) (d : Five) → Within d.kf (rounds s n d).kf
  unfolding round
  rounds_have zero d l i = i
  rounds_have (suc n) d l i = added_in literal_cmp_total literal_cmp_tells (rounds s n d).kf (additions s (rounds s n d)) l (inl (rounds_have n d l i))

  rounds_ordered : (n : ℕ) (d : Five) → IsOrdered literal_cmp d.kf → IsOrdered literal_cmp (rounds s n d).kf
  unfolding round
  rounds_ordered zero d h = h
  rounds_ordered (suc n) d h = ordered_added literal_cmp_total literal_cmp_tells (rounds s n d).kf (additions s (rounds s n d)) (rounds_ordered n d h)

  -- a round is longer, or the last
  longer_or_last : (d : Five) → (length d.kf < length (round s d).kf) ⊎ (round s d ≡ d)
  unfolding round
  longer_or_last d =
      let more : length d.kf ≤ length (round s d).kf = added_longer literal_cmp d.kf (additions s d) in
      ⊎_elim
      (λ e. inr (ap (λ ls. record d { kf = ls }) (added_same literal_cmp d.kf (additions s d) (eqb-true (length (round s d).kf) (length d.kf) e))))
      (λ e. let other = eqb-false (length (round s d).kf) (length d.kf) e in inl (omega (arith, more, other)))
      (cases_Bool (length (round s d).kf == length d.kf))

  -- rounds that stay below some length have a last one
  last_below : (bound k m : ℕ) (d : Five) → ((n : ℕ) → length (rounds s n d).kf ≤ bound) → bound < k + length (rounds s m d).kf → (j : ℕ) × (round s (rounds s j d) ≡ rounds s j d)
  last_below bound zero m d below h = let b = below m in absurd (omega (arith, b, h))
  last_below bound (suc k) m d below h =
      ⊎_elim (λ longer. last_below bound k (suc m) d below (omega (arith, h, longer))) (λ last. (m, last)) (longer_or_last (rounds s m d))

pub put_implied : (s : Signature) (d a : Five) (l : Literal) → Follows s d a → IsImplied s d l → Follows s d (record a { kf = insert_in literal_cmp l a.kf })
put_implied s d a l follows implied = record {
  has = λ m j. inserted_in literal_cmp_total literal_cmp_tells l a.kf m (inr (follows.has m j));
  others = ap (λ (x : Five). record x { kf = insert_in literal_cmp l a.kf }) follows.others;
  implied = λ m j. ⊎_elim (λ e. subst (IsImplied s d) e implied) (follows.implied m) (in_inserted literal_cmp_total literal_cmp_tells l a.kf m j);
}

module _ (s : Signature) (inhabited : HasValues s) (d a : Five) (follows : Follows s d a) where
  kx_same : a.kx ≡ d.kx
  kx_same = ap (λ (x : Five). x.kx) follows.others

  lcw_same : a.lcw ≡ d.lcw
  lcw_same = ap (λ (x : Five). x.lcw) follows.others

  pub addition_implied : (l : Literal) → IsIn l (additions s a) → IsImplied s d l
  addition_implied l i = λ big saturated fine within groups regions.
      additions_within s big inhabited saturated fine a (λ m j. follows.implied m j big saturated fine within groups regions) (kx_same ∙ groups) (lcw_same ∙ regions) l i

  module _ (e : Five) (n : ℕ) (ordered : IsOrdered literal_cmp d.kf) (put : IsOrdered literal_cmp a.kf) (reached : e ≡ rounds s n a) (last : round s e ≡ e) (fine : first_clash s e ≡ None) where
    e_saturated : IsSaturated s e
    e_saturated = saturated_end s e last

    e_shape : e ≡ record d { kf = e.kf }
    e_shape = reached ∙ shape s n a ∙ ap (λ (x : Five). record x { kf = (rounds s n a).kf }) follows.others ∙ ap (λ (x : Five). record d { kf = x.kf }) (sym reached)

    e_kx : e.kx ≡ d.kx
    e_kx = ap (λ (x : Five). x.kx) e_shape

    e_lcw : e.lcw ≡ d.lcw
    e_lcw = ap (λ (x : Five). x.lcw) e_shape

    e_ordered : IsOrdered literal_cmp e.kf
    e_ordered = subst (λ (x : Five). IsOrdered literal_cmp x.kf) (sym reached) (rounds_ordered s n a put)

    e_has : Within d.kf e.kf
    e_has l i = subst (λ (x : Five). IsIn l x.kf) (sym reached) (rounds_have s n a l (follows.has l i))

    -- the rounds from the start lie within the end
    inside : (m : ℕ) → Within (rounds s m d).kf e.kf
    inside m = rounds_within s e inhabited e_saturated fine m d e_has (sym e_kx) (sym e_lcw)

    below : (m : ℕ) → length (rounds s m d).kf ≤ length e.kf
    below m = no_longer literal_cmp_total e.kf (rounds s m d).kf (rounds_ordered s m d ordered) e_ordered (inside m)

    ending : (j : ℕ) × (round s (rounds s j d) ≡ rounds s j d)
    ending = last_below s (length e.kf) (suc (length e.kf)) 0 d below (omega arith)

    abbrev own : Five
    own = rounds s ending.0 d

    own_kx : own.kx ≡ d.kx
    own_kx = ap (λ (x : Five). x.kx) (shape s ending.0 d)

    own_lcw : own.lcw ≡ d.lcw
    own_lcw = ap (λ (x : Five). x.lcw) (shape s ending.0 d)

    own_saturated : IsSaturated s own
    own_saturated = saturated_end s own ending.1

    own_fine : first_clash s own ≡ None
    unfolding first_clash
    own_fine =
        none_from (λ l. holds s own (negated l)) own.kf
        (λ l i h. none_found (λ l. holds s e (negated l)) e.kf fine l (inside ending.0 l i) (holds_grows s e inhabited e_saturated fine own (inside ending.0) (own_kx ∙ sym e_kx) (own_lcw ∙ sym e_lcw) (negated l) h))

    -- the end lies within the rounds from the start
    back : Within e.kf own.kf
    back l i =
        rounds_within s own inhabited own_saturated own_fine n a (λ m j. follows.implied m j own own_saturated own_fine (rounds_have s ending.0 d) (sym own_kx) (sym own_lcw)) (kx_same ∙ sym own_kx) (lcw_same ∙ sym own_lcw)
        l (subst (λ (x : Five). IsIn l x.kf) reached i)

    same : own ≡ e
    same =
        shape s ending.0 d
        ∙ ap (λ ls. record d { kf = ls }) (same_members literal_cmp_total literal_cmp_tells own.kf e.kf (rounds_ordered s ending.0 d ordered) e_ordered (inside ending.0) back)
        ∙ sym e_shape

    closes_here : Closes s d (Next (tidied e))
    closes_here = record {
      count = ending.0;
      last = ending.1;
      gives = ap (λ (x : Five). Next (tidied x)) (sym same) ∙ sym (ap (λ o. option_map_or Clash o (Next (tidied own))) own_fine);
    }

pub closes_alike : (s : Signature) → HasValues s → (d a e : Five) (n : ℕ) → IsOrdered literal_cmp d.kf → IsOrdered literal_cmp a.kf → Follows s d a → e ≡ rounds s n a → round s e ≡ e → first_clash s e ≡ None → Closes s d (Next (tidied e))
closes_alike s inhabited d a e n ordered put follows reached last fine = closes_here s inhabited d a follows e n ordered put reached last fine
