-- What is put in follows, and where a literal of it is denied closing clashes.
use Rattle.std.proofs.Common.{◌≡◌, ◌≤◌, ◌<◌, ℕ, zero, suc, Bool, true, false, cond, List, [], ◌∷◌, flat_map, find, length, get_or, nat_lt, ltb-true, Option, Some, None, refl, sym, ap, ◌∙◌, subst, inl, inr, ⊎_elim, arith}
use Rattle.std.specs.Option.{option_map_or}
use Rattle.std.proofs.lemmas.Option.{none-some, same_Some}
use Rattle.pks_terms.specs.Sets.{IsIn, IsOrdered, insert_in}
use Rattle.pks_terms.specs.Syntax.{Term, Literal, negated}
use Rattle.pks_terms.specs.Orders.{literal_cmp}
use Rattle.pks_terms.specs.Totality.{literal_cmp_total}
use Rattle.pks_terms.specs.Signatures.{Signature, HasValues}
use Rattle.pks_terms.specs.Databases.{Five, holds}
use Rattle.pks_terms.specs.Closure.{by_value, by_group, by_range, applications_in, additions, round, rounds, outcome, tidied, first_clash, Outcome, Next, Clash, Closes}
use Rattle.pks_terms.specs.Saturated.{Within, IsSaturated}
use Rattle.pks_terms.specs.Views.{literal_of}
use Rattle.pks_terms.specs.declared.literal.Literal.{Literal as DLiteral}
use Rattle.pks_terms.proofs.OrderLaws.{literal_cmp_tells}
use Rattle.pks_terms.proofs.SetLaws.{insert_in_more, in_added, added_in}
use Rattle.pks_laws.proofs.Least.{in_left, in_right, in_flat, holds_grows}
use Rattle.pks_laws.proofs.Belonging.{saturated_end}
use Rattle.pks_laws_progress.specs.Following.{Follows}
use Rattle.pks_laws_progress.proofs.Following.{put_implied, addition_implied, closes_alike}
use Rattle.pks_laws_progress.proofs.Keeping.{none_found}
use Rattle.pks_laws_progress.proofs.ClosingEnds.{closing_ends}
use Rattle.pks_query_closing.specs.Working.{Clashes, SomeDenied, GrowsTo, GrowsBy}

-- ---- what follows

module _ (s : Signature) where
  pub follows_itself : (d : Five) → Follows s d d
  follows_itself d = record {
    has = λ l i. i;
    others = refl;
    implied = λ l i big saturated fine within groups regions. within l i;
  }

  pub follows_on : (d a e : Five) → Follows s d a → Follows s a e → Follows s d e
  follows_on d a e f g = record {
    has = λ l i. g.has l (f.has l i);
    others = g.others ∙ ap (λ (x : Five). record x { kf = e.kf }) f.others;
    implied = λ l i big saturated fine within groups regions.
        g.implied l i big saturated fine (λ m j. f.implied m j big saturated fine within groups regions) (ap (λ (x : Five). x.kx) f.others ∙ groups) (ap (λ (x : Five). x.lcw) f.others ∙ regions);
  }

  pub grows_itself : (d : Five) → GrowsTo s d d
  grows_itself d = record { follows = follows_itself d; longer = omega arith }

  pub round_follows : HasValues s → (d a : Five) → Follows s d a → Follows s d (round s a)
  unfolding round
  round_follows inhabited d a f = record {
    has = λ l i. added_in literal_cmp_total literal_cmp_tells a.kf (additions s a) l (inl (f.has l i));
    others = ap (λ (x : Five). record x { kf = (round s a).kf }) f.others;
    implied = λ l i. ⊎_elim (f.implied l) (addition_implied s inhabited d a f l) (in_added literal_cmp_total literal_cmp_tells a.kf (additions s a) l i);
  }

-- ---- one literal, several, and those of a group

put_longer : (l : Literal) (kf : List Literal) → length kf ≤ length (insert_in literal_cmp l kf)
put_longer l kf = ⊎_elim
    (λ same. let n : length (insert_in literal_cmp l kf) ≡ length kf = ap length same in omega (arith, n))
    (λ more. omega (arith, more))
    (insert_in_more literal_cmp l kf)

pub grows_one : (s : Signature) (l : Literal) (d e : Five) → e ≡ record d { kf = insert_in literal_cmp l d.kf } → GrowsBy s (l ∷ []) d e
grows_one s l d e same = record {
  grows = λ start g a.
      subst (GrowsTo s start) (sym same) (record {
        follows = put_implied s start d l g.follows a.0;
        longer = let one = g.longer in let two = put_longer l d.kf in omega (arith, one, two);
      });
}

read_in : {X : Type 0} (xs : List X) (k : ℕ) (x : X) → k < length xs → x ≡ get_or xs k x → IsIn x xs
read_in [] k x h e = absurd (omega arith)
read_in (y ∷ ys) zero x h e = inl (sym e)
read_in (y ∷ ys) (suc k) x h e = inr (read_in ys k x (omega arith) e)

pub found_in : {X : Type 0} (xs ys : List X) (k : ℕ) (x : X) → xs ≡ ys → true ≡ nat_lt k (length xs) → x ≡ get_or xs k x → IsIn x ys
found_in xs ys k x same within is = subst (IsIn x) same (read_in xs k x (ltb-true k (length xs) (sym within)) is)

pub group_added : (s : Signature) (a : Five) (g : List Literal) (l : Literal) → IsIn g a.kx → IsIn l (by_group s a g) → IsIn l (additions s a)
unfolding additions
group_added s a g l i j =
    in_right (flat_map (by_value a.kf) a.kf) _ l (in_left (flat_map (by_group s a) a.kx) _ l (in_flat (by_group s a) a.kx g l i j))

pub range_added : (s : Signature) (a : Five) (l k : Literal) (t : Term) → IsIn l a.kf → IsIn t (flat_map applications_in l.arguments) → IsIn k (by_range s a t) → IsIn k (additions s a)
unfolding additions
range_added s a l k t i j h =
    in_right (flat_map (by_value a.kf) a.kf) _ k (in_right (flat_map (by_group s a) a.kx) _ k
    (in_flat (λ m. flat_map (by_range s a) (flat_map applications_in m.arguments)) a.kf l k i (in_flat (by_range s a) (flat_map applications_in l.arguments) t k j h)))

-- ---- a literal that is denied

module _ (s : Signature) where
  rounds_have : (n : ℕ) (d : Five) → Within d.kf (rounds s n d).kf
  unfolding round
  rounds_have zero d l i = i
  rounds_have (suc n) d l i = added_in literal_cmp_total literal_cmp_tells (rounds s n d).kf (additions s (rounds s n d)) l (inl (rounds_have n d l i))

  rounds_others : (n : ℕ) (d : Five) → rounds s n d ≡ record d { kf = (rounds s n d).kf }
  unfolding round
  rounds_others zero d = refl
  rounds_others (suc n) d = ap (λ (x : Five). record x { kf = (round s (rounds s n d)).kf }) (rounds_others n d)

  abbrev IsAClash : Outcome → Type 0
  IsAClash (Next e) = ⊥
  IsAClash (Clash l) = Unit {0}

  none_at_end : (d e : Five) → Next e ≡ outcome s d → first_clash s d ≡ None
  none_at_end d e h =
      elim (first_clash s d) as (λ o. ◌≡◌ {A = Outcome} (Next e) (option_map_or Clash o (Next (tidied d))) → o ≡ None) [
        | None ↦ λ q. refl
        | Some l ↦ λ q. absurd (subst IsAClash (sym q) tt)
      ] h

  none_denied : (d : Five) → first_clash s d ≡ None → (l : Literal) → IsIn l d.kf → holds s d (negated l) ≡ true → ⊥
  unfolding first_clash
  none_denied d fine l i h = none_found (λ l. holds s d (negated l)) d.kf fine l i h

  never_next : HasValues s → (d a e : Five) → Follows s d a → SomeDenied s a → Closes s d (Next e) → ⊥
  never_next inhabited d a e f denied c =
      let big = rounds s c.count d in
      let saturated : IsSaturated s big = saturated_end s big c.last in
      let fine : first_clash s big ≡ None = none_at_end big e c.gives in
      let groups : d.kx ≡ big.kx = sym (ap (λ (x : Five). x.kx) (rounds_others c.count d)) in
      let regions : d.lcw ≡ big.lcw = sym (ap (λ (x : Five). x.lcw) (rounds_others c.count d)) in
      let within : Within a.kf big.kf = λ l i. f.implied l i big saturated fine (rounds_have c.count d) groups regions in
      let so : holds s big (negated denied.0) ≡ true =
      holds_grows s big inhabited saturated fine a within (ap (λ (x : Five). x.kx) f.others ∙ groups) (ap (λ (x : Five). x.lcw) f.others ∙ regions) (negated denied.0) denied.2 in
      none_denied big fine denied.0 (within denied.0 denied.1) so

  pub denied_clashes : HasValues s → (d a : Five) → IsOrdered literal_cmp d.kf → Follows s d a → SomeDenied s a → Clashes s d
  denied_clashes inhabited d a ordered f denied =
      let end = closing_ends s d ordered in
      of_outcome end.0 end.1
    where
      of_outcome : (o : Outcome) → Closes s d o → Clashes s d
      of_outcome (Next e) c = absurd (never_next inhabited d a e f denied c)
      of_outcome (Clash l) c = (l, c)

  find_finds : (p : Literal → Bool) (xs : List Literal) (x : Literal) → find p xs ≡ Some x → IsIn x xs × (p x ≡ true)
  find_finds p [] x h = absurd (none-some x h)
  find_finds p (y ∷ ys) x h =
      elim (p y) as (λ b. p y ≡ b → ◌≡◌ {A = Option Literal} (cond b (Some y) (find p ys)) (Some x) → IsIn x (y ∷ ys) × (p x ≡ true)) [
        | true ↦ λ e k. let q = same_Some y x k in (inl q, ap p (sym q) ∙ e)
        | false ↦ λ e k. let r = find_finds p ys x k in (inr r.0, r.1)
      ] refl h

  pub first_denied : (a : Five) (l : Literal) → first_clash s a ≡ Some l → SomeDenied s a
  unfolding first_clash
  first_denied a l h = let r = find_finds (λ l. holds s a (negated l)) a.kf l h in (l, r.0, r.1)

pub some_clashes : (s : Signature) → HasValues s → (d a : Five) (l : DLiteral) → IsOrdered literal_cmp d.kf → Follows s d a → Some (literal_of l) ≡ first_clash s a → Clashes s d
some_clashes s inhabited d a l ordered f same = denied_clashes s inhabited d a ordered f (first_denied s a (literal_of l) (sym same))

pub ends_fine : (s : Signature) → HasValues s → (d a e : Five) → IsOrdered literal_cmp d.kf → IsOrdered literal_cmp a.kf → Follows s d a → round s a ≡ a → None ≡ first_clash s a → e ≡ tidied a → Closes s d (Next e)
ends_fine s inhabited d a e ordered put f last same is = subst (λ x. Closes s d (Next x)) (sym is) (closes_alike s inhabited d a a 0 ordered put f refl last (sym same))
