-- The heights of two trees that have half of a list each.
use Rattle.std.proofs.Common.{◌≡◌, ◌⊎◌, inl, inr, ℕ, zero, suc, ◌+◌, ◌*◌, ◌^◌, ◌-◌, ◌/◌, ◌≤◌, ◌<◌, max, List, ◌∷◌, ◌++◌, [], length, refl, sym, ap, ◌∙◌, subst, arith, length-append, append_assoc, append-nil, Ordering}
use Rattle.std.proofs.Math.Pow.{pow_mono}
use Rattle.std.proofs.Math.Nat.{pow-suc}
use Rattle.std.proofs.lemmas.Nat.{pow_pos}
use Rattle.pks_pmap.specs.Entries.{IsAscending}
use Rattle.pks_pmap.specs.Sides.{DifferByAtMost, IsLeastHeight, IsBuilt, raised, raised_by}
use Rattle.pks_pmap.proofs.Order.{ascending_back}

double : (h : ℕ) → 2 ^ suc h ≡ 2 ^ h * 2
double h = rw pow-suc refl

-- of two counts of which the second is not greater, and the first at most one greater
module _ (a b : ℕ) where
  least_not_higher : (m n : ℕ) → n ≤ m → IsLeastHeight a m → IsLeastHeight b n → b ≤ a
  least_not_higher m zero le f g = omega (arith, g.none refl)
  least_not_higher m (suc n) le f g = go (Rattle.std.proofs.lemmas.Bool.cases_order b (suc a))
    where
      too_high : suc a ≤ b → b ≤ a
      too_high h = absurd (omega (arith, double a, pow_mono {i = suc a} {j = b} h, f.room, g.least (omega arith), le))

      go : (b ≡ suc a) ⊎ ((b < suc a) ⊎ (suc a < b)) → b ≤ a
      go (inl e) = too_high (omega (arith, e))
      go (inr (inl l)) = omega (arith, l)
      go (inr (inr l)) = too_high (omega (arith, l))

  greatest_near : (m n : ℕ) → m ≤ n + 1 → IsLeastHeight a m → IsLeastHeight b n → a ≤ b + 1
  greatest_near zero n le f g = omega (arith, f.none refl)
  greatest_near (suc m) n le f g = go (Rattle.std.proofs.lemmas.Bool.cases_order a (suc (suc b)))
    where
      too_high : suc (suc b) ≤ a → a ≤ b + 1
      too_high h = absurd (omega (arith, double b, double (suc b), pow_pos b, pow_mono {i = suc (suc b)} {j = a} h, g.room, f.least (omega arith), le))

      go : (a ≡ suc (suc b)) ⊎ ((a < suc (suc b)) ⊎ (suc (suc b) < a)) → a ≤ b + 1
      go (inl e) = too_high (omega (arith, e))
      go (inr (inl l)) = omega (arith, l)
      go (inr (inr l)) = too_high (omega (arith, l))

  pub halves_differ : (m n : ℕ) → n ≤ m → m ≤ n + 1 → IsLeastHeight a m → IsLeastHeight b n → DifferByAtMost 1 b a
  halves_differ m n le near f g = (omega (arith, least_not_higher m n le f g), greatest_near m n near f g)

  pub halves_height : (m n : ℕ) → n ≤ m → m ≤ n + 1 → IsLeastHeight a m → IsLeastHeight b n → IsLeastHeight (max b a + 1) (n + 1 + m)
  halves_height m n le near f g =
      let h : max b a + 1 ≡ suc a = omega (arith, least_not_higher m n le f g) in
      subst (λ k. IsLeastHeight k (n + 1 + m)) (sym h) (record {
        room = omega (arith, double a, f.room, le);
        none = λ z. absurd (omega (arith, z));
        least = λ _. least m f near;
      })
    where
      least : (m : ℕ) → IsLeastHeight a m → m ≤ n + 1 → 2 ^ suc a ≤ 2 * (n + 1 + m)
      least zero f near = rw (f.none refl) (omega arith)
      least (suc m) f near = omega (arith, double a, f.least (omega arith), near)

-- the list around the middle entry
module _ {X : Type 0} (old mid rest r : List X) (e : X) (a : old ≡ mid ++ r) (b : mid ≡ rest ++ e ∷ []) where
  pub around_one : old ≡ rest ++ e ∷ r
  around_one = a ∙ ap (λ z. z ++ r) b ∙ append_assoc rest (e ∷ []) r

  pub around_both : (last l : List X) → rest ≡ last ++ l → old ≡ last ++ (l ++ e ∷ r)
  around_both last l c = around_one ∙ ap (λ z. z ++ e ∷ r) c ∙ append_assoc last l (e ∷ r)

  pub rest_fits : (count after : ℕ) → length r ≡ after → count ≤ length old → 0 < count → count - 1 - after ≤ length rest
  rest_fits count after n fits some = omega (arith, ap length around_one, length-append rest (e ∷ r), n, fits, some)

raised_by-add : (n k m : ℕ) → raised_by (n + k) m ≡ raised_by n (raised_by k m)
raised_by-add zero k m = let e : 0 + k ≡ k = omega arith in ap (λ z. raised_by z m) e
raised_by-add (suc n) k m = let e : suc n + k ≡ suc (n + k) = omega arith in ap (λ z. raised_by z m) e ∙ ap raised (raised_by-add n k m)

module _ {K V : Type 0} (R : K → K → Ordering) (old mid rest last : List (K × V)) (e : K × V) (l r : List (K × V) × ℕ) (count m0 m1 m2 : ℕ) (some : 0 < count)
    (i : IsBuilt (count / 2) old mid m0 m1 r) (b : mid ≡ rest ++ e ∷ []) (j : IsBuilt (count - 1 - count / 2) rest last m1 m2 l) where
  parts : old ≡ last ++ (l.0 ++ e ∷ r.0)
  parts = around_both old mid rest r.0 e i.entries b last l.0 j.entries

  pub built_ascending : IsAscending R old → IsAscending R (l.0 ++ e ∷ r.0)
  built_ascending a = ascending_back R last (l.0 ++ e ∷ r.0) (subst (IsAscending R) parts a)

  pub built_balanced : DifferByAtMost 1 l.1 r.1
  built_balanced = halves_differ r.1 l.1 (count / 2) (count - 1 - count / 2) (omega arith) (omega (arith, some)) i.height j.height

  pub built : (m3 : ℕ) (t : List (K × V) × ℕ) → t ≡ (l.0 ++ e ∷ r.0, max l.1 r.1 + 1) → m3 ≡ raised m2 → IsBuilt count old last m0 m3 t
  built m3 t is more =
      let n : count - 1 - count / 2 + 1 + count / 2 ≡ count = omega (arith, some) in
      let s : suc (count - 1 - count / 2 + count / 2) ≡ count = omega (arith, some) in
      record {
        entries = parts ∙ ap (λ z. last ++ z) (sym (ap (λ p. p.0) is));
        is_count = ap (λ p. length p.0) is ∙ length-append l.0 (e ∷ r.0) ∙ omega (arith, i.is_count, j.is_count, some);
        height = subst (λ h. IsLeastHeight h count) (sym (ap (λ p. p.1) is)) (subst (IsLeastHeight (max l.1 r.1 + 1)) n (halves_height r.1 l.1 (count / 2) (count - 1 - count / 2) (omega arith) (omega (arith, some)) i.height j.height));
        counted = more ∙ ap raised (j.counted ∙ ap (raised_by (count - 1 - count / 2)) i.counted ∙ sym (raised_by-add (count - 1 - count / 2) (count / 2) m0)) ∙ ap (λ k. raised_by k m0) s;
      }

pub built_none : {K V : Type 0} (count : ℕ) (es : List (K × V)) (m : ℕ) (t : List (K × V) × ℕ) → count ≡ 0 → t ≡ ([], 0) → IsBuilt count es es m m t
built_none count es m t none is =
    subst (IsBuilt count es es m m) (sym is) (record {
      entries = sym (append-nil es);
      is_count = sym none;
      height = record { room = omega (arith, none); none = λ _. refl; least = λ some. absurd (omega (arith, some, none)) };
      counted = ap (λ k. raised_by k m) (sym none);
    })
