-- Families over a history and over the one without some moments: one is made of the other by leaving moments out, or by telling them twice.
use Rattle.std.proofs.Common.{◌≡◌, ◌≤◌, ◌++◌, Bool, true, false, List, [], ◌∷◌, map, length, arith, refl, sym, ap, inl, inr, true≢false}
use Rattle.pks_terms.specs.Sets.{Each}
use Rattle.pks_terms.specs.Databases.{Five}
use Rattle.pks_terms.specs.Actions.{Instance}
use Rattle.pks_terms.specs.Settling.{History, last_of, with_last}
use Rattle.pks_terms.specs.Saturated.{WithinAlong}
use Rattle.pks_laws_forget.proofs.Ends.{forget, forget_steps, head_five, tail_steps}
use Rattle.pks_laws_forget.specs.Looks.{AreWithout, behind}

abbrev pub Steps : Type 0
Steps = List (Instance × Five)

abbrev no_steps : Steps → Bool
no_steps [] = true
no_steps (x ∷ xs) = false

abbrev head_instance : Instance → Steps → Instance
head_instance i [] = i
head_instance i (x ∷ xs) = x.0

-- the history with other databases at its last moment, from its first moment on
abbrev pub ended : Five → Steps → Five → History
ended d [] m = record { start = m; steps = [] }
ended d (x ∷ xs) m = behind d x.0 (ended x.1 xs m)

pub ended_is : (d : Five) (xs : Steps) (m : Five) → with_last (record { start = d; steps = xs }) m ≡ ended d xs m
ended_is d [] m = refl
ended_is d (x ∷ []) m = refl
ended_is d (x ∷ y ∷ xs) m = ap (λ (h : History). record { start = d; steps = x ∷ h.steps }) (ended_is x.1 (y ∷ xs) m)

module _ (Goes : Five → Instance → Five → Type 0) where
  -- ---- moments left out of a list, and told twice in one

  abbrev pub thin : (d : Five) (xs : Steps) (e : Five) (ys : Steps) → AreWithout Goes d xs e ys → Five → Steps → History
  thin d [] e ys k f zs = record { start = f; steps = zs }
  thin d (x ∷ xs) e ys k f [] = record { start = f; steps = [] }
  thin d (x ∷ xs) e [] k f (z ∷ zs) = thin x.1 xs e [] k.1 z.1 zs
  thin d (x ∷ xs) e (y ∷ ys) (inl k) f (z ∷ zs) = thin x.1 xs e (y ∷ ys) k.1 z.1 zs
  thin d (x ∷ xs) e (y ∷ ys) (inr k) f (z ∷ zs) = behind f z.0 (thin x.1 xs y.1 ys k.2 z.1 zs)

  abbrev pub twice : Instance → History → History
  twice i h = behind h.start i h

  abbrev pub fat : (d : Five) (xs : Steps) (e : Five) (ys : Steps) → AreWithout Goes d xs e ys → Five → Steps → History
  fat d [] e ys k f zs = record { start = f; steps = zs }
  fat d (x ∷ xs) e [] k f zs = twice x.0 (fat x.1 xs e [] k.1 f zs)
  fat d (x ∷ xs) e (y ∷ ys) (inl k) f zs = twice x.0 (fat x.1 xs e (y ∷ ys) k.1 f zs)
  fat d (x ∷ xs) e (y ∷ ys) (inr k) f [] = record { start = f; steps = [] }
  fat d (x ∷ xs) e (y ∷ ys) (inr k) f (z ∷ zs) = behind f z.0 (fat x.1 xs y.1 ys k.2 z.1 zs)

  -- of the history itself the other is left
  pub thin_self : (d : Five) (xs : Steps) (e : Five) (ys : Steps) (k : AreWithout Goes d xs e ys) → thin d xs e ys k d xs ≡ record { start = e; steps = ys }
  thin_self d [] e [] k = λ i. record { start = k i; steps = [] }
  thin_self d [] e (y ∷ ys) k = absurd k
  thin_self d (x ∷ xs) e [] k = thin_self x.1 xs e [] k.1
  thin_self d (x ∷ xs) e (y ∷ ys) (inl k) = thin_self x.1 xs e (y ∷ ys) k.1
  thin_self d (x ∷ xs) e (y ∷ ys) (inr k) = λ i. behind (k.0 i) (k.1 i) (thin_self x.1 xs y.1 ys k.2 i)

  -- what is told twice begins alike
  pub fat_start : (d : Five) (xs : Steps) (e : Five) (ys : Steps) (k : AreWithout Goes d xs e ys) (f : Five) (zs : Steps) → (fat d xs e ys k f zs).start ≡ f
  fat_start d [] e ys k f zs = refl
  fat_start d (x ∷ xs) e [] k f zs = fat_start x.1 xs e [] k.1 f zs
  fat_start d (x ∷ xs) e (y ∷ ys) (inl k) f zs = fat_start x.1 xs e (y ∷ ys) k.1 f zs
  fat_start d (x ∷ xs) e (y ∷ ys) (inr k) f [] = refl
  fat_start d (x ∷ xs) e (y ∷ ys) (inr k) f (z ∷ zs) = refl

  -- what is told twice and left out again is what it was
  pub thin_fat : (d : Five) (xs : Steps) (e : Five) (ys : Steps) (k : AreWithout Goes d xs e ys) (f : Five) (zs : Steps) → thin d xs e ys k (fat d xs e ys k f zs).start (fat d xs e ys k f zs).steps ≡ record { start = f; steps = zs }
  thin_fat d [] e ys k f zs = refl
  thin_fat d (x ∷ xs) e [] k f zs = thin_fat x.1 xs e [] k.1 f zs
  thin_fat d (x ∷ xs) e (y ∷ ys) (inl k) f zs = thin_fat x.1 xs e (y ∷ ys) k.1 f zs
  thin_fat d (x ∷ xs) e (y ∷ ys) (inr k) f [] = refl
  thin_fat d (x ∷ xs) e (y ∷ ys) (inr k) f (z ∷ zs) = ap (behind f z.0) (thin_fat x.1 xs y.1 ys k.2 z.1 zs)

  -- leaving out keeps an order
  pub thin_within : (d : Five) (xs : Steps) (e : Five) (ys : Steps) (k : AreWithout Goes d xs e ys) (f : Five) (zs : Steps) (g : Five) (us : Steps) → WithinAlong f zs g us
      → WithinAlong (thin d xs e ys k f zs).start (thin d xs e ys k f zs).steps (thin d xs e ys k g us).start (thin d xs e ys k g us).steps
  thin_within d [] e ys k f zs g us w = w
  thin_within d (x ∷ xs) e ys k f [] g [] w = w
  thin_within d (x ∷ xs) e ys k f [] g (u ∷ us) w = absurd w
  thin_within d (x ∷ xs) e ys k f (z ∷ zs) g [] w = absurd w
  thin_within d (x ∷ xs) e [] k f (z ∷ zs) g (u ∷ us) w = thin_within x.1 xs e [] k.1 z.1 zs u.1 us w.2
  thin_within d (x ∷ xs) e (y ∷ ys) (inl k) f (z ∷ zs) g (u ∷ us) w = thin_within x.1 xs e (y ∷ ys) k.1 z.1 zs u.1 us w.2
  thin_within d (x ∷ xs) e (y ∷ ys) (inr k) f (z ∷ zs) g (u ∷ us) w = (w.0, w.1, thin_within x.1 xs y.1 ys k.2 z.1 zs u.1 us w.2)

  -- and what moments have
  pub thin_each : (P : Five → Type 0) (d : Five) (xs : Steps) (e : Five) (ys : Steps) (k : AreWithout Goes d xs e ys) (f : Five) (zs : Steps) → P f → Each (λ (z : Instance × Five). P z.1) zs
      → P (thin d xs e ys k f zs).start × Each (λ (z : Instance × Five). P z.1) (thin d xs e ys k f zs).steps
  thin_each P d [] e ys k f zs h a = (h, a)
  thin_each P d (x ∷ xs) e ys k f [] h a = (h, tt)
  thin_each P d (x ∷ xs) e [] k f (z ∷ zs) h a = thin_each P x.1 xs e [] k.1 z.1 zs a.0 a.1
  thin_each P d (x ∷ xs) e (y ∷ ys) (inl k) f (z ∷ zs) h a = thin_each P x.1 xs e (y ∷ ys) k.1 z.1 zs a.0 a.1
  thin_each P d (x ∷ xs) e (y ∷ ys) (inr k) f (z ∷ zs) h a = (h, thin_each P x.1 xs y.1 ys k.2 z.1 zs a.0 a.1)

  pub thin_deeds : (P : Five → Type 0) (Q : Instance → Type 0) (d : Five) (xs : Steps) (e : Five) (ys : Steps) (k : AreWithout Goes d xs e ys) (f : Five) (zs : Steps) → P f → Each (λ (z : Instance × Five). Q z.0 × P z.1) zs
      → P (thin d xs e ys k f zs).start × Each (λ (z : Instance × Five). Q z.0 × P z.1) (thin d xs e ys k f zs).steps
  thin_deeds P Q d [] e ys k f zs h a = (h, a)
  thin_deeds P Q d (x ∷ xs) e ys k f [] h a = (h, tt)
  thin_deeds P Q d (x ∷ xs) e [] k f (z ∷ zs) h a = thin_deeds P Q x.1 xs e [] k.1 z.1 zs a.0.1 a.1
  thin_deeds P Q d (x ∷ xs) e (y ∷ ys) (inl k) f (z ∷ zs) h a = thin_deeds P Q x.1 xs e (y ∷ ys) k.1 z.1 zs a.0.1 a.1
  thin_deeds P Q d (x ∷ xs) e (y ∷ ys) (inr k) f (z ∷ zs) h a = let r = thin_deeds P Q x.1 xs y.1 ys k.2 z.1 zs a.0.1 a.1 in (h, ((a.0.0, r.0), r.1))

  -- the other sets, where they were the same
  pub thin_forgets : (d : Five) (xs : Steps) (e : Five) (ys : Steps) (k : AreWithout Goes d xs e ys) (f : Five) (zs : Steps) (g : Five) (us : Steps) → forget f ≡ forget g → forget_steps zs ≡ forget_steps us
      → (forget (thin d xs e ys k f zs).start ≡ forget (thin d xs e ys k g us).start) × (forget_steps (thin d xs e ys k f zs).steps ≡ forget_steps (thin d xs e ys k g us).steps)
  thin_forgets d [] e ys k f zs g us a b = (a, b)
  thin_forgets d (x ∷ xs) e ys k f [] g [] a b = (a, refl)
  thin_forgets d (x ∷ xs) e ys k f [] g (u ∷ us) a b = absurd (true≢false (ap no_steps b))
  thin_forgets d (x ∷ xs) e ys k f (z ∷ zs) g [] a b = absurd (true≢false (ap no_steps (sym b)))
  thin_forgets d (x ∷ xs) e [] k f (z ∷ zs) g (u ∷ us) a b = thin_forgets x.1 xs e [] k.1 z.1 zs u.1 us (ap (head_five (forget f)) b) (ap tail_steps b)
  thin_forgets d (x ∷ xs) e (y ∷ ys) (inl k) f (z ∷ zs) g (u ∷ us) a b = thin_forgets x.1 xs e (y ∷ ys) k.1 z.1 zs u.1 us (ap (head_five (forget f)) b) (ap tail_steps b)
  thin_forgets d (x ∷ xs) e (y ∷ ys) (inr k) f (z ∷ zs) g (u ∷ us) a b =
      let r = thin_forgets x.1 xs y.1 ys k.2 z.1 zs u.1 us (ap (head_five (forget f)) b) (ap tail_steps b) in
      let i = ap (head_instance z.0) b in
      (a, λ j. (i j, r.0 j) ∷ r.1 j)

  -- ---- steps of the kind at the front, and steps behind

  pub one_goes : (d : Five) (x : Instance × Five) (xs : Steps) (e : Five) (ys : Steps) → Goes d x.0 x.1 → AreWithout Goes x.1 xs e ys → AreWithout Goes d (x ∷ xs) e ys
  one_goes d x xs e [] g k = (g, k)
  one_goes d x xs e (y ∷ ys) g k = inl (g, k)

  -- none need be left out, and no moment is added
  pub without_none : (d : Five) (xs : Steps) → AreWithout Goes d xs d xs
  without_none d [] = refl
  without_none d (x ∷ xs) = inr (refl, refl, without_none x.1 xs)

  pub without_short : (d : Five) (xs : Steps) (e : Five) (ys : Steps) → AreWithout Goes d xs e ys → length ys ≤ length xs
  without_short d [] e [] k = omega arith
  without_short d [] e (y ∷ ys) k = absurd k
  without_short d (x ∷ xs) e [] k = omega arith
  without_short d (x ∷ xs) e (y ∷ ys) (inl k) = let r = without_short x.1 xs e (y ∷ ys) k.1 in omega (arith, r)
  without_short d (x ∷ xs) e (y ∷ ys) (inr k) = let r = without_short x.1 xs y.1 ys k.2 in omega (arith, r)

  pub without_last : (d : Five) (xs : Steps) (e : Five) (ys : Steps) → AreWithout Goes d xs e ys → last_of d xs ≡ last_of e ys
  without_last d [] e [] k = k
  without_last d [] e (y ∷ ys) k = absurd k
  without_last d (x ∷ xs) e [] k = without_last x.1 xs e [] k.1
  without_last d (x ∷ xs) e (y ∷ ys) (inl k) = without_last x.1 xs e (y ∷ ys) k.1
  without_last d (x ∷ xs) e (y ∷ ys) (inr k) = without_last x.1 xs y.1 ys k.2

  pub without_pushed : (d : Five) (xs : Steps) (e : Five) (ys : Steps) (s : Instance × Five) → AreWithout Goes d xs e ys → AreWithout Goes d (xs ++ s ∷ []) e (ys ++ s ∷ [])
  without_pushed d [] e [] s k = inr (k, refl, refl)
  without_pushed d [] e (y ∷ ys) s k = absurd k
  without_pushed d (x ∷ xs) e [] s k = inl (k.0, without_pushed x.1 xs e [] s k.1)
  without_pushed d (x ∷ xs) e (y ∷ ys) s (inl k) = inl (k.0, without_pushed x.1 xs e (y ∷ ys) s k.1)
  without_pushed d (x ∷ xs) e (y ∷ ys) s (inr k) = inr (k.0, k.1, without_pushed x.1 xs y.1 ys s k.2)

  -- with other databases at the last moment, where what goes may lead to these
  pub without_ended : (m : Five) (d : Five) (xs : Steps) (e : Five) (ys : Steps) → ((b : Five) (i : Instance) → Goes b i (last_of d xs) → Goes b i m) → AreWithout Goes d xs e ys → AreWithout Goes (ended d xs m).start (ended d xs m).steps (ended e ys m).start (ended e ys m).steps
  without_ended m d [] e [] f k = refl
  without_ended m d [] e (y ∷ ys) f k = absurd k
  without_ended m d (x ∷ xs) e [] f k = (front xs f k.0, without_ended m x.1 xs e [] f k.1)
    where
      front : (xs : Steps) → ((b : Five) (i : Instance) → Goes b i (last_of x.1 xs) → Goes b i m) → Goes d x.0 x.1 → Goes d x.0 (ended x.1 xs m).start
      front [] f g = f d x.0 g
      front (z ∷ zs) f g = g
  without_ended m d (x ∷ xs) e (y ∷ ys) f (inl k) = inl (front xs f k.0, without_ended m x.1 xs e (y ∷ ys) f k.1)
    where
      front : (xs : Steps) → ((b : Five) (i : Instance) → Goes b i (last_of x.1 xs) → Goes b i m) → Goes d x.0 x.1 → Goes d x.0 (ended x.1 xs m).start
      front [] f g = f d x.0 g
      front (z ∷ zs) f g = g
  without_ended m d (x ∷ xs) e (y ∷ ys) f (inr k) = inr (k.0, k.1, without_ended m x.1 xs y.1 ys f k.2)

module _ (P Q : Five → Instance → Five → Type 0) where
  -- where each step of the one kind is one of the other
  pub without_weaker : ((b : Five) (i : Instance) (a : Five) → P b i a → Q b i a) → (d : Five) (xs : Steps) (e : Five) (ys : Steps) → AreWithout P d xs e ys → AreWithout Q d xs e ys
  without_weaker f d [] e [] k = k
  without_weaker f d [] e (y ∷ ys) k = absurd k
  without_weaker f d (x ∷ xs) e [] k = (f d x.0 x.1 k.0, without_weaker f x.1 xs e [] k.1)
  without_weaker f d (x ∷ xs) e (y ∷ ys) (inl k) = inl (f d x.0 x.1 k.0, without_weaker f x.1 xs e (y ∷ ys) k.1)
  without_weaker f d (x ∷ xs) e (y ∷ ys) (inr k) = inr (k.0, k.1, without_weaker f x.1 xs y.1 ys k.2)

  -- at each moment something is done that makes steps of the one kind steps of the other
  pub without_mapped : (t : Five → Five) → ((b : Five) (i : Instance) (a : Five) → P b i a → Q (t b) i (t a)) → (d : Five) (xs : Steps) (e : Five) (ys : Steps) → AreWithout P d xs e ys
      → AreWithout Q (t d) (map (λ (x : Instance × Five). let r : Instance × Five = (x.0, t x.1) in r) xs) (t e) (map (λ (x : Instance × Five). let r : Instance × Five = (x.0, t x.1) in r) ys)
  without_mapped t f d [] e [] k = ap t k
  without_mapped t f d [] e (y ∷ ys) k = absurd k
  without_mapped t f d (x ∷ xs) e [] k = (f d x.0 x.1 k.0, without_mapped t f x.1 xs e [] k.1)
  without_mapped t f d (x ∷ xs) e (y ∷ ys) (inl k) = inl (f d x.0 x.1 k.0, without_mapped t f x.1 xs e (y ∷ ys) k.1)
  without_mapped t f d (x ∷ xs) e (y ∷ ys) (inr k) = inr (ap t k.0, k.1, without_mapped t f x.1 xs y.1 ys k.2)
