-- What a moment that did not grow gives is already where it goes to.
use Rattle.std.proofs.Common.{◌≡◌, ℕ, suc, Bool, true, false, nat_le, List, [], ◌∷◌, ◌++◌, ◌+◌, ◌≤◌, length, get_or, None, sym, ap, ap₂, ◌∙◌, subst, inr, ⊎_elim, true≢false, arith, refl}
use Rattle.std.proofs.lemmas.Bool.{cases_lt, le-leb}
use Rattle.std.proofs.lemmas.List.{length-append, length-map}
use Rattle.pks_terms.specs.Sets.{Each}
use Rattle.pks_terms.specs.Syntax.{Literal}
use Rattle.pks_terms.specs.Totality.{literal_cmp_total}
use Rattle.pks_terms.specs.Signatures.{Signature, HasValues}
use Rattle.pks_terms.specs.Databases.{Five}
use Rattle.pks_terms.specs.Closure.{additions, first_clash}
use Rattle.pks_terms.specs.Actions.{Instance}
use Rattle.pks_terms.specs.Problems.{Problem}
use Rattle.pks_terms.specs.Settling.{History, steps_with_last, with_last, forward, backward, from_next, grown, settled_steps, settle_round}
use Rattle.pks_terms.specs.Saturated.{Within, IsSaturated}
use Rattle.pks_terms.specs.Views.{instance_of}
use Rattle.pks_terms.proofs.OrderLaws.{literal_cmp_tells}
use Rattle.pks_terms.proofs.SetLaws.{added_in}
use Rattle.pks_terms.specs.Moments.{IsMomentOf}
use Rattle.pks_laws.proofs.BelongingHistories.{rest_of_steps}
use Rattle.pks_laws.proofs.ClosedAgain.{closed_fine, closed_saturated}
use Rattle.pks_laws.proofs.Least.{in_left, in_right}
use Rattle.pks_postdict.specs.declared.family.Held.{Held}
use Rattle.pks_postdict.specs.declared.family.Held.TheVariants as held_is
use Rattle.pks_postdict.specs.declared.family.Place.{Place}
use Rattle.pks_postdict.specs.declared.family.Link.{Link}
use Rattle.pks_postdict.specs.declared.family.Family.{Family}
use Rattle.pks_postdict.specs.Families.{held_of, link_of, links_of, family_of}
use Rattle.pks_postdict.specs.Growing.{is_unread, AreMarked, IsFine, IsSparedAlone, AreSpared, IsGrowth, AreGrowths}
use Rattle.pks_postdict.specs.Read.{IsReadStep, AreRead}

-- ---- making it

-- with other databases at the last of several moments the first one stays
pub first_stays : (start d s : Five) (steps l : List (Instance × Five)) → 1 ≤ length steps → s ≡ start → l ≡ (with_last (record { start = start; steps = steps }) d).steps → with_last (record { start = start; steps = steps }) d ≡ record { start = s; steps = l }
first_stays start d s [] l h e f = absurd (omega arith)
first_stays start d s (step ∷ steps) l h e f = ap₂ (λ (x : Five) (y : List (Instance × Five)). record { start = x; steps = y }) (sym e) (sym f)

-- ---- reading it

pub alone_of : (p : Problem) (d : Place) (xs : List Link) → AreSpared p d xs → IsSparedAlone p.signature d
alone_of p d [] s = s
alone_of p d (x ∷ xs) s = s.0

pub next_gives : (p : Problem) (d : Five) (xs : List Link) (x : Link) → 1 ≤ length xs → x ≡ get_or xs 0 x → from_next p d (links_of xs) ≡ backward p (instance_of x.step) d (held_of x.place.held)
next_gives p d [] x h e = absurd (omega arith)
next_gives p d (y ∷ ys) x h e = ap (λ (z : Link). backward p (instance_of z.step) d (held_of z.place.held)) (sym e)

pub next_spared : (p : Problem) (d : Place) (xs : List Link) (x : Link) → 1 ≤ length xs → x ≡ get_or xs 0 x → AreSpared p d xs → d.grew ≡ false → x.place.grew ≡ false → Within (from_next p (held_of d.held) (links_of xs)) (held_of d.held).kf
next_spared p d [] x h e s = absurd (omega arith)
next_spared p d (y ∷ ys) x h e s = λ own other. s.2 own (sym (ap (λ (z : Link). z.place.grew) e) ∙ other)

pub still_read : (h : Held) → is_unread h false ≡ false
still_read (held_is.Closed d) = refl
still_read (held_is.Grown rc) = refl

-- ---- where those are marked as grown from which a step goes out that isn't read, and the rules add nothing to any

-- a step is read out of a moment with more than n moments behind it
read_there : (m n : ℕ) (b : Bool) → b ≡ nat_le (suc m) n → b ≡ false → n ≤ m
read_there m n b e h = ⊎_elim (λ k. absurd (true≢false (sym (le-leb (suc m) n k) ∙ sym e ∙ h))) (λ k. k) (cases_lt m n)

pub fresh_spared : (p : Problem) (n : ℕ) (d : Place) (xs : List Link) → d.grew ≡ nat_le (length xs) n → AreMarked n 0 xs → IsSaturated p.signature (held_of d.held) → Each (λ step. IsSaturated p.signature step.1) (links_of xs)
    → IsFine p.signature d.held → Each (λ x. IsFine p.signature x.place.held) xs → AreRead p n (held_of d.held) (links_of xs) → AreSpared p d xs
fresh_spared p n d [] g a s b f c r = (λ h. s, f)
fresh_spared p n d (x ∷ xs) g a s b f c r =
    let there : d.grew ≡ false → IsReadStep p (held_of d.held) (instance_of x.step) (held_of x.place.held) = λ h. r.0 (subst (λ m. n ≤ m) (sym (length-map xs link_of)) (read_there (length xs) n d.grew g h)) in
    let none_behind : length xs + 0 ≡ length xs = omega arith in
    ((λ h. s, f), λ h. (there h).0, λ h k. (there h).1, fresh_spared p n x.place xs (a.0 ∙ ap (λ m. nat_le m n) none_behind) a.1 b.0 b.1 c.0 c.1 r.1)

-- one more moment at the end
pub marked_push : (n m k : ℕ) (xs : List Link) (y : Link) → k ≡ suc m → AreMarked n k xs → y.place.grew ≡ nat_le m n → AreMarked n m (xs ++ y ∷ [])
marked_push n m k [] y q a g = let none : m ≡ 0 + m = omega arith in (g ∙ ap (λ j. nat_le j n) none, tt)
marked_push n m k (x ∷ xs) y q a g =
    let longer : length (xs ++ y ∷ []) ≡ length xs + 1 = length-append xs (y ∷ []) in
    let same : length xs + k ≡ length (xs ++ y ∷ []) + m = omega arith in
    (a.0 ∙ ap (λ j. nat_le j n) same, marked_push n m k xs y q a.1 g)

-- closed databases of a signature don't clash
pub moment_fine : (s : Signature) → HasValues s → (d : Five) → IsMomentOf s d → first_clash s d ≡ None
moment_fine s inhabited d m = closed_fine s inhabited d m.closed

pub fine_of : (s : Signature) (h : Held) → first_clash s (held_of h) ≡ None → IsFine s h
fine_of s (held_is.Closed d) e = e
fine_of s (held_is.Grown rc) e = tt

pub all_fine : (s : Signature) (xs : List Link) → Each (λ step. first_clash s step.1 ≡ None) (links_of xs) → Each (λ x. IsFine s x.place.held) xs
all_fine s [] a = tt
all_fine s (x ∷ xs) a = (fine_of s x.place.held a.0, all_fine s xs a.1)

-- ---- steps that are read

-- the steps with other databases at the last moment
pub last_steps : (start d : Five) (steps : List (Instance × Five)) → 1 ≤ length steps → (with_last (record { start = start; steps = steps }) d).steps ≡ steps_with_last steps d
last_steps start d [] k = absurd (omega arith)
last_steps start d (step ∷ steps) k = refl

-- as many as before
pub last_as_long : (e : Five) (steps : List (Instance × Five)) → length (steps_with_last steps e) ≡ length steps
last_as_long e [] = refl
last_as_long e (x ∷ []) = refl
last_as_long e (x ∷ y ∷ ys) = ap suc (last_as_long e (y ∷ ys))

-- with other databases at the last moment the same steps are read but the last
pub read_with_last : (p : Problem) (n : ℕ) (d e : Five) (xs : List (Instance × Five)) → 1 ≤ n → AreRead p n d xs → AreRead p n d (steps_with_last xs e)
read_with_last p n d e [] k r = tt
read_with_last p n d e (x ∷ []) k r = (λ h. absurd (omega arith), tt)
read_with_last p n d e (x ∷ y ∷ ys) k r = (λ h. r.0 (subst (λ m. n ≤ m) (last_as_long e (y ∷ ys)) h), read_with_last p n x.1 e (y ∷ ys) k r.1)

-- fewer steps are read where more are left out
pub read_fewer : (p : Problem) (n m : ℕ) (d : Five) (xs : List (Instance × Five)) → n ≤ m → AreRead p n d xs → AreRead p m d xs
read_fewer p n m d [] k r = tt
read_fewer p n m d (x ∷ xs) k r = (λ h. r.0 (omega (arith, k, h)), read_fewer p n m x.1 xs k r.1)

-- none need be read where all are left out
pub none_read : (p : Problem) (n : ℕ) (d : Five) (xs : List (Instance × Five)) → length xs ≤ n → AreRead p n d xs
none_read p n d [] k = tt
none_read p n d (x ∷ xs) k = (λ h. absurd (omega (arith, k, h)), none_read p n x.1 xs (omega (arith, k)))

-- ---- which databases don't clash

pub fine_start : (p : Problem) (d : Place) (xs : List Link) → AreSpared p d xs → IsFine p.signature d.held
fine_start p d [] s = s.1
fine_start p d (x ∷ xs) s = s.0.1

pub fine_later : (p : Problem) (d : Place) (xs : List Link) → AreSpared p d xs → Each (λ x. IsFine p.signature x.place.held) xs
fine_later p d [] s = tt
fine_later p d (x ∷ xs) s = (fine_start p x.place xs s.3, fine_later p x.place xs s.3)

-- closed databases of a signature have all that the rules add to them
pub moment_saturated : (s : Signature) → HasValues s → (d : Five) → IsMomentOf s d → IsSaturated s d
moment_saturated s inhabited d m = closed_saturated s inhabited d m.closed m.ordered.known

-- ---- after a round

grown_has : (s : Signature) (d : Five) (news : List Literal) → Within (additions s d ++ news) (grown s d news).kf
grown_has s d news l i = added_in literal_cmp_total literal_cmp_tells d.kf (additions s d ++ news) l (inr i)

grown_news : (s : Signature) (d : Five) (news : List Literal) → Within news (grown s d news).kf
grown_news s d news l i = grown_has s d news l (in_right (additions s d) news l i)

module _ (p : Problem) where
  -- a moment that grew by its own news and those of the next one
  alone_after : (d e : Place) (news : List Literal) → IsGrowth d e → held_of e.held ≡ grown p.signature (held_of d.held) news → IsFine p.signature d.held → IsSparedAlone p.signature e
  alone_after d e news g r f = (
    λ h.
        subst (λ (x : Five). Within (additions p.signature x) (held_of e.held).kf) (sym (g.same (sym g.read ∙ h)))
        (subst (λ (x : Five). Within (additions p.signature (held_of d.held)) x.kf) (sym r) (λ l i. grown_has p.signature (held_of d.held) news l (in_left (additions p.signature (held_of d.held)) news l i))),
    g.fine p.signature f,
  )

  abbrev first_of : Five → List (Instance × Five) → Five
  first_of d [] = d
  first_of d (step ∷ steps) = step.1

  steps_after : (d e : Place) (xs ys : List Link) (news : List Literal) → AreSpared p d xs → IsGrowth d e → AreGrowths xs ys → held_of e.held ≡ grown p.signature (held_of d.held) (news ++ from_next p (held_of d.held) (links_of xs)) → links_of ys ≡ settled_steps p (held_of d.held) (links_of xs) → AreSpared p e ys
  steps_after d e [] [] news b g a r l = alone_after d e (news ++ []) g r b.1
  steps_after d e (x ∷ xs) (y ∷ ys) news b g a r l =
      let D : Five = held_of d.held in
      let X : Five = held_of x.place.held in
      let given : List Literal = forward p (instance_of x.step) D in
      let own : List Literal = backward p (instance_of x.step) D X in
      let here : held_of y.place.held ≡ grown p.signature X (given ++ from_next p X (links_of xs)) = ap (first_of X) l in
      let rest : links_of ys ≡ settled_steps p X (links_of xs) = ap rest_of_steps l in
      let onward : Within given (held_of y.place.held).kf = subst (λ (z : Five). Within given z.kf) (sym here) (λ k i. grown_news p.signature X (given ++ from_next p X (links_of xs)) k (in_left given (from_next p X (links_of xs)) k i)) in
      let back : Within own (held_of e.held).kf = subst (λ (z : Five). Within own z.kf) (sym r) (λ k i. grown_news p.signature D (news ++ own) k (in_right news own k i)) in (
        alone_after d e (news ++ own) g r b.0.1,
        λ h. subst (λ (z : List Literal). Within z (held_of y.place.held).kf) (λ j. forward p (sym a.0.step j) (sym (g.same h) j)) onward,
        λ h k. subst (λ (z : List Literal). Within z (held_of e.held).kf) (λ j. backward p (sym a.0.step j) (sym (g.same h) j) (sym (a.0.growth.same k) j)) back,
        steps_after x.place y.place xs ys given b.3 a.0.growth a.1 here rest,
      )
  steps_after d e [] (y ∷ ys) news b g a r l = absurd a
  steps_after d e (x ∷ xs) [] news b g a r l = absurd a

  -- after a round all that did not grow is spared
  pub spared_after : (f g : Family) → AreSpared p f.start f.later.items → family_of g ≡ settle_round p (family_of f) → IsGrowth f.start g.start → AreGrowths f.later.items g.later.items → AreSpared p g.start g.later.items
  unfolding settle_round
  spared_after f g before e start later = steps_after f.start g.start f.later.items g.later.items [] before start later (ap (λ (h : History). h.start) e) (ap (λ (h : History). h.steps) e)
