-- Literals in sequence stay as they are when they are put in sequence again.
use Rattle.std.proofs.Common.{◌≡◌, List, [], ◌∷◌, ◌++◌, Less, Equal, Greater, is_eq, is_lt, Ordering, append_assoc, append-nil, refl, sym, ap, ◌∙◌, subst, true≢false, true}
use Rattle.std.specs.Ordering.{ordering_reverse}
use Rattle.std.proofs.lemmas.Cmp.{tied_itself}
use Rattle.pks_terms.specs.Sets.{Each}
use Rattle.pks_terms.specs.Syntax.{Literal}
use Rattle.pks_terms.specs.Orders.{literal_cmp}
use Rattle.pks_terms.specs.Closure.{put_in, all_put_in, in_sequence}
use Rattle.pks_terms.specs.Totality.{literal_cmp_total}
use Rattle.pks_terms.proofs.OrderLaws.{literal_cmp_tells}
use Rattle.pks_terms.proofs.ListLaws.{each_back, each_front, each_weaker}

module _ (P : Literal → Type 0) where
  each_put_in : (l : Literal) (ms : List Literal) → P l → Each P ms → Each P (put_in l ms)
  each_put_in l [] p a = (p, tt)
  each_put_in l (m ∷ ms) p a = elim (literal_cmp l m) as (λ o. Each P (elim o [ Less ↦ l ∷ m ∷ ms | Equal ↦ l ∷ m ∷ ms | Greater ↦ m ∷ put_in l ms ])) [ Less ↦ (p, a) | Equal ↦ (p, a) | Greater ↦ (a.0, each_put_in l ms p a.1) ]

  each_all_put_in : (ms ls : List Literal) → Each P ms → Each P ls → Each P (all_put_in ms ls)
  each_all_put_in ms [] a b = a
  each_all_put_in ms (l ∷ ls) a b = each_all_put_in (put_in l ms) ls (each_put_in l ms b.0 a) b.1

  pub each_in_sequence : (ls : List Literal) → Each P ls → Each P (in_sequence ls)
  each_in_sequence ls b = each_all_put_in [] ls tt b

-- the first isn't above the second
abbrev IsUpTo : Literal → Literal → Type 0
IsUpTo l m = literal_cmp l m ≡ Greater → ⊥

not_greater : (o : Ordering) → is_lt o ≡ true → o ≡ Greater → ⊥
not_greater o h e = true≢false (sym h ∙ ap is_lt e)

turned : (l m : Literal) (o : Ordering) → literal_cmp l m ≡ o → literal_cmp m l ≡ ordering_reverse o
turned l m o e = literal_cmp_total.antisymm m l ∙ ap ordering_reverse e

below_up_to : (l m : Literal) → literal_cmp l m ≡ Less → IsUpTo l m
below_up_to l m e = not_greater (literal_cmp l m) (ap is_lt e)

above_up_to : (l m : Literal) → literal_cmp l m ≡ Greater → IsUpTo m l
above_up_to l m e = below_up_to m l (turned l m Greater e)

itself : (l : Literal) → IsUpTo l l
itself l e = true≢false (sym (tied_itself_is l) ∙ ap is_eq e)
  where
    tied_itself_is : (l : Literal) → is_eq (literal_cmp l l) ≡ true
    tied_itself_is l = ap is_eq (tied_itself literal_cmp_total l)

through : (l m n : Literal) → IsUpTo l m → IsUpTo m n → IsUpTo l n
through l m n a b e =
    elim (literal_cmp l m) as (λ o. literal_cmp l m ≡ o → ⊥) [
      | Less ↦ λ h. b (turned n m Less (literal_cmp_total.trans n l m (turned l n Greater e) h))
      | Equal ↦ λ h. b (subst (λ x. literal_cmp x n ≡ Greater) (literal_cmp_tells l m h) e)
      | Greater ↦ λ h. a h
    ] refl

both_ways_same : (l m : Literal) → IsUpTo l m → IsUpTo m l → l ≡ m
both_ways_same l m a b =
    elim (literal_cmp l m) as (λ o. literal_cmp l m ≡ o → l ≡ m) [
      | Less ↦ λ h. absurd (b (turned l m Less h))
      | Equal ↦ λ h. literal_cmp_tells l m h
      | Greater ↦ λ h. absurd (a h)
    ] refl

-- no literal is above a later one
abbrev IsRising : List Literal → Type 0
IsRising [] = Unit {0}
IsRising (l ∷ ls) = Each (IsUpTo l) ls × IsRising ls

rising_put_in : (l : Literal) (ms : List Literal) → IsRising ms → IsRising (put_in l ms)
rising_put_in l [] h = (tt, tt)
rising_put_in l (m ∷ ms) h =
    elim (literal_cmp l m) as (λ o. literal_cmp l m ≡ o → IsRising (elim o [ Less ↦ l ∷ m ∷ ms | Equal ↦ l ∷ m ∷ ms | Greater ↦ m ∷ put_in l ms ])) [
      | Less ↦ λ e. first (below_up_to l m e)
      | Equal ↦ λ e. first (subst (λ x. IsUpTo l x) (literal_cmp_tells l m e) (itself l))
      | Greater ↦ λ e. (each_put_in (IsUpTo m) l ms (above_up_to l m e) h.0, rising_put_in l ms h.1)
    ] refl
  where
    first : IsUpTo l m → IsRising (l ∷ m ∷ ms)
    first a = ((a, each_weaker (IsUpTo m) (IsUpTo l) (λ x b. through l m x a b) ms h.0), h)

rising_all_put_in : (ms ls : List Literal) → IsRising ms → IsRising (all_put_in ms ls)
rising_all_put_in ms [] h = h
rising_all_put_in ms (l ∷ ls) h = rising_all_put_in (put_in l ms) ls (rising_put_in l ms h)

moved_last : (l : Literal) (ms : List Literal) → Each (λ m. m ≡ l) ms → l ∷ ms ≡ ms ++ l ∷ []
moved_last l [] a = refl
moved_last l (m ∷ ms) a = (λ i. sym a.0 i ∷ a.0 i ∷ ms) ∙ ap (λ xs. m ∷ xs) (moved_last l ms a.1)

last_put_in : (l : Literal) (ms : List Literal) → IsRising ms → Each (λ m. IsUpTo m l) ms → put_in l ms ≡ ms ++ l ∷ []
last_put_in l [] h a = refl
last_put_in l (m ∷ ms) h a =
    elim (literal_cmp l m) as (λ o. literal_cmp l m ≡ o → ◌≡◌ {A = List Literal} (elim o [ Less ↦ l ∷ m ∷ ms | Equal ↦ l ∷ m ∷ ms | Greater ↦ m ∷ put_in l ms ]) (m ∷ (ms ++ l ∷ []))) [
      | Less ↦ λ e. absurd (a.0 (turned l m Less e))
      | Equal ↦ λ e. moved_last l (m ∷ ms) (all_same (literal_cmp_tells l m e) (m ∷ ms) (itself m, h.0) a)
      | Greater ↦ λ e. ap (λ xs. m ∷ xs) (last_put_in l ms h.1 a.1)
    ] refl
  where
    all_same : l ≡ m → (xs : List Literal) → Each (IsUpTo m) xs → Each (λ x. IsUpTo x l) xs → Each (λ x. x ≡ l) xs
    all_same e [] b c = tt
    all_same e (x ∷ xs) b c = (both_ways_same x l c.0 (subst (λ y. IsUpTo y x) (sym e) b.0), all_same e xs b.1 c.1)

rising_front : (ms : List Literal) (l : Literal) (ls : List Literal) → IsRising (ms ++ l ∷ ls) → IsRising ms × Each (λ m. IsUpTo m l) ms
rising_front [] l ls h = (tt, tt)
rising_front (m ∷ ms) l ls h =
    let later = rising_front ms l ls h.1 in
    ((each_front (IsUpTo m) ms (l ∷ ls) h.0, later.0), ((each_back (IsUpTo m) ms (l ∷ ls) h.0).0, later.1))

rising_stays : (ls ms : List Literal) → IsRising (ms ++ ls) → all_put_in ms ls ≡ ms ++ ls
rising_stays [] ms h = sym (append-nil ms)
rising_stays (l ∷ ls) ms h =
    let front = rising_front ms l ls h in
    let same : (ms ++ l ∷ []) ++ ls ≡ ms ++ l ∷ ls = append_assoc ms (l ∷ []) ls in
    ap (λ xs. all_put_in xs ls) (last_put_in l ms front.0 front.1) ∙ rising_stays ls (ms ++ l ∷ []) (subst IsRising (sym same) h) ∙ same

pub in_sequence_twice : (ls : List Literal) → in_sequence (in_sequence ls) ≡ in_sequence ls
in_sequence_twice ls = rising_stays (in_sequence ls) [] (rising_all_put_in [] ls tt)
