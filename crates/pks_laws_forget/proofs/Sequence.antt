-- What stands in sequence already is left as it is; so are the groups and regions of closed databases.
use Rattle.std.proofs.Common.{◌≡◌, ◌++◌, append-nil, Bool, true, false, List, [], ◌∷◌, map, Ordering, Less, Equal, Greater, refl, sym, ap, ◌∙◌, subst, inl, inr, true≢false}
use Rattle.std.specs.Ordering.{ordering_reverse}
use Rattle.std.proofs.lemmas.Cmp.{tied_itself}
use Rattle.pks_terms.specs.Sets.{Each, IsIn, set_of}
use Rattle.pks_terms.specs.Syntax.{Literal, Atom}
use Rattle.pks_terms.specs.Orders.{literal_cmp, atom_cmp}
use Rattle.pks_terms.specs.Totality.{literal_cmp_total, conj_cmp_total, atom_cmp_total, entry_cmp_total}
use Rattle.pks_terms.specs.Signatures.{Signature}
use Rattle.pks_terms.specs.Databases.{Entry, Five, normal_literal}
use Rattle.pks_terms.specs.Closure.{put_in, all_put_in, in_sequence, normal_atom, normal_group, normal_entry, rounds, tidied, IsClosed}
use Rattle.pks_terms.proofs.ListLaws.{each_in, each_of, each_weaker, in_mapped}
use Rattle.pks_terms.proofs.OrderLaws.{literal_cmp_tells, conj_cmp_tells, atom_cmp_tells, entry_cmp_tells}
use Rattle.pks_terms.proofs.SetLaws.{in_set_of, set_of_in, ordered_set_of, same_members}
use Rattle.pks_laws.proofs.Belonging.{end_of}

-- the first isn't after the second
abbrev NotAfter : Literal → Literal → Type 0
NotAfter l m = literal_cmp l m ≡ Greater → ⊥

abbrev IsSequence : List Literal → Type 0
IsSequence [] = Unit {0}
IsSequence (l ∷ ms) = Each (NotAfter l) ms × IsSequence ms

abbrev is_greater : Ordering → Bool
is_greater Less = false
is_greater Equal = false
is_greater Greater = true

turned : (l m : Literal) → literal_cmp m l ≡ ordering_reverse (literal_cmp l m)
turned l m = literal_cmp_total.antisymm m l

less_not : (l m : Literal) → literal_cmp l m ≡ Less → NotAfter l m
less_not l m e g = true≢false (sym (ap is_greater g) ∙ ap is_greater e)

equal_not : (l m : Literal) → l ≡ m → NotAfter l m
equal_not l m e g = true≢false (sym (ap is_greater g) ∙ ap (λ x. is_greater (literal_cmp l x)) (sym e) ∙ ap is_greater (tied_itself literal_cmp_total l))

greater_not : (l m : Literal) → literal_cmp l m ≡ Greater → NotAfter m l
greater_not l m e = less_not m l (turned l m ∙ ap ordering_reverse e)

-- neither is after the other: they are the same
both_not : (l m : Literal) → NotAfter l m → NotAfter m l → l ≡ m
both_not l m a b =
    elim (literal_cmp l m) as (λ o. literal_cmp l m ≡ o → l ≡ m) [
      | Less ↦ λ e. absurd (b (turned l m ∙ ap ordering_reverse e))
      | Equal ↦ λ e. literal_cmp_tells l m e
      | Greater ↦ λ e. absurd (a e)
    ] refl

through : (l m k : Literal) → NotAfter l m → NotAfter m k → NotAfter l k
through l m k a b =
    elim (literal_cmp l m) as (λ o. literal_cmp l m ≡ o → NotAfter l k) [
      | Equal ↦ λ e. subst (λ x. NotAfter x k) (sym (literal_cmp_tells l m e)) b
      | Greater ↦ λ e. absurd (a e)
      | Less ↦ λ e. elim (literal_cmp m k) as (λ o. literal_cmp m k ≡ o → NotAfter l k) [
        | Equal ↦ λ f. subst (λ x. NotAfter l x) (literal_cmp_tells m k f) a
        | Greater ↦ λ f. absurd (b f)
        | Less ↦ λ f. less_not l k (literal_cmp_total.trans l m k e f)
      ] refl
    ] refl

put_each : (P : Literal → Type 0) (l : Literal) (ms : List Literal) → P l → Each P ms → Each P (put_in l ms)
put_each P l [] h a = (h, tt)
put_each P l (m ∷ ms) h a =
    elim (literal_cmp l m) as (λ o. Each P (elim o [ Less ↦ l ∷ m ∷ ms | Equal ↦ l ∷ m ∷ ms | Greater ↦ m ∷ put_in l ms ])) [ Less ↦ (h, a) | Equal ↦ (h, a) | Greater ↦ (a.0, put_each P l ms h a.1) ]

put_sequence : (l : Literal) (ms : List Literal) → IsSequence ms → IsSequence (put_in l ms)
put_sequence l [] a = (tt, tt)
put_sequence l (m ∷ ms) a =
    elim (literal_cmp l m) as (λ o. literal_cmp l m ≡ o → IsSequence (elim o [ Less ↦ l ∷ m ∷ ms | Equal ↦ l ∷ m ∷ ms | Greater ↦ m ∷ put_in l ms ])) [
      | Less ↦ λ e. let b = less_not l m e in ((b, each_weaker (NotAfter m) (NotAfter l) (λ k c. through l m k b c) ms a.0), a)
      | Equal ↦ λ e. let b = equal_not l m (literal_cmp_tells l m e) in ((b, each_weaker (NotAfter m) (NotAfter l) (λ k c. through l m k b c) ms a.0), a)
      | Greater ↦ λ e. (put_each (NotAfter m) l ms (greater_not l m e) a.0, put_sequence l ms a.1)
    ] refl

all_put_sequence : (ls ms : List Literal) → IsSequence ms → IsSequence (all_put_in ms ls)
all_put_sequence [] ms a = a
all_put_sequence (l ∷ ls) ms a = all_put_sequence ls (put_in l ms) (put_sequence l ms a)

rotated : (l : Literal) (ms : List Literal) → Each (λ m. l ≡ m) ms → l ∷ ms ≡ ms ++ l ∷ []
rotated l [] a = refl
rotated l (m ∷ ms) a = λ i. a.0 i ∷ ((λ j. sym a.0 j ∷ ms) ∙ rotated l ms a.1) i

put_last : (l : Literal) (ms : List Literal) → Each (λ m. NotAfter m l) ms → IsSequence ms → put_in l ms ≡ ms ++ l ∷ []
put_last l [] a b = refl
put_last l (m ∷ ms) a b =
    elim (literal_cmp l m) as (λ o. literal_cmp l m ≡ o → elim o as (λ _. List Literal) [ Less ↦ l ∷ m ∷ ms | Equal ↦ l ∷ m ∷ ms | Greater ↦ m ∷ put_in l ms ] ≡ m ∷ (ms ++ l ∷ [])) [
      | Less ↦ λ e. absurd (a.0 (turned l m ∙ ap ordering_reverse e))
      | Equal ↦ λ e.
          let same = literal_cmp_tells l m e in
          rotated l (m ∷ ms) (same, each_of (λ k. l ≡ k) ms (λ k i. both_not l k (subst (λ x. NotAfter x k) (sym same) (each_in (NotAfter m) ms k b.0 i)) (each_in (λ k. NotAfter k l) ms k a.1 i)))
      | Greater ↦ λ e. ap (λ ks. m ∷ ks) (put_last l ms a.1 b.1)
    ] refl

each_before : (P : Literal → Type 0) (ms ls : List Literal) → Each P (ms ++ ls) → Each P ms
each_before P [] ls a = tt
each_before P (m ∷ ms) ls a = (a.0, each_before P ms ls a.1)

front_sequence : (ms ls : List Literal) → IsSequence (ms ++ ls) → IsSequence ms
front_sequence [] ls a = tt
front_sequence (m ∷ ms) ls a = (each_before (NotAfter m) ms ls a.0, front_sequence ms ls a.1)

before_middle : (ms ls : List Literal) (l : Literal) → IsSequence (ms ++ l ∷ ls) → Each (λ m. NotAfter m l) ms
before_middle [] ls l a = tt
before_middle (m ∷ ms) ls l a = (each_in (NotAfter m) (ms ++ l ∷ ls) l a.0 (middle ms), before_middle ms ls l a.1)
  where
    middle : (ks : List Literal) → IsIn l (ks ++ l ∷ ls)
    middle [] = inl refl
    middle (k ∷ ks) = inr (middle ks)

assoc : (ms : List Literal) (l : Literal) (ls : List Literal) → (ms ++ l ∷ []) ++ ls ≡ ms ++ l ∷ ls
assoc [] l ls = refl
assoc (m ∷ ms) l ls = ap (λ ks. m ∷ ks) (assoc ms l ls)

put_again : (ls ms : List Literal) → IsSequence (ms ++ ls) → all_put_in ms ls ≡ ms ++ ls
put_again [] ms a = sym (append-nil ms)
put_again (l ∷ ls) ms a =
    let whole : (ms ++ l ∷ []) ++ ls ≡ ms ++ l ∷ ls = assoc ms l ls in
    ap (λ ks. all_put_in ks ls) (put_last l ms (before_middle ms ls l a) (front_sequence ms (l ∷ ls) a)) ∙ put_again ls (ms ++ l ∷ []) (subst IsSequence (sym whole) a) ∙ whole

pub in_sequence_again : (ls : List Literal) → in_sequence (in_sequence ls) ≡ in_sequence ls
in_sequence_again ls = put_again (in_sequence ls) [] (all_put_sequence ls [] tt)

set_of_again : (xs : List Atom) → set_of atom_cmp (set_of atom_cmp xs) ≡ set_of atom_cmp xs
set_of_again xs =
    let ys = set_of atom_cmp xs in
    same_members atom_cmp_total atom_cmp_tells (set_of atom_cmp ys) ys (ordered_set_of atom_cmp_total atom_cmp_tells ys) (ordered_set_of atom_cmp_total atom_cmp_tells xs) (in_set_of atom_cmp_total atom_cmp_tells ys) (set_of_in atom_cmp_total atom_cmp_tells ys)

-- ---- in closed databases

module _ (s : Signature) (d : Five) (closed : IsClosed s d) where
  abbrev last : Five
  last = rounds s closed.closes.count closed.from

  is_tidied : d ≡ tidied last
  is_tidied = (end_of s closed.from d closed.closes).1

  pub groups_sequenced : Each (λ g. in_sequence g ≡ g) d.kx
  unfolding tidied
  groups_sequenced =
      each_of (λ g. in_sequence g ≡ g) d.kx
      (λ g i. let r = in_mapped (normal_group last.kf) last.kx g (in_set_of conj_cmp_total conj_cmp_tells (map (normal_group last.kf) last.kx) g (subst (λ (x : Five). IsIn g x.kx) is_tidied i)) in
      subst (λ g. in_sequence g ≡ g) r.2 (in_sequence_again (map (normal_literal last.kf) r.0)))

  pub regions_listed : Each (λ r. set_of atom_cmp r.listed ≡ r.listed) d.lcw
  unfolding tidied
  regions_listed =
      each_of (λ (r : Entry). set_of atom_cmp r.listed ≡ r.listed) d.lcw
      (λ e i. let r = in_mapped (normal_entry last.kf) last.lcw e (in_set_of entry_cmp_total entry_cmp_tells (map (normal_entry last.kf) last.lcw) e (subst (λ (x : Five). IsIn e x.lcw) is_tidied i)) in
      subst (λ (e : Entry). set_of atom_cmp e.listed ≡ e.listed) r.2 (set_of_again (map (normal_atom last.kf) r.0.listed)))
