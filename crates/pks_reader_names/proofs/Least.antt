-- The fault that is given is the least of all faults.
use Rattle.std.proofs.Common.{◌≡◌, ◌⊎◌, inl, inr, List, [], ◌∷◌, Some, None, Bool, true, false, cond, refl, sym, subst, arith}
use Rattle.std.proofs.lemmas.Bool.Decides.{nat_tests}
use Rattle.pks_reader_shape.specs.Files.{Fault}
use Rattle.pks_reader_names.specs.Meaning.{is_before, all_noted, least}
use Rattle.pks_reader_names.specs.Leasts.{IsIn, IsLeast}

not_itself : (f : Fault) → is_before f f ≡ false
not_itself f = grind (arith, nat_tests)

not_later : (a b c : Fault) → is_before b a ≡ false → is_before c b ≡ false → is_before c a ≡ false
not_later a b c ba cb = grind (arith, nat_tests)

not_back : (a b : Fault) → is_before a b ≡ true → is_before b a ≡ false
not_back a b ab = grind (arith, nat_tests)

record Kept (g f : Fault) (fs : List Fault) : Type 0 where
  among : (f ≡ g) ⊎ IsIn f fs
  start : is_before g f ≡ false
  least : (h : Fault) → IsIn h fs → is_before h f ≡ false

kept : (g f : Fault) (fs : List Fault) → all_noted (Some g) fs ≡ Some f → Kept g f fs
kept g f [] e = let same : f ≡ g = some_same (sym e) in record { among = inl same; start = subst (λ (k : Fault). is_before g k ≡ false) (sym same) (not_itself g); least = λ h is_in. absurd is_in }
  where
    some_same : {a b : Fault} → Some a ≡ Some b → a ≡ b
    some_same e = grind arith
kept g f (h ∷ fs) e = by_test (is_before h g) refl e (kept h f fs) (kept g f fs)
  where
    by_test : (b : Bool) → is_before h g ≡ b → all_noted (cond b (Some h) (Some g)) fs ≡ Some f
        → (all_noted (Some h) fs ≡ Some f → Kept h f fs) → (all_noted (Some g) fs ≡ Some f → Kept g f fs) → Kept g f (h ∷ fs)
    by_test true before e with_h with_g = let k = with_h e in record {
      among = elim k.among [ inl same ↦ inr (inl same) | inr is_in ↦ inr (inr is_in) ];
      start = not_later f h g k.start (not_back h g before);
      least = λ x is_in. elim is_in [ inl same ↦ subst (λ (y : Fault). is_before y f ≡ false) (sym same) k.start | inr later ↦ k.least x later ];
    }
    by_test false before e with_h with_g = let k = with_g e in record {
      among = elim k.among [ inl same ↦ inl same | inr is_in ↦ inr (inr is_in) ];
      start = k.start;
      least = λ x is_in. elim is_in [ inl same ↦ subst (λ (y : Fault). is_before y f ≡ false) (sym same) (not_later f g h k.start before) | inr later ↦ k.least x later ];
    }

pub least_is : (fs : List Fault) (f : Fault) → least fs ≡ Some f → IsLeast f fs
least_is [] f e = absurd (none e)
  where
    none : None ≡ Some f → ⊥
    none e = grind arith
least_is (g ∷ fs) f e = let k = kept g f fs e in record {
  among = k.among;
  least = λ h is_in. elim is_in [ inl same ↦ subst (λ (x : Fault). is_before x f ≡ false) (sym same) k.start | inr later ↦ k.least h later ];
}

pub some_stays : (g : Fault) (fs : List Fault) → all_noted (Some g) fs ≡ None → ⊥
some_stays g [] e = none e
  where
    none : Some g ≡ None → ⊥
    none e = grind arith
some_stays g (h ∷ fs) e = by_test (is_before h g) e (some_stays h fs) (some_stays g fs)
  where
    by_test : (b : Bool) → all_noted (cond b (Some h) (Some g)) fs ≡ None → (all_noted (Some h) fs ≡ None → ⊥) → (all_noted (Some g) fs ≡ None → ⊥) → ⊥
    by_test true e with_h with_g = with_h e
    by_test false e with_h with_g = with_g e

pub least_none : (fs : List Fault) → least fs ≡ None → fs ≡ []
least_none [] e = refl
least_none (f ∷ fs) e = absurd (some_stays f fs e)
