-- What fails of an atom fails of a list that has it.
use Rattle.std.proofs.Common.{◌≡◌, ◌&&◌, ◌||◌, Bool, true, false, not, List, [], ◌∷◌, Less, Equal, Greater, refl, sym, ap, ◌∙◌, subst, true≢false}
use Rattle.std.specs.List.{list_all}
use Rattle.std.specs.Ordering.{on, is_eq}
use Rattle.pks_terms.specs.Syntax.{Atom}
use Rattle.pks_terms.specs.Orders.{atom_cmp}
use Rattle.pks_terms.specs.Views.{atom_of}
use Rattle.pks_terms.specs.declared.literal.PredAtom.{PredAtom}
use Rattle.pks_terms.proofs.OrderLaws.{atom_cmp_tells}
use Rattle.pks_pmap_set.specs.Members.{is_member}
use Rattle.pks_lcw.specs.Entries.{atoms_of}

and_false : (b : Bool) → (b && false) ≡ false
and_false true = refl
and_false false = refl

pub not_so : (b : Bool) → not b ≡ true → b ≡ false
not_so true h = absurd (true≢false (sym h))
not_so false h = refl

pub listed_fails : (test : Atom → Bool) (a : PredAtom) (xs : List PredAtom) → is_member (on atom_of atom_cmp) a xs ≡ true → test (atom_of a) ≡ false → list_all test (atoms_of xs) ≡ false
listed_fails test a [] m f = absurd (true≢false (sym m))
listed_fails test a (x ∷ xs) m f =
    let later : is_member (on atom_of atom_cmp) a xs ≡ true → list_all test (atoms_of (x ∷ xs)) ≡ false = λ h. ap (λ b. test (atom_of x) && b) (listed_fails test a xs h f) ∙ and_false (test (atom_of x)) in
    elim (atom_cmp (atom_of a) (atom_of x)) as (λ o. atom_cmp (atom_of a) (atom_of x) ≡ o → (is_eq o || is_member (on atom_of atom_cmp) a xs) ≡ true → list_all test (atoms_of (x ∷ xs)) ≡ false) [
      | Less ↦ λ e h. later h
      | Equal ↦ λ e h. ap (λ b. b && list_all test (atoms_of xs)) (subst (λ y. test y ≡ false) (atom_cmp_tells (atom_of a) (atom_of x) e) f)
      | Greater ↦ λ e h. later h
    ] refl m
