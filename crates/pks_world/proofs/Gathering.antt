-- What is gathered from one element after another.
use Rattle.std.proofs.Common.{◌≡◌, ◌<◌, ◌≤◌, ◌+◌, ◌++◌, ℕ, zero, suc, List, [], ◌∷◌, map, take, drop, get_or, length, flat_map, refl, sym, ap, ◌∙◌, arith, append_assoc, append-nil}
use Rattle.std.proofs.Math.Seq.{drop-cons}
use Rattle.std.proofs.lemmas.List.{drop_all}
use Rattle.pks_terms.specs.Syntax.{Object, Atom}
use Rattle.pks_terms.specs.declared.term.Term.TheVariants as term_is
use Rattle.pks_terms.specs.declared.ids.ObjId.{ObjId}
use Rattle.pks_terms.specs.Views.{object_of, term_of}

module _ (G : ℕ → List Atom) (xs : List ObjId) (old : List Atom) where
  -- what is there once all that is left is added
  abbrev pub AddedFrom : ℕ → List Atom → Type 0
  AddedFrom j m = m ++ flat_map G (map object_of (drop j xs)) ≡ old ++ flat_map G (map object_of xs)

  pub added_more : (j : ℕ) (d : ObjId) (m n : List Atom) → j < length xs → n ≡ m ++ G (get_or xs j d).0 → AddedFrom j m → AddedFrom (j + 1) n
  added_more j d m n h e k =
      let next : j + 1 ≡ suc j = omega arith in
      let rest = flat_map G (map object_of (drop (suc j) xs)) in
      ap (λ i. n ++ flat_map G (map object_of (drop i xs))) next
      ∙ ap (λ ys. ys ++ rest) e
      ∙ append_assoc m (G (get_or xs j d).0) rest
      ∙ ap (λ (ys : List ObjId). m ++ flat_map G (map object_of ys)) (sym (drop-cons xs j d h))
      ∙ k

  pub added_all : (j : ℕ) (m : List Atom) → length xs ≤ j → AddedFrom j m → m ≡ old ++ flat_map G (map object_of xs)
  added_all j m h k = sym (append-nil m) ∙ ap (λ (ys : List ObjId). m ++ flat_map G (map object_of ys)) (sym (drop_all j xs h)) ∙ k

-- the first of three objects, as terms
pub three_viewed : (n : ℕ) (d e f : ObjId) → map term_of (take n (term_is.Obj d ∷ term_is.Obj e ∷ term_is.Obj f ∷ [])) ≡ map Object (take n (d.0 ∷ e.0 ∷ f.0 ∷ []))
three_viewed zero d e f = refl
three_viewed (suc zero) d e f = refl
three_viewed (suc (suc zero)) d e f = refl
three_viewed (suc (suc (suc zero))) d e f = refl
three_viewed (suc (suc (suc (suc n)))) d e f = refl
