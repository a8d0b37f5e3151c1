-- What isn't known yet completes what is known.
use Rattle.std.proofs.Common.{◌≡◌, ◌⊎◌, Bool, true, false, not, List, [], ◌∷◌, ◌++◌, filter, refl, sym, ap, subst, inl, inr, ⊎_elim}
use Rattle.std.specs.List.{list_any}
use Rattle.pks_terms.specs.Sets.{IsIn}
use Rattle.pks_terms.specs.Syntax.{Literal}
use Rattle.pks_terms.specs.Orders.{literal_eq}
use Rattle.pks_terms.proofs.ListLaws.{found_in, in_appended, in_filter, in_filtered}
use Rattle.pks_terms.proofs.OrderLaws.{same_literal}
use Rattle.pks_postdict_rules.specs.News.{is_in, not_in, news_of, Completes}

in_left : {X : Type 0} (xs ys : List X) (x : X) → IsIn x xs → IsIn x (xs ++ ys)
in_left [] ys x i = absurd i
in_left (z ∷ xs) ys x (inl e) = inl e
in_left (z ∷ xs) ys x (inr i) = inr (in_left xs ys x i)

in_right : {X : Type 0} (xs ys : List X) (x : X) → IsIn x ys → IsIn x (xs ++ ys)
in_right [] ys x i = i
in_right (z ∷ xs) ys x i = inr (in_right xs ys x i)

in_known : (kf : List Literal) (l : Literal) → is_in kf l ≡ true → IsIn l kf
in_known kf l h = let f = found_in (literal_eq l) kf h in subst (λ m. IsIn m kf) (sym (same_literal l f.0 f.2)) f.1

-- what is given, of which some is left out that is known, and what is given besides
pub news_complete : (lasts : Literal → Bool) (kf ls more news : List Literal) → news ≡ news_of lasts kf ls ++ more → Completes kf news (filter lasts ls ++ more)
news_complete lasts kf ls more news e = record {
  sound = λ l i. ⊎_elim
      (λ j.
      let a = in_filtered lasts (not_in kf ls) l j in
      let b = in_filtered (λ m. not (is_in kf m)) ls l a.0 in
      in_left (filter lasts ls) more l (in_filter lasts ls l b.0 a.1))
      (λ j. in_right (filter lasts ls) more l j)
      (in_appended (news_of lasts kf ls) more l (subst (IsIn l) e i));
  whole = λ l i. ⊎_elim
      (λ j. let a = in_filtered lasts ls l j in by_test l a.0 a.1 (is_in kf l) refl)
      (λ j. inr (subst (IsIn l) (sym e) (in_right (news_of lasts kf ls) more l j)))
      (in_appended (filter lasts ls) more l i);
}
  where
    by_test : (l : Literal) → IsIn l ls → lasts l ≡ true → (b : Bool) → is_in kf l ≡ b → IsIn l kf ⊎ IsIn l news
    by_test l j k true h = inl (in_known kf l h)
    by_test l j k false h = inr (subst (IsIn l) (sym e) (in_left (news_of lasts kf ls) more l (in_filter lasts (not_in kf ls) l (in_filter (λ m. not (is_in kf m)) ls l j (ap not h)) k)))
