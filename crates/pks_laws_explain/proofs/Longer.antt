-- Lines that are allowed along a path are allowed along every longer one.
use Rattle.std.proofs.Common.{◌≡◌, ◌&&◌, ◌==◌, ◌≤◌, ℕ, zero, suc, Bool, true, false, List, [], ◌∷◌, ◌++◌, slice_get, refl, sym, ap, ◌∙◌, true≢false, arith}
use Rattle.std.specs.List.{list_all}
use Rattle.std.specs.Option.{option_map_or}
use Rattle.std.specs.Prelude.{nat_le}
use Rattle.std.proofs.lemmas.Bool.{and_parts, and_from, leb-true, le-leb}
use Rattle.pks_terms.specs.Actions.{Effect}
use Rattle.pks_terms.specs.Problems.{Problem}
use Rattle.pks_terms.specs.Settling.{effects_of}
use Rattle.pks_terms.specs.Branching.{numbered}
use Rattle.pks_terms.specs.Proofs.{Fact, FactLit, FactKx, FactLcw, Went, Took, Path, deeds, final_moment, Taking, takings, Reason, ByGiven, BySide, BySame, BySwap, ByOnly, ByOthers, ByRange, ByClosed, ByKeep, ByBack, ByEffect, ByMust, ByCannot, ByGrow, ByClear, Line, Proof}
use Rattle.pks_terms.specs.Judging.{Judge, by_cited, is_literal_that, is_region_that}
use Rattle.pks_terms.specs.Reasons.{says_side, is_kept, is_from_later, is_effect, is_needed, is_failed, is_grown, is_cleared}
use Rattle.pks_terms.specs.Accepting.{from_moment, to_moment, is_allowed_by, is_allowed_line, are_before, are_allowed}

-- what is found in a list is found where more is behind it
found_still : {X : Type 0} (q : X → Bool) (xs ys : List X) (n : ℕ) → option_map_or q (slice_get xs n) false ≡ true → option_map_or q (slice_get (xs ++ ys) n) false ≡ true
found_still q [] ys n h = absurd (true≢false (sym h))
found_still q (x ∷ xs) ys zero h = h
found_still q (x ∷ xs) ys (suc n) h = found_still q xs ys n h

deeds_longer : (path more : Path) → deeds (path ++ more) ≡ deeds path ++ deeds more
deeds_longer [] more = refl
deeds_longer (Went i ∷ path) more = ap (λ is. i ∷ is) (deeds_longer path more)
deeds_longer (Took c side ∷ path) more = deeds_longer path more

final_later : (path more : Path) → final_moment path ≤ final_moment (path ++ more)
final_later [] more = omega arith
final_later (Went i ∷ path) more = let less = final_later path more in omega (arith, less)
final_later (Took c side ∷ path) more = final_later path more

side_still : (q : Taking → Bool) (m : ℕ) (path more : Path) (n : ℕ) → option_map_or q (slice_get (takings m path) n) false ≡ true → option_map_or q (slice_get (takings m (path ++ more)) n) false ≡ true
side_still q m [] more n h = absurd (true≢false (sym h))
side_still q m (Went i ∷ path) more n h = side_still q (suc m) path more n h
side_still q m (Took c side ∷ path) more zero h = h
side_still q m (Took c side ∷ path) more (suc n) h = side_still q m path more n h

module _ (p : Problem) (path more : Path) where
  from_still : (m : ℕ) (q : List Effect → Bool) → from_moment p path m q ≡ true → from_moment p (path ++ more) m q ≡ true
  from_still m q h = ap (λ is. option_map_or (λ i. q (effects_of p i)) (slice_get is m) false) (deeds_longer path more) ∙ found_still (λ i. q (effects_of p i)) (deeds path) (deeds more) m h

  to_still : (m : ℕ) (q : ℕ → List Effect → Bool) → to_moment p path m q ≡ true → to_moment p (path ++ more) m q ≡ true
  to_still zero q h = absurd (true≢false (sym h))
  to_still (suc m) q h = from_still m (q m) h

  taken_still : (j : Judge) (n m : ℕ) (f : Fact) → is_allowed_by p path j m f (BySide n) ≡ true → is_allowed_by p (path ++ more) j m f (BySide n) ≡ true
  taken_still j zero m (FactLit l) h = absurd (true≢false (sym h))
  taken_still j (suc n) m (FactLit l) h = side_still (λ q. (q.moment == m) && says_side j m q.choice q.side l) 0 path more n h
  taken_still j n m (FactKx g) h = absurd (true≢false (sym h))
  taken_still j n m (FactLcw e) h = absurd (true≢false (sym h))

  allowed_still : (j : Judge) (m : ℕ) (f : Fact) (r : Reason) → is_allowed_by p path j m f r ≡ true → is_allowed_by p (path ++ more) j m f r ≡ true
  allowed_still j m f (ByGiven n) h = h
  allowed_still j m f (BySide n) h = taken_still j n m f h
  allowed_still j m f BySame h = h
  allowed_still j m f BySwap h = h
  allowed_still j m f ByOnly h = h
  allowed_still j m f ByOthers h = h
  allowed_still j m f ByRange h = h
  allowed_still j m f ByClosed h = h
  allowed_still j m f ByKeep h = to_still m (λ k es. is_kept j k es f) h
  allowed_still j m f ByBack h = from_still m (λ es. is_literal_that (is_from_later j m es) f) h
  allowed_still j m f ByEffect h = to_still m (λ k es. is_literal_that (is_effect j k es) f) h
  allowed_still j m f ByMust h = from_still m (λ es. is_literal_that (is_needed j m es) f) h
  allowed_still j m f ByCannot h = from_still m (λ es. is_literal_that (is_failed j m es) f) h
  allowed_still j m f ByGrow h = to_still m (λ k es. is_region_that (is_grown j k es) f) h
  allowed_still j m f ByClear h = to_still m (λ k es. is_region_that (is_cleared j k es) f) h

  line_still : (proof : Proof) (line : Line) → is_allowed_line p path proof line ≡ true → is_allowed_line p (path ++ more) proof line ≡ true
  line_still proof line h =
      let q = and_parts (nat_le line.moment (final_moment path)) _ h in
      let before : line.moment ≤ final_moment path = leb-true line.moment (final_moment path) q.0 in
      let later = final_later path more in
      let within : line.moment ≤ final_moment (path ++ more) = omega (arith, before, later) in
      and_from _ _ (le-leb line.moment (final_moment (path ++ more)) within) (allowed_still (by_cited proof line.cites) line.moment line.fact line.reason q.1)

  all_still : (proof : Proof) (qs : List (ℕ × Line)) → list_all (λ q. are_before q.0 q.1.cites && is_allowed_line p path proof q.1) qs ≡ true → list_all (λ q. are_before q.0 q.1.cites && is_allowed_line p (path ++ more) proof q.1) qs ≡ true
  all_still proof [] h = refl
  all_still proof (q ∷ qs) h =
      let a = and_parts (are_before q.0 q.1.cites && is_allowed_line p path proof q.1) _ h in
      let b = and_parts (are_before q.0 q.1.cites) _ a.0 in
      and_from _ _ (and_from _ _ b.0 (line_still proof q.1 b.1)) (all_still proof qs a.1)

  pub lines_still_allowed : (proof : Proof) → are_allowed p path proof ≡ true → are_allowed p (path ++ more) proof ≡ true
  lines_still_allowed proof h = all_still proof (numbered 1 proof) h
