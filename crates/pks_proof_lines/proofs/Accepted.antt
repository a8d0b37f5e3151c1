-- What an accepted proof shows is true at the end of the path.
use Rattle.std.proofs.Common.{◌≡◌, ◌⊎◌, ◌&&◌, ◌==◌, ◌+◌, ◌<◌, ℕ, zero, suc, Bool, true, List, [], ◌∷◌, length, take, take_all, slice_get, Some, sym, ap, ◌∙◌, subst, inl, inr, ⊎_elim, true≢false, arith}
use Rattle.std.specs.List.{list_any, list_all}
use Rattle.std.specs.Option.{option_map_or, option_and_then}
use Rattle.std.proofs.lemmas.Bool.{and_parts, cases_Bool, eqb-true, eqb-false, ltb-true}
use Rattle.std.proofs.lemmas.Option.{none-some, same_Some, cond_some, option_and_then_some}
use Rattle.pks_terms.specs.Sets.{Each, IsIn}
use Rattle.pks_terms.specs.Syntax.{Literal}
use Rattle.pks_terms.specs.Worlds.{World, true_in}
use Rattle.pks_terms.specs.Databases.{Entry}
use Rattle.pks_terms.specs.Meaning.{IsWorld, Meets}
use Rattle.pks_terms.specs.Actions.{Instance, Effect, applied_to}
use Rattle.pks_terms.specs.Typed.{IsTyped}
use Rattle.pks_terms.specs.Problems.{Problem, IsCompatible}
use Rattle.pks_terms.specs.Branching.{numbered, IsSo}
use Rattle.pks_terms.specs.Settling.{effects_of}
use Rattle.pks_terms.proofs.ListLaws.{each_in, each_filter_map, each_from_all}
use Rattle.pks_terms.specs.Proofs.{Fact, FactLit, FactKx, FactLcw, IsFactOf, Path, deeds, final_moment, Taking, takings, GoesAlong, world_along, IsPathOf, Reason, ByGiven, BySide, BySame, BySwap, ByOnly, ByOthers, ByRange, ByClosed, ByKeep, ByBack, ByEffect, ByMust, ByCannot, ByGrow, ByClear, Line, Proof, nth}
use Rattle.pks_terms.specs.Judging.{Judge, fact_eq, is_literal_that, is_region_that, IsRight, fact_then, by_cited}
use Rattle.pks_terms.specs.Reasons.{says_side, is_by_side, is_same, is_only, is_other, is_in_range, is_left_out, is_kept, is_from_later, is_effect, is_needed, is_failed, is_grown, is_cleared}
use Rattle.pks_terms.specs.Accepting.{from_moment, to_moment, is_allowed_by, is_allowed_line, are_before, are_allowed, are_used, accepts}
use Rattle.pks_proof_lines.proofs.Judged.{fact_eq_same}
use Rattle.pks_proof_lines.proofs.Rewritten.{swapped_true}
use Rattle.pks_proof_lines.proofs.Within.{with_nth, nth_in, given_true, side_true, only_true, other_true, shut_out_true, same_true, range_true}
use Rattle.pks_proof_lines.proofs.Stepping.{kept_true, effect_true, grown_true, cleared_true, later_true, needed_true, failed_true}
use Rattle.pks_proof_lines.proofs.Along.{present, next_world, each_world, taken_so}

-- a fact that is a literal, or a region, that passes
as_literal : (w : World) (q : Literal → Bool) → ((l : Literal) → q l ≡ true → true_in w l ≡ true) → (f : Fact) → is_literal_that q f ≡ true → IsFactOf w f
as_literal w q g (FactLit l) h = g l h
as_literal w q g (FactKx k) h = absurd (true≢false (sym h))
as_literal w q g (FactLcw e) h = absurd (true≢false (sym h))

as_region : (w : World) (q : Entry → Bool) → ((e : Entry) → q e ≡ true → Meets w e) → (f : Fact) → is_region_that q f ≡ true → IsFactOf w f
as_region w q g (FactLcw e) h = g e h
as_region w q g (FactLit l) h = absurd (true≢false (sym h))
as_region w q g (FactKx k) h = absurd (true≢false (sym h))

-- ---- one line

module _ (p : Problem) (path : Path) (w : World) (typed : IsTyped p) (steps : IsPathOf p path) (start : IsCompatible p w) (goes : GoesAlong p w path) where
  abbrev pub worlds : ℕ → World
  worlds m = world_along p w path m

  is_world : (m : ℕ) → IsWorld p.signature (worlds m)
  is_world m = each_world p typed w (deeds path) start.world steps m

  module _ (j : Judge) (right : IsRight j worlds) where
    after : (m : ℕ) (i : Instance) → slice_get (deeds path) m ≡ Some i → Each (IsFactOf (applied_to (worlds m) (effects_of p i))) (j (suc m))
    after m i e = subst (λ v. Each (IsFactOf v) (j (suc m))) (next_world p w (deeds path) m i e) (right (suc m))

    forward : (m : ℕ) (f : Fact) (q : ℕ → List Effect → Bool) → ((k : ℕ) (es : List Effect) → q k es ≡ true → IsFactOf (applied_to (worlds k) es) f) → to_moment p path m q ≡ true → IsFactOf (worlds m) f
    forward zero f q g h = absurd (true≢false (sym h))
    forward (suc k) f q g h =
        let i = with_nth (λ i. q k (effects_of p i)) (slice_get (deeds path) k) h in
        subst (λ v. IsFactOf v f) (sym (next_world p w (deeds path) k i.0 i.1)) (g k (effects_of p i.0) i.2)

    backward : (m : ℕ) (f : Fact) (q : List Effect → Bool) → ((es : List Effect) → Each (IsFactOf (applied_to (worlds m) es)) (j (suc m)) → q es ≡ true → IsFactOf (worlds m) f) → from_moment p path m q ≡ true → IsFactOf (worlds m) f
    backward m f q g h =
        let i = with_nth (λ i. q (effects_of p i)) (slice_get (deeds path) m) h in
        g (effects_of p i.0) (after m i.0 i.1) i.2

    by_side : (n m : ℕ) (l : Literal) → is_by_side path j n m l ≡ true → true_in (worlds m) l ≡ true
    by_side n m l h =
        let q = with_nth (λ (q : Taking). (q.moment == m) && says_side j m q.choice q.side l) (nth (takings 0 path) n) h in
        let b = and_parts (q.0.moment == m) _ q.2 in
        let so = each_in (λ (q : Taking). IsSo (present p w (take q.moment (deeds path))) q.choice q.side) (takings 0 path) q.0 (taken_so p w path goes) (nth_in (takings 0 path) n q.0 q.1) in
        side_true j m (worlds m) (right m) q.0.choice q.0.side (subst (λ k. IsSo (present p w (take k (deeds path))) q.0.choice q.0.side) (eqb-true q.0.moment m b.0) so) l b.1

    -- a fact that a reason allows is so at its moment
    pub allowed_true : (m : ℕ) (f : Fact) (r : Reason) → is_allowed_by p path j m f r ≡ true → IsFactOf (worlds m) f
    allowed_true m f (ByGiven n) h =
        let g = given_true p w start n m f h in subst (λ k. IsFactOf (worlds k) f) (sym g.0) g.1
    allowed_true m f (BySide n) h = as_literal (worlds m) (is_by_side path j n m) (by_side n m) f h
    allowed_true m f BySame h = as_literal (worlds m) (is_same p.signature) (same_true p.signature (worlds m) (is_world m)) f h
    allowed_true m f BySwap h = swapped_true j m (worlds m) (right m) f h
    allowed_true m f ByOnly h = as_literal (worlds m) (is_only j m) (only_true j m (worlds m) (right m)) f h
    allowed_true m f ByOthers h = as_literal (worlds m) (is_other j m) (other_true j m (worlds m) (right m)) f h
    allowed_true m f ByRange h = as_literal (worlds m) (is_in_range p.signature j m) (range_true p.signature (worlds m) (is_world m) j m (right m)) f h
    allowed_true m f ByClosed h = as_literal (worlds m) (is_left_out j m) (shut_out_true j m (worlds m) (right m)) f h
    allowed_true m f ByKeep h = forward m f (λ k es. is_kept j k es f) (λ k es q. kept_true j k (worlds k) (right k) es f q) h
    allowed_true m f ByBack h = backward m f (λ es. is_literal_that (is_from_later j m es) f) (λ es a q. as_literal (worlds m) (is_from_later j m es) (later_true j m (worlds m) (right m) es a) f q) h
    allowed_true m f ByEffect h = forward m f (λ k es. is_literal_that (is_effect j k es) f) (λ k es q. as_literal (applied_to (worlds k) es) (is_effect j k es) (effect_true j k (worlds k) (right k) es) f q) h
    allowed_true m f ByMust h = backward m f (λ es. is_literal_that (is_needed j m es) f) (λ es a q. as_literal (worlds m) (is_needed j m es) (needed_true j m (worlds m) (right m) es a) f q) h
    allowed_true m f ByCannot h = backward m f (λ es. is_literal_that (is_failed j m es) f) (λ es a q. as_literal (worlds m) (is_failed j m es) (failed_true j m (worlds m) (right m) es a) f q) h
    allowed_true m f ByGrow h = forward m f (λ k es. is_region_that (is_grown j k es) f) (λ k es q. as_region (applied_to (worlds k) es) (is_grown j k es) (grown_true j k (worlds k) (right k) es) f q) h
    allowed_true m f ByClear h = forward m f (λ k es. is_region_that (is_cleared j k es) f) (λ k es q. as_region (applied_to (worlds k) es) (is_cleared j k es) (cleared_true j k (worlds k) (right k) es) f q) h

  -- ---- all lines

  -- the line's fact is so at its moment
  abbrev pub IsTrueLine : Line → Type 0
  IsTrueLine line = IsFactOf (worlds line.moment) line.fact

  module _ (proof : Proof) where
    abbrev TrueBelow : ℕ → Type 0
    TrueBelow n = (k : ℕ) (line : Line) → k < n → nth proof k ≡ Some line → IsTrueLine line

    cited_right : (n : ℕ) (cites : List ℕ) → are_before n cites ≡ true → TrueBelow n → IsRight (by_cited proof cites) worlds
    cited_right n cites before below m =
        each_filter_map (IsFactOf (worlds m)) (λ c. option_and_then (fact_then m) (nth proof c)) cites (λ c f i h.
        let less = each_in (λ c. (Rattle.std.specs.Prelude.nat_lt 0 c && Rattle.std.specs.Prelude.nat_lt c n) ≡ true) cites c (each_from_all (λ c. (Rattle.std.specs.Prelude.nat_lt 0 c && Rattle.std.specs.Prelude.nat_lt c n) ≡ true) (λ c. Rattle.std.specs.Prelude.nat_lt 0 c && Rattle.std.specs.Prelude.nat_lt c n) (λ c k. k) cites before) i in
        option_and_then_some (fact_then m) (nth proof c) f h (λ line e k.
        let q = cond_some (line.moment == m) line.fact f k in
        subst (IsFactOf (worlds m)) q.1 (subst (λ x. IsFactOf (worlds x) line.fact) (eqb-true line.moment m q.0) (below c line (ltb-true c n (and_parts (Rattle.std.specs.Prelude.nat_lt 0 c) _ less).1) e))))

    in_numbered : {X : Type 0} (xs : List X) (k n : ℕ) (x : X) → slice_get xs k ≡ Some x → IsIn (n + k, x) (numbered n xs)
    in_numbered [] k n x h = absurd (none-some x h)
    in_numbered {X} (y ∷ xs) zero n x h =
        let e : n ≡ n + 0 = omega arith in inl (both n (n + 0) y x e (same_Some y x h))
      where
        both : (a b : ℕ) (y x : X) → a ≡ b → y ≡ x → ◌≡◌ {A = ℕ × X} (a, y) (b, x)
        both a b y x e f = λ i. (e i, f i)
    in_numbered {X} (y ∷ xs) (suc k) n x h =
        let e : n + 1 + k ≡ n + suc k = omega arith in
        inr (subst (λ c. IsIn (c, x) (numbered (n + 1) xs)) e (in_numbered xs k (n + 1) x h))

    line_true : are_allowed p path proof ≡ true → (n : ℕ) → TrueBelow n → (line : Line) → nth proof n ≡ Some line → IsTrueLine line
    line_true h zero below line e = absurd (none-some line e)
    line_true h (suc k) below line e =
        let i : IsIn (suc k, line) (numbered 1 proof) = let one : 1 + k ≡ suc k = omega arith in subst (λ c. IsIn (c, line) (numbered 1 proof)) one (in_numbered proof k 1 line e) in
        let q = each_in (λ (q : ℕ × Line). (are_before q.0 q.1.cites && is_allowed_line p path proof q.1) ≡ true) (numbered 1 proof) (suc k, line)
        (each_from_all (λ (q : ℕ × Line). (are_before q.0 q.1.cites && is_allowed_line p path proof q.1) ≡ true) (λ q. are_before q.0 q.1.cites && is_allowed_line p path proof q.1) (λ q x. x) (numbered 1 proof) h) i in
        let b = and_parts (are_before (suc k) line.cites) _ q in
        let c = and_parts (Rattle.std.specs.Prelude.nat_le line.moment (final_moment path)) _ b.1 in
        allowed_true (by_cited proof line.cites) (cited_right (suc k) line.cites b.0 below) line.moment line.fact line.reason c.1

    all_below : are_allowed p path proof ≡ true → (n : ℕ) → TrueBelow n
    all_below h zero k line less e = absurd (omega (arith, less))
    all_below h (suc n) k line less e =
        ⊎_elim
        (λ same. line_true h n (all_below h n) line (subst (λ c. nth proof c ≡ Some line) same e))
        (λ small. all_below h n k line small e)
        (split k n less)
      where
        split : (k n : ℕ) → k < suc n → (k ≡ n) ⊎ (k < n)
        split k n less = ⊎_elim (λ e. inl (eqb-true k n e)) (λ e. let unlike : k ≡ n → ⊥ = eqb-false k n e in inr (omega (arith, less, unlike))) (cases_Bool (k == n))

    -- every line of a proof whose lines are allowed is true
    pub lines_true : are_allowed p path proof ≡ true → (n : ℕ) (line : Line) → nth proof n ≡ Some line → IsTrueLine line
    lines_true h n line e = let less : n < suc n = omega arith in all_below h (suc n) n line less e

    -- so is the literal that it shows
    pub accepted_true : (l : Literal) → accepts p path proof l ≡ true → true_in (present p w (deeds path)) l ≡ true
    unfolding accepts
    accepted_true l h =
        let a = and_parts (are_allowed p path proof) _ h in
        let b = and_parts (are_used proof) _ a.1 in
        let line = with_nth (λ (line : Line). (line.moment == final_moment path) && fact_eq line.fact (FactLit l)) (nth proof (length proof)) b.1 in
        let q = and_parts (line.0.moment == final_moment path) _ line.2 in
        let here : IsFactOf (worlds (final_moment path)) (FactLit l) = subst (λ f. IsFactOf (worlds (final_moment path)) f) (fact_eq_same line.0.fact (FactLit l) q.1) (subst (λ m. IsFactOf (worlds m) line.0.fact) (eqb-true line.0.moment (final_moment path) q.0) (lines_true a.0 (length proof) line.0 line.1)) in
        ap (λ is. true_in (present p w is) l) (sym (take_all (length (deeds path)) (deeds path) (omega arith))) ∙ here
