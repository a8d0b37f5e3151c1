-- Proofs made line by line: what is allowed stays allowed when lines are added, and each literal that is shown has an accepted proof.
use Rattle.std.proofs.Common.{◌≡◌, ◌&&◌, ◌||◌, ◌==◌, ◌+◌, ◌≤◌, ◌<◌, ℕ, zero, suc, Bool, true, false, List, [], ◌∷◌, ◌++◌, length, append_assoc, filter_map, slice_get, Option, Some, None, refl, sym, ap, ◌∙◌, subst, inl, inr, ⊎_elim, true≢false, arith}
use Rattle.std.specs.Prelude.{nat_lt, nat_le}
use Rattle.std.specs.List.{list_any, list_all, cons_option}
use Rattle.std.specs.Option.{option_map_or, option_and_then}
use Rattle.std.proofs.lemmas.Bool.{and_parts, and_from, or_left, or_right, cases_Bool, eqb-true, eqb-false, eq-eqb, ltb-true, lt-ltb}
use Rattle.pks_terms.specs.Sets.{IsIn}
use Rattle.pks_terms.specs.Syntax.{Literal}
use Rattle.pks_terms.specs.Orders.{literal_eq}
use Rattle.pks_terms.specs.Problems.{Problem}
use Rattle.pks_terms.specs.Branching.{numbered}
use Rattle.pks_terms.proofs.ListLaws.{each_in, each_from_all, any_in}
use Rattle.pks_terms.specs.Proofs.{Fact, FactLit, Path, final_moment, Reason, Line, Proof, nth}
use Rattle.pks_terms.specs.Judging.{fact_eq, fact_then, by_cited}
use Rattle.pks_terms.specs.Accepting.{is_allowed_by, is_allowed_line, are_before, are_allowed, are_used, accepts}
use Rattle.pks_proof_lines.proofs.More.{literal_more}

pub nth_front : {X : Type 0} (xs ys : List X) (n : ℕ) → n < suc (length xs) → nth (xs ++ ys) n ≡ nth xs n
nth_front xs ys zero h = refl
nth_front xs ys (suc n) h = let less : n < length xs = omega (arith, h) in got xs ys n less
  where
    got : {X : Type 0} (xs ys : List X) (n : ℕ) → n < length xs → slice_get (xs ++ ys) n ≡ slice_get xs n
    got [] ys n h = absurd (omega (arith, h))
    got (x ∷ xs) ys zero h = refl
    got (x ∷ xs) ys (suc n) h = let less : n < length xs = omega (arith, h) in got xs ys n less

pub nth_last : {X : Type 0} (xs : List X) (x : X) → nth (xs ++ x ∷ []) (suc (length xs)) ≡ Some x
nth_last [] x = refl
nth_last (y ∷ xs) x = nth_last xs x

-- what lines before the end say doesn't depend on what comes after
cited_front : (proof more : Proof) (n : ℕ) → n < suc (suc (length proof)) → (cites : List ℕ) → are_before n cites ≡ true → (m : ℕ) → by_cited (proof ++ more) cites m ≡ by_cited proof cites m
cited_front proof more n less [] h m = refl
cited_front proof more n less (c ∷ cites) h m =
    let q = and_parts (nat_lt 0 c && nat_lt c n) _ h in
    let small : c < n = ltb-true c n (and_parts (nat_lt 0 c) _ q.0).1 in
    let within : c < suc (length proof) = omega (arith, small, less) in
    λ i. cons_option (option_and_then (fact_then m) (nth_front proof more c within i)) (cited_front proof more n less cites q.1 m i)

allowed_front : (p : Problem) (path : Path) (proof more : Proof) (n : ℕ) → n < suc (suc (length proof)) → (line : Line) → are_before n line.cites ≡ true → is_allowed_line p path (proof ++ more) line ≡ is_allowed_line p path proof line
allowed_front p path proof more n less line h =
    λ i. nat_le line.moment (final_moment path) && is_allowed_by p path (λ m. cited_front proof more n less line.cites h m i) line.moment line.fact line.reason

-- one test for each line with its number
abbrev pub IsFine : Problem → Path → Proof → ℕ × Line → Type 0
IsFine p path proof q = (are_before q.0 q.1.cites && is_allowed_line p path proof q.1) ≡ true

fine_front : (p : Problem) (path : Path) (proof more : Proof) (q : ℕ × Line) → q.0 < suc (suc (length proof)) → IsFine p path proof q → IsFine p path (proof ++ more) q
fine_front p path proof more q less h =
    let b = and_parts (are_before q.0 q.1.cites) _ h in
    and_from _ _ b.0 (allowed_front p path proof more q.0 less q.1 b.0 ∙ b.1)

fine_back : (p : Problem) (path : Path) (proof more : Proof) (q : ℕ × Line) → q.0 < suc (suc (length proof)) → IsFine p path (proof ++ more) q → IsFine p path proof q
fine_back p path proof more q less h =
    let b = and_parts (are_before q.0 q.1.cites) _ h in
    and_from _ _ b.0 (sym (allowed_front p path proof more q.0 less q.1 b.0) ∙ b.1)

-- a test of all numbered elements, in two parts
numbered_all : {X : Type 0} (t : ℕ × X → Bool) (n : ℕ) (xs : List X) (y : X) → list_all t (numbered n xs) ≡ true → t (n + length xs, y) ≡ true → list_all t (numbered n (xs ++ y ∷ [])) ≡ true
numbered_all t n [] y h k = let e : n + 0 ≡ n = omega arith in and_from _ _ (ap (λ c. t (c, y)) (sym e) ∙ k) refl
numbered_all t n (x ∷ xs) y h k =
    let q = and_parts (t (n, x)) _ h in
    let e : n + 1 + length xs ≡ n + suc (length xs) = omega arith in
    and_from _ _ q.0 (numbered_all t (n + 1) xs y q.1 (ap (λ c. t (c, y)) e ∙ k))

-- the test may change where it is passed by the numbers that there are
numbered_other : {X : Type 0} (t u : ℕ × X → Bool) (n : ℕ) (xs : List X) → ((q : ℕ × X) → q.0 < n + length xs → t q ≡ true → u q ≡ true) → list_all t (numbered n xs) ≡ true → list_all u (numbered n xs) ≡ true
numbered_other t u n [] f h = refl
numbered_other t u n (x ∷ xs) f h =
    let q = and_parts (t (n, x)) _ h in
    let here : n < n + suc (length xs) = omega arith in
    and_from _ _ (f (n, x) here q.0) (numbered_other t u (n + 1) xs (λ r less. let there : r.0 < n + suc (length xs) = omega (arith, less) in f r there) q.1)

numbered_front : {X : Type 0} (t : ℕ × X → Bool) (n : ℕ) (xs ys : List X) → list_all t (numbered n (xs ++ ys)) ≡ true → list_all t (numbered n xs) ≡ true
numbered_front t n [] ys h = refl
numbered_front t n (x ∷ xs) ys h = let q = and_parts (t (n, x)) _ h in and_from _ _ q.0 (numbered_front t (n + 1) xs ys q.1)

module _ (p : Problem) (path : Path) where
  abbrev test : Proof → ℕ × Line → Bool
  test proof q = are_before q.0 q.1.cites && is_allowed_line p path proof q.1

  -- a line that is allowed by lines before it may be added
  pub added_line : (proof : Proof) (line : Line) → are_allowed p path proof ≡ true → are_before (suc (length proof)) line.cites ≡ true → is_allowed_line p path proof line ≡ true → are_allowed p path (proof ++ line ∷ []) ≡ true
  added_line proof line h before allowed =
      let last : suc (length proof) ≡ 1 + length proof = omega arith in
      let bound : suc (length proof) < suc (suc (length proof)) = omega arith in
      numbered_all (test (proof ++ line ∷ [])) 1 proof line
      (numbered_other (test proof) (test (proof ++ line ∷ [])) 1 proof (λ q less k. let small : q.0 < suc (suc (length proof)) = omega (arith, less) in fine_front p path proof (line ∷ []) q small k) h)
      (subst (λ c. IsFine p path (proof ++ line ∷ []) (c, line)) last (fine_front p path proof (line ∷ []) (suc (length proof), line) bound (and_from _ _ before allowed)))

  -- the lines before a line are allowed by themselves
  pub front_allowed : (proof more : Proof) → are_allowed p path (proof ++ more) ≡ true → are_allowed p path proof ≡ true
  front_allowed proof more h =
      numbered_other (test (proof ++ more)) (test proof) 1 proof (λ q less k. let small : q.0 < suc (suc (length proof)) = omega (arith, less) in fine_back p path proof more q small k) (numbered_front (test (proof ++ more)) 1 proof more h)

-- ---- the last line may cite all others

-- the numbers from k on, as many as there are elements
abbrev pub numbers : {X : Type 0} → ℕ → List X → List ℕ
numbers k [] = []
numbers k (x ∷ xs) = k ∷ numbers (k + 1) xs

numbers_before : {X : Type 0} (k : ℕ) (xs : List X) (n : ℕ) → 0 < k → k + length xs ≤ n → are_before n (numbers k xs) ≡ true
numbers_before k [] n pos h = refl
numbers_before k (x ∷ xs) n pos h =
    let less : k < n = omega (arith, h) in
    let rest : k + 1 + length xs ≤ n = omega (arith, h) in
    let more : 0 < k + 1 = omega arith in
    and_from _ _ (and_from _ _ (lt-ltb 0 k pos) (lt-ltb k n less)) (numbers_before (k + 1) xs n more rest)

numbers_have : {X : Type 0} (k : ℕ) (xs : List X) (c : ℕ) → k ≤ c → c < k + length xs → IsIn c (numbers k xs)
numbers_have k [] c low high = absurd (omega (arith, low, high))
numbers_have k (x ∷ xs) c low high =
    ⊎_elim (λ e. inl (eqb-true k c e))
    (λ e. let unlike : k ≡ c → ⊥ = eqb-false k c e in let over : k + 1 ≤ c = omega (arith, low, unlike) in let under : c < k + 1 + length xs = omega (arith, high) in inr (numbers_have (k + 1) xs c over under))
    (cases_Bool (k == c))

-- a test that finds something among facts at some lines finds it among those at all of these numbers
any_filter_map : {X Y : Type 0} (f : X → Option Y) (t : Y → Bool) (xs : List X) (x : X) (y : Y) → IsIn x xs → f x ≡ Some y → t y ≡ true → list_any t (filter_map f xs) ≡ true
any_filter_map f t [] x y i e h = absurd i
any_filter_map f t (z ∷ xs) x y (inl s) e h = ap (λ o. list_any t (cons_option o (filter_map f xs))) (ap f s ∙ e) ∙ or_left (t y) _ h
any_filter_map f t (z ∷ xs) x y (inr i) e h =
    elim (f z) as (λ o. list_any t (cons_option o (filter_map f xs)) ≡ true) [ None ↦ any_filter_map f t xs x y i e h | Some b ↦ or_right (t b) _ (any_filter_map f t xs x y i e h) ]

found_filter_map : {X Y : Type 0} (f : X → Option Y) (t : Y → Bool) (xs : List X) → list_any t (filter_map f xs) ≡ true → (x : X) × (y : Y) × IsIn x xs × (f x ≡ Some y) × (t y ≡ true)
found_filter_map f t [] h = absurd (true≢false (sym h))
found_filter_map {X} {Y} f t (z ∷ xs) h =
    elim (f z) as (λ o. f z ≡ o → list_any t (cons_option o (filter_map f xs)) ≡ true → (x : X) × (y : Y) × IsIn x (z ∷ xs) × (f x ≡ Some y) × (t y ≡ true)) [
      | None ↦ λ q k. let r = found_filter_map f t xs k in (r.0, r.1, inr r.2, r.3, r.4)
      | Some y ↦ λ q k. ⊎_elim (λ b. (z, y, inl refl, q, b)) (λ b. let r = found_filter_map f t xs b in (r.0, r.1, inr r.2, r.3, r.4)) (Rattle.std.proofs.lemmas.Bool.or_cases (t y) _ k)
    ] refl h

-- lines that cite all before them cite more
all_more : (proof : Proof) (cites : List ℕ) → are_before (suc (length proof)) cites ≡ true → (m : ℕ) (t : Fact → Bool) → list_any t (by_cited proof cites m) ≡ true → list_any t (by_cited proof (numbers 1 proof) m) ≡ true
all_more proof cites h m t k =
    let r = found_filter_map (λ n. option_and_then (fact_then m) (nth proof n)) t cites k in
    let q = each_in (λ c. (nat_lt 0 c && nat_lt c (suc (length proof))) ≡ true) cites r.0 (each_from_all (λ c. (nat_lt 0 c && nat_lt c (suc (length proof))) ≡ true) (λ c. nat_lt 0 c && nat_lt c (suc (length proof))) (λ c x. x) cites h) r.2 in
    let b = and_parts (nat_lt 0 r.0) _ q in
    let pos : 0 < r.0 = ltb-true 0 r.0 b.0 in
    let less : r.0 < suc (length proof) = ltb-true r.0 (suc (length proof)) b.1 in
    let low : 1 ≤ r.0 = omega (arith, pos) in
    let high : r.0 < 1 + length proof = omega (arith, less) in
    any_filter_map (λ n. option_and_then (fact_then m) (nth proof n)) t (numbers 1 proof) r.0 r.1 (numbers_have 1 proof r.0 low high) r.3 r.4

pub length_more : {X : Type 0} (xs : List X) (x : X) → length (xs ++ x ∷ []) ≡ suc (length xs)
length_more [] x = refl
length_more (y ∷ xs) x = ap suc (length_more xs x)

fact_eq_itself : (l : Literal) → literal_eq l l ≡ true
fact_eq_itself l = unfold literal_eq in ap Rattle.std.specs.Ordering.is_eq (Rattle.std.proofs.lemmas.Cmp.tied_itself Rattle.pks_terms.specs.Totality.literal_cmp_total l)

module _ (p : Problem) (path : Path) where
  -- a literal at the last moment that lines before allow has an accepted proof: these lines, and one that cites them all
  finished : (proof : Proof) (l : Literal) (r : Reason) (cites : List ℕ) → are_allowed p path proof ≡ true → are_before (suc (length proof)) cites ≡ true
      → is_allowed_by p path (by_cited proof cites) (final_moment path) (FactLit l) r ≡ true
      → accepts p path (proof ++ record { moment = final_moment path; fact = FactLit l; reason = r; cites = numbers 1 proof } ∷ []) l ≡ true
  unfolding accepts
  finished proof l r cites h before allowed =
      let line : Line = record { moment = final_moment path; fact = FactLit l; reason = r; cites = numbers 1 proof } in
      let low : 1 + length proof ≤ suc (length proof) = omega arith in
      let one : 0 < 1 = omega arith in
      let all_before = numbers_before 1 proof (suc (length proof)) one low in
      let more = literal_more p path (by_cited proof cites) (by_cited proof (numbers 1 proof)) (all_more proof cites before) (final_moment path) l r allowed in
      let itself : nat_le (final_moment path) (final_moment path) ≡ true = Rattle.std.proofs.lemmas.Bool.le-leb _ _ (omega arith) in
      and_from _ _ (added_line p path proof line h all_before (and_from _ _ itself more))
      (and_from _ _ used
      (ap (λ n. option_map_or (λ (x : Line). (x.moment == final_moment path) && fact_eq x.fact (FactLit l)) (nth (proof ++ line ∷ []) n) false) (length_more proof line)
      ∙ ap (λ o. option_map_or (λ (x : Line). (x.moment == final_moment path) && fact_eq x.fact (FactLit l)) o false) (nth_last proof line)
      ∙ and_from _ _ (eq-eqb _ _ refl) (fact_eq_itself l)))
    where
      used : are_used (proof ++ record { moment = final_moment path; fact = FactLit l; reason = r; cites = numbers 1 proof } ∷ []) ≡ true
      used =
          let line : Line = record { moment = final_moment path; fact = FactLit l; reason = r; cites = numbers 1 proof } in
          let whole : Proof = proof ++ line ∷ [] in
          let t : ℕ × Line → Bool = λ q. (q.0 == length whole) || list_any (λ (x : Line). list_any (λ c. c == q.0) x.cites) whole in
          let last : 1 + length proof ≡ length whole = (let e : 1 + length proof ≡ suc (length proof) = omega arith in e ∙ sym (length_more proof line)) in
          numbered_all t 1 proof line
          (all_in t (numbered 1 proof) (λ q i. or_right (q.0 == length whole) _ (any_in (λ (x : Line). list_any (λ c. c == q.0) x.cites) whole line (in_back proof line) (any_in (λ c. c == q.0) (numbers 1 proof) q.0 (number_of 1 proof q i) (eq-eqb q.0 q.0 refl)))))
          (or_left _ _ (eq-eqb _ _ last))
        where
          in_back : {X : Type 0} (xs : List X) (x : X) → IsIn x (xs ++ x ∷ [])
          in_back [] x = inl refl
          in_back (y ∷ xs) x = inr (in_back xs x)

          all_in : {X : Type 0} (t : X → Bool) (xs : List X) → ((x : X) → IsIn x xs → t x ≡ true) → list_all t xs ≡ true
          all_in t [] f = refl
          all_in t (x ∷ xs) f = and_from _ _ (f x (inl refl)) (all_in t xs (λ y i. f y (inr i)))

          number_of : {X : Type 0} (n : ℕ) (xs : List X) (q : ℕ × X) → IsIn q (numbered n xs) → IsIn q.0 (numbers n xs)
          number_of n [] q i = absurd i
          number_of {X} n (x ∷ xs) q (inl e) = inl (ap (λ (r : ℕ × X). r.0) e)
          number_of {X} n (x ∷ xs) q (inr i) = inr (number_of (n + 1) xs q i)

  -- of a list of allowed lines each literal at the last moment has an accepted proof
  pub shown_accepted : (front back : Proof) (line : Line) (l : Literal) → are_allowed p path (front ++ line ∷ back) ≡ true → line.moment ≡ final_moment path → line.fact ≡ FactLit l → (proof : Proof) × (accepts p path proof l ≡ true)
  shown_accepted front back line l h m f =
      let whole : are_allowed p path ((front ++ line ∷ []) ++ back) ≡ true = subst (λ (x : Proof). are_allowed p path x ≡ true) (sym (append_assoc front (line ∷ []) back)) h in
      let before : are_allowed p path (front ++ line ∷ []) ≡ true = front_allowed p path (front ++ line ∷ []) back whole in
      let q = last_fine (λ q. are_before q.0 q.1.cites && is_allowed_line p path (front ++ line ∷ []) q.1) 1 front line before in
      let bound : suc (length front) < suc (suc (length front)) = omega arith in
      let last : 1 + length front ≡ suc (length front) = omega arith in
      let fine = fine_back p path front (line ∷ []) (suc (length front), line) bound (subst (λ c. IsFine p path (front ++ line ∷ []) (c, line)) last q) in
      let b = and_parts (are_before (suc (length front)) line.cites) _ fine in
      let c = and_parts (nat_le line.moment (final_moment path)) _ b.1 in (
        front ++ record { moment = final_moment path; fact = FactLit l; reason = line.reason; cites = numbers 1 front } ∷ [],
        finished front l line.reason line.cites (front_allowed p path front (line ∷ []) before) b.0
            (subst (λ x. is_allowed_by p path (by_cited front line.cites) (final_moment path) x line.reason ≡ true) f (subst (λ n. is_allowed_by p path (by_cited front line.cites) n line.fact line.reason ≡ true) m c.1)),
      )
    where
      last_fine : {X : Type 0} (t : ℕ × X → Bool) (n : ℕ) (xs : List X) (x : X) → list_all t (numbered n (xs ++ x ∷ [])) ≡ true → t (n + length xs, x) ≡ true
      last_fine t n [] x h = let e : n ≡ n + 0 = omega arith in ap (λ c. t (c, x)) (sym e) ∙ (and_parts (t (n, x)) _ h).0
      last_fine t n (y ∷ xs) x h = let e : n + 1 + length xs ≡ n + suc (length xs) = omega arith in ap (λ c. t (c, x)) (sym e) ∙ last_fine t (n + 1) xs x (and_parts (t (n, y)) _ h).1
