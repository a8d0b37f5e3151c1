-- Proofs grow: what is shown can be shown along with anything else that is.
use Rattle.std.proofs.Common.{◌≡◌, ◌==◌, ◌<◌, ◌≤◌, ℕ, zero, suc, true, false, cond, List, [], ◌∷◌, ◌++◌, length, append_assoc, append-nil, map, filter_map, slice_get, Option, Some, None, refl, sym, ap, ◌∙◌, subst, arith}
use Rattle.std.specs.List.{cons_option}
use Rattle.std.specs.Option.{option_and_then}
use Rattle.std.proofs.lemmas.Bool.{and_from, lt-ltb, le-leb, eq-eqb}
use Rattle.std.proofs.lemmas.Option.{none-some, same_Some}
use Rattle.pks_terms.specs.Sets.{Each}
use Rattle.pks_terms.specs.Syntax.{Literal}
use Rattle.pks_terms.specs.Problems.{Problem}
use Rattle.pks_terms.specs.Proofs.{Fact, FactLit, Path, final_moment, Reason, Line, Proof, nth}
use Rattle.pks_terms.specs.Judging.{Judge, fact_then, by_cited}
use Rattle.pks_terms.specs.Accepting.{is_allowed_by, are_before, are_allowed, accepts}
use Rattle.pks_proof_lines.proofs.Building.{nth_front, nth_last, added_line, shown_accepted}
use Rattle.pks_laws_explain.specs.Shown.{HasLine, IsShown}

nth_within : {X : Type 0} (xs : List X) (n : ℕ) (x : X) → nth xs n ≡ Some x → (0 < n) × (n < suc (length xs))
nth_within xs zero x h = absurd (none-some x h)
nth_within xs (suc n) x h = let less = got xs n x h in let over : suc n < suc (length xs) = omega (arith, less) in let pos : 0 < suc n = omega arith in (pos, over)
  where
    got : {X : Type 0} (xs : List X) (n : ℕ) (x : X) → slice_get xs n ≡ Some x → n < length xs
    got [] n x h = absurd (none-some x h)
    got (y ∷ xs) zero x h = omega arith
    got (y ∷ xs) (suc n) x h = let less = got xs n x h in omega (arith, less)

has_more : (proof more : Proof) (m : ℕ) (f : Fact) → HasLine proof m f → HasLine (proof ++ more) m f
has_more proof more m f h = record {
  number = h.number;
  line = h.line;
  there = nth_front proof more h.number (nth_within proof h.number h.line h.there).1 ∙ h.there;
  moment = h.moment;
  fact = h.fact;
}

-- facts with their moments
abbrev pub Placed : Type 0
Placed = ℕ × Fact

-- the judge of a list of them
abbrev pub judge_of : List Placed → Judge
judge_of given m = filter_map (λ (q : Placed). cond (q.0 == m) (Some q.1) None) given

module _ (p : Problem) (path : Path) where
  abbrev pub Shown : ℕ → Fact → Type 0
  Shown m f = IsShown p path m f

  record ExtendsAll (proof : Proof) (given : List Placed) : Type 0 where
    more : Proof
    allowed : are_allowed p path (proof ++ more) ≡ true
    has : Each (λ (q : Placed). HasLine (proof ++ more) q.0 q.1) given

  each_more : (proof more : Proof) (given : List Placed) → Each (λ (q : Placed). HasLine proof q.0 q.1) given → Each (λ (q : Placed). HasLine (proof ++ more) q.0 q.1) given
  each_more proof more [] a = tt
  each_more proof more (q ∷ given) a = (has_more proof more q.0 q.1 a.0, each_more proof more given a.1)

  extend_all : (given : List Placed) → Each (λ (q : Placed). Shown q.0 q.1) given → (proof : Proof) → are_allowed p path proof ≡ true → ExtendsAll proof given
  extend_all [] a proof h = record { more = []; allowed = subst (λ (x : Proof). are_allowed p path x ≡ true) (sym (append-nil proof)) h; has = tt }
  extend_all (q ∷ given) a proof h =
      let one = a.0 proof h in
      let rest = extend_all given a.1 (proof ++ one.more) one.allowed in
      let whole : (proof ++ one.more) ++ rest.more ≡ proof ++ (one.more ++ rest.more) = append_assoc proof one.more rest.more in
      record {
        more = one.more ++ rest.more;
        allowed = subst (λ (x : Proof). are_allowed p path x ≡ true) whole rest.allowed;
        has = subst (λ (x : Proof). Each (λ (r : Placed). HasLine x r.0 r.1) (q ∷ given)) whole (has_more (proof ++ one.more) rest.more q.0 q.1 one.has, rest.has);
      }

  cites_of : (proof : Proof) (given : List Placed) → Each (λ (q : Placed). HasLine proof q.0 q.1) given → List ℕ
  cites_of proof [] a = []
  cites_of proof (q ∷ given) a = a.0.number ∷ cites_of proof given a.1

  cites_before : (proof : Proof) (given : List Placed) (a : Each (λ (q : Placed). HasLine proof q.0 q.1) given) → are_before (suc (length proof)) (cites_of proof given a) ≡ true
  unfolding cites_of
  cites_before proof [] a = refl
  cites_before proof (q ∷ given) a =
      let w = nth_within proof a.0.number a.0.line a.0.there in
      and_from _ _ (and_from _ _ (lt-ltb 0 a.0.number w.0) (lt-ltb a.0.number (suc (length proof)) w.1)) (cites_before proof given a.1)

  cites_judge : (proof : Proof) (given : List Placed) (a : Each (λ (q : Placed). HasLine proof q.0 q.1) given) (m : ℕ) → by_cited proof (cites_of proof given a) m ≡ judge_of given m
  unfolding cites_of
  cites_judge proof [] a m = refl
  cites_judge proof (q ∷ given) a m =
      let one : option_and_then (fact_then m) (nth proof a.0.number) ≡ cond (q.0 == m) (Some q.1) None =
      ap (option_and_then (fact_then m)) a.0.there ∙ (λ i. cond (a.0.moment i == m) (Some (a.0.fact i)) None) in
      λ i. cons_option (one i) (cites_judge proof given a.1 m i)

  -- what a reason allows by facts that are shown is shown
  pub shown_by : (given : List Placed) → Each (λ (q : Placed). Shown q.0 q.1) given → (m : ℕ) (f : Fact) (r : Reason) → m ≤ final_moment path → is_allowed_by p path (judge_of given) m f r ≡ true → Shown m f
  shown_by given a m f r within h proof allowed =
      let e = extend_all given a proof allowed in
      let base : Proof = proof ++ e.more in
      let cites = cites_of base given e.has in
      let line : Line = record { moment = m; fact = f; reason = r; cites = cites } in
      let by : is_allowed_by p path (by_cited base cites) m f r ≡ true = (λ i. is_allowed_by p path (λ n. cites_judge base given e.has n i) m f r) ∙ h in
      let grown : are_allowed p path (base ++ line ∷ []) ≡ true = added_line p path base line e.allowed (cites_before base given e.has) (and_from _ _ (le-leb _ _ within) by) in
      let whole : base ++ line ∷ [] ≡ proof ++ (e.more ++ line ∷ []) = append_assoc proof e.more (line ∷ []) in
      record {
        more = e.more ++ line ∷ [];
        allowed = subst (λ (x : Proof). are_allowed p path x ≡ true) whole grown;
        has = subst (λ (x : Proof). HasLine x m f) whole (record { number = suc (length base); line = line; there = nth_last base line; moment = refl; fact = refl });
      }

  split_at : {X : Type 0} (xs : List X) (n : ℕ) (x : X) → nth xs n ≡ Some x → (front : List X) × (back : List X) × (xs ≡ front ++ x ∷ back)
  split_at xs zero x h = absurd (none-some x h)
  split_at xs (suc n) x h = got xs n x h
    where
      got : {X : Type 0} (xs : List X) (n : ℕ) (x : X) → slice_get xs n ≡ Some x → (front : List X) × (back : List X) × (xs ≡ front ++ x ∷ back)
      got [] n x h = absurd (none-some x h)
      got (y ∷ xs) zero x h = ([], xs, ap (λ z. z ∷ xs) (same_Some y x h))
      got (y ∷ xs) (suc n) x h = let r = got xs n x h in (y ∷ r.0, r.1, ap (λ zs. y ∷ zs) r.2)

  -- a literal that is shown at the last moment has an accepted proof
  pub shown_proof : (l : Literal) → Shown (final_moment path) (FactLit l) → (proof : Proof) × (accepts p path proof l ≡ true)
  shown_proof l s =
      let e = s [] refl in
      let q = split_at e.more e.has.number e.has.line e.has.there in
      shown_accepted p path q.0 q.1 e.has.line l (subst (λ (x : Proof). are_allowed p path x ≡ true) q.2 e.allowed) e.has.moment e.has.fact

  -- ---- facts of one moment, and of one and the next

  told_at : ℕ → List Fact → List Placed
  told_at m fs = map (λ f. (m, f)) fs

  told_each : (m : ℕ) (fs : List Fact) → Each (Shown m) fs → Each (λ (q : Placed). Shown q.0 q.1) (told_at m fs)
  unfolding told_at
  told_each m [] a = tt
  told_each m (f ∷ fs) a = (a.0, told_each m fs a.1)

  told_here : (m : ℕ) (fs : List Fact) → judge_of (told_at m fs) m ≡ fs
  unfolding told_at
  told_here m [] = refl
  told_here m (f ∷ fs) = λ i. cons_option (cond (eq-eqb m m refl i) (Some f) None) (told_here m fs i)

  told_elsewhere : (m n : ℕ) (fs : List Fact) → (m == n) ≡ false → judge_of (told_at m fs) n ≡ []
  unfolding told_at
  told_elsewhere m n [] h = refl
  told_elsewhere m n (f ∷ fs) h = λ i. cons_option (cond (h i) (Some f) None) (told_elsewhere m n fs h i)

  judge_of-append : (xs ys : List Placed) (m : ℕ) → judge_of (xs ++ ys) m ≡ judge_of xs m ++ judge_of ys m
  judge_of-append [] ys m = refl
  judge_of-append (q ∷ xs) ys m = ap (cons_option (cond (q.0 == m) (Some q.1) None)) (judge_of-append xs ys m) ∙ moved (cond (q.0 == m) (Some q.1) None)
    where
      moved : (o : Option Fact) → cons_option o (judge_of xs m ++ judge_of ys m) ≡ cons_option o (judge_of xs m) ++ judge_of ys m
      moved None = refl
      moved (Some f) = refl

  each_both : {X : Type 0} (P : X → Type 0) (xs ys : List X) → Each P xs → Each P ys → Each P (xs ++ ys)
  each_both P xs ys = Rattle.pks_terms.proofs.ListLaws.each_append P xs ys

  pub shown_within : (fs : List Fact) (m : ℕ) → Each (Shown m) fs → (f : Fact) (r : Reason) → m ≤ final_moment path → ((j : Judge) → j m ≡ fs → is_allowed_by p path j m f r ≡ true) → Shown m f
  shown_within fs m a f r within h = shown_by (told_at m fs) (told_each m fs a) m f r within (h (judge_of (told_at m fs)) (told_here m fs))

  -- the fact is of the moment n; the judge has some facts at m and some at the next moment
  pub shown_step : (fs gs : List Fact) (m n : ℕ) → Each (Shown m) fs → Each (Shown (suc m)) gs → (f : Fact) (r : Reason) → n ≤ final_moment path → ((j : Judge) → j m ≡ fs → j (suc m) ≡ gs → is_allowed_by p path j n f r ≡ true) → Shown n f
  shown_step fs gs m n a b f r within h =
      let given = told_at m fs ++ told_at (suc m) gs in
      let unlike : (m == suc m) ≡ false = Rattle.std.proofs.lemmas.Bool.ne_eqb m (suc m) (omega arith) in
      let unlike' : (suc m == m) ≡ false = Rattle.std.proofs.lemmas.Bool.ne_eqb (suc m) m (omega arith) in
      shown_by given (each_both (λ (q : Placed). Shown q.0 q.1) (told_at m fs) (told_at (suc m) gs) (told_each m fs a) (told_each (suc m) gs b)) n f r within
      (h (judge_of given)
      (judge_of-append (told_at m fs) (told_at (suc m) gs) m ∙ (λ i. told_here m fs i ++ told_elsewhere (suc m) m gs unlike' i) ∙ append-nil fs)
      (judge_of-append (told_at m fs) (told_at (suc m) gs) (suc m) ∙ (λ i. told_elsewhere m (suc m) fs unlike i ++ told_here (suc m) gs i)))
