-- The text of a tree tells the tree, whatever follows that is no case of it.
use Rattle.std.proofs.Common.{◌≡◌, ◌<◌, ℕ, false, ◌==◌, [], ◌∷◌, ◌++◌, length, codes, decimal, append_assoc, append-nil, refl, sym, ap, ◌∙◌, subst, true≢false, arith}
use Rattle.std.proofs.lemmas.Bool.{eq-eqb}
use Rattle.std.specs.Fmt.{digit_glyph, digits, digits_onto}
use Rattle.std.specs.Prelude.{nat_lt, if◌then◌else◌, true, zero, suc, ◌+◌, ◌/◌, ◌%◌}
use Rattle.pks_terms.specs.Sets.{Each}
use Rattle.pks_terms.specs.Trees.{Tree, Goal, Impossible, Do, Branch, Cases, Chain, End, More, depth}
use Rattle.pks_terms.specs.Printed.{Text, Names, name_in, line, term_text, conj_text, instance_text, body_text, cases_text, tree_text}
use Rattle.pks_plan.proofs.Words.{first, rest}
use Rattle.pks_plan.proofs.TellingParts.{AreProper, IsNamedTerm, IsNamedLiteral, IsNamedInstance, name_tells, term_tells, instance_tells, same_conj}

-- a tree all of whose names are there
abbrev mutual
  pub IsNamedTree : Names → Tree → Type 0
  IsNamedTree names Goal = Unit {0}
  IsNamedTree names Impossible = Unit {0}
  IsNamedTree names (Do i t) = IsNamedInstance names i × IsNamedTree names t
  IsNamedTree names (Branch c t u) = Each (IsNamedLiteral names) c × IsNamedTree names t × IsNamedTree names u
  IsNamedTree names (Cases x k) = IsNamedTerm names x × IsNamedChain names k

  pub IsNamedChain : Names → Chain → Type 0
  IsNamedChain names End = Unit {0}
  IsNamedChain names (More e t k) = (e < length names.objects) × IsNamedTree names t × IsNamedChain names k

-- ---- the beginning of lines

-- what follows isn't the blanks and then another blank or a c
abbrev Stops : Text → Text → Type 0
Stops [] [] = Unit {0}
Stops [] (c ∷ r) = (c ≡ 99 → ⊥) × (c ≡ 32 → ⊥)
Stops (b ∷ bs) [] = Unit {0}
Stops (b ∷ bs) (c ∷ r) = b ≡ c → Stops bs r

stops_more : (b r : Text) → Stops b r → Stops (b ++ codes "  ") r
stops_more [] [] h = tt
stops_more [] (c ∷ r) h = λ e. absurd (h.1 (sym e))
stops_more (x ∷ b) [] h = tt
stops_more (x ∷ b) (c ∷ r) h = λ e. stops_more b r (h e)

stops_inside : (c : ℕ) → (c == 32) ≡ false → (b r : Text) → Stops (b ++ codes "  ") (b ++ c ∷ r)
stops_inside c n [] r = λ e. absurd (true≢false (ap (λ x. x == 32) e ∙ n))
stops_inside c n (x ∷ b) r = λ e. stops_inside c n b r

goes_on : (b r : Text) → Stops b (b ++ 99 ∷ r) → ⊥
goes_on [] r h = h.0 refl
goes_on (x ∷ b) r h = goes_on b r (h refl)

drop_same : (b r s : Text) → b ++ r ≡ b ++ s → r ≡ s
drop_same [] r s e = e
drop_same (x ∷ b) r s e = drop_same b r s (ap rest e)

line_is : (b x r : Text) → line (b ++ x) ++ r ≡ b ++ (x ++ 10 ∷ r)
line_is b x r = append_assoc (b ++ x) (10 ∷ []) r ∙ append_assoc b x (10 ∷ r)

line_then : (b x y r : Text) → (line (b ++ x) ++ y) ++ r ≡ b ++ (x ++ 10 ∷ (y ++ r))
line_then b x y r = append_assoc (line (b ++ x)) y r ∙ line_is b x (y ++ r)

-- ---- the first line of a tree, and what follows it

abbrev first_line : Names → Tree → Text
first_line names Goal = codes "goal"
first_line names Impossible = codes "impossible"
first_line names (Do i t) = instance_text names i
first_line names (Branch c t u) = codes "branch " ++ conj_text names c
first_line names (Cases x k) = codes "cases " ++ term_text names x

abbrev sides : Names → Text → Tree → Tree → Text
sides names b t u = line (b ++ codes "true") ++ (body_text names (b ++ codes "  ") t ++ (line (b ++ codes "false") ++ body_text names (b ++ codes "  ") u))

abbrev behind : Names → Text → Tree → Text → Text
behind names b Goal r = r
behind names b Impossible r = r
behind names b (Do i t) r = body_text names b t ++ r
behind names b (Branch c t u) r = sides names b t u ++ r
behind names b (Cases x k) r = cases_text names b k ++ r

body_is : (names : Names) (b : Text) (t : Tree) (r : Text) → body_text names b t ++ r ≡ b ++ (first_line names t ++ 10 ∷ behind names b t r)
body_is names b Goal r = line_is b (codes "goal") r
body_is names b Impossible r = line_is b (codes "impossible") r
body_is names b (Do i t) r = line_then b (instance_text names i) (body_text names b t) r
body_is names b (Branch c t u) r = line_then b (codes "branch " ++ conj_text names c) (sides names b t u) r
body_is names b (Cases x k) r = line_then b (codes "cases " ++ term_text names x) (cases_text names b k) r

cut : (names : Names) (b : Text) (t u : Tree) (r s : Text) → body_text names b t ++ r ≡ body_text names b u ++ s →
    first_line names t ++ 10 ∷ behind names b t r ≡ first_line names u ++ 10 ∷ behind names b u s
cut names b t u r s e = drop_same b (first_line names t ++ 10 ∷ behind names b t r) (first_line names u ++ 10 ∷ behind names b u s) (sym (body_is names b t r) ∙ (e ∙ body_is names b u s))

-- the first byte of the first line
abbrev head : Tree → ℕ
head Goal = 103
head Impossible = 105
head (Do i t) = 40
head (Branch c t u) = 98
head (Cases x k) = 99

begins : (names : Names) (t : Tree) (r : Text) → first (first_line names t ++ r) ≡ head t
unfolding instance_text
begins names Goal r = refl
begins names Impossible r = refl
begins names (Do i t) r = refl
begins names (Branch c t u) r = refl
begins names (Cases x k) r = refl

heads_differ : (names : Names) (b : Text) (t u : Tree) (r s : Text) → (head t == head u) ≡ false → body_text names b t ++ r ≡ body_text names b u ++ s → ⊥
heads_differ names b t u r s n e =
    let m : head t ≡ head u = sym (begins names t (10 ∷ behind names b t r)) ∙ (ap first (cut names b t u r s e) ∙ begins names u (10 ∷ behind names b u s)) in
    true≢false (sym (eq-eqb (head t) (head u) m) ∙ n)

-- ---- the sides of a branch, and the cases

sides_are : (names : Names) (b : Text) (t u : Tree) (r : Text) →
    sides names b t u ++ r ≡ b ++ (codes "true" ++ 10 ∷ (body_text names (b ++ codes "  ") t ++ (b ++ (codes "false" ++ 10 ∷ (body_text names (b ++ codes "  ") u ++ r)))))
sides_are names b t u r =
    let yes : Text = body_text names (b ++ codes "  ") t in
    let other : Text = body_text names (b ++ codes "  ") u in
    line_then b (codes "true") (yes ++ (line (b ++ codes "false") ++ other)) r
    ∙ ap (λ y. b ++ (codes "true" ++ 10 ∷ y)) (append_assoc yes (line (b ++ codes "false") ++ other) r ∙ ap (λ y. yes ++ y) (line_then b (codes "false") other r))

cases_are : (names : Names) (b : Text) (e : ℕ) (t : Tree) (k : Chain) (r : Text) →
    cases_text names b (More e t k) ++ r ≡ b ++ (codes "case " ++ (name_in names.objects e ++ 10 ∷ (body_text names (b ++ codes "  ") t ++ (cases_text names b k ++ r))))
cases_are names b e t k r =
    let body : Text = body_text names (b ++ codes "  ") t in
    line_then b (codes "case " ++ name_in names.objects e) (body ++ cases_text names b k) r
    ∙ ap (λ y. b ++ (codes "case " ++ (name_in names.objects e ++ 10 ∷ y))) (append_assoc body (cases_text names b k) r)

chain_stops : (names : Names) (b : Text) (k : Chain) (r : Text) → Stops b r → Stops (b ++ codes "  ") (cases_text names b k ++ r)
chain_stops names b End r h = stops_more b r h
chain_stops names b (More e t k) r h = subst (λ y. Stops (b ++ codes "  ") y) (sym (cases_are names b e t k r)) (stops_inside 99 refl b _)

no_case : (names : Names) (b : Text) (e : ℕ) (t : Tree) (k : Chain) (r s : Text) → Stops b r → r ≡ cases_text names b (More e t k) ++ s → ⊥
no_case names b e t k r s h m = goes_on b _ (subst (λ y. Stops b y) (m ∙ cases_are names b e t k s) h)

mutual
  same_tree : (names : Names) → AreProper names → (b : Text) (t u : Tree) (r s : Text) → IsNamedTree names t → IsNamedTree names u → Stops b r → Stops b s →
      body_text names b t ++ r ≡ body_text names b u ++ s → (t ≡ u) × (r ≡ s)
  same_tree names a b Goal Goal r s h k f g e = (refl, ap rest (drop_same (codes "goal") (10 ∷ r) (10 ∷ s) (cut names b Goal Goal r s e)))
  same_tree names a b Impossible Impossible r s h k f g e = (refl, ap rest (drop_same (codes "impossible") (10 ∷ r) (10 ∷ s) (cut names b Impossible Impossible r s e)))
  same_tree names a b (Do i t) (Do j u) r s h k f g e =
      let p = instance_tells names a i j (10 ∷ (body_text names b t ++ r)) (10 ∷ (body_text names b u ++ s)) h.0 k.0 refl refl (cut names b (Do i t) (Do j u) r s e) in
      let q = same_tree names a b t u r s h.1 k.1 f g (ap rest p.1) in
      ((λ x. Do (p.0 x) (q.0 x)), q.1)
  same_tree names a b (Branch c t u) (Branch d v w) r s h k f g e =
      let bb : Text = b ++ codes "  " in
      let l = drop_same (codes "branch ") (conj_text names c ++ 10 ∷ (sides names b t u ++ r)) (conj_text names d ++ 10 ∷ (sides names b v w ++ s)) (cut names b (Branch c t u) (Branch d v w) r s e) in
      let p = same_conj names a c d (sides names b t u ++ r) (sides names b v w ++ s) h.0 k.0 l in
      let r' : Text = codes "false" ++ 10 ∷ (body_text names bb u ++ r) in
      let s' : Text = codes "false" ++ 10 ∷ (body_text names bb w ++ s) in
      let m = drop_same b (codes "true" ++ 10 ∷ (body_text names bb t ++ (b ++ r'))) (codes "true" ++ 10 ∷ (body_text names bb v ++ (b ++ s'))) (sym (sides_are names b t u r) ∙ (p.1 ∙ sides_are names b v w s)) in
      let n = ap rest (drop_same (codes "true") (10 ∷ (body_text names bb t ++ (b ++ r'))) (10 ∷ (body_text names bb v ++ (b ++ s'))) m) in
      let q = same_tree names a bb t v (b ++ r') (b ++ s') h.1 k.1 (stops_inside 102 refl b (rest r')) (stops_inside 102 refl b (rest s')) n in
      let o = ap rest (drop_same (codes "false") (10 ∷ (body_text names bb u ++ r)) (10 ∷ (body_text names bb w ++ s)) (drop_same b r' s' q.1)) in
      let z = same_tree names a bb u w r s h.2 k.2 (stops_more b r f) (stops_more b s g) o in
      ((λ x. Branch (p.0 x) (q.0 x) (z.0 x)), z.1)
  same_tree names a b (Cases x k) (Cases y m) r s h l f g e =
      let c = drop_same (codes "cases ") (term_text names x ++ 10 ∷ (cases_text names b k ++ r)) (term_text names y ++ 10 ∷ (cases_text names b m ++ s)) (cut names b (Cases x k) (Cases y m) r s e) in
      let p = term_tells names a x y (10 ∷ (cases_text names b k ++ r)) (10 ∷ (cases_text names b m ++ s)) h.0 l.0 refl refl c in
      let q = same_chain names a b k m r s h.1 l.1 f g (ap rest p.1) in
      ((λ i. Cases (p.0 i) (q.0 i)), q.1)
  same_tree names a b Goal Impossible r s h k f g e = absurd (heads_differ names b Goal Impossible r s refl e)
  same_tree names a b Goal (Do j u) r s h k f g e = absurd (heads_differ names b Goal (Do j u) r s refl e)
  same_tree names a b Goal (Branch d v w) r s h k f g e = absurd (heads_differ names b Goal (Branch d v w) r s refl e)
  same_tree names a b Goal (Cases y m) r s h k f g e = absurd (heads_differ names b Goal (Cases y m) r s refl e)
  same_tree names a b Impossible Goal r s h k f g e = absurd (heads_differ names b Impossible Goal r s refl e)
  same_tree names a b Impossible (Do j u) r s h k f g e = absurd (heads_differ names b Impossible (Do j u) r s refl e)
  same_tree names a b Impossible (Branch d v w) r s h k f g e = absurd (heads_differ names b Impossible (Branch d v w) r s refl e)
  same_tree names a b Impossible (Cases y m) r s h k f g e = absurd (heads_differ names b Impossible (Cases y m) r s refl e)
  same_tree names a b (Do i t) Goal r s h k f g e = absurd (heads_differ names b (Do i t) Goal r s refl e)
  same_tree names a b (Do i t) Impossible r s h k f g e = absurd (heads_differ names b (Do i t) Impossible r s refl e)
  same_tree names a b (Do i t) (Branch d v w) r s h k f g e = absurd (heads_differ names b (Do i t) (Branch d v w) r s refl e)
  same_tree names a b (Do i t) (Cases y m) r s h k f g e = absurd (heads_differ names b (Do i t) (Cases y m) r s refl e)
  same_tree names a b (Branch c t u) Goal r s h k f g e = absurd (heads_differ names b (Branch c t u) Goal r s refl e)
  same_tree names a b (Branch c t u) Impossible r s h k f g e = absurd (heads_differ names b (Branch c t u) Impossible r s refl e)
  same_tree names a b (Branch c t u) (Do j v) r s h k f g e = absurd (heads_differ names b (Branch c t u) (Do j v) r s refl e)
  same_tree names a b (Branch c t u) (Cases y m) r s h k f g e = absurd (heads_differ names b (Branch c t u) (Cases y m) r s refl e)
  same_tree names a b (Cases x l) Goal r s h k f g e = absurd (heads_differ names b (Cases x l) Goal r s refl e)
  same_tree names a b (Cases x l) Impossible r s h k f g e = absurd (heads_differ names b (Cases x l) Impossible r s refl e)
  same_tree names a b (Cases x l) (Do j v) r s h k f g e = absurd (heads_differ names b (Cases x l) (Do j v) r s refl e)
  same_tree names a b (Cases x l) (Branch d v w) r s h k f g e = absurd (heads_differ names b (Cases x l) (Branch d v w) r s refl e)

  same_chain : (names : Names) → AreProper names → (b : Text) (k m : Chain) (r s : Text) → IsNamedChain names k → IsNamedChain names m → Stops b r → Stops b s →
      cases_text names b k ++ r ≡ cases_text names b m ++ s → (k ≡ m) × (r ≡ s)
  same_chain names a b End End r s h l f g e = (refl, e)
  same_chain names a b End (More d u m) r s h l f g e = absurd (no_case names b d u m r s f e)
  same_chain names a b (More c t k) End r s h l f g e = absurd (no_case names b c t k s r g (sym e))
  same_chain names a b (More c t k) (More d u m) r s h l f g e =
      let bb : Text = b ++ codes "  " in
      let r' : Text = cases_text names b k ++ r in
      let s' : Text = cases_text names b m ++ s in
      let x : Text = name_in names.objects c ++ 10 ∷ (body_text names bb t ++ r') in
      let y : Text = name_in names.objects d ++ 10 ∷ (body_text names bb u ++ s') in
      let n = drop_same (codes "case ") x y (drop_same b (codes "case " ++ x) (codes "case " ++ y) (sym (cases_are names b c t k r) ∙ (e ∙ cases_are names b d u m s))) in
      let p = name_tells names.objects a.objects c d (10 ∷ (body_text names bb t ++ r')) (10 ∷ (body_text names bb u ++ s')) h.0 l.0 refl refl n in
      let q = same_tree names a bb t u r' s' h.1 l.1 (chain_stops names b k r f) (chain_stops names b m s g) (ap rest p.1) in
      let z = same_chain names a b k m r s h.2 l.2 f g q.1 in
      ((λ i. More (p.0 i) (q.0 i) (z.0 i)), z.1)

-- ---- the first line

abbrev HasNoFeed : Text → Type 0
HasNoFeed bs = Each (λ b. b ≡ 10 → ⊥) bs

line_ends : (xs ys r s : Text) → HasNoFeed xs → HasNoFeed ys → xs ++ 10 ∷ r ≡ ys ++ 10 ∷ s → r ≡ s
line_ends [] [] r s a b e = ap rest e
line_ends [] (y ∷ ys) r s a b e = absurd (b.0 (sym (ap first e)))
line_ends (x ∷ xs) [] r s a b e = absurd (a.0 (ap first e))
line_ends (x ∷ xs) (y ∷ ys) r s a b e = line_ends xs ys r s a.1 b.1 (ap rest e)

glyph_no_feed : (d : ℕ) → digit_glyph false d ≡ 10 → ⊥
glyph_no_feed d = elim (nat_lt d 10) as (λ b. (if b then 48 + d else (if false then 55 + d else 87 + d)) ≡ 10 → ⊥) [ true ↦ λ e. omega (arith, e) | false ↦ λ e. omega (arith, e) ]

onto_no_feed : (k n : ℕ) (ds : Text) → HasNoFeed ds → HasNoFeed (digits_onto k 10 false n ds)
onto_no_feed zero n ds h = h
onto_no_feed (suc k) n ds h =
    let g : ℕ = digit_glyph false (n % 10) in
    let more : HasNoFeed (g ∷ ds) = (glyph_no_feed (n % 10), h) in
    elim (n / 10 == 0) as (λ b. HasNoFeed (if b then g ∷ ds else digits_onto k 10 false (n / 10) (g ∷ ds))) [ true ↦ more | false ↦ onto_no_feed k (n / 10) (g ∷ ds) more ]

decimal_no_feed : (n : ℕ) → HasNoFeed (decimal n)
unfolding digits
decimal_no_feed n = onto_no_feed 64 n [] tt

tree_is : (names : Names) (t : Tree) → tree_text names t ≡ codes "plan depth " ++ (decimal (depth t) ++ 10 ∷ body_text names [] t)
unfolding tree_text
tree_is names t = append_assoc (codes "plan depth " ++ decimal (depth t)) (10 ∷ []) (body_text names [] t)

pub tree_tells : (names : Names) → AreProper names → (t u : Tree) → IsNamedTree names t → IsNamedTree names u → tree_text names t ≡ tree_text names u → t ≡ u
tree_tells names a t u h k e =
    let x : Text = decimal (depth t) ++ 10 ∷ body_text names [] t in
    let y : Text = decimal (depth u) ++ 10 ∷ body_text names [] u in
    let l = drop_same (codes "plan depth ") x y (sym (tree_is names t) ∙ (e ∙ tree_is names u)) in
    let body = line_ends (decimal (depth t)) (decimal (depth u)) (body_text names [] t) (body_text names [] u) (decimal_no_feed (depth t)) (decimal_no_feed (depth u)) l in
    (same_tree names a [] t u [] [] h k tt tt (append-nil (body_text names [] t) ∙ (body ∙ sym (append-nil (body_text names [] u))))).0
