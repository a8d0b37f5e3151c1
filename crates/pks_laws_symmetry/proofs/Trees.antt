-- A tree derived at a history has an image in a tree derived at the history's image.
use Rattle.std.proofs.Common.{◌≡◌, ◌⊎◌, ◌≤◌, ◌+◌, ◌&&◌, ◌||◌, ℕ, zero, suc, true, max, List, [], ◌∷◌, ◌++◌, map, slice_get, unwrap_or, refl, sym, ap, ◌∙◌, subst, inl, inr, ⊎_elim, arith, true≢false}
use Rattle.std.specs.List.{list_any, list_all}
use Rattle.std.specs.Option.{option_map}
use Rattle.std.proofs.Math.Nat.{le-max_left, le-max_right}
use Rattle.pks_terms.specs.Sets.{Each, IsIn, IsOrdered}
use Rattle.pks_terms.specs.Syntax.{Term}
use Rattle.pks_terms.specs.Orders.{literal_cmp}
use Rattle.pks_terms.specs.Signatures.{Signature}
use Rattle.pks_terms.specs.Databases.{Five}
use Rattle.pks_terms.specs.Closure.{Outcome, Next, Clash}
use Rattle.pks_terms.specs.Queries.{Query, answers}
use Rattle.pks_terms.specs.Actions.{Schema, Instance}
use Rattle.pks_terms.specs.Aims.{is_met, met}
use Rattle.pks_terms.specs.Branching.{candidates, instances, left, Choice, Act, BranchOn, CasesOn, Side, AsTrue, AsFalse, Is, IsMember, assumed, Assumes}
use Rattle.pks_terms.specs.Handed.{IsStepOf}
use Rattle.pks_terms.specs.Moments.{IsMomentOf, AreMomentsOf}
use Rattle.pks_terms.specs.Problems.{Aim, Now, AtStart, Always, Once, Problem, schema_of}
use Rattle.pks_terms.specs.Progress.{progressed}
use Rattle.pks_terms.specs.Searching.{root_choice}
use Rattle.pks_terms.specs.Settling.{History, last_of, last_moment, pushed, steps_with_last, with_last, State, At, Stopped, Settles}
use Rattle.pks_terms.specs.Trees.{Tree, Goal, Impossible, Do, Branch, Cases, Chain, End, More, depth, chain_depth, cost, chain_cost, objects_in, Acts, Takes, after_step, SettlesAfter, Derives, DerivesEach}
use Rattle.pks_terms.specs.Valid.{IsValid}
use Rattle.pks_terms.proofs.ListLaws.{all_from_each, each_append, each_from_all, each_in, each_of}
use Rattle.pks_laws.specs.OfSignature.{IsSideOf}
use Rattle.pks_laws.proofs.BelongingHistories.{is_clash}
use Rattle.pks_laws.proofs.Instances.{allowed_instance}
use Rattle.pks_laws.proofs.SearchStates.{last_of_it, acts_of, settled_history_of, with_last_of, side_moment}
use Rattle.pks_laws.proofs.TreesOf.{left_is_side}
use Rattle.pks_laws_forget.proofs.Ends.{AreOrdered}
use Rattle.pks_laws_symmetry.specs.Renamed.{renamed_term, renamed_conj, renamed_query, renamed_instance, renamed_choice, renamed_side, renamed_aim, AreImages, AreImageSteps, AreImagesAlong}
use Rattle.pks_laws_symmetry.specs.Fixed.{IsFixedSchema, IsSymmetry}
use Rattle.pks_laws_symmetry.proofs.Mirrors.{Mirror, IsNeat, EndImage}
use Rattle.pks_laws_symmetry.proofs.Images.{term_back, range_image}
use Rattle.pks_laws_symmetry.proofs.Reading.{mirror_turned}
use Rattle.pks_laws_symmetry.proofs.Neat.{moment_one, moment_neat}
use Rattle.pks_laws_symmetry.proofs.Closing.{closes_image}
use Rattle.pks_laws_symmetry.proofs.Answering.{answers_image}
use Rattle.pks_laws_symmetry.proofs.Progressing.{progressed_image, progressed_neat}
use Rattle.pks_laws_symmetry.proofs.Choosing.{AreDistinct, distinct_left, choices_length, instances_image, undecided_image, left_image, split_image, member_image, assumed_image, assumed_neat}
use Rattle.pks_laws_symmetry.proofs.Settling.{StateImage, settles_image}

-- ---- the goal

-- moments that are each other's images, each place with one value in each
abbrev AreMirrors : Signature → (ℕ → ℕ) → (ℕ → ℕ) → List (Instance × Five) → List (Instance × Five) → Type 0
AreMirrors s f g [] [] = Unit {0}
AreMirrors s f g (x ∷ xs) (y ∷ ys) = Mirror s f g x.1 y.1 × AreMirrors s f g xs ys
AreMirrors s f g [] (y ∷ ys) = ⊥
AreMirrors s f g (x ∷ xs) [] = ⊥

mirrors_turned : (s : Signature) (f g : ℕ → ℕ) (xs ys : List (Instance × Five)) → AreMirrors s f g xs ys → AreMirrors s g f ys xs
mirrors_turned s f g [] [] m = tt
mirrors_turned s f g (x ∷ xs) (y ∷ ys) m = (mirror_turned s f g x.1 y.1 m.0, mirrors_turned s f g xs ys m.1)
mirrors_turned s f g [] (y ∷ ys) m = absurd m
mirrors_turned s f g (x ∷ xs) [] m = absurd m

last_mirror : (s : Signature) (f g : ℕ → ℕ) (d e : Five) (xs ys : List (Instance × Five)) → Mirror s f g d e → AreMirrors s f g xs ys → Mirror s f g (last_of d xs) (last_of e ys)
last_mirror s f g d e [] [] m k = m
last_mirror s f g d e (x ∷ xs) (y ∷ ys) m k = last_mirror s f g x.1 y.1 xs ys k.0 k.1
last_mirror s f g d e [] (y ∷ ys) m k = absurd k
last_mirror s f g d e (x ∷ xs) [] m k = absurd k

module _ (s : Signature) (f g : ℕ → ℕ) where
  all_answered : (q : Query) (xs ys : List (Instance × Five)) → AreMirrors s f g xs ys → list_all (λ d. answers s d (renamed_query f q)) (map (λ (x : Instance × Five). x.1) ys) ≡ list_all (λ d. answers s d q) (map (λ (x : Instance × Five). x.1) xs)
  all_answered q [] [] m = refl
  all_answered q (x ∷ xs) (y ∷ ys) m = λ i. answers_image s f g x.1 y.1 m.0 q i && all_answered q xs ys m.1 i
  all_answered q [] (y ∷ ys) m = absurd m
  all_answered q (x ∷ xs) [] m = absurd m

  some_answered : (q : Query) (xs ys : List (Instance × Five)) → AreMirrors s f g xs ys → list_any (λ d. answers s d (renamed_query f q)) (map (λ (x : Instance × Five). x.1) ys) ≡ list_any (λ d. answers s d q) (map (λ (x : Instance × Five). x.1) xs)
  some_answered q [] [] m = refl
  some_answered q (x ∷ xs) (y ∷ ys) m = λ i. answers_image s f g x.1 y.1 m.0 q i || some_answered q xs ys m.1 i
  some_answered q [] (y ∷ ys) m = absurd m
  some_answered q (x ∷ xs) [] m = absurd m

  aim_image : (h k : History) → Mirror s f g h.start k.start → AreMirrors s f g h.steps k.steps → (x : Aim) → is_met s k (renamed_aim f x) ≡ is_met s h x
  aim_image h k m ms (Now q) = answers_image s f g (last_moment h) (last_moment k) (last_mirror s f g h.start k.start h.steps k.steps m ms) q
  aim_image h k m ms (AtStart q) = answers_image s f g h.start k.start m q
  aim_image h k m ms (Always q) = λ i. answers_image s f g h.start k.start m q i && all_answered q h.steps k.steps ms i
  aim_image h k m ms (Once q) = λ i. answers_image s f g h.start k.start m q i || some_answered q h.steps k.steps ms i

-- each aim is the image of one that is met
met_image : (p : Problem) (f g : ℕ → ℕ) (h k : History) → IsSymmetry p f g → Mirror p.signature f g h.start k.start → AreMirrors p.signature f g h.steps k.steps → met p h ≡ true → met p k ≡ true
unfolding met
met_image p f g h k y m ms e =
    let S = p.signature in
    all_from_each (is_met S k) p.goal (each_of (λ a. is_met S k a ≡ true) p.goal (λ a i.
    sym (aim_image S g f k h (mirror_turned S f g h.start k.start m) (mirrors_turned S f g h.steps k.steps ms) a)
    ∙ each_in (λ a. is_met S h a ≡ true) p.goal (renamed_aim g a) (each_from_all (λ a. is_met S h a ≡ true) (is_met S h) (λ a q. q) p.goal e) (y.goal a i).1))

-- ---- moments put in

more_image : (f g : ℕ → ℕ) (xs ys : List (Instance × Five)) (i : Instance) (d e : Five) → AreImageSteps f g xs ys → AreImages f g d e → AreImageSteps f g (xs ++ (i, d) ∷ []) (ys ++ (renamed_instance f i, e) ∷ [])
more_image f g [] [] i d e k a = (refl, a, tt)
more_image f g (x ∷ xs) (y ∷ ys) i d e k a = (k.0, k.1, more_image f g xs ys i d e k.2 a)
more_image f g [] (y ∷ ys) i d e k a = absurd k
more_image f g (x ∷ xs) [] i d e k a = absurd k

put_image : (f g : ℕ → ℕ) (xs ys : List (Instance × Five)) (d e : Five) → AreImageSteps f g xs ys → AreImages f g d e → AreImageSteps f g (steps_with_last xs d) (steps_with_last ys e)
put_image f g [] [] d e k a = tt
put_image f g (x ∷ []) (y ∷ []) d e k a = (k.0, a, tt)
put_image f g (x ∷ x' ∷ xs) (y ∷ y' ∷ ys) d e k a = (k.0, k.1, put_image f g (x' ∷ xs) (y' ∷ ys) d e k.2 a)
put_image f g [] (y ∷ ys) d e k a = absurd k
put_image f g (x ∷ xs) [] d e k a = absurd k
put_image f g (x ∷ []) (y ∷ y' ∷ ys) d e k a = absurd k.2
put_image f g (x ∷ x' ∷ xs) (y ∷ []) d e k a = absurd k.2

with_last_image : (f g : ℕ → ℕ) (d e : Five) (xs ys : List (Instance × Five)) (x y : Five) → AreImages f g d e → AreImageSteps f g xs ys → AreImages f g x y → AreImagesAlong f g (with_last (record { start = d; steps = xs }) x) (with_last (record { start = e; steps = ys }) y)
with_last_image f g d e [] [] x y a k b = record { start = b; steps = tt }
with_last_image f g d e (u ∷ xs) (v ∷ ys) x y a k b = record { start = a; steps = put_image f g (u ∷ xs) (v ∷ ys) x y k b }
with_last_image f g d e [] (v ∷ ys) x y a k b = absurd k
with_last_image f g d e (u ∷ xs) [] x y a k b = absurd k

abbrev AllOrdered : List (Instance × Five) → Type 0
AllOrdered xs = Each (λ x. IsOrdered literal_cmp x.1.kf) xs

put_ordered : (xs : List (Instance × Five)) (d : Five) → AllOrdered xs → IsOrdered literal_cmp d.kf → AllOrdered (steps_with_last xs d)
put_ordered [] d o q = tt
put_ordered (x ∷ []) d o q = (q, tt)
put_ordered (x ∷ y ∷ xs) d o q = (o.0, put_ordered (y ∷ xs) d o.1 q)

last_ordered : (d : Five) (xs : List (Instance × Five)) → IsOrdered literal_cmp d.kf → AllOrdered xs → IsOrdered literal_cmp (last_of d xs).kf
last_ordered d [] o q = o
last_ordered d (x ∷ xs) o q = last_ordered x.1 xs q.0 q.1

with_last_ordered : (d : Five) (xs : List (Instance × Five)) (x : Five) → IsOrdered literal_cmp d.kf → AllOrdered xs → IsOrdered literal_cmp x.kf → AreOrdered (with_last (record { start = d; steps = xs }) x).start (with_last (record { start = d; steps = xs }) x).steps
with_last_ordered d [] x o q r = (r, tt)
with_last_ordered d (u ∷ xs) x o q r = (o, put_ordered (u ∷ xs) x q r)

-- ---- cases and their depth and cost

-- the object has this tree among the cases
abbrev IsCase : ℕ → Tree → Chain → Type 0
IsCase o t End = ⊥
IsCase o t (More e u c) = ((e ≡ o) × (u ≡ t)) ⊎ IsCase o t c

has_object : (o : ℕ) (t : Tree) (c : Chain) → IsCase o t c → IsIn o (objects_in c)
has_object o t End i = absurd i
has_object o t (More e u c) (inl q) = inl q.0
has_object o t (More e u c) (inr i) = inr (has_object o t c i)

has_tree : (o : ℕ) (c : Chain) → IsIn o (objects_in c) → (t : Tree) × IsCase o t c
has_tree o End i = absurd i
has_tree o (More e u c) (inl q) = (u, inl (q, refl))
has_tree o (More e u c) (inr i) = let r = has_tree o c i in (r.0, inr r.1)

-- an object has one tree
one_tree : (o : ℕ) (t u : Tree) (c : Chain) → AreDistinct (objects_in c) → IsCase o t c → IsCase o u c → t ≡ u
one_tree o t u End a i j = absurd i
one_tree o t u (More e w c) a (inl q) (inl r) = sym q.1 ∙ r.1
one_tree o t u (More e w c) a (inl q) (inr j) = absurd (a.0 (subst (λ z. IsIn z (objects_in c)) (sym q.0) (has_object o u c j)))
one_tree o t u (More e w c) a (inr i) (inl r) = absurd (a.0 (subst (λ z. IsIn z (objects_in c)) (sym r.0) (has_object o t c i)))
one_tree o t u (More e w c) a (inr i) (inr j) = one_tree o t u c a.1 i j

module _ (size : Tree → ℕ) where
  -- the greatest size of a case
  abbrev greatest : Chain → ℕ
  greatest End = 0
  greatest (More e t c) = max (size t) (greatest c)

  no_greater : (o : ℕ) (t : Tree) (c : Chain) → IsCase o t c → size t ≤ greatest c
  no_greater o t End i = absurd i
  no_greater o t (More e u c) (inl q) = subst (λ x. size x ≤ greatest (More e u c)) q.1 (le-max_left (size u) (greatest c))
  no_greater o t (More e u c) (inr i) = let below = no_greater o t c i in let right = le-max_right (size u) (greatest c) in omega (arith, below, right)

  all_within : (c : Chain) (n : ℕ) → ((o : ℕ) (t : Tree) → IsCase o t c → size t ≤ n) → greatest c ≤ n
  all_within End n h = omega arith
  all_within (More e t c) n h = let head = h e t (inl (refl, refl)) in let rest = all_within c n (λ o u i. h o u (inr i)) in omega (arith, head, rest)

  -- chains of which each case has one of the same size in the other
  same_greatest : (c k : Chain) → ((o : ℕ) (t : Tree) → IsCase o t c → (o' : ℕ) × (u : Tree) × IsCase o' u k × (size u ≡ size t)) → ((o : ℕ) (t : Tree) → IsCase o t k → (o' : ℕ) × (u : Tree) × IsCase o' u c × (size u ≡ size t)) → greatest k ≡ greatest c
  same_greatest c k there back =
      let one = all_within c (greatest k) (λ o t i. let r = there o t i in subst (λ n. n ≤ greatest k) r.3 (no_greater r.0 r.1 k r.2)) in
      let other = all_within k (greatest c) (λ o t i. let r = back o t i in subst (λ n. n ≤ greatest c) r.3 (no_greater r.0 r.1 c r.2)) in
      omega (arith, one, other)

greatest_depth : (c : Chain) → chain_depth c ≡ greatest depth c
greatest_depth End = refl
greatest_depth (More e t c) = ap (max (depth t)) (greatest_depth c)

greatest_cost : (p : Problem) (c : Chain) → chain_cost p c ≡ greatest (cost p) c
greatest_cost p End = refl
greatest_cost p (More e t c) = ap (max (cost p t)) (greatest_cost p c)

-- ---- pairs

module _ (p : Problem) (f g : ℕ → ℕ) (v : IsValid p) (y : IsSymmetry p f g) where
  abbrev S : Signature
  S = p.signature

  -- histories of the problem, in order, that are each other's images
  pub record IsPair (h k : History) : Type 0 where
    pub images : AreImagesAlong f g h k
    pub moments : AreMomentsOf p h
    pub others : AreMomentsOf p k
    pub ordered : AreOrdered h.start h.steps
    pub sorted : AreOrdered k.start k.steps

  abbrev Paired : State → State → Type 0
  Paired (At h) (At k) = IsPair h k
  Paired Stopped Stopped = Unit {0}
  Paired (At h) Stopped = ⊥
  Paired Stopped (At k) = ⊥

  mirror : (d e : Five) → AreImages f g d e → IsMomentOf S d → IsMomentOf S e → Mirror S f g d e
  mirror d e a m n = record { renaming = y.renaming; images = a; one = moment_one S d v.signature.values m; other = moment_one S e v.signature.values n }

  mirrors : (xs ys : List (Instance × Five)) → AreImageSteps f g xs ys → Each (λ (x : Instance × Five). IsStepOf p x.0 × IsMomentOf S x.1) xs → Each (λ (x : Instance × Five). IsStepOf p x.0 × IsMomentOf S x.1) ys → AreMirrors S f g xs ys
  mirrors [] [] a m n = tt
  mirrors (x ∷ xs) (z ∷ zs) a m n = (mirror x.1 z.1 a.1 m.0.1 n.0.1, mirrors xs zs a.2 m.1 n.1)
  mirrors [] (z ∷ zs) a m n = absurd a
  mirrors (x ∷ xs) [] a m n = absurd a

  start_mirror : (h k : History) → IsPair h k → Mirror S f g h.start k.start
  start_mirror h k w = mirror h.start k.start w.images.start w.moments.start w.others.start

  step_mirrors : (h k : History) → IsPair h k → AreMirrors S f g h.steps k.steps
  step_mirrors h k w = mirrors h.steps k.steps w.images.steps w.moments.steps w.others.steps

  lasts : (h k : History) → IsPair h k → Mirror S f g (last_moment h) (last_moment k)
  lasts h k w = last_mirror S f g h.start k.start h.steps k.steps (start_mirror h k w) (step_mirrors h k w)

  neat_here : (h k : History) → IsPair h k → IsNeat (last_moment h)
  neat_here h k w = moment_neat S (last_moment h) (last_of_it p v h w.moments) (last_ordered h.start h.steps w.ordered.0 w.ordered.1)

  neat_there : (h k : History) → IsPair h k → IsNeat (last_moment k)
  neat_there h k w = moment_neat S (last_moment k) (last_of_it p v k w.others) (last_ordered k.start k.steps w.sorted.0 w.sorted.1)

  -- ---- actions

  fixed_at : (n : ℕ) → IsFixedSchema f (schema_of p n)
  fixed_at n = get p.schemas n y.texts
    where
      get : (xs : List Schema) (n : ℕ) → Each (IsFixedSchema f) xs → IsFixedSchema f (unwrap_or (slice_get xs n) (record { cost = 1; parameters = []; pre = []; effects = []; senses = []; adds = [] }))
      get [] n a = record { pre = tt; effects = tt; adds = tt }
      get (x ∷ xs) zero a = a.0
      get (x ∷ xs) (suc n) a = get xs n a.1

  acts_image : (h k : History) (i : Instance) (x : State) → IsPair h k → IsIn i (instances p (last_moment h)) → Acts p h i x → (z : State) × Acts p k (renamed_instance f i) z × Paired x z
  acts_image h k i x w chosen c =
      let d = last_moment h in
      let e = last_moment k in
      let m = lasts h k w in
      let j = renamed_instance f i in
      let sc = schema_of p i.action in
      let there = instances_image p f g d e y m i chosen in
      let enough = choices_length (candidates S d) sc.parameters i.arguments (allowed_instance p d i chosen).1 in
      let r = closes_image S f g (progressed S d sc i.arguments) (progressed S e sc j.arguments) c.outcome v.signature.values y.renaming
      (progressed_image S f g d e m sc i.arguments (fixed_at i.action) enough) (progressed_neat S d sc i.arguments (neat_here h k w)) (progressed_neat S e sc j.arguments (neat_there h k w)) c.progress in
      let too : Acts p k j (after_step k j r.0) = record { outcome = r.0; progress = r.1; gives = refl } in
      let onward : Acts p h i (after_step h i c.outcome) = record { outcome = c.outcome; progress = c.progress; gives = refl } in
      (after_step k j r.0, too, subst (λ z. Paired z (after_step k j r.0)) (sym c.gives) (go there c.outcome r.0 r.2 onward too))
    where
      go : IsIn (renamed_instance f i) (instances p (last_moment k)) → (m n : Outcome) → EndImage f g m n → Acts p h i (after_step h i m) → Acts p k (renamed_instance f i) (after_step k (renamed_instance f i) n) → Paired (after_step h i m) (after_step k (renamed_instance f i) n)
      go there (Next a) (Next b) q s t = record {
        images = record { start = w.images.start; steps = more_image f g h.steps k.steps i a b w.images.steps q.0 };
        moments = acts_of p v h (pushed h i a) i w.moments chosen s;
        others = acts_of p v k (pushed k (renamed_instance f i) b) (renamed_instance f i) w.others there t;
        ordered = (w.ordered.0, each_append (λ x. IsOrdered literal_cmp x.1.kf) h.steps ((i, a) ∷ []) w.ordered.1 (q.1, tt));
        sorted = (w.sorted.0, each_append (λ x. IsOrdered literal_cmp x.1.kf) k.steps ((renamed_instance f i, b) ∷ []) w.sorted.1 (q.2, tt));
      }
      go there (Clash l) (Clash m) q s t = tt
      go there (Next a) (Clash m) q s t = absurd q
      go there (Clash l) (Next b) q s t = absurd q

  -- ---- settling, and sides

  settled_pair : (h k : History) (x : State) → IsPair h k → Settles p h x → (z : State) × Settles p k z × Paired x z
  settled_pair h k x w c =
      let r = settles_image p f g h k x v y w.images w.moments w.others w.ordered w.sorted c in
      (r.0, r.1, go x r.0 r.2 c r.1)
    where
      go : (x z : State) → StateImage f g x z → Settles p h x → Settles p k z → Paired x z
      go (At a) (At b) q s t = record { images = q.0; moments = settled_history_of p v h a w.moments s; others = settled_history_of p v k b w.others t; ordered = q.1; sorted = q.2 }
      go Stopped Stopped q s t = tt
      go (At a) Stopped q s t = absurd q
      go Stopped (At b) q s t = absurd q

  side_image : (c : Choice) (side : Side) → IsSideOf S c side → IsSideOf S (renamed_choice f c) (renamed_side f side)
  side_image (BranchOn c) AsTrue i = tt
  side_image (BranchOn c) AsFalse i = tt
  side_image (CasesOn t) (Is o) i = range_image S f g y.renaming t o i
  side_image (BranchOn c) (Is o) i = absurd i
  side_image (CasesOn t) AsTrue i = absurd i
  side_image (CasesOn t) AsFalse i = absurd i
  side_image (Act x) side i = absurd i

  takes_image : (h k : History) (c : Choice) (side : Side) (x : State) → IsPair h k → IsMember (last_moment h) c → IsSideOf S c side → Takes p h c side x → (z : State) × Takes p k (renamed_choice f c) (renamed_side f side) z × Paired x z
  takes_image h k c side x w member is t =
      let d = last_moment h in
      let e = last_moment k in
      let m = lasts h k w in
      let n = neat_here h k w in
      let o = neat_there h k w in
      let there = member_image S f g d e m c member in
      let r = closes_image S f g (assumed S d c side) (assumed S e (renamed_choice f c) (renamed_side f side)) t.outcome v.signature.values y.renaming
      (assumed_image S f g d e m c side n o member) (assumed_neat S d c side n member) (assumed_neat S e (renamed_choice f c) (renamed_side f side) o there) t.assumed in
      go there t.outcome r.0 r.2 t.assumed r.1 t.settled
    where
      go : IsMember (last_moment k) (renamed_choice f c) → (a b : Outcome) → EndImage f g a b → Assumes S (last_moment h) c side a → Assumes S (last_moment k) (renamed_choice f c) (renamed_side f side) b → SettlesAfter p h a x
          → (z : State) × Takes p k (renamed_choice f c) (renamed_side f side) z × Paired x z
      go there (Next a) (Next b) q s u j =
          let pair : IsPair (with_last h a) (with_last k b) = record {
            images = with_last_image f g h.start k.start h.steps k.steps a b w.images.start w.images.steps q.0;
            moments = with_last_of p v h a w.moments (side_moment S v.signature.values (last_moment h) a c side (last_of_it p v h w.moments) member is s);
            others = with_last_of p v k b w.others (side_moment S v.signature.values (last_moment k) b (renamed_choice f c) (renamed_side f side) (last_of_it p v k w.others) there (side_image c side is) u);
            ordered = with_last_ordered h.start h.steps a w.ordered.0 w.ordered.1 q.1;
            sorted = with_last_ordered k.start k.steps b w.sorted.0 w.sorted.1 q.2;
          } in
          let r = settled_pair (with_last h a) (with_last k b) x pair j in
          (r.0, record { outcome = Next b; assumed = u; settled = r.1 }, r.2)
      go there (Clash l) (Clash m) q s u j = (Stopped, record { outcome = Clash m; assumed = u; settled = refl }, subst (λ z. Paired z Stopped) (sym j) tt)
      go there (Next a) (Clash m) q s u j = absurd q
      go there (Clash l) (Next b) q s u j = absurd q

  -- ---- trees

  -- a tree derived at the state, as deep, as dear, and with the image of the choice at its root
  abbrev HasImage : State → Tree → Type 0
  HasImage z t = (u : Tree) × Derives p z u × (depth u ≡ depth t) × (cost p u ≡ cost p t) × (root_choice u ≡ option_map (renamed_choice f) (root_choice t))

  -- a tree derived where the object is assumed to be the value, as deep and as dear
  abbrev HasCase : History → Term → ℕ → Tree → Type 0
  HasCase k t o u = (w : Tree) × ((z : State) × Takes p k (CasesOn t) (Is o) z × Derives p z w) × (depth w ≡ depth u) × (cost p w ≡ cost p u)

  -- of each case, with the image of its object
  abbrev HaveCases : History → Term → Chain → Type 0
  HaveCases k t End = Unit {0}
  HaveCases k t (More o u c) = HasCase k t (f o) u × HaveCases k t c

  case_of : (k : History) (t : Term) (c : Chain) (o : ℕ) (u : Tree) → IsCase o u c → HaveCases k t c → HasCase k t (f o) u
  case_of k t End o u i a = absurd i
  case_of k t (More e w c) o u (inl q) a = subst (λ x. HasCase k t (f x) u) q.0 (subst (HasCase k t (f e)) q.1 a.0)
  case_of k t (More e w c) o u (inr i) a = case_of k t c o u i a.1

  -- cases on these objects, each from that of the object's image by g
  abbrev HasChain : History → Term → Chain → List ℕ → Type 0
  HasChain k t c os =
      (x : Chain) × (objects_in x ≡ os) × DerivesEach p k t x × ((o : ℕ) (u : Tree) → IsCase o u x → (w : Tree) × IsCase (g o) w c × (depth w ≡ depth u) × (cost p w ≡ cost p u))

  chain_along : (k : History) (t : Term) (c : Chain) → HaveCases k t c → (os : List ℕ) → ((o : ℕ) → IsIn o os → IsIn (g o) (objects_in c)) → HasChain k t c os
  chain_along k t c a [] h = (End, refl, tt, λ o u i. absurd i)
  chain_along k t c a (e ∷ os) h =
      let rest = chain_along k t c a os (λ o i. h o (inr i)) in
      let old = has_tree (g e) c (h e (inl refl)) in
      let new = subst (λ x. HasCase k t x old.0) (y.renaming.there e) (case_of k t c (g e) old.0 old.1 a) in (
        More e new.0 rest.0,
        ap (λ xs. e ∷ xs) rest.1,
        (new.1, rest.2),
        λ o u i. ⊎_elim
            (λ q. (old.0, subst (λ x. IsCase (g x) old.0 c) q.0 old.1, sym new.2 ∙ ap depth q.1, sym new.3 ∙ ap (cost p) q.1))
            (λ j. rest.3 o u j)
            i,
      )

  objects_are_sides : (h : History) (t : Term) (c : Chain) → objects_in c ≡ left S (last_moment h) t → Each (λ e. IsSideOf S (CasesOn t) (Is e)) (objects_in c)
  objects_are_sides h t c q = subst (Each (λ e. IsSideOf S (CasesOn t) (Is e))) (sym q) (each_of (λ e. IsSideOf S (CasesOn t) (Is e)) (left S (last_moment h) t) (left_is_side S (last_moment h) t))

  returned : (h k : History) (t : Term) (c : Chain) → IsPair h k → objects_in c ≡ left S (last_moment h) t → (o : ℕ) → IsIn o (left S (last_moment k) (renamed_term f t)) → IsIn (g o) (objects_in c)
  returned h k t c w q o i =
      let back = left_image S g f (last_moment k) (last_moment h) (mirror_turned S f g (last_moment h) (last_moment k) (lasts h k w)) (renamed_term f t) o i in
      subst (IsIn (g o)) (sym q) (subst (λ u. IsIn (g o) (left S (last_moment h) u)) (term_back f g y.renaming.back t) back)

  -- the case of the object's image has the tree that was made of the object's own
  matched : (h k : History) (t : Term) (c : Chain) → IsPair h k → objects_in c ≡ left S (last_moment h) t → (r : HasChain k (renamed_term f t) c (left S (last_moment k) (renamed_term f t))) → (o : ℕ) (u : Tree) → IsCase o u c
      → (x : ℕ) × (z : Tree) × IsCase x z r.0 × (depth z ≡ depth u) × (cost p z ≡ cost p u)
  matched h k t c w q r o u i =
      let gone : IsIn (f o) (objects_in r.0) = subst (IsIn (f o)) (sym r.1) (left_image S f g (last_moment h) (last_moment k) (lasts h k w) t o (subst (IsIn o) q (has_object o u c i))) in
      let new = has_tree (f o) r.0 gone in
      let old = r.3 (f o) new.0 new.1 in
      let same : old.0 ≡ u = one_tree o old.0 u c (subst AreDistinct (sym q) (distinct_left S (last_moment h) t)) (subst (λ x. IsCase x old.0 c) (y.renaming.back o) old.1) i in
      (f o, new.0, new.1, sym old.2 ∙ ap depth same, sym old.3 ∙ ap (cost p) same)

  as_deep : (h k : History) (t : Term) (c : Chain) → IsPair h k → objects_in c ≡ left S (last_moment h) t → (r : HasChain k (renamed_term f t) c (left S (last_moment k) (renamed_term f t))) → chain_depth r.0 ≡ chain_depth c
  as_deep h k t c w q r =
      let same : greatest depth r.0 ≡ greatest depth c = same_greatest depth c r.0
      (λ o u i. let x = matched h k t c w q r o u i in (x.0, x.1, x.2, x.3)) (λ o u i. let x = r.3 o u i in (g o, x.0, x.1, x.2)) in
      greatest_depth r.0 ∙ same ∙ sym (greatest_depth c)

  as_dear : (h k : History) (t : Term) (c : Chain) → IsPair h k → objects_in c ≡ left S (last_moment h) t → (r : HasChain k (renamed_term f t) c (left S (last_moment k) (renamed_term f t))) → chain_cost p r.0 ≡ chain_cost p c
  as_dear h k t c w q r =
      let same : greatest (cost p) r.0 ≡ greatest (cost p) c = same_greatest (cost p) c r.0
      (λ o u i. let x = matched h k t c w q r o u i in (x.0, x.1, x.2, x.4)) (λ o u i. let x = r.3 o u i in (g o, x.0, x.1, x.3)) in
      greatest_cost p r.0 ∙ same ∙ sym (greatest_cost p c)

  cases_whole : (h k : History) (t : Term) (c : Chain) → IsPair h k → Derives p (At h) (Cases t c) → HasChain k (renamed_term f t) c (left S (last_moment k) (renamed_term f t)) → HasImage (At k) (Cases t c)
  cases_whole h k t c w d r =
      let m = lasts h k w in (
        Cases (renamed_term f t) r.0,
        (m.images.there.values t d.0, split_image S f g (last_moment h) (last_moment k) m t ∙ d.1, r.1, r.2),
        ap (λ n. n + 1) (as_deep h k t c w d.2 r),
        ap (λ n. n + 1) (as_dear h k t c w d.2 r),
        refl,
      )

  mutual
    states_image : (t : Tree) (x z : State) → Paired x z → Derives p x t → HasImage z t
    states_image Goal (At h) (At k) w d = (Goal, met_image p f g h k y (start_mirror h k w) (step_mirrors h k w) d, refl, refl, refl)
    states_image Impossible Stopped Stopped w d = (Impossible, refl, refl, refl, refl)
    states_image Impossible (At h) z w d = absurd (true≢false (sym (ap is_clash d)))
    states_image Impossible Stopped (At k) w d = absurd w
    states_image (Do i t) (At h) (At k) w d =
        let r = acts_image h k i d.1.0 w d.0 d.1.1 in
        let u = states_image t d.1.0 r.0 r.2 d.1.2 in (
          Do (renamed_instance f i) u.0,
          (instances_image p f g (last_moment h) (last_moment k) y (lasts h k w) i d.0, (r.0, r.1, u.1)),
          ap (λ n. n + 1) u.2,
          ap (λ n. (schema_of p i.action).cost + n) u.3,
          refl,
        )
    states_image (Branch c t u) (At h) (At k) w d =
        let m = lasts h k w in
        let r = takes_image h k (BranchOn c) AsTrue d.2.0 w d.0 tt d.2.1 in
        let q = takes_image h k (BranchOn c) AsFalse d.3.0 w d.0 tt d.3.1 in
        let a = states_image t d.2.0 r.0 r.2 d.2.2 in
        let b = states_image u d.3.0 q.0 q.2 d.3.2 in (
          Branch (renamed_conj f c) a.0 b.0,
          (member_image S f g (last_moment h) (last_moment k) m (BranchOn c) d.0, undecided_image S f g (last_moment h) (last_moment k) m c ∙ d.1, (r.0, r.1, a.1), (q.0, q.1, b.1)),
          (λ i. max (a.2 i) (b.2 i) + 1),
          (λ i. max (a.3 i) (b.3 i) + 1),
          refl,
        )
    states_image (Cases t c) (At h) (At k) w d =
        let all = cases_image c h k t w d.0 (objects_are_sides h t c d.2) d.3 in
        cases_whole h k t c w d (chain_along k (renamed_term f t) c all (left S (last_moment k) (renamed_term f t)) (returned h k t c w d.2))
    states_image Goal Stopped z w d = absurd d
    states_image (Do i t) Stopped z w d = absurd d
    states_image (Branch c t u) Stopped z w d = absurd d
    states_image (Cases t c) Stopped z w d = absurd d
    states_image Goal (At h) Stopped w d = absurd w
    states_image (Do i t) (At h) Stopped w d = absurd w
    states_image (Branch c t u) (At h) Stopped w d = absurd w
    states_image (Cases t c) (At h) Stopped w d = absurd w

    cases_image : (c : Chain) (h k : History) (t : Term) → IsPair h k → IsIn t (last_moment h).kv → Each (λ e. IsSideOf S (CasesOn t) (Is e)) (objects_in c) → DerivesEach p h t c → HaveCases k (renamed_term f t) c
    cases_image End h k t w i a d = tt
    cases_image (More e u c) h k t w i a d =
        let r = takes_image h k (CasesOn t) (Is e) d.0.0 w i a.0 d.0.1 in
        let b = states_image u d.0.0 r.0 r.2 d.0.2 in
        ((b.0, (r.0, r.1, b.1), b.2, b.3), cases_image c h k t w i a.1 d.1)

pub equal_tree : (p : Problem) (f g : ℕ → ℕ) (h k : History) (t : Tree) → IsValid p → IsSymmetry p f g → AreImagesAlong f g h k → AreMomentsOf p h → AreMomentsOf p k → AreOrdered h.start h.steps → AreOrdered k.start k.steps → Derives p (At h) t
    → (u : Tree) × Derives p (At k) u × (depth u ≡ depth t) × (cost p u ≡ cost p t) × (root_choice u ≡ option_map (renamed_choice f) (root_choice t))
equal_tree p f g h k t v s a m n o q d = states_image p f g v s t (At h) (At k) (record { images = a; moments = m; others = n; ordered = o; sorted = q }) d
