-- Going through the objects of each slot goes through the instances.
use Rattle.std.proofs.Common.{◌≡◌, ◌≤◌, ◌++◌, ℕ, suc, Bool, true, false, cond, List, [], ◌∷◌, map, take, length, filter, flat_map, Option, Some, None, refl, sym, ap, ◌∙◌, arith, append_assoc, append-nil}
use Rattle.std.specs.Option.{option_map}
use Rattle.pks_terms.specs.Syntax.{Inner, Term, Atom, object}
use Rattle.pks_terms.specs.Orders.{number_of}
use Rattle.pks_terms.specs.Sets.{Each}
use Rattle.pks_terms.specs.declared.term.Term as term
use Rattle.pks_terms.specs.declared.literal.PredAtom.{PredAtom}
use Rattle.pks_terms.specs.Views.{term_of, atom_of, sense_of}
use Rattle.std.proofs.lemmas.List.{length-map, take_all}
use Rattle.pks_terms.specs.Signatures.{Signature, objects_of}
use Rattle.pks_terms.specs.Worlds.{World, value_of}
use Rattle.pks_terms.specs.Actions.{Sense, Instance, sense_at, instances_of, seen, observed}
use Rattle.pks_terms.specs.Problems.{Problem, schema_of}
use Rattle.pks_terms.specs.Knowledge.{observations}
use Rattle.pks_terms.specs.declared.schema.Sense as sense
use Rattle.pks_terms.proofs.ListLaws.{flat_map_alike}
use Rattle.pks_world.specs.Contents.{ground}
use Rattle.pks_world.specs.Observed.{objects_in, range_at, slot_range, true_at, row, plane, grid}

flat-append : {X Y : Type 0} (f : X → List Y) (xs ys : List X) → flat_map f (xs ++ ys) ≡ flat_map f xs ++ flat_map f ys
flat-append f [] ys = refl
flat-append f (x ∷ xs) ys = ap (λ zs. f x ++ zs) (flat-append f xs ys) ∙ sym (append_assoc (f x) (flat_map f xs) (flat_map f ys))

flat-flat : {X Y Z : Type 0} (f : Y → List Z) (g : X → List Y) (xs : List X) → flat_map f (flat_map g xs) ≡ flat_map (λ x. flat_map f (g x)) xs
flat-flat f g [] = refl
flat-flat f g (x ∷ xs) = flat-append f (g x) (flat_map g xs) ∙ ap (λ zs. flat_map f (g x) ++ zs) (flat-flat f g xs)

flat-mapped : {X Y Z : Type 0} (f : Y → List Z) (g : X → Y) (xs : List X) → flat_map f (map g xs) ≡ flat_map (λ x. f (g x)) xs
flat-mapped f g [] = refl
flat-mapped f g (x ∷ xs) = ap (λ zs. f (g x) ++ zs) (flat-mapped f g xs)

-- the true ones of a list
true_ones : (w : World) (p : ℕ) (dss : List (List ℕ)) → flat_map (true_at w p) dss ≡ map (ground p) (filter (w.truth p) dss)
true_ones w p [] = refl
true_ones w p (ds ∷ dss) = more (w.truth p ds) (filter (w.truth p) dss) (true_ones w p dss)
  where
    more : (b : Bool) (yss : List (List ℕ)) {xs : List Atom} → xs ≡ map (ground p) yss → (cond b (ground p ds ∷ []) []) ++ xs ≡ map (ground p) (cond b (ds ∷ yss) yss)
    more true yss e = ap (λ zs. ground p ds ∷ zs) e
    more false yss e = e

module _ (s : Signature) (w : World) (p : ℕ) where
  -- the true instances, slot by slot
  instances_more : (a : ℕ) (o : Option Term) (tys : List ℕ) (ss : List (Option Term)) → instances_of s w (a ∷ tys) (o ∷ ss) ≡ flat_map (λ d. map (λ ds. d ∷ ds) (instances_of s w tys ss)) (range_at s w (Some a) (Some o))
  instances_more a None tys ss = refl
  instances_more a (Some t) tys ss = sym (append-nil (map (λ ds. value_of w t ∷ ds) (instances_of s w tys ss)))

  -- what is gathered from the instances, slot by slot
  from_more : (F : List ℕ → List Atom) (a : ℕ) (o : Option Term) (tys : List ℕ) (ss : List (Option Term)) → flat_map F (instances_of s w (a ∷ tys) (o ∷ ss)) ≡ flat_map (λ d. flat_map (λ ds. F (d ∷ ds)) (instances_of s w tys ss)) (range_at s w (Some a) (Some o))
  from_more F a o tys ss =
      ap (flat_map F) (instances_more a o tys ss)
      ∙ flat-flat F (λ d. map (λ ds. d ∷ ds) (instances_of s w tys ss)) (range_at s w (Some a) (Some o))
      ∙ flat_map_alike (λ d. flat_map F (map (λ ds. d ∷ ds) (instances_of s w tys ss))) (λ d. flat_map (λ ds. F (d ∷ ds)) (instances_of s w tys ss)) (λ d. flat-mapped F (λ ds. d ∷ ds) (instances_of s w tys ss)) (range_at s w (Some a) (Some o))

  abbrev all_of : List ℕ → List (Option Term) → List Atom
  all_of tys ss = grid w p (length ss) (slot_range s w tys ss 0) (slot_range s w tys ss 1) (slot_range s w tys ss 2)

  grid_is : (tys : List ℕ) (ss : List (Option Term)) → length tys ≡ length ss → length ss ≤ 3 → all_of tys ss ≡ flat_map (true_at w p) (instances_of s w tys ss)
  grid_is [] [] e h = append-nil _ ∙ append-nil _
  grid_is [] (o ∷ ss) e h = cc
  grid_is (a ∷ tys) [] e h = cc
  grid_is (a ∷ []) (o ∷ []) e h =
      flat_map_alike (λ d. plane w p 1 d (0 ∷ []) (0 ∷ [])) (λ d. flat_map (λ ds. true_at w p (d ∷ ds)) (instances_of s w [] [])) (λ d. append-nil _) (range_at s w (Some a) (Some o)) ∙ sym (from_more (true_at w p) a o [] [])
  grid_is (a ∷ []) (o ∷ q ∷ ss) e h = absurd (omega arith)
  grid_is (a ∷ b ∷ tys) (o ∷ []) e h = absurd (omega arith)
  grid_is (a ∷ b ∷ []) (o ∷ q ∷ []) e h =
      flat_map_alike (λ d. plane w p 2 d (range_at s w (Some b) (Some q)) (0 ∷ [])) (λ d. flat_map (λ ds. true_at w p (d ∷ ds)) (instances_of s w (b ∷ []) (q ∷ [])))
      (λ d. sym (from_more (λ ds. true_at w p (d ∷ ds)) b q [] [])) (range_at s w (Some a) (Some o)) ∙ sym (from_more (true_at w p) a o (b ∷ []) (q ∷ []))
  grid_is (a ∷ b ∷ []) (o ∷ q ∷ r ∷ ss) e h = absurd (omega arith)
  grid_is (a ∷ b ∷ c ∷ tys) (o ∷ q ∷ []) e h = absurd (omega arith)
  grid_is (a ∷ b ∷ c ∷ []) (o ∷ q ∷ r ∷ []) e h =
      flat_map_alike (λ d. plane w p 3 d (range_at s w (Some b) (Some q)) (range_at s w (Some c) (Some r))) (λ d. flat_map (λ ds. true_at w p (d ∷ ds)) (instances_of s w (b ∷ c ∷ []) (q ∷ r ∷ [])))
      (λ d.
      flat_map_alike (λ e. row w p 3 d e (range_at s w (Some c) (Some r))) (λ e. flat_map (λ ds. true_at w p (d ∷ e ∷ ds)) (instances_of s w (c ∷ []) (r ∷ [])))
      (λ e.
      flat_map_alike (λ f. true_at w p (d ∷ e ∷ f ∷ [])) (λ f. flat_map (λ ds. true_at w p (d ∷ e ∷ f ∷ ds)) (instances_of s w [] [])) (λ f. sym (append-nil _)) (range_at s w (Some c) (Some r))
      ∙ sym (from_more (λ ds. true_at w p (d ∷ e ∷ ds)) c r [] []))
      (range_at s w (Some b) (Some q))
      ∙ sym (from_more (λ ds. true_at w p (d ∷ ds)) b q (c ∷ []) (r ∷ []))) (range_at s w (Some a) (Some o)) ∙ sym (from_more (true_at w p) a o (b ∷ c ∷ []) (q ∷ r ∷ []))
  grid_is (a ∷ b ∷ c ∷ d ∷ tys) (o ∷ q ∷ r ∷ []) e h = absurd (omega arith)
  grid_is (a ∷ b ∷ c ∷ tys) (o ∷ q ∷ r ∷ t ∷ ss) e h = absurd (omega arith)

  -- the true instances in order
  pub grid_all : (tys : List ℕ) (ss : List (Option Term)) → length tys ≡ length ss → length ss ≤ 3 → grid w p (length ss) (slot_range s w tys ss 0) (slot_range s w tys ss 1) (slot_range s w tys ss 2) ≡ map (ground p) (filter (w.truth p) (instances_of s w tys ss))
  grid_all tys ss e h = grid_is tys ss e h ∙ true_ones w p (instances_of s w tys ss)

  -- there are none where the slots are too many or too few
  pub no_instances : (tys : List ℕ) (ss : List (Option Term)) → (length tys ≡ length ss → ⊥) → instances_of s w tys ss ≡ []
  no_instances [] [] h = absurd (h refl)
  no_instances [] (None ∷ ss) h = refl
  no_instances [] (Some t ∷ ss) h = refl
  no_instances (a ∷ tys) [] h = refl
  no_instances (a ∷ tys) (None ∷ ss) h = ap (λ xs. flat_map (λ d. map (λ ds. d ∷ ds) xs) (objects_of s a)) (no_instances tys ss (λ e. h (ap suc e))) ∙ nothing (objects_of s a)
    where
      nothing : (ds : List ℕ) → flat_map (λ d. map (λ es. d ∷ es) []) ds ≡ []
      nothing [] = refl
      nothing (d ∷ ds) = nothing ds
  no_instances (a ∷ tys) (Some t ∷ ss) h = ap (λ xs. map (λ ds. value_of w t ∷ ds) xs) (no_instances tys ss (λ e. h (ap suc e)))

  pub found_all : (tys : List ℕ) (slots : List (Option term.Term)) (ds es fs : List ℕ) → length tys ≡ length slots → length slots ≤ 3
      → ds ≡ slot_range s w tys (map (option_map term_of) slots) 0 → es ≡ slot_range s w tys (map (option_map term_of) slots) 1 → fs ≡ slot_range s w tys (map (option_map term_of) slots) 2
      → grid w p (length slots) ds es fs ≡ map (ground p) (filter (w.truth p) (instances_of s w tys (map (option_map term_of) slots)))
  found_all tys slots ds es fs e h x y z =
      let long : length (map (option_map term_of) slots) ≡ length slots = length-map slots (option_map term_of) in
      (λ i. grid w p (sym long i) (x i) (y i) (z i)) ∙ grid_all tys (map (option_map term_of) slots) (e ∙ sym long) (omega arith)

  pub found_none : (tys : List ℕ) (slots : List (Option term.Term)) → (length tys ≡ length slots → ⊥) → ◌≡◌ {A = List Atom} [] (map (ground p) (filter (w.truth p) (instances_of s w tys (map (option_map term_of) slots))))
  found_none tys slots h = ap (λ dss. map (ground p) (filter (w.truth p) dss)) (sym (no_instances tys (map (option_map term_of) slots) (λ e. h (e ∙ length-map slots (option_map term_of)))))

objects_back : (ds : List ℕ) → map number_of (map (λ d. object d) ds) ≡ ds
objects_back [] = refl
objects_back (d ∷ ds) = λ i. d ∷ objects_back ds i

-- the objects of the atoms that were found
pub objects_found : (p : ℕ) (atoms : List PredAtom) (dss : List (List ℕ)) → map atom_of atoms ≡ map (ground p) dss → map objects_in atoms ≡ dss
objects_found p [] [] e = refl
objects_found p [] (ds ∷ dss) e = cc
objects_found p (a ∷ atoms) [] e = cc
objects_found p (a ∷ atoms) (ds ∷ dss) e =
    let h : atom_of a ≡ ground p ds = cc in
    let t : map atom_of atoms ≡ map (ground p) dss = cc in
    λ i. (ap (λ (x : Atom). map number_of x.arguments) h ∙ objects_back ds) i ∷ objects_found p atoms dss t i

pub ground_found : (p : ℕ) (atoms : List PredAtom) (dss : List (List ℕ)) → map atom_of atoms ≡ map (ground p) dss → Each (λ a. atom_of a ≡ ground p (objects_in a)) atoms
ground_found p [] dss e = tt
ground_found p (a ∷ atoms) [] e = cc
ground_found p (a ∷ atoms) (ds ∷ dss) e =
    let h : atom_of a ≡ ground p ds = cc in
    let t : map atom_of atoms ≡ map (ground p) dss = cc in
    (h ∙ ap (ground p) (sym (ap (λ (x : Atom). map number_of x.arguments) h ∙ objects_back ds)), ground_found p atoms dss t)

sensed_all : (s : Signature) (w : World) (given : List Inner) (xs : List sense.Sense) → map (λ x. seen s w (sense_at given (sense_of x))) xs ≡ map (seen s w) (map (sense_at given) (map sense_of xs))
sensed_all s w given [] = refl
sensed_all s w given (x ∷ xs) = λ i. seen s w (sense_at given (sense_of x)) ∷ sensed_all s w given xs i

-- what is found by all senses of an action
pub observed_is : (p : Problem) (w : World) (i : Instance) (xs : List sense.Sense) (n : ℕ) → length xs ≤ n → map sense_of xs ≡ (schema_of p i.action).senses
    → map (λ x. seen p.signature w (sense_at i.arguments (sense_of x))) (take n xs) ≡ observations p w i
unfolding observations observed
observed_is p w i xs n h e =
    ap (map (λ (x : sense.Sense). seen p.signature w (sense_at i.arguments (sense_of x)))) (take_all n xs h) ∙ sensed_all p.signature w i.arguments xs
    ∙ ap (λ (ys : List Sense). map (seen p.signature w) (map (sense_at i.arguments) ys)) e
