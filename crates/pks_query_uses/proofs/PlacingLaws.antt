-- A literal put in its place in lists in order.
use Rattle.std.proofs.Common.{◌≡◌, ◌||◌, Bool, true, false, cond, List, [], ◌∷◌, filter, Some, None, Ordering, refl, sym, ap, ◌∙◌, subst, true≢false, inl, ⊎_elim}
use Rattle.std.specs.List.{list_any}
use Rattle.std.specs.Prelude.{Vec}
use Rattle.std.specs.Global.{Global}
use Rattle.std.specs.Ordering.{on, is_eq}
use Rattle.std.specs.Cmp.{IsTotalOrder}
use Rattle.std.specs.FinMap.{IsAntisymmetric}
use Rattle.std.specs.declared.cmp.Ordering.TheVariants.{Less, Equal, Greater}
use Rattle.std.specs.BTreeMap.{get, is_at, get_by}
use Rattle.pks_terms.specs.declared.term.Term.{Term as DTerm}
use Rattle.pks_terms.specs.declared.literal.Literal.{Literal as DLiteral}
use Rattle.pks_terms.specs.Syntax.{Term, Literal}
use Rattle.pks_terms.specs.Orders.{term_cmp, term_eq, literal_cmp, literal_eq}
use Rattle.pks_terms.specs.Totality.{literal_cmp_total}
use Rattle.pks_terms.specs.Views.{term_of, literals_in}
use Rattle.pks_terms.specs.Sets.{Each, IsIn, IsOrdered, insert_in}
use Rattle.pks_terms.specs.Closure.{put_in}
use Rattle.pks_terms.proofs.ListLaws.{found_in, each_kept, each_weaker}
use Rattle.pks_terms.proofs.OrderLaws.{literal_cmp_tells, same_term, same_literal}
use Rattle.pks_terms.proofs.SetLaws.{added-nothing_new, ordered_insert, inserted_in}
use Rattle.pks_query_uses.specs.Occurring.{is_among}
use Rattle.pks_query_uses.specs.Indexes.{Index, found_items, items_at, PutsIn}

-- ---- one list

already_in : (l : Literal) (ls : List Literal) → IsOrdered literal_cmp ls → IsIn l ls → insert_in literal_cmp l ls ≡ ls
already_in l ls h i = added-nothing_new literal_cmp_total literal_cmp_tells ls (l ∷ []) h (λ z j. ⊎_elim (λ e. subst (λ m. IsIn m ls) e i) (λ k. absurd k) j)

pub there_already : (l : Literal) (ls : List Literal) → list_any (literal_eq l) ls ≡ true → IsOrdered literal_cmp ls → ls ≡ insert_in literal_cmp l ls
there_already l ls e h =
    let f = found_in (literal_eq l) ls e in
    sym (already_in l ls h (subst (λ m. IsIn m ls) (sym (same_literal l f.0 f.2)) f.1))

pub put_there : (l : Literal) (ls : List Literal) → list_any (literal_eq l) ls ≡ false → put_in l ls ≡ insert_in literal_cmp l ls
unfolding literal_eq
put_there l [] h = refl
put_there l (m ∷ ms) h =
    elim (literal_cmp l m) as (λ o. is_eq o || list_any (literal_eq l) ms ≡ false → ◌≡◌ {A = List Literal} (elim o [ Less ↦ l ∷ m ∷ ms | Equal ↦ l ∷ m ∷ ms | Greater ↦ m ∷ put_in l ms ]) (elim o [ Less ↦ l ∷ m ∷ ms | Equal ↦ m ∷ ms | Greater ↦ m ∷ insert_in literal_cmp l ms ])) [
      | Less ↦ λ k. refl
      | Equal ↦ λ k. absurd (true≢false k)
      | Greater ↦ λ k. ap (λ ns. m ∷ ns) (put_there l ms k)
    ] h

-- ---- at one term, and at several

pub placed_at : (m n o : Index DLiteral) (k : DTerm) (l : Literal) (v : Vec DLiteral Global)
    → ((q : DTerm) → get (on term_of term_cmp) n q ≡ cond (is_at (λ y. term_cmp (term_of k) (term_of y)) q) None (get (on term_of term_cmp) m q))
    → ((q : DTerm) → get (on term_of term_cmp) o q ≡ cond (is_at (λ y. term_cmp (term_of k) (term_of y)) q) (Some v) (get (on term_of term_cmp) n q))
    → (IsOrdered literal_cmp (literals_in (items_at m k)) → literals_in v.items ≡ insert_in literal_cmp l (literals_in (items_at m k)))
    → PutsIn m o (term_of k ∷ []) l
unfolding term_eq
placed_at m n o k l v removed inserted items = record {
  gives = λ q ordered.
      let same : Bool = is_eq (term_cmp (term_of k) (term_of q)) in
      ap (λ x. literals_in (found_items x)) (inserted q ∙ ap (λ y. cond same (Some v) y) (removed q))
      ∙ elim same as (λ b. same ≡ b → literals_in (found_items (cond b (Some v) (cond b None (get (on term_of term_cmp) m q)))) ≡ cond (b || false) (insert_in literal_cmp l (literals_in (items_at m q))) (literals_in (items_at m q))) [
        | true ↦ λ h. let e : items_at m k ≡ items_at m q = ap (λ (t : Term). found_items (get_by (λ y. term_cmp t (term_of y)) m)) (same_term (term_of k) (term_of q) h) in
            items (subst (λ xs. IsOrdered literal_cmp (literals_in xs)) (sym e) ordered) ∙ ap (λ xs. insert_in literal_cmp l (literals_in xs)) e
        | false ↦ λ h. refl
      ] refl;
}

-- the index lacks the literal at the rest of the terms
pub record PutsInBut (rest : List Term) (old now : Index DLiteral) (ts : List Term) (l : Literal) : Type 0 where
  pub ordered : (t : DTerm) → IsOrdered literal_cmp (literals_in (items_at old t)) → IsOrdered literal_cmp (literals_in (items_at now t))
  pub gives : (t : DTerm) → IsOrdered literal_cmp (literals_in (items_at old t))
      → cond (is_among (term_of t) rest) (insert_in literal_cmp l (literals_in (items_at now t))) (literals_in (items_at now t)) ≡ cond (is_among (term_of t) ts) (insert_in literal_cmp l (literals_in (items_at old t))) (literals_in (items_at old t))

pub placed_none : (old : Index DLiteral) (rest ts : List Term) (l : Literal) → rest ≡ ts → PutsInBut rest old old ts l
placed_none old rest ts l e = record {
  ordered = λ t h. h;
  gives = λ t h. ap (λ us. cond (is_among (term_of t) us) (insert_in literal_cmp l (literals_in (items_at old t))) (literals_in (items_at old t))) e;
}

in_order : (b : Bool) (l : Literal) (ls : List Literal) → IsOrdered literal_cmp ls → IsOrdered literal_cmp (cond b (insert_in literal_cmp l ls) ls)
in_order true l ls h = ordered_insert literal_cmp_total literal_cmp_tells l ls h
in_order false l ls h = h

-- what is put in once more changes nothing
put_twice : (a b : Bool) (l : Literal) (ls : List Literal) → IsOrdered literal_cmp ls → cond b (insert_in literal_cmp l (cond a (insert_in literal_cmp l ls) ls)) (cond a (insert_in literal_cmp l ls) ls) ≡ cond (a || b) (insert_in literal_cmp l ls) ls
put_twice true true l ls h = already_in l (insert_in literal_cmp l ls) (in_order true l ls h) (inserted_in literal_cmp_total literal_cmp_tells l ls l (inl refl))
put_twice true false l ls h = refl
put_twice false b l ls h = refl

or_nothing : (b : Bool) → (b || false) ≡ b
or_nothing true = refl
or_nothing false = refl

pub placed_more : (old now next : Index DLiteral) (u : Term) (rest ts : List Term) (l : Literal) → PutsInBut (u ∷ rest) old now ts l → PutsIn now next (u ∷ []) l → PutsInBut rest old next ts l
placed_more old now next u rest ts l b p = record {
  ordered = λ t h. subst (IsOrdered literal_cmp) (sym (p.gives t (b.ordered t h))) (in_order (is_among (term_of t) (u ∷ [])) l (literals_in (items_at now t)) (b.ordered t h));
  gives = λ t h.
      let ls : List Literal = literals_in (items_at now t) in
      let one : Bool = term_eq u (term_of t) in
      let more : Bool = is_among (term_of t) rest in
      ap (λ xs. cond more (insert_in literal_cmp l xs) xs) (p.gives t (b.ordered t h) ∙ ap (λ c. cond c (insert_in literal_cmp l ls) ls) (or_nothing one))
      ∙ put_twice one more l ls (b.ordered t h)
      ∙ b.gives t h;
}

pub placed_all : (old now : Index DLiteral) (ts : List Term) (l : Literal) → PutsInBut [] old now ts l → PutsIn old now ts l
placed_all old now ts l b = record { gives = b.gives }

-- ---- what passes a test

module _ {X : Type 0} {cmp : X → X → Ordering} (o : IsTotalOrder cmp) (tells : IsAntisymmetric cmp) (p : X → Bool) where
  put_first : (x : X) (xs : List X) → Each (λ y. cmp x y ≡ Less) xs → insert_in cmp x xs ≡ x ∷ xs
  put_first x [] h = refl
  put_first x (y ∷ ys) h = ap (λ r. elim r [ Less ↦ x ∷ y ∷ ys | Equal ↦ y ∷ ys | Greater ↦ y ∷ insert_in cmp x ys ]) h.0

  pub filter_insert : (x : X) (xs : List X) → IsOrdered cmp xs → filter p (insert_in cmp x xs) ≡ cond (p x) (insert_in cmp x (filter p xs)) (filter p xs)
  filter_insert x [] h = refl
  filter_insert x (y ∷ ys) h =
      elim (cmp x y) as (λ r. cmp x y ≡ r → filter p (elim r [ Less ↦ x ∷ y ∷ ys | Equal ↦ y ∷ ys | Greater ↦ y ∷ insert_in cmp x ys ]) ≡ cond (p x) (insert_in cmp x (filter p (y ∷ ys))) (filter p (y ∷ ys))) [
        | Less ↦ λ e. ap (λ zs. cond (p x) zs (filter p (y ∷ ys))) (sym (put_first x (filter p (y ∷ ys)) (each_kept (λ z. cmp x z ≡ Less) p (y ∷ ys) (e, each_weaker (λ z. cmp y z ≡ Less) (λ z. cmp x z ≡ Less) (λ z k. o.trans x y z e k) ys h.0))))
        | Equal ↦ λ e. same e
        | Greater ↦ λ e. later e (filter_insert x ys h.1)
      ] refl
    where
      rest : List X
      rest = filter p ys

      step : Ordering → List X
      step r = elim r [ Less ↦ x ∷ y ∷ rest | Equal ↦ y ∷ rest | Greater ↦ y ∷ insert_in cmp x rest ]

      same : cmp x y ≡ Equal → cond (p y) (y ∷ rest) rest ≡ cond (p x) (insert_in cmp x (cond (p y) (y ∷ rest) rest)) (cond (p y) (y ∷ rest) rest)
      same e =
          subst (λ b. cond (p y) (y ∷ rest) rest ≡ cond b (insert_in cmp x (cond (p y) (y ∷ rest) rest)) (cond (p y) (y ∷ rest) rest)) (ap p (sym (tells x y e)))
          (elim (p y) as (λ b. cond b (y ∷ rest) rest ≡ cond b (insert_in cmp x (cond b (y ∷ rest) rest)) (cond b (y ∷ rest) rest)) [
            | true ↦ sym (ap step e)
            | false ↦ refl
          ])

      later : cmp x y ≡ Greater → filter p (insert_in cmp x ys) ≡ cond (p x) (insert_in cmp x (filter p ys)) (filter p ys) → cond (p y) (y ∷ filter p (insert_in cmp x ys)) (filter p (insert_in cmp x ys)) ≡ cond (p x) (insert_in cmp x (cond (p y) (y ∷ rest) rest)) (cond (p y) (y ∷ rest) rest)
      later e before =
          ap (λ zs. cond (p y) (y ∷ zs) zs) before
          ∙ elim (p y) as (λ b. cond b (y ∷ cond (p x) (insert_in cmp x rest) rest) (cond (p x) (insert_in cmp x rest) rest) ≡ cond (p x) (insert_in cmp x (cond b (y ∷ rest) rest)) (cond b (y ∷ rest) rest)) [
            | true ↦ elim (p x) as (λ c. y ∷ cond c (insert_in cmp x rest) rest ≡ cond c (insert_in cmp x (y ∷ rest)) (y ∷ rest)) [ true ↦ sym (ap step e) | false ↦ refl ]
            | false ↦ refl
          ]
