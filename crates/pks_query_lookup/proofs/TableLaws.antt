-- Tables of values against the literals that give them.
use Rattle.std.proofs.Common.{◌≡◌, ℕ, Bool, true, false, ◌&&◌, ◌==◌, cond, List, [], ◌∷◌, ◌++◌, map, take, length, Some, None, refl, sym, ap, ◌∙◌, subst, true≢false, arith, append-nil}
use Rattle.std.specs.Prelude.{Vec}
use Rattle.std.specs.Global.{Global}
use Rattle.std.specs.Map.{lookup}
use Rattle.std.specs.List.{filter_map, cons_option}
use Rattle.std.specs.Option.{option_and_then}
use Rattle.std.specs.Ordering.{on, is_eq}
use Rattle.std.specs.Cmp.{Equal-is}
use Rattle.std.specs.FinMap.{nat_cmp-IsAntisymmetric}
use Rattle.std.specs.BTreeMap.{get, is_at, get_by}
use Rattle.std.proofs.lemmas.Bool.{and_parts, and_from, eqb-true, eq-eqb}
use Rattle.std.proofs.lemmas.Cmp.{tied_itself}
use Rattle.std.proofs.lemmas.List.{append_assoc}
use Rattle.pks_terms.specs.declared.ids.ObjId.{ObjId}
use Rattle.pks_terms.specs.declared.term.Inner as inner
use Rattle.pks_terms.specs.Syntax.{Apply, Inner, Literal}
use Rattle.pks_terms.specs.Orders.{inner_cmp, number_of, arguments_of}
use Rattle.pks_terms.specs.Totality.{inner_cmp_total}
use Rattle.pks_terms.specs.Views.{object_of, inner_of}
use Rattle.pks_terms.specs.Databases.{Told, told, same_objects, value_if_at, values_at}
use Rattle.pks_terms.proofs.Types.{both_ways}
use Rattle.pks_terms.proofs.OrderLaws.{form_cmp_tells}
use Rattle.pks_query_lookup.specs.Tables.{Table, key_at, found_objects, objects_at, values_in, told_of, IsKey, Puts, Adds, AreShort, IsTableBut, IsTableOf}

-- ---- keys

viewed : (ds : List ℕ) → map object_of (take (length ds) (map (λ d. let e : ObjId = record { 0 = d } in e) ds)) ≡ ds
viewed [] = refl
viewed (d ∷ ds) = λ i. d ∷ viewed ds i

key_viewed : (f : ℕ) (ds : List ℕ) → inner_of (key_at f ds) ≡ Apply f ds
key_viewed f ds = λ i. Apply f (viewed ds i)

-- a table has at a key what it has for the place that this says
pub at_key : (t : Table) (k : inner.Inner) (f : ℕ) (ds : List ℕ) → inner_of k ≡ Apply f ds → objects_at t k ≡ values_in t f ds
unfolding values_in
at_key t k f ds e = ap (λ (x : Inner). found_objects (get_by (λ y. inner_cmp x (inner_of y)) t)) (e ∙ sym (key_viewed f ds))

-- ---- equal places

objects_themselves : (ds : List ℕ) → same_objects ds ds ≡ true
objects_themselves [] = refl
objects_themselves (d ∷ ds) = and_from (d == d) (same_objects ds ds) (eq-eqb d d refl) (objects_themselves ds)

objects_same : (ds es : List ℕ) → same_objects ds es ≡ true → ds ≡ es
objects_same [] [] h = refl
objects_same [] (e ∷ es) h = absurd (true≢false (sym h))
objects_same (d ∷ ds) [] h = absurd (true≢false (sym h))
objects_same (d ∷ ds) (e ∷ es) h =
    let a = and_parts (d == e) (same_objects ds es) h in
    λ i. eqb-true d e a.0 i ∷ objects_same ds es a.1 i

inners_same : (t u : Inner) → is_eq (inner_cmp t u) ≡ true → t ≡ u
inners_same t u h = form_cmp_tells nat_cmp-IsAntisymmetric t u ((Equal-is (inner_cmp t u)).0 h)

same_place : (g : ℕ) (es : List ℕ) (f : ℕ) (ds : List ℕ) → is_eq (inner_cmp (Apply g es) (Apply f ds)) ≡ ((f == g) && same_objects ds es)
same_place g es f ds =
    both_ways (is_eq (inner_cmp (Apply g es) (Apply f ds))) ((f == g) && same_objects ds es)
    (λ h. let e = inners_same (Apply g es) (Apply f ds) h in
    and_from (f == g) (same_objects ds es) (eq-eqb f g (sym (ap number_of e))) (subst (λ xs. same_objects ds xs ≡ true) (sym (ap arguments_of e)) (objects_themselves ds)))
    (λ h. let p = and_parts (f == g) (same_objects ds es) h in
    let e : Apply f ds ≡ Apply g es = λ i. Apply (eqb-true f g p.0 i) (objects_same ds es p.1 i) in
    subst (λ (x : Inner). is_eq (inner_cmp (Apply g es) x) ≡ true) (sym e) (ap is_eq (tied_itself inner_cmp_total (Apply g es))))

-- ---- one more object

pub put_one : (m n o : Table) (k : inner.Inner) (d : ObjId) (v : Vec ObjId Global)
    → ((q : inner.Inner) → get (on inner_of inner_cmp) n q ≡ cond (is_at (λ y. inner_cmp (inner_of k) (inner_of y)) q) None (get (on inner_of inner_cmp) m q))
    → ((q : inner.Inner) → get (on inner_of inner_cmp) o q ≡ cond (is_at (λ y. inner_cmp (inner_of k) (inner_of y)) q) (Some v) (get (on inner_of inner_cmp) n q))
    → map object_of v.items ≡ objects_at m k ++ d.0 ∷ []
    → Puts m o k d
unfolding values_in
put_one m n o k d v removed inserted items f ds =
    let q = key_at f ds in
    let gone : get (on inner_of inner_cmp) o q ≡ cond (is_eq (inner_cmp (inner_of k) (inner_of q))) (Some v) (cond (is_eq (inner_cmp (inner_of k) (inner_of q))) None (get (on inner_of inner_cmp) m q)) = inserted q ∙ ap (λ x. cond (is_eq (inner_cmp (inner_of k) (inner_of q))) (Some v) x) (removed q) in
    ap found_objects gone
    ∙ elim (is_eq (inner_cmp (inner_of k) (inner_of q))) as (λ b. is_eq (inner_cmp (inner_of k) (inner_of q)) ≡ b → found_objects (cond b (Some v) (cond b None (get (on inner_of inner_cmp) m q))) ≡ objects_at m q ++ cond b (d.0 ∷ []) []) [
      | true ↦ λ h. items ∙ ap (λ (x : Inner). found_objects (get_by (λ y. inner_cmp x (inner_of y)) m) ++ d.0 ∷ []) (inners_same (inner_of k) (inner_of q) h)
      | false ↦ λ h. sym (append-nil (objects_at m q))
    ] refl
    ∙ ap (λ (x : Inner). objects_at m q ++ cond (is_eq (inner_cmp (inner_of k) x)) (d.0 ∷ []) []) (key_viewed f ds)

-- ---- one more literal

pushed : (b : Bool) (x : ℕ) → cons_option (cond b (Some x) None) [] ≡ cond b (x ∷ []) []
pushed true x = refl
pushed false x = refl

given_by : (l : Literal) (q : Told) → Some q ≡ told l.relation l.arguments l.positive → (f : ℕ) (ds : List ℕ) → values_at (l ∷ []) f ds ≡ cond (is_eq (inner_cmp (Apply q.0 q.1) (Apply f ds))) (q.2 ∷ []) []
unfolding values_at
given_by l q e f ds =
    ap (λ o. cons_option (option_and_then (value_if_at f ds) o) []) (sym e)
    ∙ pushed ((f == q.0) && same_objects ds q.1) q.2
    ∙ ap (λ b. cond b (q.2 ∷ []) []) (sym (same_place q.0 q.1 f ds))

none_given : (l : Literal) → None ≡ told l.relation l.arguments l.positive → (f : ℕ) (ds : List ℕ) → values_at (l ∷ []) f ds ≡ []
unfolding values_at
none_given l e f ds = ap (λ o. cons_option (option_and_then (value_if_at f ds) o) []) (sym e)

pub adds_none : (t : Table) (l : Literal) → None ≡ told l.relation l.arguments l.positive → Adds t t (l ∷ [])
adds_none t l e f ds = sym (append-nil (values_in t f ds)) ∙ ap (λ xs. values_in t f ds ++ xs) (sym (none_given l e f ds))

pub short_none : (l : Literal) → None ≡ told l.relation l.arguments l.positive → AreShort (l ∷ [])
short_none l e f ds h = none_given l e f ds

pub adds_one : (m n : Table) (l : Literal) (k : inner.Inner) (d : ObjId) → Some (told_of (k, d)) ≡ told l.relation l.arguments l.positive → IsKey k → Puts m n k d → Adds m n (l ∷ [])
adds_one m n l k d e key puts f ds =
    puts f ds ∙ ap (λ (x : Inner). values_in m f ds ++ cond (is_eq (inner_cmp x (Apply f ds))) (d.0 ∷ []) []) key.applies
    ∙ ap (λ xs. values_in m f ds ++ xs) (sym (given_by l (told_of (k, d)) e f ds))

pub short_one : (l : Literal) (k : inner.Inner) (d : ObjId) → Some (told_of (k, d)) ≡ told l.relation l.arguments l.positive → IsKey k → AreShort (l ∷ [])
short_one l k d e key f ds long =
    let place : Inner = Apply (number_of (inner_of k)) (arguments_of (inner_of k)) in
    given_by l (told_of (k, d)) e f ds
    ∙ elim (is_eq (inner_cmp place (Apply f ds))) as (λ b. is_eq (inner_cmp place (Apply f ds)) ≡ b → cond b (d.0 ∷ []) [] ≡ []) [
      | true ↦ λ h. let n : length (arguments_of (inner_of k)) ≡ length ds = ap (λ (x : Inner). length (arguments_of x)) (inners_same place (Apply f ds) h) in
          let s = key.short in absurd (omega arith)
      | false ↦ λ h. refl
    ] refl

-- ---- all literals

values_split : (l : Literal) (ls : List Literal) (f : ℕ) (ds : List ℕ) → values_at (l ∷ ls) f ds ≡ values_at (l ∷ []) f ds ++ values_at ls f ds
unfolding values_at
values_split l ls f ds =
    let h = λ (k : Literal). option_and_then (value_if_at f ds) (told k.relation k.arguments k.positive) in
    elim (h l) as (λ o. cons_option o (filter_map h ls) ≡ cons_option o [] ++ filter_map h ls) [
      | None ↦ refl
      | Some d ↦ refl
    ]

pub nothing_yet : (kf : List Literal) (t : Table) → t.entries ≡ [] → IsTableBut kf kf t
unfolding values_in
nothing_yet kf t e = record {
  gives = λ f ds. ap (λ es. found_objects (lookup (is_at (λ y. inner_cmp (inner_of (key_at f ds)) (inner_of y))) es) ++ values_at kf f ds) e;
  short = λ f ds h. refl;
}

pub one_more : (l : Literal) (rest kf : List Literal) (m n : Table) → IsTableBut (l ∷ rest) kf m → Adds m n (l ∷ []) → AreShort (l ∷ []) → IsTableBut rest kf n
one_more l rest kf m n t adds short = record {
  gives = λ f ds.
      ap (λ xs. xs ++ values_at rest f ds) (adds f ds)
      ∙ append_assoc (values_in m f ds) (values_at (l ∷ []) f ds) (values_at rest f ds)
      ∙ ap (λ xs. values_in m f ds ++ xs) (sym (values_split l rest f ds))
      ∙ t.gives f ds;
  short = λ f ds h. sym (values_split l rest f ds ∙ ap (λ xs. xs ++ values_at rest f ds) (short f ds h)) ∙ t.short f ds h;
}

pub all_in : (kf : List Literal) (t : Table) → IsTableBut [] kf t → IsTableOf kf t
unfolding values_at
all_in kf t h = record {
  gives = λ f ds. sym (append-nil (values_in t f ds)) ∙ h.gives f ds;
  short = λ f ds long. sym (h.short f ds long);
}
