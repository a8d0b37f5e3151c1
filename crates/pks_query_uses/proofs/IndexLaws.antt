-- Lists kept at terms, as items are put in.
use Rattle.std.proofs.Common.{◌≡◌, ◌||◌, Bool, true, false, cond, List, [], ◌∷◌, ◌++◌, filter, Some, None, refl, sym, ap, ◌∙◌, subst, true≢false, append-nil, append_assoc}
use Rattle.std.specs.Prelude.{Vec}
use Rattle.std.specs.Global.{Global}
use Rattle.std.specs.Map.{lookup}
use Rattle.std.specs.Ordering.{on, is_eq}
use Rattle.std.specs.declared.cmp.Ordering.TheVariants.{Less}
use Rattle.std.specs.BTreeMap.{get, is_at, get_by}
use Rattle.std.proofs.lemmas.Cmp.{tied_itself}
use Rattle.pks_terms.specs.declared.term.Term.{Term as DTerm}
use Rattle.pks_terms.specs.Syntax.{Term}
use Rattle.pks_terms.specs.Orders.{term_cmp, term_eq}
use Rattle.pks_terms.specs.Totality.{term_cmp_total}
use Rattle.pks_terms.specs.Views.{term_of}
use Rattle.pks_terms.specs.Sets.{Each, IsOrdered, set_of}
use Rattle.pks_terms.proofs.ListLaws.{any_set_of}
use Rattle.pks_terms.proofs.OrderLaws.{term_cmp_tells, same_term}
use Rattle.pks_terms.proofs.SetLaws.{ordered_set_of}
use Rattle.pks_query_uses.specs.Occurring.{is_among}
use Rattle.pks_query_uses.specs.Indexes.{Index, found_items, items_at, as_often, Puts, PutsOnce, IsIndexOf}

module _ {X : Type 0} where
  -- ---- at one term

  pub put_one : (m n o : Index X) (k : DTerm) (x : X) (v : Vec X Global)
      → ((q : DTerm) → get (on term_of term_cmp) n q ≡ cond (is_at (λ y. term_cmp (term_of k) (term_of y)) q) None (get (on term_of term_cmp) m q))
      → ((q : DTerm) → get (on term_of term_cmp) o q ≡ cond (is_at (λ y. term_cmp (term_of k) (term_of y)) q) (Some v) (get (on term_of term_cmp) n q))
      → v.items ≡ items_at m k ++ x ∷ []
      → Puts m o (term_of k ∷ []) x
  unfolding term_eq
  put_one m n o k x v removed inserted items = record {
    gives = λ q.
        let same : Bool = is_eq (term_cmp (term_of k) (term_of q)) in
        ap found_items (inserted q ∙ ap (λ y. cond same (Some v) y) (removed q))
        ∙ elim same as (λ b. same ≡ b → found_items (cond b (Some v) (cond b None (get (on term_of term_cmp) m q))) ≡ items_at m q ++ (cond b (x ∷ []) [] ++ [])) [
          | true ↦ λ h. items ∙ ap (λ (t : Term). found_items (get_by (λ y. term_cmp t (term_of y)) m) ++ x ∷ []) (same_term (term_of k) (term_of q) h)
          | false ↦ λ h. sym (append-nil (items_at m q))
        ] refl;
  }

  -- ---- at each of several terms

  -- the index lacks what is put at the rest of the terms
  pub record PutsBut (rest : List Term) (old now : Index X) (ts : List Term) (x : X) : Type 0 where
    pub gives : (t : DTerm) → items_at now t ++ as_often x (term_of t) rest ≡ items_at old t ++ as_often x (term_of t) ts

  pub put_none : (old : Index X) (rest ts : List Term) (x : X) → rest ≡ ts → PutsBut rest old old ts x
  put_none old rest ts x e = record { gives = λ t. ap (λ us. items_at old t ++ as_often x (term_of t) us) e }

  pub put_more : (old now next : Index X) (u : Term) (rest ts : List Term) (x : X) → PutsBut (u ∷ rest) old now ts x → Puts now next (u ∷ []) x → PutsBut rest old next ts x
  put_more old now next u rest ts x b p = record {
    gives = λ t.
        let one : List X = cond (term_eq u (term_of t)) (x ∷ []) [] in
        let others : List X = as_often x (term_of t) rest in
        ap (λ ys. ys ++ others) (p.gives t)
        ∙ append_assoc (items_at now t) (one ++ []) others
        ∙ ap (λ ys. items_at now t ++ (ys ++ others)) (append-nil one)
        ∙ b.gives t;
  }

  pub put_all : (old now : Index X) (ts : List Term) (x : X) → PutsBut [] old now ts x → Puts old now ts x
  put_all old now ts x b = record { gives = λ t. sym (append-nil (items_at now t)) ∙ b.gives t }

  none_later : (x : X) (t : Term) (us : List Term) → Each (λ u. term_cmp t u ≡ Less) us → as_often x t us ≡ []
  unfolding term_eq
  none_later x t [] h = refl
  none_later x t (u ∷ us) h =
      elim (term_eq u t) as (λ b. term_eq u t ≡ b → cond b (x ∷ []) [] ++ as_often x t us ≡ []) [
        | true ↦ λ e. absurd (true≢false (sym (ap is_eq (tied_itself term_cmp_total t)) ∙ ap is_eq (subst (λ v. term_cmp t v ≡ Less) (same_term u t e) h.0)))
        | false ↦ λ e. none_later x t us h.1
      ] refl

  once : (x : X) (t : Term) (us : List Term) → IsOrdered term_cmp us → as_often x t us ≡ cond (is_among t us) (x ∷ []) []
  once x t [] h = refl
  once x t (u ∷ us) h =
      elim (term_eq u t) as (λ b. term_eq u t ≡ b → cond b (x ∷ []) [] ++ as_often x t us ≡ cond (b || is_among t us) (x ∷ []) []) [
        | true ↦ λ e. ap (λ ys. x ∷ ys) (none_later x t us (subst (λ v. Each (λ w. term_cmp v w ≡ Less) us) (same_term u t e) h.0))
        | false ↦ λ e. once x t us h.1
      ] refl

  pub put_once : (old now : Index X) (all ts : List Term) (x : X) → ts ≡ set_of term_cmp all → Puts old now ts x → PutsOnce old now all x
  put_once old now all ts x e p = record {
    gives = λ t.
        p.gives t
        ∙ ap (λ us. items_at old t ++ as_often x (term_of t) us) e
        ∙ ap (λ ys. items_at old t ++ ys) (once x (term_of t) (set_of term_cmp all) (ordered_set_of term_cmp_total term_cmp_tells all))
        ∙ ap (λ b. items_at old t ++ cond b (x ∷ []) []) (any_set_of term_cmp term_cmp_tells (λ u. term_eq u (term_of t)) all);
  }

  -- ---- of all items

  module _ (terms : X → List Term) where
    -- the index lacks the rest of the items
    pub record IsIndexBut (rest items : List X) (m : Index X) : Type 0 where
      pub gives : (t : DTerm) → items_at m t ++ filter (λ x. is_among (term_of t) (terms x)) rest ≡ filter (λ x. is_among (term_of t) (terms x)) items

    pub nothing_yet : (rest items : List X) (m : Index X) → m.entries ≡ [] → rest ≡ items → IsIndexBut rest items m
    nothing_yet rest items m e same = record {
      gives = λ t.
          ap (λ es. found_items (lookup (is_at (λ y. term_cmp (term_of t) (term_of y))) es) ++ filter (λ x. is_among (term_of t) (terms x)) rest) e
          ∙ ap (filter (λ x. is_among (term_of t) (terms x))) same;
    }

    pub one_more : (x : X) (rest items : List X) (m n : Index X) → IsIndexBut (x ∷ rest) items m → PutsOnce m n (terms x) x → IsIndexBut rest items n
    one_more x rest items m n b p = record {
      gives = λ t.
          let others : List X = filter (λ y. is_among (term_of t) (terms y)) rest in
          ap (λ ys. ys ++ others) (p.gives t)
          ∙ elim (is_among (term_of t) (terms x)) as (λ b. (items_at m t ++ cond b (x ∷ []) []) ++ others ≡ items_at m t ++ cond b (x ∷ others) others) [
            | true ↦ append_assoc (items_at m t) (x ∷ []) others
            | false ↦ ap (λ ys. ys ++ others) (append-nil (items_at m t))
          ]
          ∙ b.gives t;
    }

    pub all_in : (items : List X) (m : Index X) → IsIndexBut [] items m → IsIndexOf terms items m
    all_in items m b = record { gives = λ t. sym (append-nil (items_at m t)) ∙ b.gives t }
