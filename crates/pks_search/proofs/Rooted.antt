-- Of trees that cost alike the one whose choice comes first is better.
use Rattle.std.proofs.Common.{◌≡◌, ◌≤◌, ◌<◌, ◌+◌, [], Some, Less, Equal, Greater, Ordering, nat_cmp, refl, sym, ◌∙◌, subst, ⊎_elim, arith}
use Rattle.std.specs.Ordering.{ordering_then}
use Rattle.std.specs.Cmp.{nat_cmp_is}
use Rattle.std.specs.Cmp.Lexicographic.{slice_cmp}
use Rattle.std.proofs.lemmas.Bool.{cases_lt}
use Rattle.std.proofs.lemmas.Option.{none-some, same_Some}
use Rattle.pks_terms.specs.Orders.{term_cmp, conj_cmp}
use Rattle.pks_terms.specs.Problems.{Problem}
use Rattle.pks_terms.specs.Branching.{Choice, Act, BranchOn, CasesOn}
use Rattle.pks_terms.specs.Trees.{Tree, Goal, Impossible, Do, Branch, Cases, cost, objects_in, root_kind, root_step, root_test, root_term, root_cases, instance_cmp, root_cmp, tree_cmp}
use Rattle.pks_terms.specs.Searching.{root_choice}
use Rattle.pks_laws.proofs.TreeTotal.{tree_by_roots, then_nothing}
use Rattle.pks_branch.specs.ChoiceOrder.{choice_kind, choice_step, choice_test, choice_term, choice_cmp}

-- what the root of a tree says is what its choice says
record SaysRoot (t : Tree) (c : Choice) : Type 0 where
  kind : root_kind t ≡ choice_kind c + 2
  step : root_step t ≡ choice_step c
  test : root_test t ≡ choice_test c
  term : root_term t ≡ choice_term c

says_root : (t : Tree) (c : Choice) → root_choice t ≡ Some c → SaysRoot t c
says_root Goal c e = absurd (none-some c e)
says_root Impossible c e = absurd (none-some c e)
says_root (Do i t) c e = subst (SaysRoot (Do i t)) (same_Some (Act i) c e) (record { kind = refl; step = refl; test = refl; term = refl })
says_root (Branch b t u) c e = subst (SaysRoot (Branch b t u)) (same_Some (BranchOn b) c e) (record { kind = refl; step = refl; test = refl; term = refl })
says_root (Cases x k) c e = subst (SaysRoot (Cases x k)) (same_Some (CasesOn x) c e) (record { kind = refl; step = refl; test = refl; term = refl })

same_kinds : (a b : Choice) → nat_cmp (choice_kind a + 2) (choice_kind b + 2) ≡ nat_cmp (choice_kind a) (choice_kind b)
same_kinds (Act i) (Act j) = refl
same_kinds (Act i) (BranchOn c) = refl
same_kinds (Act i) (CasesOn x) = refl
same_kinds (BranchOn b) (Act j) = refl
same_kinds (BranchOn b) (BranchOn c) = refl
same_kinds (BranchOn b) (CasesOn x) = refl
same_kinds (CasesOn y) (Act j) = refl
same_kinds (CasesOn y) (BranchOn c) = refl
same_kinds (CasesOn y) (CasesOn x) = refl

-- what is less by four parts is less by a fifth too
less_by_more : (k i c x o : Ordering) → ordering_then k (ordering_then i (ordering_then c x)) ≡ Less → ordering_then k (ordering_then i (ordering_then c (ordering_then x o))) ≡ Less
less_by_more Less i c x o h = refl
less_by_more Greater i c x o h = h
less_by_more Equal Less c x o h = refl
less_by_more Equal Greater c x o h = h
less_by_more Equal Equal Less x o h = refl
less_by_more Equal Equal Greater x o h = h
less_by_more Equal Equal Equal Less o h = refl
less_by_more Equal Equal Equal Greater o h = h
less_by_more Equal Equal Equal Equal o h = cc

module _ (p : Problem) where
  by_root : (t u : Tree) → root_cmp (cost p) t u ≡ Less → tree_cmp (cost p) t u ≡ Less
  by_root t u e = sym (tree_by_roots (cost p) t u [] [] ∙ then_nothing (tree_cmp (cost p) t u)) ∙ first (root_cmp (cost p) t u) _ e
    where
      first : (o z : Ordering) → o ≡ Less → ordering_then o z ≡ Less
      first o z q = λ i. ordering_then (q i) z

  pub cheaper : (t u : Tree) → cost p t < cost p u → tree_cmp (cost p) t u ≡ Less
  unfolding root_cmp
  cheaper t u k = by_root t u (first (nat_cmp (cost p t) (cost p u)) _ (sym (nat_cmp_is (cost p t) (cost p u) Less k)))
    where
      first : (o z : Ordering) → o ≡ Less → ordering_then o z ≡ Less
      first o z q = λ i. ordering_then (q i) z

  root_less : (a b : Choice) (t u : Tree) → SaysRoot t a → SaysRoot u b → choice_cmp a b ≡ Less → cost p t ≡ cost p u → root_cmp (cost p) t u ≡ Less
  unfolding root_cmp choice_cmp
  root_less a b t u r s l e =
      tied (nat_cmp (cost p t) (cost p u)) _ (sym (nat_cmp_is (cost p t) (cost p u) Equal e))
      ∙ (λ i. ordering_then (nat_cmp (r.kind i) (s.kind i)) (ordering_then (instance_cmp (r.step i) (s.step i)) (ordering_then (conj_cmp (r.test i) (s.test i)) (ordering_then (term_cmp (r.term i) (s.term i)) (slice_cmp nat_cmp (objects_in (root_cases t)) (objects_in (root_cases u)))))))
      ∙ less_by_more (nat_cmp (choice_kind a + 2) (choice_kind b + 2)) (instance_cmp (choice_step a) (choice_step b)) (conj_cmp (choice_test a) (choice_test b)) (term_cmp (choice_term a) (choice_term b)) _
      ((λ i. ordering_then (same_kinds a b i) (ordering_then (instance_cmp (choice_step a) (choice_step b)) (ordering_then (conj_cmp (choice_test a) (choice_test b)) (term_cmp (choice_term a) (choice_term b))))) ∙ l)
    where
      tied : (o z : Ordering) → o ≡ Equal → ordering_then o z ≡ z
      tied o z q = λ i. ordering_then (q i) z

  -- a tree that costs no more, whose choice comes first, is better
  pub before_by_choice : (a b : Choice) (t u : Tree) → root_choice t ≡ Some a → root_choice u ≡ Some b → choice_cmp a b ≡ Less → cost p t ≤ cost p u → tree_cmp (cost p) t u ≡ Less
  before_by_choice a b t u e f l k =
      ⊎_elim (λ lt. cheaper t u lt)
      (λ ge. let same : cost p t ≡ cost p u = omega arith in by_root t u (root_less a b t u (says_root t a e) (says_root u b f) l same))
      (cases_lt (cost p t) (cost p u))
