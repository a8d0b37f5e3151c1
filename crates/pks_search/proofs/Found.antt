-- The search over the choices at a history, one after another, and over depths.
use Rattle.std.proofs.Common.{◌≡◌, ◌≤◌, ◌+◌, ◌⊎◌, inl, inr, ℕ, false, List, [], ◌∷◌, ◌++◌, map, filter, Option, Some, None, Less, refl, sym, ap, ◌∙◌, subst, ⊎_elim, arith, append_assoc, true≢false}
use Rattle.std.proofs.lemmas.Bool.{cases_lt}
use Rattle.std.proofs.lemmas.Option.{same_Some}
use Rattle.pks_terms.specs.Sets.{Each, IsIn}
use Rattle.pks_terms.specs.Problems.{Problem}
use Rattle.pks_terms.specs.Branching.{instances, is_undecided, may_split, Choice, Act, BranchOn, CasesOn, choices}
use Rattle.pks_terms.specs.Settling.{History, last_moment, At, Stopped}
use Rattle.pks_terms.specs.Aims.{met}
use Rattle.pks_terms.specs.Trees.{Tree, Goal, Impossible, Do, Branch, Cases, cost, Derives, IsBefore, IsBestOf}
use Rattle.pks_terms.specs.Searching.{root_choice, IsAmong}
use Rattle.pks_terms.specs.Valid.{IsValid}
use Rattle.pks_terms.proofs.ListLaws.{each_in, in_map, in_filter, in_appended}
use Rattle.pks_laws.proofs.Least.{in_left, in_right}
use Rattle.pks_laws.proofs.BestTree.{before_through}
use Rattle.pks_laws.proofs.Choosing.{best_without}
use Rattle.pks_branch.specs.ChoiceOrder.{choice_cmp}
use Rattle.pks_search.specs.Limits.{IsBestWithin, IsCheapBy, IsCheapAmong, IsNextLimit, IsFoundAmong, IsFoundBefore}
use Rattle.pks_search.proofs.Rooted.{cheaper, before_by_choice}
use Rattle.pks_search_nogoods.proofs.Costs.{depth_at_most_cost}
use Rattle.pks_search.proofs.Limited.{needs_depth}

among_more : (cs : List Choice) (c : Choice) (o : Option Choice) → IsAmong cs o → IsAmong (cs ++ c ∷ []) o
among_more cs c None i = tt
among_more cs c (Some x) i = in_left cs (c ∷ []) x i

among_this : (cs : List Choice) (c : Choice) (o : Option Choice) → o ≡ Some c → IsAmong (cs ++ c ∷ []) o
among_this cs c None e = tt
among_this cs c (Some x) e = in_right cs (c ∷ []) x (inl (sym (same_Some x c e)))

among_which : (cs : List Choice) (c : Choice) (o : Option Choice) → IsAmong (cs ++ c ∷ []) o → IsAmong cs o ⊎ (o ≡ Some c)
among_which cs c None i = inl tt
among_which cs c (Some x) i = ⊎_elim (λ j. inl j) (λ j. ⊎_elim (λ e. inr (ap Some (sym e))) (λ k. absurd k) j) (in_appended cs (c ∷ []) x i)

module _ (p : Problem) where
  not_stopped : (h : History) → At h ≡ Stopped → ⊥
  not_stopped h e = cc

  -- where the goal isn't met, a tree has a choice at its root
  has_choice : (h : History) (cs : List Choice) → met p h ≡ false → (t : Tree) → Derives p (At h) t → IsAmong cs (root_choice t) → (c : Choice) × (root_choice t ≡ Some c) × IsIn c cs
  has_choice h cs k Goal d i = absurd (true≢false (sym d ∙ k))
  has_choice h cs k Impossible d i = absurd (not_stopped h d)
  has_choice h cs k (Do a t) d i = (Act a, refl, i)
  has_choice h cs k (Branch c t u) d i = (BranchOn c, refl, i)
  has_choice h cs k (Cases x m) d i = (CasesOn x, refl, i)

  module _ (h : History) (n most : ℕ) (unmet : met p h ≡ false) where
    -- one more choice, from those that are left
    pub found_more : (left rest : List Choice) (c : Choice) (old new : Option Tree) (limit limit' : ℕ) → left ≡ c ∷ rest
        → (f : IsFoundBefore p h n most left old limit) → IsFoundAmong p h n most (f.done ++ c ∷ []) new limit' → IsFoundBefore p h n most rest new limit'
    found_more left rest c old new limit limit' e f g = record {
      done = f.done ++ c ∷ [];
      all = append_assoc f.done (c ∷ []) rest ∙ ap (λ cs. f.done ++ cs) (sym e) ∙ f.all;
      among = g;
    }

    -- before the first choice
    pub found_first : IsFoundAmong p h n most [] None most
    found_first = record { best = λ t d. best_without p h n unmet t d.0; next = refl }

    -- a tree that was found is better than the dearer trees of a later choice, and than those that cost the same
    found_before : (cs : List Choice) (c : Choice) → Each (λ b. choice_cmp b c ≡ Less) cs → (t u : Tree) → IsCheapAmong p h n most cs t → root_choice u ≡ Some c → cost p t ≤ cost p u → IsBefore p t u
    found_before cs c before t u d e k =
        let r = has_choice h cs unmet t d.0.0.0 d.0.1 in
        inr (before_by_choice p r.0 c t u r.1 e (each_in (λ b. choice_cmp b c ≡ Less) cs r.0 before r.2) k)

    -- a later choice without a tree below the limit changes nothing
    pub found_none : (cs : List Choice) (c : Choice) (best : Option Tree) (limit : ℕ) → Each (λ b. choice_cmp b c ≡ Less) cs → IsFoundAmong p h n most cs best limit → IsBestOf p (IsCheapBy p h n limit c) None → IsFoundAmong p h n most (cs ++ c ∷ []) best limit
    found_none cs c None limit before f g = record {
      best = λ t d. ⊎_elim (λ i. f.best t ((d.0.0, i), d.1)) (λ e. g t ((d.0.0, e), subst (λ x. cost p t ≤ x) (sym f.next) d.1)) (among_which cs c (root_choice t) d.0.1);
      next = f.next;
    }
    found_none cs c (Some s) limit before f g = record {
      best = (
        ((f.best.0.0.0, among_more cs c (root_choice s) f.best.0.0.1), f.best.0.1),
        λ t d. ⊎_elim (λ i. f.best.1 t ((d.0.0, i), d.1)) (λ e. ⊎_elim
            (λ dear. let next = f.next in found_before cs c before s t f.best.0 e (omega arith))
            (λ cheap. absurd (g t ((d.0.0, e), cheap)))
            (cases_lt limit (cost p t)))
            (among_which cs c (root_choice t) d.0.1),
      );
      next = f.next;
    }

    limit_within : (best : Option Tree) (limit : ℕ) (cs : List Choice) → IsFoundAmong p h n most cs best limit → limit ≤ most
    limit_within None limit cs f = let next = f.next in omega arith
    limit_within (Some s) limit cs f = let next = f.next in let cheap = f.best.0.1 in omega arith

    -- a later choice with a tree below the limit has the best of all so far
    pub found_some : (cs : List Choice) (c : Choice) (best : Option Tree) (limit rest : ℕ) (t : Tree) → IsFoundAmong p h n most cs best limit → IsBestOf p (IsCheapBy p h n limit c) (Some t) → rest + 1 ≡ cost p t → IsFoundAmong p h n most (cs ++ c ∷ []) (Some t) rest
    found_some cs c best limit rest t f g e =
        let cheap = g.0.1 in
        let within = limit_within best limit cs f in
        record { best = (((g.0.0.0, among_this cs c (root_choice t) g.0.0.1), omega arith), better); next = e }
      where
        beats : (o : Option Tree) → IsBestOf p (IsCheapAmong p h n most cs) o → IsNextLimit p most o limit → (u : Tree) → IsCheapAmong p h n most cs u → IsBefore p t u
        beats None b k u d = absurd (b u d)
        beats (Some s) b k u d = let cheap = g.0.1 in before_through p t s u (inr (cheaper p t s (omega arith))) (b.1 u d)

        better : (u : Tree) → IsCheapAmong p h n most (cs ++ c ∷ []) u → IsBefore p t u
        better u d = ⊎_elim (λ i. beats best f.best f.next u ((d.0.0, i), d.1)) (λ q. ⊎_elim
            (λ dear. let cheap = g.0.1 in inr (cheaper p t u (omega arith)))
            (λ k. g.1 u ((d.0.0, q), k))
            (cases_lt limit (cost p u)))
            (among_which cs c (root_choice u) d.0.1)

    chosen : (t : Tree) → Derives p (At h) t → IsAmong (choices p (last_moment h)) (root_choice t)
    unfolding choices
    chosen Goal d = tt
    chosen Impossible d = tt
    chosen (Do i t) d = in_left (map Act (instances p (last_moment h))) _ (Act i) (in_map Act (instances p (last_moment h)) i d.0)
    chosen (Branch c t u) d =
        in_right (map Act (instances p (last_moment h))) _ (BranchOn c) (in_left (map BranchOn (filter (is_undecided p.signature (last_moment h)) (last_moment h).kw)) _ (BranchOn c)
        (in_map BranchOn (filter (is_undecided p.signature (last_moment h)) (last_moment h).kw) c (in_filter (is_undecided p.signature (last_moment h)) (last_moment h).kw c d.0 d.1)))
    chosen (Cases x k) d =
        in_right (map Act (instances p (last_moment h))) _ (CasesOn x) (in_right (map BranchOn (filter (is_undecided p.signature (last_moment h)) (last_moment h).kw)) _ (CasesOn x)
        (in_map CasesOn (filter (may_split p.signature (last_moment h)) (last_moment h).kv) x (in_filter (may_split p.signature (last_moment h)) (last_moment h).kv x d.0 d.1)))

    -- after all choices
    pub found_all : (found : Option Tree) → IsBestOf p (IsCheapAmong p h n most (choices p (last_moment h))) found → IsBestWithin p (At h) n most found
    found_all None b = λ t d. b t ((d.0, chosen t d.0.0), d.1)
    found_all (Some t) b = ((b.0.0.0, b.0.1), λ u d. b.1 u ((d.0, chosen u d.0.0), d.1))

  -- no tree without depth, or without cost
  pub none_at_depth : (h : History) (limit : ℕ) → met p h ≡ false → IsBestWithin p (At h) 0 limit None
  none_at_depth h limit k = λ t d. let some = needs_depth p h k t d.0.0 in let deep = d.0.1 in omega arith

  pub none_at_cost : IsValid p → (h : History) (n : ℕ) → met p h ≡ false → IsBestWithin p (At h) n 0 None
  none_at_cost v h n k = λ t d. let some = needs_depth p h k t d.0.0 in let cheap = d.1 in let least = depth_at_most_cost p v t in omega arith

  -- a tree where the goal isn't met costs something
  pub costs_some : IsValid p → (h : History) → met p h ≡ false → (t : Tree) → Derives p (At h) t → 1 ≤ cost p t
  costs_some v h k t d = let some = needs_depth p h k t d in let least = depth_at_most_cost p v t in omega arith
