-- What an explanation of a plan shows is so wherever the path to it is taken.
use Rattle.std.proofs.Common.{◌≡◌, ◌++◌, true, List, [], ◌∷◌, map, filter_map, sym, subst}
use Rattle.pks_terms.specs.Sets.{Each}
use Rattle.pks_terms.specs.Syntax.{Term, Literal}
use Rattle.pks_terms.specs.Problems.{Problem}
use Rattle.pks_terms.specs.Branching.{BranchOn, CasesOn, AsTrue, AsFalse, Is}
use Rattle.pks_terms.specs.Trees.{Tree, Goal, Impossible, Do, Branch, Cases, Chain, End, More, IsPlan}
use Rattle.pks_terms.specs.Typed.{IsTyped}
use Rattle.pks_terms.specs.Valid.{IsValid}
use Rattle.pks_terms.specs.Handed.{IsTreeOf, IsChainOf}
use Rattle.pks_terms.specs.Proofs.{Went, Took, Path, IsPathOf}
use Rattle.pks_terms.specs.Accepting.{accepts}
use Rattle.pks_terms.specs.Explained.{needed_before, literal_aimed, at_end, owed, owed_in, Entry, IsExplained}
use Rattle.pks_terms.proofs.ListLaws.{each_append}
use Rattle.pks_laws.proofs.TreesOf.{plan_of}
use Rattle.pks_laws.proofs.Validity.{valid_typed}
use Rattle.pks_proof_lines.proofs.Accepted.{accepted_true}
use Rattle.pks_run_answer.specs.Goodness.{IsSoAtEnd}

-- ---- the paths of what is owed

module _ (p : Problem) where
  -- two paths of the problem, one behind the other
  further : (path more : Path) → IsPathOf p path → IsPathOf p more → IsPathOf p (path ++ more)
  further [] more a b = b
  further (Went i ∷ path) more a b = (a.0, further path more a.1 b)
  further (Took c side ∷ path) more a b = further path more a b

  -- the path is one of the problem
  abbrev IsAlong : Path × Literal → Type 0
  IsAlong q = IsPathOf p q.0

  all_along : (path : Path) (ls : List Literal) → IsPathOf p path → Each IsAlong (at_end path ls)
  all_along path [] a = tt
  all_along path (l ∷ ls) a = (a, all_along path ls a)

  mutual
    owed_along : (path : Path) (t : Tree) → IsPathOf p path → IsTreeOf p t → Each IsAlong (owed p path t)
    owed_along path Goal a of = all_along path (filter_map literal_aimed p.goal) a
    owed_along path Impossible a of = tt
    owed_along path (Do i t) a of =
        each_append IsAlong (at_end path (needed_before p i)) (owed p (path ++ Went i ∷ []) t) (all_along path (needed_before p i) a)
        (owed_along (path ++ Went i ∷ []) t (further path (Went i ∷ []) a (of.0, tt)) of.1)
    owed_along path (Branch c t u) a of =
        each_append IsAlong (owed p (path ++ Took (BranchOn c) AsTrue ∷ []) t) (owed p (path ++ Took (BranchOn c) AsFalse ∷ []) u)
        (owed_along (path ++ Took (BranchOn c) AsTrue ∷ []) t (further path (Took (BranchOn c) AsTrue ∷ []) a tt) of.1)
        (owed_along (path ++ Took (BranchOn c) AsFalse ∷ []) u (further path (Took (BranchOn c) AsFalse ∷ []) a tt) of.2)
    owed_along path (Cases x k) a of = owed_in_along path x k a of.1

    owed_in_along : (path : Path) (x : Term) (k : Chain) → IsPathOf p path → IsChainOf p k → Each IsAlong (owed_in p path x k)
    owed_in_along path x End a of = tt
    owed_in_along path x (More e t k) a of =
        each_append IsAlong (owed p (path ++ Took (CasesOn x) (Is e) ∷ []) t) (owed_in p path x k)
        (owed_along (path ++ Took (CasesOn x) (Is e) ∷ []) t (further path (Took (CasesOn x) (Is e) ∷ []) a tt) of.1)
        (owed_in_along path x k a of.2)

  -- ---- what is shown

  shown_so : IsTyped p → (es : List Entry) → Each IsAlong (map (λ (e : Entry). (e.path, e.literal)) es) → Each (λ (e : Entry). accepts p e.path e.proof e.literal ≡ true) es → Each (IsSoAtEnd p) es
  shown_so typed [] a b = tt
  shown_so typed (e ∷ es) a b = ((λ w start goes. accepted_true p e.path w typed a.0 start goes e.proof e.literal b.0), shown_so typed es a.1 b.1)

  pub explained_so : (t : Tree) (es : List Entry) → IsValid p → IsPlan p t → IsExplained p t es → Each (IsSoAtEnd p) es
  explained_so t es valid plan e = shown_so (valid_typed p valid) es (subst (Each IsAlong) (sym e.whole) (owed_along [] t tt (plan_of p valid t plan))) e.accepted
