-- Where the search may go on: histories stay short enough, and are of the problem; choices are what they must be.
use Rattle.std.proofs.Common.{◌≡◌, ◌≤◌, ◌+◌, true, not, ℕ, nat_le, List, [], ◌∷◌, ◌++◌, map, filter, length, refl, ◌∙◌, subst, ⊎_elim, arith}
use Rattle.std.proofs.lemmas.Bool.{and_parts, leb-true}
use Rattle.std.proofs.lemmas.List.{length-append}
use Rattle.pks_terms.specs.declared.problem.Problem.{Problem as DProblem}
use Rattle.pks_terms.specs.Sets.{Each, IsIn}
use Rattle.pks_terms.specs.Syntax.{Term, Literal, object}
use Rattle.pks_terms.specs.Orders.{inequation}
use Rattle.pks_terms.specs.Signatures.{Signature, range_of}
use Rattle.pks_terms.specs.Databases.{Five, holds}
use Rattle.pks_terms.specs.Closure.{Next}
use Rattle.pks_terms.specs.Actions.{Instance}
use Rattle.pks_terms.specs.Progress.{Progress}
use Rattle.pks_terms.specs.Problems.{Problem, schema_of}
use Rattle.pks_terms.specs.Branching.{instances, is_undecided, left, may_split, Act, BranchOn, CasesOn, choices}
use Rattle.pks_terms.specs.Settling.{History, last_moment, pushed, with_last, At, Settles}
use Rattle.pks_terms.specs.Views.{problem_of}
use Rattle.pks_terms.proofs.ListLaws.{each_of, in_appended, in_mapped, in_filtered}
use Rattle.pks_terms.specs.Moments.{IsMomentOf, AreMomentsOf}
use Rattle.pks_laws.proofs.SearchStates.{last_of_it, acts_of}
use Rattle.pks_postdict.specs.Read.{AreRead, IsReadBut}
use Rattle.pks_search.specs.Ready.{IsReady}
use Rattle.pks_search.proofs.Lengths.{with_last_as_long, settles_as_long}

-- ---- histories

-- with one more step behind them the same steps are read, one more not being
pub pushed_read : (p : Problem) (n : ℕ) (d : Five) (steps : List (Instance × Five)) (i : Instance) (e : Five) → AreRead p n d steps → AreRead p (n + 1) d (steps ++ (i, e) ∷ [])
pushed_read p n d [] i e r = (λ h. absurd (omega (arith, h)), tt)
pushed_read p n d (step ∷ steps) i e r =
    let longer : length (steps ++ (i, e) ∷ []) ≡ length steps + 1 = length-append steps ((i, e) ∷ []) in
    (λ h. r.0 (omega (arith, h, longer)), pushed_read p n step.1 steps i e r.1)

pub ready_last : (p : DProblem) (h : History) (m n : ℕ) → IsReady p h m n → IsMomentOf (problem_of p).signature (last_moment h)
ready_last p h m n r = last_of_it (problem_of p) r.valid.says h r.moments

pub ready_acted : (p : DProblem) (h : History) (m n : ℕ) (i : Instance) (d : Five) → IsReady p h m (n + 1) → IsIn i (instances (problem_of p) (last_moment h)) → Progress (problem_of p).signature (last_moment h) (schema_of (problem_of p) i.action) i (Next d) → IsReady p (pushed h i d) (m + 1) n
ready_acted p h m n i d r member progress =
    let short = r.short in
    let few = r.few in
    let longer : length (h.steps ++ (i, d) ∷ []) ≡ length h.steps + 1 = length-append h.steps ((i, d) ∷ []) in
    record {
      valid = r.valid;
      justified = r.justified;
      moments = acts_of (problem_of p) r.valid.says h (pushed h i d) i r.moments member (record { outcome = Next d; progress = progress; gives = refl });
      short = omega arith;
      few = omega arith;
      read = pushed_read (problem_of p) m h.start h.steps i d r.read;
    }

pub ready_taken : (p : DProblem) (h g : History) (m n : ℕ) (d : Five) → IsReady p h m (n + 1) → Settles (problem_of p) (with_last h d) (At g) → AreMomentsOf (problem_of p) g → IsReadBut (problem_of p) 0 g → IsReady p g 0 n
ready_taken p h g m n d r s moments read =
    let short = r.short in
    let few = r.few in
    let same : length g.steps ≡ length h.steps = settles_as_long (problem_of p) (with_last h d) g s ∙ with_last_as_long h d in
    record { valid = r.valid; justified = r.justified; moments = moments; short = omega arith; few = omega arith; read = read }

-- ---- choices

act_is : (i j : Instance) → Act j ≡ Act i → j ≡ i
act_is i j e = cc

branch_is : (b c : List Literal) → BranchOn b ≡ BranchOn c → b ≡ c
branch_is b c e = cc

cases_is : (x y : Term) → CasesOn x ≡ CasesOn y → x ≡ y
cases_is x y e = cc

act_not_branch : (c : List Literal) (i : Instance) → BranchOn c ≡ Act i → ⊥
act_not_branch c i e = cc

act_not_cases : (x : Term) (i : Instance) → CasesOn x ≡ Act i → ⊥
act_not_cases x i e = cc

branch_not_act : (i : Instance) (c : List Literal) → Act i ≡ BranchOn c → ⊥
branch_not_act i c e = cc

branch_not_cases : (x : Term) (c : List Literal) → CasesOn x ≡ BranchOn c → ⊥
branch_not_cases x c e = cc

cases_not_act : (i : Instance) (x : Term) → Act i ≡ CasesOn x → ⊥
cases_not_act i x e = cc

cases_not_branch : (c : List Literal) (x : Term) → BranchOn c ≡ CasesOn x → ⊥
cases_not_branch c x e = cc

module _ (p : Problem) (d : Five) where
  abbrev branches : List (List Literal)
  branches = filter (is_undecided p.signature d) d.kw

  abbrev splits : List Term
  splits = filter (may_split p.signature d) d.kv

  pub chosen_action : (i : Instance) → IsIn (Act i) (choices p d) → IsIn i (instances p d)
  unfolding choices
  chosen_action i k =
      ⊎_elim
      (λ j. let r = in_mapped Act (instances p d) (Act i) j in subst (λ x. IsIn x (instances p d)) (act_is i r.0 r.2) r.1)
      (λ j. ⊎_elim
      (λ j. let r = in_mapped BranchOn branches (Act i) j in absurd (act_not_branch r.0 i r.2))
      (λ j. let r = in_mapped CasesOn splits (Act i) j in absurd (act_not_cases r.0 i r.2))
      (in_appended (map BranchOn branches) (map CasesOn splits) (Act i) j))
      (in_appended (map Act (instances p d)) (map BranchOn branches ++ map CasesOn splits) (Act i) k)

  pub chosen_branch : (c : List Literal) → IsIn (BranchOn c) (choices p d) → IsIn c d.kw × (is_undecided p.signature d c ≡ true)
  unfolding choices
  chosen_branch c k =
      ⊎_elim
      (λ j. let r = in_mapped Act (instances p d) (BranchOn c) j in absurd (branch_not_act r.0 c r.2))
      (λ j. ⊎_elim
      (λ j. let r = in_mapped BranchOn branches (BranchOn c) j in in_filtered (is_undecided p.signature d) d.kw c (subst (λ x. IsIn x branches) (branch_is r.0 c r.2) r.1))
      (λ j. let r = in_mapped CasesOn splits (BranchOn c) j in absurd (branch_not_cases r.0 c r.2))
      (in_appended (map BranchOn branches) (map CasesOn splits) (BranchOn c) j))
      (in_appended (map Act (instances p d)) (map BranchOn branches ++ map CasesOn splits) (BranchOn c) k)

  pub chosen_cases : (x : Term) → IsIn (CasesOn x) (choices p d) → IsIn x d.kv × (may_split p.signature d x ≡ true)
  unfolding choices
  chosen_cases x k =
      ⊎_elim
      (λ j. let r = in_mapped Act (instances p d) (CasesOn x) j in absurd (cases_not_act r.0 x r.2))
      (λ j. ⊎_elim
      (λ j. let r = in_mapped BranchOn branches (CasesOn x) j in absurd (cases_not_branch r.0 x r.2))
      (λ j. let r = in_mapped CasesOn splits (CasesOn x) j in in_filtered (may_split p.signature d) d.kv x (subst (λ y. IsIn y splits) (cases_is r.0 x r.2) r.1))
      (in_appended (map BranchOn branches) (map CasesOn splits) (CasesOn x) j))
      (in_appended (map Act (instances p d)) (map BranchOn branches ++ map CasesOn splits) (CasesOn x) k)

-- at most 16 objects are left, each of which may be the value
pub few_left : (s : Signature) (d : Five) (x : Term) → may_split s d x ≡ true → length (left s d x) ≤ 16
few_left s d x k = leb-true (length (left s d x)) 16 (and_parts (nat_le 1 (length (left s d x))) (nat_le (length (left s d x)) 16) k).1

pub left_in_range : (s : Signature) (d : Five) (x : Term) → Each (λ e. IsIn e (range_of s x)) (left s d x)
unfolding left
left_in_range s d x = each_of (λ e. IsIn e (range_of s x)) (left s d x) (λ e i. (in_filtered (λ e. not (holds s d (inequation x (object e)))) (range_of s x) e i).0)
