-- What is left of a history in place of the whole: the same trees are derived.
use Rattle.std.proofs.Common.{◌≡◌, ℕ, Bool, true, false, Option, Some, None, refl, sym, ◌∙◌, arith, true≢false}
use Rattle.pks_terms.specs.declared.problem.Problem.{Problem as DProblem}
use Rattle.pks_terms.specs.Problems.{Problem}
use Rattle.pks_terms.specs.Settling.{History, At}
use Rattle.pks_terms.specs.Aims.{met}
use Rattle.pks_terms.specs.Trees.{Tree, Goal}
use Rattle.pks_terms.specs.Views.{problem_of}
use Rattle.pks_terms.specs.Sets.{Each}
use Rattle.pks_terms.specs.Versions.{IsNow}
use Rattle.pks_laws_forget.specs.Looks.{without_looks}
use Rattle.pks_laws_forget.specs.Transparent.{AreSetsAlong}
use Rattle.pks_history_forget.specs.Same.{HasSameTrees, without_unasked}
use Rattle.pks_search.specs.Limits.{IsBestWithin}
use Rattle.pks_search.specs.Ready.{IsReady}
use Rattle.pks_search.specs.Straight.{HasTreesWithin}
use Rattle.pks_search.proofs.Leaving.{left_read}
use Rattle.pks_search.proofs.Unasked.{twins_left}

-- the trees within a depth and a limit are among all
pub all_within : (p : Problem) (h rest : History) (n limit : ℕ) → HasSameTrees p h rest → AreSetsAlong h → ((Each IsNow p.goal → ⊥) → rest ≡ without_unasked p (without_looks p h)) → HasTreesWithin p h rest n limit
all_within p h rest n limit same sets asked = record { moments = same.moments; short = same.short; left = same.left; twins = twins_left p h rest sets asked; trees = λ t deep cheap. same.trees t }

-- the search may go on from it
pub rest_ready : (p : DProblem) (h rest : History) (m n limit : ℕ) → HasTreesWithin (problem_of p) h rest n limit → IsReady p h m n → IsReady p rest m n
rest_ready p h rest m n limit same r =
    let short = r.short in
    let left = same.short in
    record { valid = r.valid; justified = r.justified; moments = same.moments; short = omega arith; few = r.few; read = left_read (problem_of p) r.valid.says.signature.values m h rest r.moments same.left r.read }

module _ (p : Problem) (h rest : History) (n limit : ℕ) (same : HasTreesWithin p h rest n limit) where
  -- the goal isn't met at it either
  pub rest_unmet : met p h ≡ false → met p rest ≡ false
  rest_unmet k = go (met p rest) refl
    where
      go : (b : Bool) → met p rest ≡ b → met p rest ≡ false
      go true e = absurd (true≢false (sym ((same.trees Goal (omega arith) (omega arith)).1 e) ∙ k))
      go false e = e

  -- its best tree is the best of the whole history
  pub best_of_rest : (o : Option Tree) → IsBestWithin p (At rest) n limit o → IsBestWithin p (At h) n limit o
  best_of_rest None b = λ t d. b t (((same.trees t d.0.1 d.1).0 d.0.0, d.0.1), d.1)
  best_of_rest (Some s) b = ((((same.trees s b.0.0.1 b.0.1).1 b.0.0.0, b.0.0.1), b.0.1), λ u d. b.1 u (((same.trees u d.0.1 d.1).0 d.0.0, d.0.1), d.1))
