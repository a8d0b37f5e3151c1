-- The actions of a valid problem have few parameters.
use Rattle.std.proofs.Common.{◌≡◌, ◌<◌, ◌≤◌, ℕ, zero, suc, List, [], ◌∷◌, map, length, get_or, sym, subst, arith}
use Rattle.std.proofs.lemmas.List.{length-map}
use Rattle.pks_terms.specs.declared.ids.TypeId.{TypeId}
use Rattle.pks_terms.specs.declared.schema.Schema.{Schema}
use Rattle.pks_terms.specs.declared.problem.Problem.{Problem}
use Rattle.pks_terms.specs.Sets.{Each}
use Rattle.pks_terms.specs.Valid.{IsSchemaText}
use Rattle.pks_terms.specs.ValidProblems.{IsValidProblem}
use Rattle.pks_terms.specs.Views.{schema_of, problem_of}

each_at : {X Y : Type 0} (P : Y → Type 0) (f : X → Y) (xs : List X) (k : ℕ) (x : X) → k < length xs → x ≡ get_or xs k x → Each P (map f xs) → P (f x)
each_at P f [] k x h e a = absurd (omega arith)
each_at P f (y ∷ ys) zero x h e a = subst (λ z. P (f z)) (sym e) a.0
each_at P f (y ∷ ys) (suc k) x h e a = each_at P f ys k x (omega arith) e a.1

pub few_parameters : (p : Problem) (schemas : List Schema) (k : ℕ) (x : Schema) → IsValidProblem p → schemas ≡ p.schemas → k < length schemas → x ≡ get_or schemas k x → length x.params ≤ 4
few_parameters p schemas k x valid same within is =
    let text = each_at (IsSchemaText (problem_of p).signature) schema_of schemas k x within is (subst (λ xs. Each (IsSchemaText (problem_of p).signature) (map schema_of xs)) (sym same) valid.says.schemas.0) in
    let few = text.parameters.1 in
    let counted = length-map x.params (λ (t : TypeId). t.0) in
    omega arith
