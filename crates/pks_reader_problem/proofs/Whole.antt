-- A problem says what its parts say.
use Rattle.std.proofs.Common.{◌≡◌, ℕ, map, codes}
use Rattle.pks_terms.specs.Views.{signature_of, schema_of, start_of, aim_of, problem_of}
use Rattle.pks_terms.specs.declared.problem.Problem.{Problem}
use Rattle.pks_text.specs.Forms.{Forms}
use Rattle.pks_reader_names.specs.Scopes.{Scope, signature_in}
use Rattle.pks_reader_names.specs.Parts.{behind_head, section}
use Rattle.pks_reader_names.specs.Declarations.{actions_among}
use Rattle.pks_reader_problem.specs.Stated.{all, schema_in, start_in, aim_in, problem_by}

pub problem_says : (version : ℕ) (s : Scope) (domain problem : Forms) (p : Problem) → p.version ≡ version → signature_of p.signature ≡ signature_in s
    → map schema_of p.schemas ≡ all (λ f. schema_in s (behind_head f)) (actions_among domain) → map (λ i. start_of i.start) p.init ≡ all (start_in s) (section (codes "init") problem)
    → map aim_of p.goal ≡ all (aim_in s) (section (codes "goal") problem) → problem_of p ≡ problem_by version s domain problem
unfolding problem_by
problem_says version s domain problem p same signature schemas init goal = λ k. record { version = same k; signature = signature k; schemas = schemas k; init = init k; goal = goal k }
