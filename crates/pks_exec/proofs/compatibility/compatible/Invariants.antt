use Rattle.std.proofs.Common.{ℕ, ◌+◌, map, take, drop}
use Rattle.pks_terms.specs.Sets.{Each}
use Rattle.pks_terms.specs.Meaning.{IsWorld}
use Rattle.pks_terms.specs.Answers.{Keeps, IsFirstBroken}
use Rattle.pks_terms.specs.Views.{start_of, problem_of}
use Rattle.pks_world.specs.Contents.{world_of}
use Rattle.pks_exec.proofs.compatibility.compatible.Given as goal

abbrev pub invariant-loop-k : goal.invariant-loop-k
invariant-loop-k l =
    let p = problem_of l.p in
    let w = world_of l.w in
    let left = map (λ i. start_of i.start) (drop l.k l.items) in
    record {
      kept : IsWorld p.signature w → Each (Keeps p w) left → Each (Keeps p w) p.init;
      before : IsWorld p.signature w → Each (Keeps p w) (map (λ i. start_of i.start) (take l.k l.items));
      broken : IsWorld p.signature w → (n : ℕ) → IsFirstBroken p w left (l.k + 1) n → IsFirstBroken p w p.init 1 n;
    }
