use Rattle.std.proofs.Common.{◌≡◌, ◌≤◌, ℕ, List, drop, cond, Some}
use Rattle.pks_terms.specs.Syntax.{place}
use Rattle.pks_world.specs.Contents.{kept_at}
use Rattle.pks_world.specs.Counts.{KeptCounts}
use Rattle.pks_world.specs.First.{is_in_rows}
use Rattle.pks_world.proofs.first.keep_rows.Given as goal

abbrev pub invariant-loop-first : goal.invariant-loop-first
invariant-loop-first l = record {
  says : (f : ℕ) (ds : List ℕ) → cond (is_in_rows l.fun.0 l.n (drop l.first-index l.firsts) l.seconds (place f ds)) (Some l.d.0) (kept_at l.values.entries (place f ds)) ≡ cond (is_in_rows l.fun.0 l.n l.firsts l.seconds (place f ds)) (Some l.d.0) (kept_at l.fn.values.entries (place f ds));
  counts : l.n ≤ 2 → KeptCounts l.fn.values.entries → KeptCounts l.values.entries;
}
