use Rattle.std.proofs.Common.{◌==◌, ◌≡◌, drop, map}
use Rattle.std.specs.List.{list_any}
use Rattle.pks_search_distance.proofs.gains.is_among.Given as goal

abbrev pub invariant-loop-q : goal.invariant-loop-q
invariant-loop-q l = list_any (λ q. q == l.pred.0) (map (λ q. q.0) (drop l.q-index l.preds)) ≡ list_any (λ q. q == l.pred.0) (map (λ q. q.0) l.preds)
