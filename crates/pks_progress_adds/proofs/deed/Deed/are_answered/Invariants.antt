use Rattle.std.proofs.Common.{◌≡◌, drop, map}
use Rattle.std.specs.List.{list_all}
use Rattle.pks_terms.specs.Queries.{answers}
use Rattle.pks_terms.specs.Actions.{query_at}
use Rattle.pks_terms.specs.Views.{query_of}
use Rattle.pks_progress_adds.specs.Deeds.{signature_in, five_in, chosen_in}
use Rattle.pks_progress_adds.proofs.deed.Deed.are_answered.Given as goal

abbrev pub invariant-loop-q : goal.invariant-loop-q
invariant-loop-q l = list_all (λ q. answers (signature_in l.self) (five_in l.self) (query_at (chosen_in l.self) q)) (map query_of (drop l.q-index l.queries)) ≡ list_all (λ q. answers (signature_in l.self) (five_in l.self) (query_at (chosen_in l.self) q)) (map query_of l.queries)
