use Rattle.std.proofs.Common.{◌≡◌, ◌++◌, List, map, drop, not}
use Rattle.std.specs.List.{filter}
use Rattle.pks_terms.specs.declared.ids.ObjId.{ObjId}
use Rattle.pks_terms.specs.Syntax.{object}
use Rattle.pks_terms.specs.Orders.{inequation}
use Rattle.pks_terms.specs.Databases.{holds}
use Rattle.pks_terms.specs.Views.{object_of, term_of, signature_of}
use Rattle.pks_query_lookup.specs.Fives.{five_of}
use Rattle.pks_branch.proofs.leaving.not_shut_out.Given as goal

abbrev pub invariant-loop-e : goal.invariant-loop-e
invariant-loop-e l =
    let kept = λ (es : List ObjId). filter (λ e. not (holds (signature_of l.s) (five_of l.d) (inequation (term_of l.t) (object e)))) (map object_of es) in
    map object_of l.kept.items ++ kept (drop l.e-index l.objects) ≡ kept l.objects
