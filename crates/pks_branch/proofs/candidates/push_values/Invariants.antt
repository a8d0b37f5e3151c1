use Rattle.std.proofs.Common.{◌≡◌, ◌++◌, List, map, None, if◌then◌else◌}
use Rattle.std.specs.List.{filter_map}
use Rattle.pks_terms.specs.declared.term.Term.{Term}
use Rattle.pks_terms.specs.Signatures.{has_type}
use Rattle.pks_terms.specs.Branching.{as_inner}
use Rattle.pks_terms.specs.Views.{inner_of, terms_of, signature_of}
use Rattle.pks_branch.proofs.candidates.push_values.Given as goal

abbrev pub invariant-loop-t : goal.invariant-loop-t
invariant-loop-t l =
    let values = λ (ts : List Term). filter_map (λ t. if has_type (signature_of l.s) t l.of.0 then as_inner t else None) (terms_of ts) in
    map inner_of l.to.items ++ values l.t-iterator ≡ map inner_of l.fn.to.items ++ values l.kv
