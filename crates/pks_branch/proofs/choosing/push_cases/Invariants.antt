use Rattle.std.proofs.Common.{◌≡◌, ◌++◌, List, map}
use Rattle.std.specs.List.{filter}
use Rattle.pks_terms.specs.declared.term.Term.{Term}
use Rattle.pks_terms.specs.Branching.{CasesOn, may_split}
use Rattle.pks_terms.specs.Views.{terms_of, signature_of}
use Rattle.pks_query_lookup.specs.Fives.{five_of}
use Rattle.pks_terms.specs.ChoiceViews.{choices_of}
use Rattle.pks_branch.proofs.choosing.push_cases.Given as goal

abbrev pub invariant-loop-t : goal.invariant-loop-t
invariant-loop-t l =
    let cases = λ (ts : List Term). map CasesOn (filter (may_split (signature_of l.s) (five_of l.d)) (terms_of ts)) in
    choices_of l.to.items ++ cases l.t-iterator ≡ choices_of l.fn.to.items ++ cases l.kv
