use Rattle.std.proofs.Common.{◌≡◌, ◌++◌, List, map}
use Rattle.std.specs.List.{filter}
use Rattle.pks_terms.specs.declared.literal.Conj.{Conj}
use Rattle.pks_terms.specs.Branching.{BranchOn, is_undecided}
use Rattle.pks_terms.specs.Views.{signature_of}
use Rattle.pks_kw.specs.Formulas.{formulas_of}
use Rattle.pks_query_lookup.specs.Fives.{five_of}
use Rattle.pks_terms.specs.ChoiceViews.{choices_of}
use Rattle.pks_branch.proofs.choosing.push_branches.Given as goal

abbrev pub invariant-loop-c : goal.invariant-loop-c
invariant-loop-c l =
    let branches = λ (cs : List Conj). map BranchOn (filter (is_undecided (signature_of l.s) (five_of l.d)) (formulas_of cs)) in
    choices_of l.to.items ++ branches l.c-iterator ≡ choices_of l.fn.to.items ++ branches l.kw
