use Rattle.std.proofs.Common.{◌≡◌, drop}
use Rattle.std.specs.List.{list_all}
use Rattle.pks_terms.specs.Views.{terms_of}
use Rattle.pks_terms.specs.Reasons.{some_cited_apart}
use Rattle.pks_lcw.specs.Entries.{atoms_of}
use Rattle.pks_proof_cited.specs.CitedViews.{judge_of}
use Rattle.pks_proof_cited.proofs.moment.all_apart.Given as goal

abbrev pub invariant-loop-a : goal.invariant-loop-a
invariant-loop-a l =
    list_all (λ a. some_cited_apart (judge_of l.c) l.c.moment a.arguments (terms_of l.args)) (atoms_of (drop l.a-index l.atoms))
    ≡ list_all (λ a. some_cited_apart (judge_of l.c) l.c.moment a.arguments (terms_of l.args)) (atoms_of l.atoms)
