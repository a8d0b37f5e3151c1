-- A problem of the program without the aims that a history meets for good.
use Rattle.std.specs.Prelude.{not, List}
use Rattle.std.specs.List.{filter}
use Rattle.pks_terms.specs.declared.problem.Aim.{Aim as DAim}
use Rattle.pks_terms.specs.declared.problem.Problem.{Problem as DProblem}
use Rattle.pks_terms.specs.Settling.{History}
use Rattle.pks_terms.specs.Signatures.{Signature}
use Rattle.pks_terms.specs.Views.{aim_of}
use Rattle.pks_laws_forget.specs.Fewer.{is_met_for_good}

-- the aims that aren't met for good
abbrev pub unmet_aims : Signature → History → List DAim → List DAim
unmet_aims s h aims = filter (λ a. not (is_met_for_good s h (aim_of a))) aims

-- the problem with these aims alone
abbrev pub with_goal : DProblem → List DAim → DProblem
with_goal p aims = record p { goal = aims }
