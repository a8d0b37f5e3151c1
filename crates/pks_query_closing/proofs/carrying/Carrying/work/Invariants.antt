use Rattle.pks_terms.specs.Views.{signature_of}
use Rattle.pks_query_closing.specs.Carrying.{GoesOn}
use Rattle.pks_query_closing.proofs.carrying.Carrying.work.Given as goal

abbrev pub invariant-loop : goal.invariant-loop
invariant-loop l = GoesOn (signature_of l.s) l.fn.self l.self
