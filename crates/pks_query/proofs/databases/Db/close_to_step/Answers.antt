use Rattle.std.proofs.Common.{subst}
use Rattle.pks_query_closing.specs.Closing.{IfClash}
use Rattle.pks_query.proofs.databases.Db.close_to_step.Goals as goal

pub returns-in-Err-Clash-clause-keeps_truth : goal.returns-in-Err-Clash-clause-keeps_truth
returns-in-Err-Clash-clause-keeps_truth c = λ w w' m. subst (IfClash (λ l. ⊥)) c.in-Err-Clash.field-0-is (c.in-Err-Clash.ensures.no_clash w w' m)
