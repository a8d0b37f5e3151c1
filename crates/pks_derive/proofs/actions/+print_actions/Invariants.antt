use Rattle.std.proofs.Common.{length}
use Rattle.pks_derive.proofs.actions.+print_actions.Given as goal

abbrev pub decreases-print_actions : goal.decreases-print_actions
decreases-print_actions l = length l.schemas.now
