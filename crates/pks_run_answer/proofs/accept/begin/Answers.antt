use Rattle.std.proofs.Common.{subst}
use Rattle.pks_terms.specs.Closure.{Closes}
use Rattle.pks_terms.specs.Problems.{initial}
use Rattle.pks_query_closing.specs.Working.{EndsWith}
use Rattle.pks_reader.specs.Views.{file_of}
use Rattle.pks_run_answer.proofs.Accepting.{clash_refuses}
use Rattle.pks_run_answer.proofs.accept.begin.Goals as goal

pub returns-in-Ok-None-clause-refused : goal.returns-in-Ok-None-clause-refused
returns-in-Ok-None-clause-refused c =
    clash_refuses c.args.f.now c.clash.result c.in-Ok.ensures (subst (EndsWith (Closes (file_of c.args.f.now).problem.signature (initial (file_of c.args.f.now).problem))) c.in-Ok-None.field-0-is c.in-Ok-None.ensures) c.clash.ensures
