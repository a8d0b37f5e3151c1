-- What an answer holds.
use Rattle.std.specs.Prelude.{take}
use Rattle.pks_terms.specs.Printed.{Text}
use Rattle.pks_agent.specs.declared.answers.Answer.{Answer}

-- the bytes in use
abbrev pub answer_text : Answer → Text
answer_text a = take a.n a.bytes
